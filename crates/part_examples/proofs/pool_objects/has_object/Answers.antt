-- New pools hold nothing.
use Rattle.std.proofs.Common.{sym, ◌∙◌}
use Rattle.common_lemmas.proofs.Maps.{none_in_empty}
use Rattle.part_examples.proofs.pool_objects.has_object.Goals as goal

pub borrow_once-requires : goal.borrow_once-requires
borrow_once-requires c = record {
  pages = c.in_ok-spans.ensures.pages ∙ sym c.in_ok-pools.ensures.pages;
  allocated = λ first class held. none_in_empty _ first class c.in_ok-pools.ensures.none_held held;
}
