-- New pools hold nothing.
use Rattle.std.proofs.Common.{sym, ◌∙◌}
use Rattle.common_lemmas.proofs.Maps.{none_in_empty}
use Rattle.timed.proofs.pools.run.Goals as goal

pub play-drawn-requires : goal.play-drawn-requires
play-drawn-requires c = record {
  pages = c.in_ok-spans.ensures.pages ∙ sym c.in_ok-pools.ensures.pages;
  allocated = λ first class held. none_in_empty _ first class c.in_ok-pools.ensures.none_held held;
}
