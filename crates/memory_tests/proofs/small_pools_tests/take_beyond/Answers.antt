use Rattle.std.proofs.Common.{◌∙◌}
use Rattle.common_lemmas.proofs.Maps.{none_in_empty}
use Rattle.memory_tests.proofs.small_pools_tests.take_beyond.Goals as goal

pub take-requires-clause-held : goal.take-requires-clause-held
take-requires-clause-held c = record {
  pages = c.take-second.ensures.pages ∙ c.take-first.ensures.pages ∙ c.requires.pages;
  allocated = λ first class held. none_in_empty _ first class c.requires.none_held held;
}
