use Rattle.std.proofs.Common.{sym, ap, subst, ◌∙◌}
use Rattle.std.specs.Prelude.{All}
use Rattle.key_index.specs.inside.Blocks.{entries_of, lens_of, IsFit}
use Rattle.key_index.proofs.Edits.{all_remove}
use Rattle.key_index.proofs.Settled.{entries_drop, lens_drop}
use Rattle.key_index.proofs.settling.drop_block.Goals as goal

pub returns-clause-entries : goal.returns-clause-entries
returns-clause-entries c = ap entries_of c.close.ensures.contents ∙ entries_drop c.args.blocks.now.contents c.args.at c.requires.block c.requires.empty

pub returns-clause-lens : goal.returns-clause-lens
returns-clause-lens c = ap lens_of c.close.ensures.contents ∙ lens_drop c.args.blocks.now.contents c.args.at

pub returns-clause-fit : goal.returns-clause-fit
returns-clause-fit c = subst (All IsFit) (sym c.close.ensures.contents) (all_remove IsFit c.args.blocks.now.contents c.args.at c.requires.fit)
