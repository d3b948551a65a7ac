use Rattle.std.proofs.Common.{ap, arith, ◌∙◌}
use Rattle.std.specs.Prelude.{drop, List, ℕ}
use Rattle.regions.specs.Places.{no_link}
use Rattle.fragments.specs.Fragment.{back_in, next_in}
use Rattle.fragments.proofs.Read.{back_of_bytes, next_of_bytes, pieces_together}
use Rattle.fragments.proofs.bytes.fragment_header.Goals as goal

pub returns-clause-bytes : goal.returns-clause-bytes
returns-clause-bytes c = pieces_together no_link c.args.next c.args.name c.args.bytes.now c.header_of.result c.header_of.ensures.long c.header_of.ensures.bytes

pub returns-clause-holds : goal.returns-clause-holds
returns-clause-holds c = record { name_fits = c.ranges.name.fits; short = c.requires.short; body = ap (λ (b : List ℕ). drop 16 b) (returns-clause-bytes c) }

pub returns-clause-back : goal.returns-clause-back
returns-clause-back c = ap back_in (returns-clause-bytes c) ∙ back_of_bytes no_link c.args.next c.args.name c.args.bytes.now (omega arith)

pub returns-clause-next : goal.returns-clause-next
returns-clause-next c = ap next_in (returns-clause-bytes c) ∙ next_of_bytes no_link c.args.next c.args.name c.args.bytes.now c.ranges.next.fits
