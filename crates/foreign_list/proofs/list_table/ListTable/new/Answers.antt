use Rattle.std.proofs.Common.{List, Option, replicate, sym, subst}
use Rattle.atomic_table.specs.Table.{opening}
use Rattle.layout.specs.Sizes as sizes
use Rattle.raw_range.specs.Memory.{Lent}
use Rattle.foreign_list.specs.declared.views.View.TheVariants.{Owner}
use Rattle.foreign_list.specs.inside.Rule.{IsConsistent}
use Rattle.foreign_list.specs.inside.Views.{idle_ledger}
use Rattle.foreign_list.proofs.TableSteps.{begins}
use Rattle.foreign_list.proofs.list_table.ListTable.new.Goals as goal

pub new-requires : goal.new-requires
new-requires c =
    subst (λ (slots : List (Option Lent)). IsConsistent (opening (replicate sizes.list_words 0) slots (Owner idle_ledger))) (sym c.in_ok-empty_slots.ensures) begins
