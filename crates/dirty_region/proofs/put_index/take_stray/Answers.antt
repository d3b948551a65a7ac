use Rattle.std.proofs.Common.{◌≢◌, inl, inr, ◌∷◌, sym, subst, ◌∙◌, arith}
use Rattle.std.proofs.lemmas.Bool.{cases_eq}
use Rattle.std.proofs.lemmas.List.Elements.{All-contains_itself}
use Rattle.std.specs.Prelude.{Contains}
use Rattle.common_lemmas.specs.Lists.{times}
use Rattle.rows.specs.Key.{key_shown}
use Rattle.key_lemmas.proofs.Unique.{one_row}
use Rattle.key_table.specs.Table.{AreSame}
use Rattle.dirty_region.proofs.PutRows.{none_listed, absent_row, all_at, taken_times}
use Rattle.dirty_region.proofs.put_index.take_stray.Goals as goal

pub returns-then-len-eq0-clause-absent : goal.returns-then-len-eq0-clause-absent
returns-then-len-eq0-clause-absent g c = λ _. none_listed c.args.row c.args.strays.now.rows (sym c.len.ensures.count ∙ c.if-len-eq0.true)

pub returns-in_default-clause-absent : goal.returns-in_default-clause-absent
returns-in_default-clause-absent g c =
    let key_of = g.K.Keys.key_of c.args.keys.now in let rows = c.args.strays.now.rows in
    λ _. absent_row key_of c.args.row rows (λ n h e. all_at (λ m. key_of m ≢ key_shown c.args.key.now) rows c.in_default.ensures.1 n h (e ∙ c.requires.key))

pub returns-then-found-row-clause-absent : goal.returns-then-found-row-clause-absent
returns-then-found-row-clause-absent g c =
    let key_of = g.K.Keys.key_of c.args.keys.now in let rows = c.args.strays.now.rows in let row = c.args.row in let told = c.in-Ok.ensures in
    λ _. elim (cases_eq (times row rows) 0) [
      | inl none ↦ none
      | inr some ↦ absurd (c.if-found-row.true (one_row key_of rows c.in-Ok.found.row row c.requires.index.ordered.rising told.1
          (all_at (Contains rows) rows (All-contains_itself rows) row (omega (arith, some))) (told.2 ∙ sym c.requires.key)))
    ]

pub returns-clause-rows : goal.returns-clause-rows
returns-clause-rows g c =
    let old = c.args.strays.now.rows in let new = c.remove_at.new.self.rows in
    λ _. subst (λ n. AreSame old (n ∷ new)) c.if-found-row.false (taken_times c.in-Ok.found.row old new c.remove_at.ensures.rows)

pub returns-clause-ordered : goal.returns-clause-ordered
returns-clause-ordered g c = c.remove_at.ensures.ordered
