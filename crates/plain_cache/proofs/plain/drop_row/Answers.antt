-- What stays are the rows of other keys.
use Rattle.std.proofs.Common.{◌≡◌, ap, false, map, sym, ◌∙◌}
use Rattle.rows.specs.Apply.{has, without}
use Rattle.rows.specs.Key.{key_shown}
use Rattle.plain_cache.specs.inside.OwnedRow.{row_in}
use Rattle.row_lemmas.proofs.Laws.{other_rows_are_distinct-all, other_rows_are_distinct-absent, other_rows_are_distinct-distinct}
use Rattle.plain_cache.proofs.plain.drop_row.Goals as goal

pub returns-in_default-clause-rows : goal.returns-in_default-clause-rows
returns-in_default-clause-rows c =
    let none : has (key_shown c.args.key.now) (map row_in c.args.rows.now.items) ≡ false =
    ap (λ ks. has (key_shown c.args.key.now) (map row_in ks)) (sym c.as_slice.ensures.value) ∙ sym c.in_default.ensures.has in
    sym (other_rows_are_distinct-all (key_shown c.args.key.now) (map row_in c.args.rows.now.items) none)

pub returns-clause-absent : goal.returns-clause-absent
returns-clause-absent c =
    let position = rw c.as_slice.ensures.value at c.in-Some.ensures.position in
    let others : map row_in c.remove.new.self.items ≡ without (key_shown c.args.key.now) (map row_in c.args.rows.now.items) =
    ap (map row_in) c.remove.ensures.items ∙ position.others c.requires in
    rw others (other_rows_are_distinct-absent (key_shown c.args.key.now) (map row_in c.args.rows.now.items))

pub returns-clause-distinct : goal.returns-clause-distinct
returns-clause-distinct c =
    let position = rw c.as_slice.ensures.value at c.in-Some.ensures.position in
    let others : map row_in c.remove.new.self.items ≡ without (key_shown c.args.key.now) (map row_in c.args.rows.now.items) =
    ap (map row_in) c.remove.ensures.items ∙ position.others c.requires in
    rw others (other_rows_are_distinct-distinct (key_shown c.args.key.now) (map row_in c.args.rows.now.items) c.requires)
