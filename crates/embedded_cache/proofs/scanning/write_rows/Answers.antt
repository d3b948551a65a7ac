use Rattle.std.proofs.Common.{◌≡◌, true, List, ℕ, subst}
use Rattle.rows.specs.Apply.{has}
use Rattle.rows.specs.Key.{in_table}
use Rattle.embedded_cache.specs.inside.Scanning.{LacksPlace, PutsBehind}
use Rattle.embedded_cache.proofs.RowsWritten.{all_written, field_is, next_holds, one_more, some_written}
use Rattle.embedded_cache.proofs.scanning.write_rows.Goals as goal

pub find_row-tag-requires-clause-has : goal.find_row-tag-requires-clause-has
find_row-tag-requires-clause-has c =
    let keys = c.requires.keys in let w = c.writing.invariant keys.0 keys.1 in let first = c.in-Some.ensures.first w.left w.are_left in
    next_holds (λ (key : List ℕ). has (in_table c.args.table key) c.args.store.now.rows ≡ true) c.in-Some.key.now first.0 w first.1 keys.3

pub returns-then-not-append_row : goal.returns-then-not-append_row
returns-then-not-append_row c = λ keys are.
    (let w = c.writing.invariant keys are in let key = c.in-Some.key.now in let first = c.in-Some.ensures.first w.left w.are_left in let row = c.find_row-tag.ensures.row in
    let same = field_is c.args.table key c.find_row-tag.result.0.now c.find_row-tag.result.1 c.args.store.now.rows row.0 row.1 row.2 row.3 in
    some_written key first.0 row.0 w first.1 row.1
    (subst (λ (field : List ℕ). LacksPlace field c.writing.did c.append_row.new.did c.writing.into c.append_row.new.into) same (c.append_row.ensures.lacks c.if-not-append_row.true)))

pub writing-preserved : goal.writing-preserved
writing-preserved c = λ keys are.
    (let w = c.writing.invariant keys are in let key = c.in-Some.key.now in let first = c.in-Some.ensures.first w.left w.are_left in let row = c.find_row-tag.ensures.row in
    let same = field_is c.args.table key c.find_row-tag.result.0.now c.find_row-tag.result.1 c.args.store.now.rows row.0 row.1 row.2 row.3 in
    one_more key first.0 row.0 w first.1 first.3 row.1
    (subst (λ (field : List ℕ). PutsBehind field c.writing.did c.append_row.new.did c.writing.into c.append_row.new.into) same (c.append_row.ensures.written c.if-not-append_row.false)))

pub returns : goal.returns
returns c = λ keys are. let w = c.writing.invariant keys are in all_written w (c.in_default.ensures.none w.left w.are_left)
