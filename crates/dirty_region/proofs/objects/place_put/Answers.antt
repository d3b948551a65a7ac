use Rattle.std.proofs.Common.{ℕ, ◌-◌, List, ◌++◌, length, Some, refl, ap, subst, ◌∙◌, arith}
use Rattle.object_log.specs.Contents.{padded}
use Rattle.regions.specs.Contents.{holding, ChangesAt}
use Rattle.rows.specs.Row.{size}
use Rattle.row_bytes.specs.NewRows.{row_of}
use Rattle.row_bytes.specs.Rows.{content_of}
use Rattle.dirty_region.proofs.Placed.{object_added}
use Rattle.dirty_region.proofs.objects.place_put.Goals as goal

pub new_object-requires-clause-content : goal.new_object-requires-clause-content
new_object-requires-clause-content c =
    let whole = c.row_size.ensures in let long = ap length c.as_slice.ensures ∙ c.row_header-header.ensures.long in omega (arith, whole, long)

pub returns-clause-added : goal.returns-clause-added
returns-clause-added c =
    let p = c.new_object.result in let e = c.new_object.ensures in let w = c.row_header-header.ensures in let r = c.args.region.now in let s = c.new_object.new.region in
    let key = c.args.put.key.now in let value = c.args.put.value.now in let ws = content_of c.row_header-header.result key value in
    let is = ap (λ (n : ℕ). padded (n - 8) (c.as_slice.result.now ++ (key ++ value))) c.row_size.ensures ∙ ap (λ (h : List ℕ). padded (size key value - 8) (h ++ (key ++ value))) c.as_slice.ensures in
    object_added r s p c.args.position (row_of c.args.put) ws (subst (λ (bytes : List ℕ). ChangesAt p (Some (holding (Some 0) 4 bytes)) r s) is e.added) e.unused
    (record { kind = refl; content = w.bytes; holds = w.holds; read = w.read; number = w.number; size = w.size })
