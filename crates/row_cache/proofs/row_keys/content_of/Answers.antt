use Rattle.std.proofs.Common.{◌≡◌, Some, sym, ap, subst, ◌∙◌}
use Rattle.std.specs.Prelude.{option_map}
use Rattle.std.proofs.lemmas.Option.{get_or_from_slice_get}
use Rattle.row_bytes.specs.Rows.{IsRow, row_in}
use Rattle.regions.specs.Contents.{Standing, live_at, standing_at}
use Rattle.row_cache.proofs.States.{row_is, row_content}
use Rattle.row_cache.proofs.row_keys.content_of.Goals as goal

pub returns : goal.returns
returns c =
    let r = c.args.region.now in let places = c.args.places.now in let n = c.args.number in let h = c.requires in let bytes = c.bytes.result.now in
    let same : bytes ≡ h.item.content = row_content r places n h bytes
    (subst (λ p. option_map (λ (s : Standing). s.item.content) (standing_at r p) ≡ Some bytes) (get_or_from_slice_get places n h.place (record { segment = 0; at = 0 }) h.placed) c.bytes.ensures.content) in
    record {
      row = subst (λ b. IsRow b) (sym same) (n, h.row, h.is_row.holds);
      read = ap row_in same ∙ (h.is_row.read ∙ sym (row_is (live_at r) places n h));
    }
