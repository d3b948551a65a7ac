use Rattle.std.proofs.Common.{◌≡◌, Some, sym, ap, subst, ◌∙◌}
use Rattle.std.specs.Prelude.{option_map}
use Rattle.std.proofs.lemmas.Option.{get_or_from_slice_get}
use Rattle.row_bytes.specs.Rows.{row_in}
use Rattle.regions.specs.Contents.{Standing, live_at, standing_at}
use Rattle.dirty_region.proofs.Rings.{put_is, content_standing}
use Rattle.dirty_region.proofs.put_keys.content_of.Goals as goal

pub returns-clause-read : goal.returns-clause-read
returns-clause-read c =
    let r = c.args.region.now in let places = c.args.places.now in let n = c.args.slot in let h = c.requires.1 in let bytes = c.bytes.result.now in
    let same : bytes ≡ h.item.content = content_standing (standing_at r h.place) h.item bytes h.is_live
    (subst (λ p. option_map (λ (s : Standing). s.item.content) (standing_at r p) ≡ Some bytes) (get_or_from_slice_get places n h.place (record { segment = 0; at = 0 }) h.placed) c.bytes.ensures.content) in
    ap row_in same ∙ (h.is_put.read ∙ sym (put_is (live_at r) places n c.requires.0 h))
