-- A live object is copied whole: the copy is of the same group.
use Rattle.std.proofs.Common.{◌≡◌, ℕ, zero, suc, Bool, true, false, List, [], ◌∷◌, refl, sym, ap, ◌∙◌, subst}
use Rattle.std.specs.Prelude.{Option, None, Some, IfSome, option_map, slice_index_or, ◌==◌}
use Rattle.object_log.specs.Objects.{Object, objects}
use Rattle.regions.specs.Segments.{SegmentState, RegionState, segment_at}
use Rattle.regions.specs.Shapes.{slot_of, slots_of, slot_at, group_in, group_of, IsClosedIn}
use Rattle.regions.specs.Contents.{Item, Standing, standing, object_with, standing_in, standing_at, item_if_live, if_live, live_at, size_of, holding, ChangesAt, IsLiveAt}
use Rattle.regions.specs.declared.place.Place.{Place}
use Rattle.compaction.proofs.Shut.{group-of-closed}

-- an object that is live there is of the segment's group
if-group : (b : Bool) (i j : Item) → if_live b i ≡ Some j → j.group ≡ i.group
if-group true i j e = (let both : Some i ≡ Some j = e in let same : i ≡ j = cc in sym (ap (λ (k : Item). k.group) same))
if-group false i j e = absurd (let clash : None ≡ Some j = e in cc)

object-group : (g : Option ℕ) (bytes : List ℕ) (o : Option Object) (i : Item) → item_if_live (option_map (standing g bytes) o) ≡ Some i → i.group ≡ g
object-group g bytes None i e = absurd (let clash : None ≡ Some i = e in cc)
object-group g bytes (Some o) i e = if-group (o.state == 1) (standing g bytes o).item i e

segment-group : (s : Option SegmentState) (at : ℕ) (i : Item) → item_if_live (standing_in s at) ≡ Some i → i.group ≡ group_in (option_map slot_of s)
segment-group None at i e = absurd (let clash : None ≡ Some i = e in cc)
segment-group (Some h) at i e = object-group h.group h.piece.bytes (object_with at (objects h.piece.bytes h.used)) i e

slot-there : (segments : List (Option SegmentState)) (n : ℕ) → slot_at (slots_of segments) n ≡ option_map slot_of (slice_index_or segments n None)
slot-there [] n = refl
slot-there (s ∷ segments) zero = refl
slot-there (s ∷ segments) (suc n) = slot-there segments n

live-grouped : (r : RegionState) (p : Place) (i : Item) → live_at r p ≡ Some i → i.group ≡ group_of r p.segment
live-grouped r p i e = segment-group (segment_at r p.segment) p.at i e ∙ ap group_in (sym (slot-there r.segments p.segment))

-- what stands where an item is live
abbrev alive : Option ℕ → ℕ → List ℕ → Option Standing
alive group kind content = Some (record { live = true; item = record { group = group; kind = kind; content = content } })

if-alive : (b : Bool) (i j : Item) → if_live b i ≡ Some j → Some (record { live = b; item = i }) ≡ alive j.group j.kind j.content
if-alive true i j e = (let both : Some i ≡ Some j = e in let same : i ≡ j = cc in ap (λ (k : Item). alive k.group k.kind k.content) same)
if-alive false i j e = absurd (let clash : None ≡ Some j = e in cc)

stands-alive : (o : Option Standing) (i : Item) → item_if_live o ≡ Some i → o ≡ alive i.group i.kind i.content
stands-alive None i e = absurd (let clash : None ≡ Some i = e in cc)
stands-alive (Some s) i e = if-alive s.live s.item i e

-- the copy stands as the object did
pub whole-copy : (old new : RegionState) (from to : Place) (group kind size : ℕ) (live : IsLiveAt (live_at old from) kind size) → IsClosedIn old group from.segment
    → IfSome (live_at old from) (λ i. ChangesAt to (Some (holding (Some group) kind i.content)) old new) → ChangesAt to (standing_at old from) old new
whole-copy old new from to group kind size live closed added =
    let item = live.item in
    let changes : ChangesAt to (Some (holding (Some group) kind item.content)) old new = subst (λ o. IfSome o (λ (i : Item). ChangesAt to (Some (holding (Some group) kind i.content)) old new)) live.is added in
    let of : Some group ≡ item.group = sym (live-grouped old from item live.is ∙ group-of-closed old group from.segment closed) in
    let same : Some (holding (Some group) kind item.content) ≡ standing_at old from =
    ap (λ g. alive g kind item.content) of ∙ ap (λ k. alive item.group k item.content) (sym live.kind_is) ∙ sym (stands-alive (standing_at old from) item live.is) in
    record { here = changes.here ∙ same; others = changes.others }

-- it has a size
pub live-size : (o : Option Item) (kind size : ℕ) → IsLiveAt o kind size → option_map size_of o ≡ Some size
live-size o kind size live = ap (option_map size_of) live.is ∙ ap (λ n. Some n) live.size_is
