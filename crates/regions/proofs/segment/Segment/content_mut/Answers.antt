use Rattle.std.proofs.Common.{◌≡◌, ℕ, List, length, Some, refl, sym, ap, ◌∙◌, subst, arith}
use Rattle.std.specs.Prelude.{None, IsSome, option_map}
use Rattle.layout.specs.Sizes.{segment}
use Rattle.object_log.specs.Objects.{descriptor_at, IsSegment}
use Rattle.regions.specs.Segments.{SegmentState}
use Rattle.regions.specs.Shapes.{slot_of}
use Rattle.regions.specs.Counts.{live_in}
use Rattle.regions.specs.Contents.{standing_in, rewritten, ChangesIn}
use Rattle.regions.specs.Lends.{segment_with}
use Rattle.regions.proofs.Written.{as-there, live-seen, stands-read, opened, bytes-same, content-read, segment-kept, slot-same, live-same, changed}
use Rattle.regions.proofs.segment.Segment.content_mut.Goals as goal

pub content_extent-start-requires : goal.content_extent-start-requires
content_extent-start-requires c =
    let i = c.self.inside in let v = c.self.invariant in
    let l = live-seen i.piece i.used c.args.at i.group c.args.self.now v.1 v.2 c.self.view_is c.requires in
    let s = stands-read i.piece.bytes c.bytes.result.now i.used c.args.at (as-there i.piece.bytes i.used c.args.at l) c.bytes.ensures in (i.used, s.0, s.1)

pub part_mut-requires : goal.part_mut-requires
part_mut-requires c =
    let i = c.self.inside in let v = c.self.invariant in
    let l = live-seen i.piece i.used c.args.at i.group c.args.self.now v.1 v.2 c.self.view_is c.requires in
    let s = stands-read i.piece.bytes c.bytes.result.now i.used c.args.at (as-there i.piece.bytes i.used c.args.at l) c.bytes.ensures in
    omega (arith, c.content_extent-start.ensures.inside i.used s.0 s.1, (l.segment).inside, v.0)

pub invariant_of-self-lent : goal.invariant_of-self-lent
invariant_of-self-lent c ws =
    let i = c.self.inside in let v = c.self.invariant in let at = c.args.at in let e = c.content_extent-start.ensures in let n = (descriptor_at i.piece.bytes at).size in
    let o = opened i.piece.bytes c.bytes.result.now i.used at c.content_extent-start.result.1 (live-seen i.piece i.used at i.group c.args.self.now v.1 v.2 c.self.view_is c.requires) c.bytes.ensures e.size e.segment e.objects in
    let kept = segment-kept i.piece ws i.used at n o.live o.size o.law in
    subst (λ (b : List ℕ). (length b ≡ segment) × (i.group ≡ None → i.used ≡ 0) × (IsSome i.group → IsSegment b i.used))
    (sym (bytes-same i.piece.bytes ws at c.content_extent-start.result.0 c.content_extent-start.result.1 n e.start (ap (λ b. (descriptor_at b at).size) c.bytes.ensures) e.size)) (kept.long, v.1, λ _. kept)

pub returns : goal.returns
returns c =
    let i = c.self.inside in let v = c.self.invariant in let at = c.args.at in let e = c.content_extent-start.ensures in let n = (descriptor_at i.piece.bytes at).size in
    let o = opened i.piece.bytes c.bytes.result.now i.used at c.content_extent-start.result.1 (live-seen i.piece i.used at i.group c.args.self.now v.1 v.2 c.self.view_is c.requires) c.bytes.ensures e.size e.segment e.objects in
    let left = λ (ws : List ℕ). bytes-same i.piece.bytes ws at c.content_extent-start.result.0 c.content_extent-start.result.1 n e.start (ap (λ b. (descriptor_at b at).size) c.bytes.ensures) e.size in (
      (refl, λ ws. ap (λ b. let h : SegmentState = record { piece = record i.piece { bytes = b }; used = i.used; group = i.group } in h) (left ws) ∙ ap (segment_with at ws) c.self.view_is),
      record {
        lends = tt;
        value =
            subst (λ h. option_map (λ s. s.item.content) (standing_in (Some h) at) ≡ Some c.part_mut.result.now) c.self.view_is
            (content-read i.group i.piece.bytes c.bytes.result.now i.used at c.content_extent-start.result.0 c.content_extent-start.result.1 (as-there i.piece.bytes i.used at o.live) c.bytes.ensures e.start e.size ∙ ap (λ b. Some b) (sym c.part_mut.ensures.value));
        slot = λ ws. subst (λ h. slot_of (segment_with at ws h) ≡ slot_of h) c.self.view_is (slot-same i.piece ws i.used at n o.live o.size o.law i.group);
        live = λ ws. subst (λ h. live_in (Some (segment_with at ws h)) ≡ live_in (Some h)) c.self.view_is (live-same i.piece ws i.used at n o.live o.size o.law i.group);
        written = λ ws. subst (λ h. ChangesIn at (option_map (rewritten ws) (standing_in (Some h) at)) (Some h) (Some (segment_with at ws h))) c.self.view_is (changed i.piece ws i.used at n o.live o.size o.law i.group);
      },
    )
