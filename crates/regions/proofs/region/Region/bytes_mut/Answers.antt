use Rattle.std.proofs.Common.{◌≡◌, ℕ, List, get_or, sym, ap, ◌∙◌, subst, refl}
use Rattle.std.specs.Prelude.{None, Some, IsSome, option_map}
use Rattle.std.specs.List.{sum}
use Rattle.regions.specs.Segments.{RegionState, with_segment}
use Rattle.regions.specs.inside.Consistent.{states}
use Rattle.regions.specs.Shapes.{shape}
use Rattle.regions.specs.Counts.{used_counts, live_counts, live_in_each}
use Rattle.regions.specs.Contents.{standing_in, standing_at, item_if_live, live_at, rewritten, with_bytes, ChangesIn, ChangesAt}
use Rattle.regions.specs.Lends.{segment_with, with_content}
use Rattle.regions.proofs.Updates.{slots-same, used-same, live-same}
use Rattle.regions.proofs.Written.{whole-content}
use Rattle.regions.proofs.Regions.{found-there, live-within, kept-in, changes-set}
use Rattle.regions.proofs.Totals.{total-same}
use Rattle.regions.proofs.region.Region.bytes_mut.Goals as goal

pub invariant_of-self-lent : goal.invariant_of-self-lent
invariant_of-self-lent c ws =
    let i = c.self.inside in let slots = i.slots.items in let n = c.args.place.segment in let at = c.args.place.at in let e = c.content_mut.ensures in let h = c.segment_mut.result.now in
    let alive : IsSome (item_if_live (standing_in (get_or slots n None) at)) = subst (λ r. IsSome (live_at r c.args.place)) (sym c.self.view_is) c.requires in
    let inside = live-within slots n at alive in
    let is = found-there slots n c.index_mut.result.now h inside c.index_mut.ensures.value c.segment_mut.ensures.value in (
      kept-in i.most i.groups.items i.held i.free slots c.self.invariant.0 n h (segment_with at ws h) is (e.slot ws) refl (e.live ws),
      total-same i.live (live_in_each slots) _ c.self.invariant.1 (live-same slots n h (segment_with at ws h) is (e.live ws)),
    )

pub returns : goal.returns
unfolding with_content
returns c =
    let i = c.self.inside in let slots = i.slots.items in let n = c.args.place.segment in let at = c.args.place.at in let e = c.content_mut.ensures in let h = c.segment_mut.result.now in
    let alive : IsSome (item_if_live (standing_in (get_or slots n None) at)) = subst (λ r. IsSome (live_at r c.args.place)) (sym c.self.view_is) c.requires in
    let inside = live-within slots n at alive in
    let is = found-there slots n c.index_mut.result.now h inside c.index_mut.ensures.value c.segment_mut.ensures.value in
    let r : RegionState = record { most = i.most; groups = states i.groups.items; segments = slots } in
    let there : option_map (λ t. t.item.content) (standing_in (get_or slots n None) at) ≡ Some c.content_mut.result.now = subst (λ s. option_map (λ t. t.item.content) (standing_in s at) ≡ Some c.content_mut.result.now) (sym is) e.value in
    let left-as : (ws : List ℕ) → with_segment r n (Some (segment_with at ws h)) ≡ with_content r c.args.place ws = λ ws. ap (λ s. with_segment r n (option_map (segment_with at ws) s)) (sym is) in
    let changed : (ws : List ℕ) → ChangesAt c.args.place (option_map (rewritten ws) (standing_at r c.args.place)) r (with_segment r n (Some (segment_with at ws h))) =
    λ ws. changes-set r n at (option_map (rewritten ws) (standing_at r c.args.place)) (Some (segment_with at ws h)) inside
    (subst (λ s. ChangesIn at (option_map (rewritten ws) (standing_in s at)) s (Some (segment_with at ws h))) (sym is) (e.written ws)) in (
      (refl, λ ws. left-as ws ∙ ap (λ q. with_content q c.args.place ws) c.self.view_is),
      record {
        lends = tt;
        value = subst (λ q. option_map (λ s. s.item.content) (standing_at q c.args.place) ≡ Some c.content_mut.result.now) c.self.view_is there;
        left = λ ws long.
            subst (λ q. ChangesAt c.args.place (option_map (with_bytes ws) (standing_at q c.args.place)) q (with_content q c.args.place ws)) c.self.view_is
            (subst (λ t. ChangesAt c.args.place (option_map (with_bytes ws) (standing_at r c.args.place)) r t) (left-as ws)
            (subst (λ s. ChangesAt c.args.place s r (with_segment r n (Some (segment_with at ws h)))) (whole-content (standing_at r c.args.place) c.content_mut.result.now ws there long) (changed ws)));
        fitted = λ ws.
            subst (λ q. ChangesAt c.args.place (option_map (rewritten ws) (standing_at q c.args.place)) q (with_content q c.args.place ws)) c.self.view_is
            (subst (λ t. ChangesAt c.args.place (option_map (rewritten ws) (standing_at r c.args.place)) r t) (left-as ws) (changed ws));
        used = λ ws.
            subst (λ q. used_counts (with_content q c.args.place ws) ≡ used_counts q) c.self.view_is (ap used_counts (sym (left-as ws)) ∙ used-same slots n h (segment_with at ws h) is refl);
        live = λ ws.
            subst (λ q. live_counts (with_content q c.args.place ws) ≡ live_counts q) c.self.view_is (ap live_counts (sym (left-as ws)) ∙ live-same slots n h (segment_with at ws h) is (e.live ws));
        live_total = λ ws.
            ap sum (subst (λ q. live_counts (with_content q c.args.place ws) ≡ live_counts q) c.self.view_is (ap live_counts (sym (left-as ws)) ∙ live-same slots n h (segment_with at ws h) is (e.live ws)));
        shape = λ ws.
            subst (λ q. shape (with_content q c.args.place ws) ≡ shape q) c.self.view_is
            (ap shape (sym (left-as ws)) ∙ ap (λ s. record (shape r) { slots = s }) (slots-same slots n h (segment_with at ws h) is (e.slot ws)));
      },
    )
