use Rattle.std.proofs.Common.{◌≡◌, ℕ, ◌+◌, ◌≤◌, List, [], length, replicate, None, inr, inl, sym, ap, subst, ◌∙◌}
use Rattle.std.proofs.lemmas.List.{length-replicate}
use Rattle.layout.specs.Sizes.{most_segments}
use Rattle.regions.specs.Segments.{RegionState, idle}
use Rattle.regions.specs.Shapes.{group_count, held_count, shape}
use Rattle.regions.specs.Counts.{live_total}
use Rattle.regions.specs.Contents.{live_at, item_if_live, standing_in}
use Rattle.regions.specs.declared.place.Place.{Place}
use Rattle.fragments.specs.Chains.{TableState}
use Rattle.fragments.specs.inside.Consistent.{AreEntries, IsConsistent, values_in}
use Rattle.fragments.proofs.States.{empty_consistent, empty_values, no_segment, none_held, none_live}
use Rattle.fragments.proofs.store.Fragments.new.Goals as goal

abbrev new_region : ℕ → RegionState
new_region segments = record { most = segments; groups = replicate 1 idle; segments = replicate segments None }

abbrev new_tables : ℕ → TableState
new_tables names = record { names = names; grows = 0; firsts = replicate (names + 1) None; chains = replicate (names + 1) [] }

fresh : (t : TableState) (r : RegionState) (lengths : List ℕ) (names segments : ℕ) → t ≡ new_tables names → r ≡ new_region segments → lengths ≡ replicate names 0 → AreEntries t → segments ≤ most_segments
    → (values_in t r ≡ replicate names None) × IsConsistent t r lengths 0
fresh t r lengths names segments is there zeros entries few =
    let nothing : (p : Place) → live_at r p ≡ None = λ p. ap (λ (x : RegionState). live_at x p) there ∙ ap (λ o. item_if_live (standing_in o p.at)) (no_segment segments p.segment) in
    let n_is : t.names ≡ names = ap (λ (x : TableState). x.names) is in
    let firsts : t.firsts ≡ replicate (t.names + 1) None = ap (λ (x : TableState). x.firsts) is ∙ ap (λ k. replicate (k + 1) None) (sym n_is) in
    let chains : t.chains ≡ replicate (t.names + 1) [] = ap (λ (x : TableState). x.chains) is ∙ ap (λ k. replicate (k + 1) []) (sym n_is) in
    let many : length lengths ≡ t.names = ap (λ (l : List ℕ). length l) zeros ∙ (length-replicate names 0 ∙ sym n_is) in
    let held : held_count r ≡ 0 = ap held_count there ∙ none_held segments in
    let small = subst (λ k. k ≤ most_segments) (sym (ap (λ (x : RegionState). (shape x).most) there)) few in
    let total : live_total r ≡ 0 = ap live_total there ∙ none_live segments in (
      empty_values t r lengths 0 entries (ap group_count there) small nothing firsts chains many (sym held) (inr (inl held)) total ∙ ap (λ k. replicate k None) n_is,
      empty_consistent t r lengths 0 entries (ap group_count there) small nothing firsts chains many (sym held) (inr (inl held)) total,
    )

pub invariant_of-result : goal.invariant_of-result
invariant_of-result c =
    (fresh c.in_ok-new-2.field-0 c.in_ok-new.field-0 c.in_ok-no_lengths.field-0.items c.args.names c.args.segments c.in_ok-new-2.ensures c.in_ok-new.ensures c.in_ok-no_lengths.ensures
    (subst (λ (x : TableState). AreEntries x) c.drop-2.view_is c.drop-2.invariant) c.requires.segments).1

pub returns-clause-values : goal.returns-clause-values
returns-clause-values c =
    (fresh c.in_ok-new-2.field-0 c.in_ok-new.field-0 c.in_ok-no_lengths.field-0.items c.args.names c.args.segments c.in_ok-new-2.ensures c.in_ok-new.ensures c.in_ok-no_lengths.ensures
    (subst (λ (x : TableState). AreEntries x) c.drop-2.view_is c.drop-2.invariant) c.requires.segments).0
