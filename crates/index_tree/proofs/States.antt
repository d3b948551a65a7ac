-- An index is consistent after each of its calls.
use Rattle.std.proofs.Common.{◌≡◌, ℕ, zero, suc, ◌+◌, ◌*◌, ◌<◌, ◌≤◌, inl, inr, List, [], ◌∷◌, length, map, replicate, cond, Option, Some, None, refl, sym, ap, subst, ◌∙◌, arith}
use Rattle.std.proofs.Math.Path.{fun_ext}
use Rattle.std.specs.Prelude.{slice_index_or, slice_set, IsSome, option_map}
use Rattle.std.proofs.lemmas.Bool.{cases_eq}
use Rattle.std.proofs.lemmas.Bool.Decides.{leb_tells}
use Rattle.std.proofs.lemmas.List.{get_or-set_same, get_or-set_other, length-set, set_past}
use Rattle.std.proofs.lemmas.List.Elements.{All-nil}
use Rattle.std.proofs.lemmas.List.Sums.{sum-map, sum_by-cons}
use Rattle.std.proofs.lemmas.List.Folds.{sum_by-replicate}
use Rattle.regions.specs.Segments.{GroupState, RegionState, SegmentState, emptied, group_at, idle, with_guards}
use Rattle.std.specs.List.{count_by, sum}
use Rattle.regions.specs.Shapes.{shape, active_of, group_count, held_count, is_held, Slot, slot_of, slots_of}
use Rattle.regions.specs.Counts.{live_in, live_total}
use Rattle.regions.specs.Contents.{Item, Keeps, item_if_live, live_at}
use Rattle.regions.specs.Stores.{Live}
use Rattle.regions.specs.declared.place.Place.{Place}
use Rattle.tree_nodes.specs.Nodes.{node_in}
use Rattle.index_tree.specs.Indexes.{Index}
use Rattle.index_tree.specs.Sizes.{most}
use Rattle.layout.specs.Sizes.{segment_pages, most_run_pages}
use Rattle.index_tree.specs.Limits.{most_levels, most_run_levels, most_segments}
use Rattle.index_tree.specs.Store.{levels, levels_if, nodes_of}
use Rattle.index_tree.specs.Trees.{IsSpare, held_below, index_of}
use Rattle.index_tree.specs.inside.Rosters.{IsRosterOf, RosterState}
use Rattle.index_tree.specs.inside.Consistent.{HasFree, IsConsistent}
use Rattle.index_tree.proofs.Counted.{few_levels, few_run_levels, most_grows}
use Rattle.place_lemmas.proofs.Places.{some_none}

active_guarded : (r : RegionState) (g guards : ℕ) → active_of (with_guards r g guards) 0 ≡ active_of r 0
active_guarded r g guards = elim (cases_eq 0 g) [
  | inl s ↦ elim (leb_tells (length r.groups) g) [
    | inl k ↦ ap (λ (gs : List GroupState). (group_at gs 0).active) (set_past r.groups g _ k.1)
    | inr k ↦ subst (λ n. (group_at (slice_set r.groups g (record { active = (group_at r.groups g).active; guards = guards })) n).active ≡ (group_at r.groups n).active) (sym s)
        (ap (λ (x : GroupState). x.active) (get_or-set_same r.groups g (record { active = (group_at r.groups g).active; guards = guards }) idle k.1))
  ]
  | inr far ↦ ap (λ (x : GroupState). x.active) (get_or-set_other r.groups g 0 (record { active = (group_at r.groups g).active; guards = guards }) idle far)
]

-- guards change nothing but their count
pub consistent_guarded : (t : RosterState) (r s : RegionState) (keys segments g guards : ℕ) → IsConsistent t r keys segments → s ≡ with_guards r g guards → IsConsistent t s keys segments
consistent_guarded t r s keys segments g guards i is = subst (λ (x : RegionState). IsConsistent t x keys segments) (sym is) (record {
  one = length-set r.groups g _ ∙ i.one;
  roster = i.roster;
  rising = i.rising;
  spare = i.spare;
  some = i.some;
  len = i.len;
  held = i.held;
  few = i.few;
  numbers = i.numbers;
  free = elim i.free [
    | inl some ↦ inl some
    | inr few ↦ elim few [ inl none ↦ inr (inl none) | inr one ↦ inr (inr (one.0, subst (λ o. IsSome o) (sym (active_guarded r g guards)) one.1)) ]
  ];
  counted = i.counted;
  room = i.room;
})

-- a segment more
pub consistent_more : (t : RosterState) (r s : RegionState) (keys segments : ℕ) → IsConsistent t r keys segments → Keeps r s → group_count s ≡ group_count r → held_count s ≡ held_count r + 1
    → held_count r < (shape r).most → (shape s).most ≡ (shape r).most → HasFree s → live_total s ≡ live_total r → IsConsistent t s keys (segments + 1)
consistent_more t r s keys segments i keeps groups held below numbers free total =
    let same : live_at s ≡ live_at r = fun_ext (λ p. ap item_if_live (keeps p)) in
    let were = i.held in let most_were = i.numbers in let grows = most_grows (held_count r) (held_count r + 1) (omega arith) in let room = i.room in
    record {
      one = groups ∙ i.one;
      roster = subst (λ (l : Live). IsRosterOf t l) (sym same) i.roster;
      rising = i.rising;
      spare = i.spare;
      some = i.some;
      len = i.len;
      held = omega (arith, were, held);
      few = omega (arith, held, below, most_were);
      numbers = omega (arith, numbers, most_were);
      free = free;
      counted = total ∙ i.counted;
      room = subst (λ k. length t.known.index ≤ most k) (sym held) (omega (arith, room, grows));
    }

-- ---- what holds at each time

pub low_enough : (t : RosterState) (r : RegionState) (keys segments : ℕ) → IsConsistent t r keys segments → levels t.tree ≤ most_levels
low_enough t r keys segments i =
    few_levels (nodes_of (live_at r)) t.tree (held_count r) i.roster.tree (subst (λ (x : Index). length x ≤ most (held_count r)) (sym i.roster.index) i.room) i.few

pub low_enough_in_run : (t : RosterState) (r : RegionState) (keys segments : ℕ) → IsConsistent t r keys segments → segment_pages * held_count r ≤ most_run_pages → levels t.tree ≤ most_run_levels
low_enough_in_run t r keys segments i held =
    few_run_levels (nodes_of (live_at r)) t.tree (held_count r) i.roster.tree (subst (λ (x : Index). length x ≤ most (held_count r)) (sym i.roster.index) i.room) held

-- there is no level exactly where there is no key
pub none_high : (t : RosterState) (r : RegionState) (keys segments n : ℕ) → IsConsistent t r keys segments → n ≡ levels t.tree
    → (n ≡ 0 → index_of (nodes_of (live_at r)) t.tree ≡ []) × (index_of (nodes_of (live_at r)) t.tree ≡ [] → n ≡ 0)
none_high t r keys segments n i is = go t.tree.root refl
  where
    go : (o : Option Place) → t.tree.root ≡ o → (n ≡ 0 → index_of (nodes_of (live_at r)) t.tree ≡ []) × (index_of (nodes_of (live_at r)) t.tree ≡ [] → n ≡ 0)
    go None e = (
      λ z. ap (λ (o : Option Place). held_below (nodes_of (live_at r)) t.tree.level o) e,
      λ h. is ∙ ap (λ (o : Option Place). levels_if o t.tree.level) e,
    )
    go (Some p) e = (
      λ z. absurd (let high : n ≡ suc t.tree.level = is ∙ ap (λ (o : Option Place). levels_if o t.tree.level) e in omega (arith, z, high)),
      λ h. absurd
          (let some : 1 ≤ length t.known.index = i.some p e in
          let empty : length t.known.index ≡ 0 = ap (λ (x : Index). length x) (sym i.roster.index ∙ h) in
          omega (arith, some, empty)),
    )

-- ---- an index without keys

abbrev pub no_nodes : RosterState
no_nodes = record { tree = record { root = None; level = 0; spares = [] }; known = record { places = []; index = [] } }

module _ (live : Live) (nothing : (p : Place) → live p ≡ None) where
  empty_roster : IsRosterOf no_nodes live
  empty_roster = record {
    holds = λ p some. absurd (let e : IsSome {T = Item} None = subst (λ (o : Option Item). IsSome o) (nothing p) some in cc);
    kinds = λ p i e. some_none e (nothing p);
    tree = record {
      rooted = λ p e. some_none e refl;
      linked = tt;
      idle = All-nil (IsSpare (nodes_of live));
      apart = λ i j p e f. some_none e refl;
      every = λ p node e. some_none e (ap (λ (o : Option Item). option_map (λ (i : Item). node_in i.content) o) (nothing p));
    };
    index = refl;
    listed = record {
      every = λ p node e. some_none e (ap (λ (o : Option Item). option_map (λ (i : Item). node_in i.content) o) (nothing p));
      stands = λ n p e. some_none e refl;
      apart = λ m n p e f. some_none e refl;
    };
  }

pub empty_consistent : (t : RosterState) (r : RegionState) (segments : ℕ) → t ≡ no_nodes → group_count r ≡ 1 → ((p : Place) → live_at r p ≡ None) → segments ≡ held_count r
    → held_count r ≤ most_segments → (shape r).most ≤ most_segments → HasFree r → live_total r ≡ 0 → IsConsistent t r 0 segments
empty_consistent t r segments is one nothing held few numbers free total = subst (λ (x : RosterState). IsConsistent x r 0 segments) (sym is) (record {
  one = one;
  roster = empty_roster (live_at r) nothing;
  rising = tt;
  spare = omega arith;
  some = λ p e. some_none e refl;
  len = refl;
  held = held;
  few = few;
  numbers = numbers;
  free = free;
  counted = total;
  room = omega arith;
})

-- ---- regions without objects

map_replicate : {A B : Type 0} (f : A → B) (n : ℕ) (x : A) → map f (replicate n x) ≡ replicate n (f x)
map_replicate f zero x = refl
map_replicate {A} {B} f (suc n) x = ap (λ (ys : List B). f x ∷ ys) (map_replicate f n x)

pub no_segment : (n e : ℕ) → slice_index_or {A = Option SegmentState} (replicate n None) e None ≡ None
no_segment zero e = refl
no_segment (suc n) zero = refl
no_segment (suc n) (suc e) = no_segment n e

pub none_held : (n : ℕ) → count_by is_held (slots_of (replicate n None)) ≡ 0
none_held n = ap (count_by is_held) (map_replicate (option_map slot_of) n None) ∙ (sum_by-replicate (λ (x : Option Slot). cond (is_held x) 1 0) n None ∙ (let z : n * 0 ≡ 0 = omega arith in z))

pub none_live : (n : ℕ) → sum (map live_in (replicate n None)) ≡ 0
none_live n = sum-map live_in (replicate n None) ∙ (sum_by-replicate live_in n None ∙ (let z : n * 0 ≡ 0 = omega arith in z))

pub held_emptied : (ss : List (Option SegmentState)) → count_by is_held (slots_of (map (λ s. option_map emptied s) ss)) ≡ count_by is_held (slots_of ss)
held_emptied [] = refl
held_emptied (s ∷ ss) =
    let f : Option Slot → ℕ = λ x. cond (is_held x) 1 0 in
    sum_by-cons f (option_map slot_of (option_map emptied s)) (slots_of (map (λ s. option_map emptied s) ss))
    ∙ (ap (λ n. f (option_map slot_of (option_map emptied s)) + n) (held_emptied ss) ∙ (ap (λ n. n + count_by is_held (slots_of ss)) (one s) ∙ sym (sum_by-cons f (option_map slot_of s) (slots_of ss))))
  where
    one : (s : Option SegmentState) → ◌≡◌ {A = ℕ} (cond (is_held (option_map slot_of (option_map emptied s))) 1 0) (cond (is_held (option_map slot_of s)) 1 0)
    one None = refl
    one (Some h) = refl
