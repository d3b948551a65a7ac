-- Writes to some nodes, one after another.
use Rattle.std.proofs.Common.{◌≡◌, ◌≢◌, ℕ, zero, suc, ◌≤◌, inl, inr, List, [], ◌∷◌, All, Option, Some, option_map, refl, sym, ap, subst, ◌∙◌, arith}
use Rattle.std.specs.Prelude.{IfSome}
use Rattle.std.proofs.lemmas.List.Elements.{All-nil, All-cons}
use Rattle.regions.specs.Segments.{RegionState}
use Rattle.regions.specs.Contents.{Item, live_at}
use Rattle.regions.specs.Stores.{SameBut}
use Rattle.regions.specs.declared.place.Place.{Place}
use Rattle.tree_nodes.specs.Nodes.{TreeNode, node_in}
use Rattle.index_tree.specs.Inserts.{Touched, times}
use Rattle.index_tree.specs.Store.{HoldsNode, nodes_of}
use Rattle.index_tree.specs.Writes.{WritesNode, blank}
use Rattle.place_lemmas.proofs.Places.{place_cases}
use Rattle.index_tree.proofs.InsertRows.{all_by_times, times_here, times_of_all}

-- a node stands where one is held
pub node_there : (r : RegionState) (p : Place) → HoldsNode (live_at r) p → (node : TreeNode) × (nodes_of (live_at r) p ≡ Some node)
node_there r p (item, is, holds) = (node_in item.content, ap (λ (o : Option Item). option_map (λ (i : Item). node_in i.content) o) is)

pub value_of : {A : Type 0} (P : A → Type 0) (o : Option A) (x : A) → o ≡ Some x → IfSome o P → P x
value_of P o x is h = subst (λ t. IfSome t P) is h

pub if_value : {A : Type 0} (P : A → Type 0) (o : Option A) (x : A) → o ≡ Some x → P x → IfSome o P
if_value P o x is h = subst (λ t. IfSome t P) (sym is) h

pub live_same : (r s : RegionState) (q : Place) → live_at s q ≡ live_at r q → nodes_of (live_at s) q ≡ nodes_of (live_at r) q
live_same r s q e = ap (λ (o : Option Item). option_map (λ (i : Item). node_in i.content) o) e

pub held_same : (r s : RegionState) (q : Place) → live_at s q ≡ live_at r q → HoldsNode (live_at r) q → HoldsNode (live_at s) q
held_same r s q e (item, is, holds) = (item, e ∙ is, holds)

-- where one node is written, each other is as it was
pub node_past : (p : Place) (change : TreeNode → TreeNode) (r s : RegionState) (q : Place) → WritesNode p change r s → q ≢ p → nodes_of (live_at s) q ≡ nodes_of (live_at r) q
node_past p change r s q w far = live_same r s q (w.others q far)

pub held_still : (p : Place) (change : TreeNode → TreeNode) (r s : RegionState) (q : Place) → WritesNode p change r s → HoldsNode (live_at r) q → HoldsNode (live_at s) q
held_still p change r s q w held = elim (place_cases q p) [
  | inl e ↦ subst (λ (x : Place). HoldsNode (live_at s) x) (sym e) w.holds
  | inr far ↦ held_same r s q (w.others q far) held
]

pub same_then : (r s t : RegionState) → SameBut blank r s → SameBut blank s t → SameBut blank r t
same_then r s t a b = record {
  objects = λ p. b.objects p ∙ a.objects p;
  used = b.used ∙ a.used;
  live = b.live ∙ a.live;
  shape = b.shape ∙ a.shape;
}

pub touched_then : (ps : List Place) (r s t : RegionState) → Touched ps r s → Touched ps s t → Touched ps r t
touched_then ps r s t a b = record {
  holds = b.holds;
  others = λ p none. b.others p none ∙ a.others p none;
  same = same_then r s t a.same b.same;
}

-- one of them is written
pub touched_by : (ps : List Place) (p : Place) (change : TreeNode → TreeNode) (r s : RegionState) → All (HoldsNode (live_at r)) ps → 1 ≤ times p ps → WritesNode p change r s → Touched ps r s
touched_by ps p change r s all among w = record {
  holds = all_by_times (HoldsNode (live_at s)) ps (λ q some. held_still p change r s q w (times_of_all (HoldsNode (live_at r)) ps q all some));
  others = λ q none. w.others q (λ e. (let some : 1 ≤ times q ps = subst (λ (x : Place). 1 ≤ times x ps) (sym e) among in absurd (omega arith)));
  same = w.same;
}

-- among more of them
pub touched_among : (ps qs : List Place) (r s : RegionState) → All (HoldsNode (live_at r)) qs → ((p : Place) → times p qs ≡ 0 → times p ps ≡ 0) → Touched ps r s → Touched qs r s
touched_among ps qs r s all among t = record {
  holds = all_by_times (HoldsNode (live_at s)) qs (λ q some. go q some (times q ps) refl);
  others = λ p none. t.others p (among p none);
  same = t.same;
}
  where
    go : (q : Place) → 1 ≤ times q qs → (n : ℕ) → times q ps ≡ n → HoldsNode (live_at s) q
    go q some zero is = held_same r s q (t.others q is) (times_of_all (HoldsNode (live_at r)) qs q all some)
    go q some (suc n) is = times_of_all (HoldsNode (live_at s)) ps q t.holds (omega arith)

pub either_here : (p q : Place) → 1 ≤ times p (p ∷ q ∷ [])
either_here p q = times_here p (q ∷ [])

pub either_behind : (p q : Place) → 1 ≤ times q (p ∷ q ∷ [])
either_behind p q = let a = times_here q [] in omega arith

pub both_held : (r : RegionState) (p q : Place) → HoldsNode (live_at r) p → HoldsNode (live_at r) q → All (HoldsNode (live_at r)) (p ∷ q ∷ [])
both_held r p q a b = All-cons (HoldsNode (live_at r)) p (q ∷ []) a (All-cons (HoldsNode (live_at r)) q [] b (All-nil (HoldsNode (live_at r))))
