-- What the calls that mend ask, and what they give.
use Rattle.std.proofs.Common.{◌≡◌, ◌≢◌, ℕ, zero, suc, ◌+◌, ◌-◌, ◌<◌, inl, inr, Bool, true, false, List, ◌++◌, Option, Some, None, refl, sym, ap, subst, ◌∙◌, arith, nat_lt}
use Rattle.std.specs.Prelude.{IfSome, IsSome}
use Rattle.regions.specs.Segments.{RegionState}
use Rattle.std.specs.Prelude.{option_map}
use Rattle.regions.specs.Contents.{Item, Standing, if_live, item_if_live, live_at, standing_at}
use Rattle.regions.specs.Stores.{SameBut, without_references}
use Rattle.index_tree.specs.Writes.{blank}
use Rattle.regions.specs.declared.place.Place.{Place}
use Rattle.tree_nodes.specs.Nodes.{TreeNode, child_at}
use Rattle.regions.specs.Places.{led_to, place_of_link}
use Rattle.index_tree.specs.Links.{Nodes}
use Rattle.index_tree.specs.Store.{HoldsNode, nodes_of}
use Rattle.index_tree.specs.Mended.{AdoptsAll, AreUneven, HasKids, IsMendedAt, OnlyThree}
use Rattle.index_tree.specs.Removes.{IsShort, Loses}
use Rattle.place_lemmas.proofs.Places.{place_cases, some_is, some_none}
use Rattle.index_tree.proofs.InsertRows.{child_in}
use Rattle.index_tree.proofs.SearchDown.{led_place}
use Rattle.index_tree.proofs.RemoveFinal.{even_mended, left_kids, one_mended, right_kids}
use Rattle.index_tree.proofs.RemoveLeaves.{freed_by, leaves_mended}
use Rattle.index_tree.proofs.RemoveShort.{child_led, j_within, leads_in, loses_in, near_in, opened, pair_here, seven_in}
use Rattle.index_tree.proofs.RemoveSteps.{far_apart, far_left, far_right, parent_now, uneven}
use Rattle.index_tree.proofs.Touches.{if_value, value_of}

-- the children beside the key, of which one is short
module _ {nodes : Nodes} (r1 : RegionState) {level : ℕ} {parent : Option Place} {low high : Option (List ℕ)} {p : Place} {i : ℕ} {key : List ℕ} {freed : List Place}
    (sh : IsShort nodes (nodes_of (live_at r1)) level parent low high p i key freed) where
  abbrev pub left_of_pair : Place
  left_of_pair = child_in (opened sh).first (opened sh).branches (i - 1)

  abbrev pub right_of_pair : Place
  right_of_pair = (pair_here sh).b.place

  pub parent_there : nodes_of (live_at r1) p ≡ Some (opened sh).node
  parent_there = parent_now nodes (nodes_of (live_at r1)) level parent low high p key i (i - 1) freed (opened sh) (leads_in sh) sh.from sh.up sh.once (j_within sh) (near_in sh) (pair_here sh) (loses_in sh) (seven_in sh)

  pub left_led : (link : ℕ) → IfSome (nodes_of (live_at r1) p) (λ node. link ≡ child_at node (i - 1)) → led_to link ≡ Some left_of_pair
  left_led link read =
      child_led nodes level parent low high p (opened sh) (i - 1) link (let a = j_within sh in omega (arith, a))
      (value_of (λ node. link ≡ child_at node (i - 1)) (nodes_of (live_at r1) p) (opened sh).node parent_there read)

  pub right_led : (link : ℕ) → IfSome (nodes_of (live_at r1) p) (λ node. link ≡ child_at node (i - 1 + 1)) → led_to link ≡ Some right_of_pair
  right_led link read =
      child_led nodes level parent low high p (opened sh) (suc (i - 1)) link (let a = j_within sh in omega (arith, a))
      (value_of (λ node. link ≡ child_at node (i - 1 + 1)) (nodes_of (live_at r1) p) (opened sh).node parent_there read ∙ ap (λ n. child_at (opened sh).node n) {x = i - 1 + 1} {y = suc (i - 1)} (omega arith))
      ∙ ap (λ (q : Place). Some q) (pair_here sh).right_is

  pub are_uneven : AreUneven (nodes_of (live_at r1)) (i - 1) p left_of_pair right_of_pair
  are_uneven = uneven nodes (nodes_of (live_at r1)) level parent low high p key i (i - 1) freed (opened sh) (leads_in sh) sh.from sh.up sh.once (j_within sh) (near_in sh) (pair_here sh) (loses_in sh) (seven_in sh)

  pub left_far : left_of_pair ≢ p
  left_far = far_left nodes (nodes_of (live_at r1)) level parent low high p key i (i - 1) freed (opened sh) (leads_in sh) sh.from sh.up sh.once (j_within sh) (near_in sh) (pair_here sh) (loses_in sh) (seven_in sh)

  pub right_far : right_of_pair ≢ p
  right_far = far_right nodes (nodes_of (live_at r1)) level parent low high p key i (i - 1) freed (opened sh) (leads_in sh) sh.from sh.up sh.once (j_within sh) (near_in sh) (pair_here sh) (loses_in sh) (seven_in sh)

  pub pair_far : right_of_pair ≢ left_of_pair
  pair_far = far_apart nodes (nodes_of (live_at r1)) level parent low high p key i (i - 1) freed (opened sh) (leads_in sh) sh.from sh.up sh.once (j_within sh) (near_in sh) (pair_here sh) (loses_in sh) (seven_in sh)

  -- what the code found
  pub is_left : (j link : ℕ) (q : Place) → j ≡ i - 1 → q ≡ place_of_link link → IfSome (nodes_of (live_at r1) p) (λ node. link ≡ child_at node j) → q ≡ left_of_pair
  is_left j link q j_is is read = led_place link q left_of_pair is (left_led link (subst (λ n. IfSome (nodes_of (live_at r1) p) (λ node. link ≡ child_at node n)) j_is read))

  pub is_right : (j link : ℕ) (q : Place) → j ≡ i - 1 → q ≡ place_of_link link → IfSome (nodes_of (live_at r1) p) (λ node. link ≡ child_at node (j + 1)) → q ≡ right_of_pair
  is_right j link q j_is is read = led_place link q right_of_pair is (right_led link (subst (λ n. IfSome (nodes_of (live_at r1) p) (λ node. link ≡ child_at node (n + 1))) j_is read))

  pub mended_there : (above joined : Bool) (j : ℕ) (left right : Place) (new : Nodes) → j ≡ i - 1 → left ≡ left_of_pair → right ≡ right_of_pair → IsMendedAt above joined j p left right (nodes_of (live_at r1)) new
      → IsMendedAt above joined (i - 1) p left_of_pair right_of_pair (nodes_of (live_at r1)) new
  mended_there above joined j left right new j_is l r m =
      subst (λ (x : Place). IsMendedAt above joined (i - 1) p left_of_pair x (nodes_of (live_at r1)) new) r
      (subst (λ (x : Place). IsMendedAt above joined (i - 1) p x right (nodes_of (live_at r1)) new) l
      (subst (λ n. IsMendedAt above joined n p left right (nodes_of (live_at r1)) new) j_is m))

  pub three_there : (r2 : RegionState) (left right : Place) → left ≡ left_of_pair → right ≡ right_of_pair → OnlyThree p left right r1 r2 → OnlyThree p left_of_pair right_of_pair r1 r2
  three_there r2 left right l r t =
      subst (λ (x : Place). OnlyThree p left_of_pair x r1 r2) r (subst (λ (x : Place). OnlyThree p x right r1 r2) l t)

-- an adoption, and what it asks, at a place of another name
pub adopts_there : (r2 r3 : RegionState) (q q2 : Place) (node : TreeNode) → q ≡ q2 → nodes_of (live_at r2) q2 ≡ Some node → IfSome (nodes_of (live_at r2) q) (λ n. AdoptsAll q n r2 r3) → AdoptsAll q2 node r2 r3
adopts_there r2 r3 q q2 node same is h =
    value_of (λ n. AdoptsAll q2 n r2 r3) (nodes_of (live_at r2) q2) node is (subst (λ (x : Place). IfSome (nodes_of (live_at r2) x) (λ n. AdoptsAll x n r2 r3)) same h)

pub kids_there : (r2 : RegionState) (q q2 : Place) (node : TreeNode) → q ≡ q2 → nodes_of (live_at r2) q2 ≡ Some node → HasKids (live_at r2) q2 node → IfSome (nodes_of (live_at r2) q) (λ n. HasKids (live_at r2) q n)
kids_there r2 q q2 node same is h =
    subst (λ (x : Place). IfSome (nodes_of (live_at r2) x) (λ n. HasKids (live_at r2) x n)) (sym same) (if_value (λ n. HasKids (live_at r2) q2 n) (nodes_of (live_at r2) q2) node is h)

-- what is live was live before
pub still_some : (a b : RegionState) → SameBut blank a b → (q : Place) → IsSome (live_at b q) → IsSome (live_at a q)
still_some a b same q some = go (standing_at a q) (standing_at b q) (same.objects q) some
  where
    go : (x y : Option Standing) → option_map (without_references blank) y ≡ option_map (without_references blank) x → IsSome (item_if_live y) → IsSome (item_if_live x)
    go None None e h = h
    go None (Some y) e h = some_none {a = without_references blank y} refl e
    go (Some x) None e h = absurd (some_none {P = ⊥} {a = without_references blank x} refl (sym e))
    go (Some x) (Some y) e h =
        (let live_same : y.live ≡ x.live = ap (λ (t : Bool × (Item × ℕ)). t.0) (some_is e) in
        live_some x.live x.item y.item (subst (λ b. IsSome (if_live b y.item)) live_same h))
      where
        live_some : (b : Bool) (i k : Item) → IsSome (if_live b k) → IsSome (if_live b i)
        live_some true i k h = refl
        live_some false i k h = h

-- an adoption leaves nodes
pub adopted_hold : (r2 r3 : RegionState) (at : Place) (node : TreeNode) → AdoptsAll at node r2 r3 → ((q : Place) → IsSome (live_at r2 q) → HoldsNode (live_at r2) q)
    → (q : Place) → IsSome (live_at r3 q) → HoldsNode (live_at r3) q
adopted_hold r2 r3 at node adopts holds q some = adopts.holds q (holds q (still_some r2 r3 adopts.same q some))

-- the nodes are nodes still
pub three_hold : (r1 r2 : RegionState) (p left right : Place) → OnlyThree p left right r1 r2 → ((q : Place) → IsSome (live_at r1 q) → HoldsNode (live_at r1) q)
    → (q : Place) → IsSome (live_at r2 q) → HoldsNode (live_at r2) q
three_hold r1 r2 p left right three holds q some = elim (place_cases q p) [
  | inl e ↦ subst (λ (x : Place). HoldsNode (live_at r2) x) (sym e) three.at_holds
  | inr far ↦
      elim (place_cases q left) [
        | inl e ↦ subst (λ (x : Place). HoldsNode (live_at r2) x) (sym e) three.left_holds
        | inr far_l ↦
            elim (place_cases q right) [
              | inl e ↦ subst (λ (x : Place). HoldsNode (live_at r2) x) (sym e) three.right_holds
              | inr far_r ↦
                  (let same = three.others q far far_l far_r in
                  let h = holds q (subst (λ o. IsSome o) same some) in
                  (h.0, same ∙ h.1, h.2))
            ]
      ]
]

-- two leaves
pub call_leaves : {nodes : Nodes} (r1 r2 : RegionState) {level : ℕ} {parent : Option Place} {low high : Option (List ℕ)} {p : Place} {i : ℕ} {key : List ℕ} {freed : List Place} (joined : Bool)
    → (sh : IsShort nodes (nodes_of (live_at r1)) level parent low high p i key freed) → level ≡ 0
    → IsMendedAt (nat_lt 0 level) joined (i - 1) p (left_of_pair r1 sh) (right_of_pair r1 sh) (nodes_of (live_at r1)) (nodes_of (live_at r2)) → OnlyThree p (left_of_pair r1 sh) (right_of_pair r1 sh) r1 r2
    → Loses nodes (nodes_of (live_at r2)) (suc level) parent low high p key (freed_by joined (right_of_pair r1 sh) ++ freed)
call_leaves {nodes} r1 r2 {level = level} {parent = parent} {low = low} {high = high} {p = p} {i = i} {key = key} {freed = freed} joined sh e m three = go level sh e m three
  where
    go : (k : ℕ) (s : IsShort nodes (nodes_of (live_at r1)) k parent low high p i key freed) → k ≡ 0
        → IsMendedAt (nat_lt 0 k) joined (i - 1) p (left_of_pair r1 s) (right_of_pair r1 s) (nodes_of (live_at r1)) (nodes_of (live_at r2)) → OnlyThree p (left_of_pair r1 s) (right_of_pair r1 s) r1 r2
        → Loses nodes (nodes_of (live_at r2)) (suc k) parent low high p key (freed_by joined (right_of_pair r1 s) ++ freed)
    go zero s is n t = leaves_mended nodes r1 parent low high p key i (i - 1) freed (opened s) (leads_in s) s.from s.up s.once (j_within s) (near_in s) (pair_here s) (loses_in s) (seven_in s) r2 joined n t
    go (suc k) s is n t = absurd (omega arith)

-- two inner nodes
module _ {nodes : Nodes} (r1 : RegionState) {level : ℕ} {parent : Option Place} {low high : Option (List ℕ)} {p : Place} {i : ℕ} {key : List ℕ} {freed : List Place}
    (sh : IsShort nodes (nodes_of (live_at r1)) level parent low high p i key freed) (above : 0 < level) (holds : (q : Place) → IsSome (live_at r1 q) → HoldsNode (live_at r1) q)
    (r2 : RegionState) (joined : Bool) (m : IsMendedAt true joined (i - 1) p (left_of_pair r1 sh) (right_of_pair r1 sh) (nodes_of (live_at r1)) (nodes_of (live_at r2)))
    (three : OnlyThree p (left_of_pair r1 sh) (right_of_pair r1 sh) r1 r2) where
  pub call_left_kids : HasKids (live_at r2) (left_of_pair r1 sh) m.new_left
  call_left_kids = go level sh above m three
    where
      go : (k : ℕ) (s : IsShort nodes (nodes_of (live_at r1)) k parent low high p i key freed) → 0 < k
          → (n : IsMendedAt true joined (i - 1) p (left_of_pair r1 s) (right_of_pair r1 s) (nodes_of (live_at r1)) (nodes_of (live_at r2))) → OnlyThree p (left_of_pair r1 s) (right_of_pair r1 s) r1 r2
          → HasKids (live_at r2) (left_of_pair r1 s) n.new_left
      go zero s a n t = absurd (omega arith)
      go (suc k) s a n t = left_kids nodes r1 k parent low high p key i (i - 1) freed (opened s) (leads_in s) s.from s.up s.once (j_within s) (near_in s) (pair_here s) (loses_in s) (seven_in s) holds r2 joined n t

  module _ (r3 : RegionState) (adopts : AdoptsAll (left_of_pair r1 sh) m.new_left r2 r3) where
    pub call_one : joined ≡ true → Loses nodes (nodes_of (live_at r3)) (suc level) parent low high p key (freed_by joined (right_of_pair r1 sh) ++ freed)
    call_one = go level sh above m three adopts
      where
        go : (k : ℕ) (s : IsShort nodes (nodes_of (live_at r1)) k parent low high p i key freed) → 0 < k
            → (n : IsMendedAt true joined (i - 1) p (left_of_pair r1 s) (right_of_pair r1 s) (nodes_of (live_at r1)) (nodes_of (live_at r2))) → OnlyThree p (left_of_pair r1 s) (right_of_pair r1 s) r1 r2
            → AdoptsAll (left_of_pair r1 s) n.new_left r2 r3 → joined ≡ true → Loses nodes (nodes_of (live_at r3)) (suc k) parent low high p key (freed_by joined (right_of_pair r1 s) ++ freed)
        go zero s a n t d gone = absurd (omega arith)
        go (suc k) s a n t d gone =
            one_mended nodes r1 k parent low high p key i (i - 1) freed (opened s) (leads_in s) s.from s.up s.once (j_within s) (near_in s) (pair_here s) (loses_in s) (seven_in s) holds r2 joined n t r3 d gone

    pub call_right_kids : joined ≡ false → HasKids (live_at r3) (right_of_pair r1 sh) m.new_right
    call_right_kids = go level sh above m three adopts
      where
        go : (k : ℕ) (s : IsShort nodes (nodes_of (live_at r1)) k parent low high p i key freed) → 0 < k
            → (n : IsMendedAt true joined (i - 1) p (left_of_pair r1 s) (right_of_pair r1 s) (nodes_of (live_at r1)) (nodes_of (live_at r2))) → OnlyThree p (left_of_pair r1 s) (right_of_pair r1 s) r1 r2
            → AdoptsAll (left_of_pair r1 s) n.new_left r2 r3 → joined ≡ false → HasKids (live_at r3) (right_of_pair r1 s) n.new_right
        go zero s a n t d still = absurd (omega arith)
        go (suc k) s a n t d still =
            right_kids nodes r1 k parent low high p key i (i - 1) freed (opened s) (leads_in s) s.from s.up s.once (j_within s) (near_in s) (pair_here s) (loses_in s) (seven_in s) holds r2 joined n t r3 d still

    pub call_even : (r4 : RegionState) → AdoptsAll (right_of_pair r1 sh) m.new_right r3 r4 → joined ≡ false
        → Loses nodes (nodes_of (live_at r4)) (suc level) parent low high p key (freed_by joined (right_of_pair r1 sh) ++ freed)
    call_even r4 = go level sh above m three adopts
      where
        go : (k : ℕ) (s : IsShort nodes (nodes_of (live_at r1)) k parent low high p i key freed) → 0 < k
            → (n : IsMendedAt true joined (i - 1) p (left_of_pair r1 s) (right_of_pair r1 s) (nodes_of (live_at r1)) (nodes_of (live_at r2))) → OnlyThree p (left_of_pair r1 s) (right_of_pair r1 s) r1 r2
            → AdoptsAll (left_of_pair r1 s) n.new_left r2 r3 → AdoptsAll (right_of_pair r1 s) n.new_right r3 r4 → joined ≡ false
            → Loses nodes (nodes_of (live_at r4)) (suc k) parent low high p key (freed_by joined (right_of_pair r1 s) ++ freed)
        go zero s a n t d e still = absurd (omega arith)
        go (suc k) s a n t d e still =
            even_mended nodes r1 k parent low high p key i (i - 1) freed (opened s) (leads_in s) s.from s.up s.once (j_within s) (near_in s) (pair_here s) (loses_in s) (seven_in s) holds r2 joined n t r3 d r4 e still
