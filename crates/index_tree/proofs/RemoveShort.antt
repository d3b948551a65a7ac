-- A node whose child lost a key and has an entry too few, opened.
use Rattle.std.proofs.Common.{◌≡◌, ℕ, zero, suc, ◌-◌, ◌<◌, ◌≤◌, ◌⊎◌, inl, inr, List, length, map, get_or, Option, Some, refl, sym, ap, subst, ◌∙◌, arith}
use Rattle.std.proofs.lemmas.List.{get_or-take, length-map}
use Rattle.regions.specs.declared.place.Place.{Place}
use Rattle.tree_nodes.specs.Nodes.{Entry, TreeNode, child_at, no_place}
use Rattle.regions.specs.Places.{HasRoom, led_to, link_to, place_of_link}
use Rattle.index_tree.specs.Links.{Nodes}
use Rattle.index_tree.specs.Trees.{entries_of, left_of, right_of}
use Rattle.index_tree.specs.Ways.{LeadsTo}
use Rattle.index_tree.specs.Inserts.{entry_of}
use Rattle.index_tree.specs.Removes.{IsShort, Loses}
use Rattle.place_lemmas.proofs.Places.{led_back, leads_on, some_same}
use Rattle.index_tree.proofs.Moved.{room_of}
use Rattle.index_tree.proofs.FrameRows.{Opened, left_in, left_of_in, open_node, right_in, right_of_in}
use Rattle.index_tree.proofs.InsertRows.{child_in}
use Rattle.index_tree.proofs.RemovePair.{PairIn, pair_in}
use Rattle.index_tree.proofs.RemoveSteps.{child_tree}
use Rattle.index_tree.proofs.InsertWay.{got_link}

module _ (nodes : Nodes) (level : ℕ) (parent : Option Place) (low high : Option (List ℕ)) (p : Place) (o : Opened nodes level parent low high p) where
  pub branches_size : length o.node.entries ≡ length o.branches
  branches_size = ap (λ (t : List Entry). length t) o.entries ∙ length-map o.branches entry_of

  pub child_link : (i : ℕ) → i ≤ length o.branches → child_at o.node i ≡ link_to (Some (child_in o.first o.branches i))
  child_link i within =
      let size = branches_size in
      sym (get_or-take (suc (length o.node.entries)) o.node.children i no_place (omega (arith, size, within)))
      ∙ (ap (λ (t : List ℕ). get_or t i no_place) o.links ∙ got_link o.first o.branches i within)

  pub child_room : (i : ℕ) → i ≤ length o.branches → HasRoom (child_in o.first o.branches i)
  child_room i within =
      room_of nodes level (Some p) (left_in low (map entry_of o.branches) i) (right_in (map entry_of o.branches) high i) (child_in o.first o.branches i) (child_tree nodes level p i o.first o.branches low high o.row within)

  pub child_led : (i : ℕ) (link : ℕ) → i ≤ length o.branches → link ≡ child_at o.node i → led_to link ≡ Some (child_in o.first o.branches i)
  child_led i link within is = ap (λ n. led_to n) (is ∙ child_link i within) ∙ leads_on (Some (child_in o.first o.branches i)) (child_room i within)

-- what is known of a short one
module _ {nodes mid : Nodes} {level : ℕ} {parent : Option Place} {low high : Option (List ℕ)} {p : Place} {i : ℕ} {key : List ℕ} {freed : List Place}
    (sh : IsShort nodes mid level parent low high p i key freed) where
  pub opened : Opened nodes level parent low high p
  opened = open_node nodes level parent low high p sh.tree

  same_node : sh.node ≡ opened.node
  same_node = some_same sh.is opened.is

  pub leads_in : LeadsTo opened.node key i
  leads_in = subst (λ (n : TreeNode). LeadsTo n key i) same_node sh.leads

  pub i_within : i ≤ length opened.branches
  i_within = let a = leads_in.within in let b = branches_size nodes level parent low high p opened in omega (arith, a, b)

  pub j_within : i - 1 < length opened.branches
  j_within = let a = i_within in let b = branches_size nodes level parent low high p opened in let c = opened.inner.some in omega (arith, a, b, c)

  pub near_in : ((i ≡ 0) × (i - 1 ≡ 0)) ⊎ (i ≡ suc (i - 1))
  near_in = elim (zero_or i) [ inl e ↦ inl (e, omega (arith, e)) | inr more ↦ inr (omega (arith, more)) ]
    where
      zero_or : (n : ℕ) → (n ≡ 0) ⊎ (1 ≤ n)
      zero_or zero = inl refl
      zero_or (suc n) = inr (omega arith)

  pub pair_here : PairIn nodes level p low high opened.first opened.branches (i - 1)
  pair_here = pair_in nodes level p (i - 1) opened.first opened.branches low high opened.row j_within

  pub child_same : sh.child ≡ child_in opened.first opened.branches i
  child_same =
      same_link sh.child (child_in opened.first opened.branches i) sh.room (child_room nodes level parent low high p opened i i_within)
      (sym sh.link ∙ (ap (λ (n : TreeNode). child_at n i) same_node ∙ child_link nodes level parent low high p opened i i_within))
    where
      same_link : (a b : Place) → HasRoom a → HasRoom b → link_to (Some a) ≡ link_to (Some b) → a ≡ b
      same_link a b room_a room_b e = sym (led_back a room_a) ∙ (ap (λ l. place_of_link l) e ∙ led_back b room_b)

  pub loses_in : Loses nodes mid level (Some p) (left_in low (map entry_of opened.branches) i) (right_in (map entry_of opened.branches) high i) (child_in opened.first opened.branches i) key freed
  loses_in =
      let at_node = same_node in
      let left_is : left_of sh.node low i ≡ left_in low (map entry_of opened.branches) i =
      ap (λ (n : TreeNode). left_of n low i) at_node ∙ (left_of_in opened.node low i leads_in.within ∙ ap (λ (t : List Entry). left_in low t i) opened.entries) in
      let right_is : right_of sh.node high i ≡ right_in (map entry_of opened.branches) high i =
      ap (λ (n : TreeNode). right_of n high i) at_node ∙ (right_of_in opened.node high i ∙ ap (λ (t : List Entry). right_in t high i) opened.entries) in
      subst (λ (q : Place). Loses nodes mid level (Some p) (left_in low (map entry_of opened.branches) i) (right_in (map entry_of opened.branches) high i) q key freed) child_same
      (subst (λ (x : Option (List ℕ)). Loses nodes mid level (Some p) (left_in low (map entry_of opened.branches) i) x sh.child key freed) right_is
      (subst (λ (x : Option (List ℕ)). Loses nodes mid level (Some p) x (right_of sh.node high i) sh.child key freed) left_is sh.loses))

  pub seven_in : length (entries_of (mid (child_in opened.first opened.branches i))) ≡ 7
  seven_in = subst (λ (q : Place). length (entries_of (mid q)) ≡ 7) child_same sh.seven
