-- One field of the nodes is mended: where it named the one place, it names the other.
use Rattle.std.proofs.Common.{◌≡◌, ◌≢◌, ℕ, zero, suc, ◌+◌, ◌<◌, ◌⊎◌, inl, inr, cond, true≢false, List, [], ◌∷◌, length, map, get_or, set, Option, Some, None, refl, sym, ap, subst, ◌∙◌, arith}
use Rattle.std.specs.Prelude.{IfSome, IsSome, option_map}
use Rattle.std.proofs.lemmas.Bool.Decides.{eqb_tells}
use Rattle.regions.specs.Segments.{RegionState}
use Rattle.regions.specs.Contents.{Item, live_at}
use Rattle.regions.specs.Stores.{Live, SameBut}
use Rattle.regions.specs.declared.place.Place.{Place}
use Rattle.tree_nodes.specs.Nodes.{TreeNode, child_at, no_place, node_in}
use Rattle.regions.specs.Places.{led_to, link_to}
use Rattle.index_tree.specs.Links.{bare, with_child, with_next, with_parent}
use Rattle.index_tree.specs.Moves.{mended, relinked}
use Rattle.index_tree.specs.Store.{ChangesNode, HoldsNode, nodes_of}
use Rattle.index_tree.specs.Trees.{entries_of, next_in}
use Rattle.index_tree.specs.inside.Climbs.{HoldNodes, child_in, parent_in}
use Rattle.index_tree.specs.inside.Mends.{AreItsChildren, ChangesIf, IsItsFront, IsItsParent, Mends, mended_children, mended_next, mended_parent}
use Rattle.place_lemmas.proofs.Places.{option_tells, place_cases, some_is, some_none}
use Rattle.index_tree.proofs.Adoptions.{parent_twice}
use Rattle.index_tree.proofs.SearchNode.{is_live}

-- ---- regions

pub same_again : (r s t : RegionState) → SameBut bare r s → SameBut bare s t → SameBut bare r t
same_again r s t a b = record { objects = λ p. b.objects p ∙ a.objects p; used = b.used ∙ a.used; live = b.live ∙ a.live; shape = b.shape ∙ a.shape }

pub same_self : (r : RegionState) → SameBut bare r r
same_self r = record { objects = λ p. refl; used = refl; live = refl; shape = refl }

pub node_there : (live : Live) (p : Place) → HoldsNode live p → (node : TreeNode) × (nodes_of live p ≡ Some node)
node_there live p (item, is, holds) = (node_in item.content, ap (λ (o : Option Item). option_map (λ (x : Item). node_in x.content) o) is)

holds_still : (at : Place) (change : TreeNode → TreeNode) (old new : RegionState) → ChangesNode at change old new → HoldNodes (live_at old) → HoldNodes (live_at new)
holds_still at change old new c holds p some = elim (place_cases p at) [
  | inl e ↦ subst (λ (q : Place). HoldsNode (live_at new) q) (sym e) c.holds
  | inr far ↦
      (let same : live_at new p ≡ live_at old p = c.others p far in
      let there = holds p (subst (λ (o : Option Item). IsSome o) same some) in
      (there.0, same ∙ there.1, there.2))
]

pub changes_if : (at : Place) (change : TreeNode → TreeNode) (old new : RegionState) → ChangesNode at change old new → ChangesIf (Some at) change old new
changes_if at change old new c = record {
  here = λ p e. subst (λ (q : Place). nodes_of (live_at new) q ≡ option_map change (nodes_of (live_at old) q)) (some_is e) c.here;
  others = λ p far. ap (λ (o : Option Item). option_map (λ (item : Item). node_in item.content) o) (c.others p (λ e. far (ap (λ (q : Place). Some q) (sym e))));
  holds = holds_still at change old new c;
  same = c.same;
}

pub changes_none : (change : TreeNode → TreeNode) (r : RegionState) → ChangesIf None change r r
changes_none change r = record { here = λ p e. some_none e refl; others = λ p far. refl; holds = λ h. h; same = same_self r }

pub some_node : (o : Option TreeNode) → IsSome o → (node : TreeNode) × (o ≡ Some node)
some_node None h = absurd (true≢false (sym h))
some_node (Some node) h = (node, refl)

-- ---- links

pub relinked_hit : (from to : Place) (link : ℕ) → link ≡ link_to (Some from) → relinked from to link ≡ link_to (Some to)
relinked_hit from to link e = elim (eqb_tells link (link_to (Some from))) [
  | inl h ↦ ap (λ b. cond b (link_to (Some to)) link) h.0
  | inr h ↦ absurd (h.1 e)
]

pub relinked_miss : (from to : Place) (link : ℕ) → link ≢ link_to (Some from) → relinked from to link ≡ link
relinked_miss from to link far = elim (eqb_tells link (link_to (Some from))) [
  | inl h ↦ absurd (far h.1)
  | inr h ↦ ap (λ b. cond b (link_to (Some to)) link) h.0
]

map_miss : (from to : Place) (links : List ℕ) → ((i : ℕ) → get_or links i no_place ≢ link_to (Some from)) → map (relinked from to) links ≡ links
map_miss from to [] far = refl
map_miss from to (l ∷ links) far =
    ap (λ x. x ∷ map (relinked from to) links) (relinked_miss from to l (far zero)) ∙ ap (λ (ls : List ℕ). l ∷ ls) (map_miss from to links (λ i. far (suc i)))

set_hit : (from to : Place) (links : List ℕ) (i : ℕ) → get_or links i no_place ≡ link_to (Some from) → ((j : ℕ) → get_or links j no_place ≡ link_to (Some from) → i ≡ j)
    → set links i (link_to (Some to)) ≡ map (relinked from to) links
set_hit from to [] i e once = refl
set_hit from to (l ∷ links) zero e once =
    ap (λ x. x ∷ links) (sym (relinked_hit from to l e))
    ∙ ap (λ (ls : List ℕ). relinked from to l ∷ ls) (sym (map_miss from to links (λ j h. (let same : zero ≡ suc j = once (suc j) h in omega (arith, same)))))
set_hit from to (l ∷ links) (suc i) e once =
    ap (λ x. x ∷ set links i (link_to (Some to))) (sym (relinked_miss from to l (λ h. (let same : suc i ≡ zero = once zero h in omega (arith, same)))))
    ∙ ap (λ (ls : List ℕ). relinked from to l ∷ ls) (set_hit from to links i e (λ j h. (let same : suc i ≡ suc j = once (suc j) h in omega (arith, same))))

-- ---- one field of one node

parent_hit : (from to : Place) (o : Option TreeNode) → parent_in o ≡ link_to (Some from) → option_map (with_parent (link_to (Some to))) o ≡ option_map (mended_parent from to) o
parent_hit from to None e = refl
parent_hit from to (Some node) e = ap (λ l. Some (with_parent l node)) (sym (relinked_hit from to node.parent e))

parent_miss : (from to : Place) (o : Option TreeNode) → parent_in o ≢ link_to (Some from) → o ≡ option_map (mended_parent from to) o
parent_miss from to None far = refl
parent_miss from to (Some node) far = ap (λ l. Some (with_parent l node)) (sym (relinked_miss from to node.parent far))

next_hit : (from to : Place) (o : Option TreeNode) → next_in o ≡ link_to (Some from) → option_map (with_next (link_to (Some to))) o ≡ option_map (mended_next from to) o
next_hit from to None e = refl
next_hit from to (Some node) e = ap (λ l. Some (with_next l node)) (sym (relinked_hit from to node.next_leaf e))

next_miss : (from to : Place) (o : Option TreeNode) → next_in o ≢ link_to (Some from) → o ≡ option_map (mended_next from to) o
next_miss from to None far = refl
next_miss from to (Some node) far = ap (λ l. Some (with_next l node)) (sym (relinked_miss from to node.next_leaf far))

children_hit : (from to : Place) (i : ℕ) (o : Option TreeNode) → child_in o i ≡ link_to (Some from) → ((j : ℕ) → child_in o j ≡ link_to (Some from) → i ≡ j)
    → option_map (with_child i (link_to (Some to))) o ≡ option_map (mended_children from to) o
children_hit from to i None e once = refl
children_hit from to i (Some node) e once = ap (λ (ls : List ℕ). Some (record node { children = ls })) (set_hit from to node.children i e once)

children_miss : (from to : Place) (o : Option TreeNode) → ((i : ℕ) → child_in o i ≢ link_to (Some from)) → o ≡ option_map (mended_children from to) o
children_miss from to None far = refl
children_miss from to (Some node) far = ap (λ (ls : List ℕ). Some (record node { children = ls })) (sym (map_miss from to node.children far))

-- ---- the leaf in front, and the parent

pub front_holds : (live : Live) (p : Place) (front : Option Place) → HoldNodes live → IsItsFront (nodes_of live) p front → IfSome front (λ q. HoldsNode live q)
front_holds live p None holds is = tt
front_holds live p (Some q) holds is = (let there = some_node (nodes_of live q) (is.stands q refl) in holds q (is_live live q there.0 there.1))

pub front_mended : (from to : Place) (front : Option Place) (old new : RegionState) → IsItsFront (nodes_of (live_at old)) from front
    → ChangesIf front (with_next (link_to (Some to))) old new → Mends (mended_next from to) old new
front_mended from to front old new is c = record {
  nodes = λ p. elim (option_tells front p) [
    | inl e ↦ c.here p e ∙ next_hit from to (nodes_of (live_at old) p) (is.there p e)
    | inr far ↦ c.others p far ∙ next_miss from to (nodes_of (live_at old) p) (λ e. far (is.only p e))
  ];
  holds = c.holds;
  same = c.same;
}

pub parent_mended : (from to : Place) (parent : Option Place) (old new : RegionState) (i : ℕ) → IsItsParent (nodes_of (live_at old)) from parent
    → ((p : Place) → parent ≡ Some p → child_in (nodes_of (live_at old) p) i ≡ link_to (Some from))
    → ChangesIf parent (with_child i (link_to (Some to))) old new → Mends (mended_children from to) old new
parent_mended from to parent old new i is here c = record {
  nodes = λ p. elim (option_tells parent p) [
    | inl e ↦ c.here p e ∙ children_hit from to i (nodes_of (live_at old) p) (here p e) (λ j h. is.once p i j (here p e) h)
    | inr far ↦ c.others p far ∙ children_miss from to (nodes_of (live_at old) p) (λ j e. far (is.only p j e))
  ];
  holds = c.holds;
  same = c.same;
}

-- ---- the children

-- the first few children have the other place as their parent, and no other node is another
pub record AreLedUp (from to : Place) (old now : RegionState) (count : ℕ) : Type 0 where
  pub either : (p : Place) → (nodes_of (live_at now) p ≡ nodes_of (live_at old) p)
      ⊎ ((nodes_of (live_at now) p ≡ option_map (with_parent (link_to (Some to))) (nodes_of (live_at old) p)) × (parent_in (nodes_of (live_at old) p) ≡ link_to (Some from)))
  pub done : (j : ℕ) (q : Place) → j < count → led_to (child_in (nodes_of (live_at old) from) j) ≡ Some q
      → nodes_of (live_at now) q ≡ option_map (with_parent (link_to (Some to))) (nodes_of (live_at old) q)
  pub holds : HoldNodes (live_at old) → HoldNodes (live_at now)
  pub same : SameBut bare old now

pub led_none : (from to : Place) (r : RegionState) → AreLedUp from to r r 0
led_none from to r = record { either = λ p. inl refl; done = λ j q short e. absurd (omega (arith, short)); holds = λ h. h; same = same_self r }

child_same : (o : Option TreeNode) (link i : ℕ) → child_in (option_map (with_parent link) o) i ≡ child_in o i
child_same None link i = refl
child_same (Some node) link i = refl

-- the children of the node are the same meanwhile
pub children_still : (from to : Place) (old now : RegionState) (count i : ℕ) → AreLedUp from to old now count → child_in (nodes_of (live_at now) from) i ≡ child_in (nodes_of (live_at old) from) i
children_still from to old now count i led = elim (led.either from) [
  | inl e ↦ ap (λ (o : Option TreeNode). child_in o i) e
  | inr e ↦ ap (λ (o : Option TreeNode). child_in o i) e.0 ∙ child_same (nodes_of (live_at old) from) (link_to (Some to)) i
]

-- one more child
pub led_more : (from to : Place) (old now new : RegionState) (i : ℕ) (child : Option Place) → AreItsChildren (nodes_of (live_at old)) from → AreLedUp from to old now i
    → child ≡ led_to (child_in (nodes_of (live_at old) from) i) → ChangesIf child (with_parent (link_to (Some to))) now new → AreLedUp from to old new (i + 1)
led_more from to old now new i child are led is c = record {
  either = λ p. elim (option_tells child p) [
    | inl e ↦ inr (written p e, are.back i p (sym is ∙ e))
    | inr far ↦ elim (led.either p) [ inl h ↦ inl (c.others p far ∙ h) | inr h ↦ inr (c.others p far ∙ h.0, h.1) ]
  ];
  done = λ j q short e. elim (option_tells child q) [
    | inl h ↦ written q h
    | inr far ↦ c.others q far ∙ led.done j q (earlier j q short e far) e
  ];
  holds = λ h. c.holds (led.holds h);
  same = same_again old now new led.same c.same;
}
  where
    link : ℕ
    link = link_to (Some to)

    written : (p : Place) → child ≡ Some p → nodes_of (live_at new) p ≡ option_map (with_parent (link_to (Some to))) (nodes_of (live_at old) p)
    written p e = elim (led.either p) [
      | inl h ↦ c.here p e ∙ ap (λ (o : Option TreeNode). option_map (with_parent (link_to (Some to))) o) h
      | inr h ↦ c.here p e ∙ (ap (λ (o : Option TreeNode). option_map (with_parent (link_to (Some to))) o) h.0 ∙ parent_twice (nodes_of (live_at old) p) (link_to (Some to)))
    ]

    earlier : (j : ℕ) (q : Place) → j < i + 1 → led_to (child_in (nodes_of (live_at old) from) j) ≡ Some q → child ≢ Some q → j < i
    earlier j q short e far = elim (eqb_tells j i) [
      | inl h ↦ absurd (far (is ∙ (ap (λ n. led_to (child_in (nodes_of (live_at old) from) n)) (sym h.1) ∙ e)))
      | inr h ↦ (let other = h.1 in omega (arith, short, other))
    ]

-- what a change leaves there
some_changed : (o : Option TreeNode) (link : ℕ) → IsSome o → IsSome (option_map (with_parent link) o)
some_changed None link h = h
some_changed (Some node) link h = refl

pub still_there : (from to : Place) (old now : RegionState) (count : ℕ) (p : Place) → AreLedUp from to old now count → IsSome (nodes_of (live_at old) p)
    → (node : TreeNode) × (nodes_of (live_at now) p ≡ Some node)
still_there from to old now count p led some = some_node (nodes_of (live_at now) p) (elim (led.either p) [
  | inl e ↦ subst (λ (o : Option TreeNode). IsSome o) (sym e) some
  | inr e ↦ subst (λ (o : Option TreeNode). IsSome o) (sym e.0) (some_changed (nodes_of (live_at old) p) (link_to (Some to)) some)
])

pub read_child : (o : Option TreeNode) (node : TreeNode) (link i : ℕ) → o ≡ Some node → IfSome o (λ n. link ≡ child_at n i) → link ≡ child_in o i
read_child o node link i is read = subst (λ (x : Option TreeNode). IfSome x (λ n. link ≡ child_at n i) → link ≡ child_in x i) (sym is) (λ h. h) read

-- the child that is next can be written
pub child_holds : (from to : Place) (old now : RegionState) (count i : ℕ) (child : Option Place) → HoldNodes (live_at old) → AreItsChildren (nodes_of (live_at old)) from
    → AreLedUp from to old now count → child ≡ led_to (child_in (nodes_of (live_at old) from) i) → IfSome child (λ p. HoldsNode (live_at now) p)
child_holds from to old now count i None holds are led is = tt
child_holds from to old now count i (Some q) holds are led is =
    let there = still_there from to old now count q led (are.stands i q (sym is)) in
    led.holds holds q (is_live (live_at now) q there.0 there.1)

-- all of them
pub children_mended : (from to : Place) (old new : RegionState) (count : ℕ) → AreItsChildren (nodes_of (live_at old)) from → length (entries_of (nodes_of (live_at old) from)) < count
    → AreLedUp from to old new count → Mends (mended_parent from to) old new
children_mended from to old new count are many led = record {
  nodes = λ p. elim (eqb_tells (parent_in (nodes_of (live_at old) p)) (link_to (Some from))) [
    | inl e ↦
        (let w = are.only p e.1 in
        let short = w.1 in
        led.done w.0 p (omega (arith, short, many)) w.2 ∙ parent_hit from to (nodes_of (live_at old) p) e.1)
    | inr far ↦
        elim (led.either p) [
          | inl h ↦ h ∙ parent_miss from to (nodes_of (live_at old) p) far.1
          | inr h ↦ absurd (far.1 h.1)
        ]
  ];
  holds = led.holds;
  same = led.same;
}

-- ---- all three fields

pub all_mended : (from to : Place) (o : Option TreeNode) → option_map (mended_children from to) (option_map (mended_next from to) (option_map (mended_parent from to) o)) ≡ option_map (mended from to) o
all_mended from to None = refl
all_mended from to (Some node) = refl

pub mends_all : (from to : Place) (r s t u : RegionState) → Mends (mended_parent from to) r s → Mends (mended_next from to) s t → Mends (mended_children from to) t u → Mends (mended from to) r u
mends_all from to r s t u a b c = record {
  nodes = λ p.
      c.nodes p
      ∙ (ap (λ (o : Option TreeNode). option_map (mended_children from to) o) (b.nodes p)
      ∙ (ap (λ (o : Option TreeNode). option_map (mended_children from to) (option_map (mended_next from to) o)) (a.nodes p) ∙ all_mended from to (nodes_of (live_at r) p)));
  holds = λ h. c.holds (b.holds (a.holds h));
  same = same_again r t u (same_again r s t a.same b.same) c.same;
}
