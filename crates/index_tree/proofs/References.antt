-- What a node refers to, before and after a move.
use Rattle.std.proofs.Common.{◌≡◌, ◌≢◌, ℕ, inl, inr, Bool, true, false, true≢false, cond, List, [], ◌∷◌, map, Option, Some, None, refl, sym, ap, subst, ◌∙◌, arith}
use Rattle.std.specs.Prelude.{IsSome, option_map}
use Rattle.std.proofs.lemmas.Bool.Decides.{eqb_tells}
use Rattle.regions.specs.Segments.{RegionState}
use Rattle.regions.specs.Contents.{Item, Standing, if_live, item_if_live, live_at, standing_at}
use Rattle.regions.specs.Stores.{SameBut, renamed, without_references}
use Rattle.regions.specs.declared.place.Place.{Place}
use Rattle.tree_nodes.specs.Nodes.{TreeNode, no_place, node_in}
use Rattle.regions.specs.Places.{HasRoom, leads_to, link_to, place_of_link}
use Rattle.index_tree.specs.Links.{all_led_to, bare, references}
use Rattle.index_tree.specs.Moves.{mended, relinked}
use Rattle.place_lemmas.proofs.Places.{led_back, renamed_here, renamed_past, some_is, some_none}
use Rattle.index_tree.proofs.Mended.{relinked_hit, relinked_miss}
use Rattle.index_tree.proofs.Positions.{no_link}

-- ---- items

pub bare_if : (l : Bool) (i : Item) → option_map bare (if_live l i) ≡ if_live l (bare i)
bare_if true i = refl
bare_if false i = refl

pub same_items : (a b : Option Standing) → option_map (without_references bare) b ≡ option_map (without_references bare) a → option_map bare (item_if_live b) ≡ option_map bare (item_if_live a)
same_items None None e = refl
same_items None (Some y) e = some_none (sym e) refl
same_items (Some x) None e = some_none e refl
same_items (Some x) (Some y) e =
    let three = some_is e in
    bare_if y.live y.item
    ∙ (ap (λ l. if_live l (bare y.item)) (ap (λ (t : Bool × (Item × ℕ)). t.0) three)
    ∙ (ap (λ (i : Item). if_live x.live i) (ap (λ (t : Bool × (Item × ℕ)). t.1.0) three) ∙ sym (bare_if x.live x.item)))

pub same_live : (r s : RegionState) → SameBut bare r s → (p : Place) → option_map bare (live_at s p) ≡ option_map bare (live_at r p)
same_live r s a p = same_items (standing_at r p) (standing_at s p) (a.objects p)

pub there_too : (o n : Option Item) (item : Item) → option_map bare n ≡ option_map bare o → n ≡ Some item → (was : Item) × (o ≡ Some was) × (item.group ≡ was.group) × (item.kind ≡ was.kind)
there_too None n item e is = some_none (ap (option_map bare) is) e
there_too (Some was) n item e is =
    let same : bare item ≡ bare was = some_is (sym (ap (option_map bare) is) ∙ e) in
    (was, refl, ap (λ (i : Item). i.group) same, ap (λ (i : Item). i.kind) same)

pub some_of : {A : Type 0} (o : Option A) → IsSome o → (a : A) × (o ≡ Some a)
some_of None h = absurd (true≢false (sym h))
some_of (Some a) h = (a, refl)

pub is_there : {A : Type 0} (o : Option A) (a : A) → o ≡ Some a → IsSome o
is_there o a e = subst (λ x. IsSome x) (sym e) refl

-- ---- the references of a node

pub refs : TreeNode → List Place
refs node = leads_to node.parent (leads_to node.next_leaf (all_led_to node.children))

pub link_back : (link : ℕ) → link_to (Some (place_of_link link)) ≡ link
link_back link = omega arith

pub leads_mended : (from to : Place) → HasRoom from → HasRoom to → (link : ℕ) (others : List Place) → leads_to (relinked from to link) (map (renamed from to) others) ≡ map (renamed from to) (leads_to link others)
leads_mended from to room_from room_to link others = elim (eqb_tells link (link_to (Some from))) [
  | inl e ↦
      ap (λ l. leads_to l (map (renamed from to) others)) (relinked_hit from to link e.1)
      ∙ (here to room_to (map (renamed from to) others)
      ∙ (ap (λ (p : Place). p ∷ map (renamed from to) others) (sym (renamed_here from to))
      ∙ ap (λ (ps : List Place). map (renamed from to) ps) (sym (ap (λ l. leads_to l others) e.1 ∙ here from room_from others))))
  | inr far ↦ ap (λ l. leads_to l (map (renamed from to) others)) (relinked_miss from to link far.1) ∙ past far.1
]
  where
    here : (p : Place) → HasRoom p → (ps : List Place) → leads_to (link_to (Some p)) ps ≡ p ∷ ps
    here p room ps = elim (eqb_tells (link_to (Some p)) no_place) [
      | inl e ↦ absurd (no_link p room (sym e.1))
      | inr n ↦ ap (λ b. cond b ps (place_of_link (link_to (Some p)) ∷ ps)) n.0 ∙ ap (λ (q : Place). q ∷ ps) (led_back p room)
    ]

    past : link ≢ link_to (Some from) → leads_to link (map (renamed from to) others) ≡ map (renamed from to) (leads_to link others)
    past far = elim (eqb_tells link no_place) [
      | inl e ↦
          ap (λ b. cond b (map (renamed from to) others) (place_of_link link ∷ map (renamed from to) others)) e.0
          ∙ ap (λ (ps : List Place). map (renamed from to) ps) (sym (ap (λ b. cond b others (place_of_link link ∷ others)) e.0))
      | inr n ↦
          ap (λ b. cond b (map (renamed from to) others) (place_of_link link ∷ map (renamed from to) others)) n.0
          ∙ (ap (λ (p : Place). p ∷ map (renamed from to) others)
          (sym (renamed_past from to (place_of_link link) (λ e. far (sym (link_back link) ∙ ap (λ (p : Place). link_to (Some p)) (sym e)))))
          ∙ ap (λ (ps : List Place). map (renamed from to) ps) (sym (ap (λ b. cond b others (place_of_link link ∷ others)) n.0)))
    ]

pub all_leads_mended : (from to : Place) → HasRoom from → HasRoom to → (links : List ℕ) → all_led_to (map (relinked from to) links) ≡ map (renamed from to) (all_led_to links)
all_leads_mended from to room_from room_to [] = refl
all_leads_mended from to room_from room_to (l ∷ links) =
    ap (λ (ps : List Place). leads_to (relinked from to l) ps) (all_leads_mended from to room_from room_to links) ∙ leads_mended from to room_from room_to l (all_led_to links)

pub refs_mended : (from to : Place) → HasRoom from → HasRoom to → (node : TreeNode) → refs (mended from to node) ≡ map (renamed from to) (refs node)
unfolding refs
refs_mended from to room_from room_to node =
    ap (λ (ps : List Place). leads_to (relinked from to node.parent) (leads_to (relinked from to node.next_leaf) ps)) (all_leads_mended from to room_from room_to node.children)
    ∙ (ap (λ (ps : List Place). leads_to (relinked from to node.parent) ps) (leads_mended from to room_from room_to node.next_leaf (all_led_to node.children))
    ∙ leads_mended from to room_from room_to node.parent (leads_to node.next_leaf (all_led_to node.children)))

pub refs_of : (o : Option Item) → option_map references o ≡ option_map refs (option_map (λ (i : Item). node_in i.content) o)
unfolding refs
refs_of None = refl
refs_of (Some i) = refl

pub refs_renamed : (from to : Place) → HasRoom from → HasRoom to → (o : Option Item)
    → option_map refs (option_map (mended from to) (option_map (λ (i : Item). node_in i.content) o)) ≡ option_map (λ (i : Item). map (renamed from to) (references i)) o
unfolding refs
refs_renamed from to room_from room_to None = refl
refs_renamed from to room_from room_to (Some i) = ap (λ (ps : List Place). Some ps) (refs_mended from to room_from room_to (node_in i.content))
