-- The same objects live, and nothing but their contents changed.
use Rattle.std.proofs.Common.{◌≡◌, ℕ, Bool, true, false, List, Option, Some, None, refl, sym, ap, ◌∙◌}
use Rattle.std.specs.Prelude.{IsSome, option_map}
use Rattle.regions.specs.Segments.{RegionState}
use Rattle.regions.specs.Contents.{Item, Standing, if_live, item_if_live, live_at, standing_at}
use Rattle.regions.specs.Stores.{Live, SameBut, without_references}
use Rattle.regions.specs.declared.place.Place.{Place}
use Rattle.tree_nodes.specs.Nodes.{TreeNode, node_in}
use Rattle.layout.specs.Kinds.{node_kind}
use Rattle.index_tree.specs.Store.{nodes_of}
use Rattle.index_tree.specs.Writes.{blank}
use Rattle.index_tree.specs.inside.Rosters.{AreListed}
use Rattle.place_lemmas.proofs.Places.{some_is, some_none}
use Rattle.index_tree.proofs.References.{is_there, some_of}

blank_if : (l : Bool) (i : Item) → option_map blank (if_live l i) ≡ if_live l (blank i)
blank_if true i = refl
blank_if false i = refl

same_items : (a b : Option Standing) → option_map (without_references blank) b ≡ option_map (without_references blank) a → option_map blank (item_if_live b) ≡ option_map blank (item_if_live a)
same_items None None e = refl
same_items None (Some y) e = some_none (sym e) refl
same_items (Some x) None e = some_none e refl
same_items (Some x) (Some y) e =
    let three = some_is e in
    blank_if y.live y.item
    ∙ (ap (λ l. if_live l (blank y.item)) (ap (λ (t : Bool × (Item × ℕ)). t.0) three)
    ∙ (ap (λ (i : Item). if_live x.live i) (ap (λ (t : Bool × (Item × ℕ)). t.1.0) three) ∙ sym (blank_if x.live x.item)))

pub same_blank : (r s : RegionState) → SameBut blank r s → (p : Place) → option_map blank (live_at s p) ≡ option_map blank (live_at r p)
same_blank r s a p = same_items (standing_at r p) (standing_at s p) (a.objects p)

was_there : (o n : Option Item) (item : Item) → option_map blank n ≡ option_map blank o → n ≡ Some item → (was : Item) × (o ≡ Some was) × (item.group ≡ was.group) × (item.kind ≡ was.kind)
was_there None n item e is = some_none (ap (option_map blank) is) e
was_there (Some was) n item e is =
    let same : blank item ≡ blank was = some_is (sym (ap (option_map blank) is) ∙ e) in
    (was, refl, ap (λ (i : Item). i.group) same, ap (λ (i : Item). i.kind) same)

node_at : (live : Live) (p : Place) (item : Item) → live p ≡ Some item → nodes_of live p ≡ Some (node_in item.content)
node_at live p item e = ap (λ (o : Option Item). option_map (λ (i : Item). node_in i.content) o) e

item_at : (live : Live) (p : Place) (node : TreeNode) → nodes_of live p ≡ Some node → (item : Item) × (live p ≡ Some item)
item_at live p node is = go (live p) refl
  where
    go : (o : Option Item) → live p ≡ o → (item : Item) × (live p ≡ Some item)
    go None e = some_none is (ap (λ (o : Option Item). option_map (λ (i : Item). node_in i.content) o) e)
    go (Some item) e = (item, e)

-- nodes stand where they stood, and are nodes of the same kind
module _ (old new : RegionState) (same : SameBut blank old new) where
  pub still_kinds : ((p : Place) (item : Item) → live_at old p ≡ Some item → (item.group ≡ Some 0) × (item.kind ≡ node_kind))
      → (p : Place) (item : Item) → live_at new p ≡ Some item → (item.group ≡ Some 0) × (item.kind ≡ node_kind)
  still_kinds kinds p item is =
      let was = was_there (live_at old p) (live_at new p) item (same_blank old new same p) is in
      let k = kinds p was.0 was.1 in
      (was.2 ∙ k.0, was.3 ∙ k.1)

  pub stood : (p : Place) (node : TreeNode) → nodes_of (live_at new) p ≡ Some node → (was : TreeNode) × (nodes_of (live_at old) p ≡ Some was)
  stood p node is =
      let item = item_at (live_at new) p node is in
      let was = was_there (live_at old p) (live_at new p) item.0 (same_blank old new same p) item.1 in
      (node_in was.0.content, node_at (live_at old) p was.0 was.1)

  pub stand_still : (p : Place) → IsSome (nodes_of (live_at old) p) → IsSome (nodes_of (live_at new) p)
  stand_still p some =
      let node = some_of (nodes_of (live_at old) p) some in
      let item = item_at (live_at old) p node.0 node.1 in
      let now = was_there (live_at new p) (live_at old p) item.0 (sym (same_blank old new same p)) item.1 in
      is_there (nodes_of (live_at new) p) (node_in now.0.content) (node_at (live_at new) p now.0 now.1)

  pub still_listed : (places : List Place) → AreListed (nodes_of (live_at old)) places → AreListed (nodes_of (live_at new)) places
  still_listed places l = record {
    every = λ p node is. (let was = stood p node is in l.every p was.0 was.1);
    stands = λ n p is. stand_still p (l.stands n p is);
    apart = l.apart;
  }
