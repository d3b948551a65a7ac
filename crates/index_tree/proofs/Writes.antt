-- What is the same where one node is written.
use Rattle.std.proofs.Common.{◌≡◌, ℕ, ◌+◌, inl, inr, Bool, true, false, List, length, Option, Some, None, refl, sym, ap, subst, ◌∙◌}
use Rattle.std.specs.Prelude.{option_map, IfSome}
use Rattle.regions.specs.Segments.{RegionState}
use Rattle.regions.specs.Shapes.{shape}
use Rattle.regions.specs.Counts.{live_counts, used_counts}
use Rattle.regions.specs.Contents.{Item, Standing, ChangesAt, if_live, item_if_live, live_at, size_of, standing_at, with_bytes}
use Rattle.regions.specs.Stores.{without_references}
use Rattle.regions.specs.declared.place.Place.{Place}
use Rattle.tree_nodes.specs.Nodes.{TreeNode, IsNode, node_in}
use Rattle.index_tree.specs.Links.{bare}
use Rattle.index_tree.specs.Store.{ChangesNode, HoldsNode, nodes_of}
use Rattle.index_tree.specs.Writes.{WritesNode, blank}
use Rattle.place_lemmas.proofs.Places.{place_cases, some_is, some_none}
use Rattle.index_tree.proofs.Lives.{content_live, live_now}

abbrev content_of : Standing → List ℕ
content_of s = s.item.content

-- a content is written over by one that is as long
blank_same : (a b : Option Standing) (bytes ws : List ℕ) → option_map content_of a ≡ Some bytes → length ws ≡ length bytes → b ≡ option_map (with_bytes ws) a
    → option_map (without_references blank) b ≡ option_map (without_references blank) a
blank_same None b bytes ws e long is = some_none e refl
blank_same (Some s) b bytes ws e long is =
    let content : s.item.content ≡ bytes = some_is e in
    ap (option_map (without_references blank)) is
    ∙ ap (λ (n : ℕ). Some (s.live, (blank s.item, n + 8))) (long ∙ sym (ap (λ (c : List ℕ). length c) content))

-- the content that stands
live_content : (a : Option Standing) (item : Item) → item_if_live a ≡ Some item → option_map content_of a ≡ Some item.content
live_content None item e = some_none e refl
live_content (Some s) item e = go s.live refl
  where
    go : (l : Bool) → s.live ≡ l → Some s.item.content ≡ Some item.content
    go true l = ap (λ (i : Item). Some i.content) (some_is (sym (ap (λ b. if_live b s.item) l) ∙ e))
    go false l = some_none e (ap (λ b. if_live b s.item) l)

-- the node that the bytes at a place are read as
pub there : (r : RegionState) (p : Place) (bytes : List ℕ) → HoldsNode (live_at r) p → option_map (λ (x : Standing). x.item.content) (standing_at r p) ≡ Some bytes
    → nodes_of (live_at r) p ≡ Some (node_in bytes)
there r p bytes (item, is_live, is_node) now =
    ap (λ (o : Option Item). option_map (λ (i : Item). node_in i.content) o) is_live
    ∙ ap (λ (c : List ℕ). Some (node_in c)) (content_live (standing_at r p) item bytes is_live now)

-- what is known of the node is so of what is read
pub read_there : (r : RegionState) (p : Place) (bytes : List ℕ) (P : TreeNode → Type 0) → HoldsNode (live_at r) p
    → option_map (λ (x : Standing). x.item.content) (standing_at r p) ≡ Some bytes → IfSome (nodes_of (live_at r) p) P → P (node_in bytes)
read_there r p bytes P holds now known = subst (λ (o : Option TreeNode). IfSome o P) (there r p bytes holds now) known

pub written_by : (r s : RegionState) (p : Place) (bytes ws : List ℕ) (change : TreeNode → TreeNode) → ((content : List ℕ) → IsNode content → length content ≡ 4384)
    → HoldsNode (live_at r) p
    → option_map (λ (x : Standing). x.item.content) (standing_at r p) ≡ Some bytes → node_in ws ≡ change (node_in bytes) → IsNode ws
    → (length ws ≡ length bytes → ChangesAt p (option_map (with_bytes ws) (standing_at r p)) r s) → used_counts s ≡ used_counts r → live_counts s ≡ live_counts r → shape s ≡ shape r
    → WritesNode p change r s
written_by r s p bytes ws change size (item, is_live, is_node) is now holds written used live shapes =
    let content : item.content ≡ bytes = content_live (standing_at r p) item bytes is_live is in
    let long : length ws ≡ length bytes = size ws holds ∙ sym (size bytes (subst IsNode content is_node)) in
    let changes : ChangesAt p (option_map (with_bytes ws) (standing_at r p)) r s = written long in
    let live_new : live_at s p ≡ Some (record item { content = ws }) = ap item_if_live changes.here ∙ live_now (standing_at r p) item ws is_live in
    record {
      here =
          ap (λ (o : Option Item). option_map (λ (i : Item). node_in i.content) o) live_new
          ∙ (ap (λ (n : TreeNode). Some n) (now ∙ ap (λ (c : List ℕ). change (node_in c)) (sym content))
          ∙ sym (ap (λ (o : Option Item). option_map change (option_map (λ (i : Item). node_in i.content) o)) is_live));
      holds = (record item { content = ws }, live_new, holds);
      others = λ q far. ap item_if_live (changes.others q far);
      same = record {
        objects = λ q. elim (place_cases q p) [
          | inl e ↦ subst (λ x. option_map (without_references blank) (standing_at s x) ≡ option_map (without_references blank) (standing_at r x)) (sym e)
              (blank_same (standing_at r p) (standing_at s p) bytes ws is long changes.here)
          | inr far ↦ ap (option_map (without_references blank)) (changes.others q far)
        ];
        used = used;
        live = live;
        shape = shapes;
      };
    }

-- one node is written over by another
pub copied_by : (r s : RegionState) (from p : Place) → ((content : List ℕ) → IsNode content → length content ≡ 4384) → HoldsNode (live_at r) from → HoldsNode (live_at r) p
    → IfSome (live_at r from) (λ (i : Item). ChangesAt p (option_map (with_bytes i.content) (standing_at r p)) r s) → used_counts s ≡ used_counts r → live_counts s ≡ live_counts r → shape s ≡ shape r
    → (node : TreeNode) → nodes_of (live_at r) from ≡ Some node → WritesNode p (λ _. node) r s
copied_by r s from p size (source, source_live, source_node) (item, is_live, is_node) copied used live shapes node is =
    written_by r s p item.content source.content (λ _. node) size (item, is_live, is_node) (live_content (standing_at r p) item is_live)
    (some_is (sym (ap (λ (o : Option Item). option_map (λ (i : Item). node_in i.content) o) source_live) ∙ is)) source_node
    (λ long. subst (λ (o : Option Item). IfSome o (λ (i : Item). ChangesAt p (option_map (with_bytes i.content) (standing_at r p)) r s)) source_live copied) used live shapes

-- both contents are as long
pub as_long : (r : RegionState) (from p : Place) → ((content : List ℕ) → IsNode content → length content ≡ 4384) → HoldsNode (live_at r) from → HoldsNode (live_at r) p
    → option_map size_of (live_at r from) ≡ option_map size_of (live_at r p)
as_long r from p size (source, source_live, source_node) (item, is_live, is_node) =
    ap (option_map size_of) source_live
    ∙ (ap (λ (n : ℕ). Some (n + 8)) (size source.content source_node ∙ sym (size item.content is_node)) ∙ sym (ap (option_map size_of) is_live))

-- a write of places is a write
pub eases : (p : Place) (change : TreeNode → TreeNode) (r s : RegionState) → ChangesNode p change r s → WritesNode p change r s
eases p change r s c = record {
  here = c.here;
  holds = c.holds;
  others = c.others;
  same = record {
    objects = λ q. still (standing_at s q) (standing_at r q) (c.same.objects q);
    used = c.same.used;
    live = c.same.live;
    shape = c.same.shape;
  };
}
  where
    still : (b a : Option Standing) → option_map (without_references bare) b ≡ option_map (without_references bare) a
        → option_map (without_references blank) b ≡ option_map (without_references blank) a
    still None None e = refl
    still None (Some a) e = some_none {a = without_references bare a} refl (sym e)
    still (Some b) None e = some_none {a = without_references bare b} refl e
    still (Some b) (Some a) e = let x = some_is e in ap (λ (t : Bool × (Item × ℕ)). Some (t.0, (blank t.1.0, t.1.1))) x
