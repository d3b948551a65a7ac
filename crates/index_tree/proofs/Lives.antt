-- What is the same where one node's places are written.
use Rattle.std.proofs.Common.{◌≡◌, ℕ, ◌+◌, inl, inr, Bool, true, false, List, length, Option, Some, None, refl, sym, ap, subst, ◌∙◌}
use Rattle.std.specs.Prelude.{option_map}
use Rattle.regions.specs.Segments.{RegionState}
use Rattle.regions.specs.Shapes.{shape}
use Rattle.regions.specs.Counts.{live_counts, used_counts}
use Rattle.regions.specs.Contents.{Item, Standing, ChangesAt, if_live, item_if_live, live_at, standing_at, with_bytes}
use Rattle.regions.specs.Stores.{without_references}
use Rattle.regions.specs.declared.place.Place.{Place}
use Rattle.tree_nodes.specs.Nodes.{TreeNode, IsNode, node_bytes, node_in}
use Rattle.index_tree.specs.Links.{bare, bare_node}
use Rattle.index_tree.specs.Store.{ChangesNode, HoldsNode}
use Rattle.place_lemmas.proofs.Places.{place_cases, some_is, some_none}

-- a content is written over that is the same without its places
rewritten_same : (a b : Option Standing) (bytes ws : List ℕ) → option_map (λ (s : Standing). s.item.content) a ≡ Some bytes → bare_node (node_in ws) ≡ bare_node (node_in bytes)
    → length ws ≡ length bytes → b ≡ option_map (with_bytes ws) a → option_map (without_references bare) b ≡ option_map (without_references bare) a
rewritten_same None b bytes ws e same long is = some_none e refl
rewritten_same (Some s) b bytes ws e same long is =
    let content : s.item.content ≡ bytes = some_is e in
    ap (option_map (without_references bare)) is
    ∙ (ap (λ (n : TreeNode). Some (s.live, (with_content s.item (node_bytes n), length ws + 8))) (same ∙ sym (ap (λ (c : List ℕ). bare_node (node_in c)) content))
    ∙ ap (λ (n : ℕ). Some (s.live, (with_content s.item (node_bytes (bare_node (node_in s.item.content))), n + 8))) (long ∙ sym (ap (λ (c : List ℕ). length c) content)))
  where
    with_content : Item → List ℕ → Item
    with_content item content = record item { content = content }

-- what is live where a content was written over
pub live_now : (a : Option Standing) (item : Item) (ws : List ℕ) → item_if_live a ≡ Some item → item_if_live (option_map (with_bytes ws) a) ≡ Some (record item { content = ws })
live_now None item ws e = some_none e refl
live_now (Some s) item ws e = go s.live refl
  where
    go : (l : Bool) → s.live ≡ l → if_live s.live (record s.item { content = ws }) ≡ Some (record item { content = ws })
    go true is =
        ap (λ l. if_live l (record s.item { content = ws })) is
        ∙ ap (λ (i : Item). Some (record i { content = ws })) (some_is (sym (ap (λ l. if_live l s.item) is) ∙ e))
    go false is = some_none e (ap (λ l. if_live l s.item) is)

-- the content that stands is the live one's
pub content_live : (a : Option Standing) (item : Item) (bytes : List ℕ) → item_if_live a ≡ Some item → option_map (λ (s : Standing). s.item.content) a ≡ Some bytes → item.content ≡ bytes
content_live None item bytes e is = some_none e refl
content_live (Some s) item bytes e is = go s.live refl
  where
    go : (l : Bool) → s.live ≡ l → item.content ≡ bytes
    go true l = ap (λ (i : Item). i.content) (sym (some_is (sym (ap (λ b. if_live b s.item) l) ∙ e))) ∙ some_is is
    go false l = some_none e (ap (λ b. if_live b s.item) l)

pub changed_by : (r s : RegionState) (p : Place) (bytes ws : List ℕ) (change : TreeNode → TreeNode) → ((content : List ℕ) → IsNode content → length content ≡ 4384)
    → HoldsNode (live_at r) p
    → option_map (λ (x : Standing). x.item.content) (standing_at r p) ≡ Some bytes → node_in ws ≡ change (node_in bytes) → IsNode ws
    → bare_node (change (node_in bytes)) ≡ bare_node (node_in bytes)
    → (length ws ≡ length bytes → ChangesAt p (option_map (with_bytes ws) (standing_at r p)) r s) → used_counts s ≡ used_counts r → live_counts s ≡ live_counts r → shape s ≡ shape r
    → ChangesNode p change r s
changed_by r s p bytes ws change size (item, is_live, is_node) is now holds same written used live shapes =
    let content : item.content ≡ bytes = content_live (standing_at r p) item bytes is_live is in
    let long : length ws ≡ length bytes = size ws holds ∙ sym (size bytes (subst IsNode content is_node)) in
    let changes : ChangesAt p (option_map (with_bytes ws) (standing_at r p)) r s = written long in
    let live_new : live_at s p ≡ Some (record item { content = ws }) = ap item_if_live changes.here ∙ live_now (standing_at r p) item ws is_live in
    record {
      here =
          ap (λ (o : Option Item). option_map (λ (i : Item). node_in i.content) o) live_new
          ∙ (ap (λ (n : TreeNode). Some n) (now ∙ ap (λ (c : List ℕ). change (node_in c)) (sym content))
          ∙ sym (ap (λ (o : Option Item). option_map change (option_map (λ (i : Item). node_in i.content) o)) is_live));
      holds = (record item { content = ws }, live_new, holds);
      others = λ q far. ap item_if_live (changes.others q far);
      same = record {
        objects = λ q. elim (place_cases q p) [
          | inl e ↦ subst (λ x. option_map (without_references bare) (standing_at s x) ≡ option_map (without_references bare) (standing_at r x)) (sym e)
              (rewritten_same (standing_at r p) (standing_at s p) bytes ws is (ap (λ (n : TreeNode). bare_node n) now ∙ same) long changes.here)
          | inr far ↦ ap (option_map (without_references bare)) (changes.others q far)
        ];
        used = used;
        live = live;
        shape = shapes;
      };
    }
