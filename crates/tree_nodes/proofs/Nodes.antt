-- A node is read as it is written.
use Rattle.std.proofs.Common.{◌≡◌, ℕ, ◌+◌, ◌-◌, ◌*◌, List, [], ◌++◌, length, drop, map, ap, sym, subst, ◌∙◌, append_assoc, arith, length-append}
use Rattle.std.specs.List.{concat}
use Rattle.std.proofs.lemmas.List.{drop_at, append-nil, length-map}
use Rattle.byteorder.specs.Endian.{little_number}
use Rattle.byteorder.specs.Numbers.{little_number-reads_back}
use Rattle.tree_nodes.specs.Nodes.{Entry, TreeNode, CanStand, IsNode, entries_bytes, entry_bytes, entries_in, node_bytes, node_in, places_in}
use Rattle.tree_nodes.proofs.Pieces.{length-concat}
use Rattle.tree_nodes.proofs.Fields.{entries_read, length-entries, place_bytes, places_read, places_wide, zeros}

abbrev pub of_fields : ℕ → ℕ → ℕ → List Entry → List ℕ → TreeNode
of_fields parent level next_leaf entries children = record { parent = parent; level = level; next_leaf = next_leaf; entries = entries; children = children }

abbrev pub children_bytes : TreeNode → List ℕ
children_bytes n = concat (map place_bytes n.children)

pub length-children : (n : TreeNode) → CanStand n → length (children_bytes n) ≡ 136
length-children n fits =
    length-concat 8 (map place_bytes n.children) (places_wide n.children) ∙ ap (λ k. 8 * k) (length-map n.children place_bytes ∙ fits.children)

pub length-node : (n : TreeNode) → CanStand n → length (node_bytes n) ≡ 4384
unfolding node_bytes
length-node n fits =
    let entries = length-entries n.entries fits.entries fits.few in
    let children = length-children n fits in
    let both : length (entries_bytes n.entries ++ children_bytes n) ≡ length (entries_bytes n.entries) + length (children_bytes n) = length-append (entries_bytes n.entries) (children_bytes n) in
    omega arith

parent_read : (n : TreeNode) → CanStand n → little_number 8 (node_bytes n) ≡ n.parent
unfolding node_bytes
parent_read n fits = little_number-reads_back 8 n.parent [] fits.parent

level_read : (n : TreeNode) → CanStand n → little_number 2 (drop 8 (node_bytes n)) ≡ n.level
unfolding node_bytes
level_read n fits = little_number-reads_back 2 n.level [] fits.level

pub count_read : (n : TreeNode) → CanStand n → little_number 2 (drop 10 (node_bytes n)) ≡ length n.entries
unfolding node_bytes
count_read n fits = little_number-reads_back 2 (length n.entries) [] (let few = fits.few in omega arith)

next_read : (n : TreeNode) → CanStand n → little_number 8 (drop 16 (node_bytes n)) ≡ n.next_leaf
unfolding node_bytes
next_read n fits = little_number-reads_back 8 n.next_leaf [] fits.next_leaf

abbrev pub behind_entries : TreeNode → List ℕ
behind_entries n = zeros (264 * (16 - length n.entries)) ++ children_bytes n

pub behind_header : (n : TreeNode) → drop 24 (node_bytes n) ≡ concat (map entry_bytes n.entries) ++ behind_entries n
unfolding node_bytes
behind_header n = append_assoc (concat (map entry_bytes n.entries)) (zeros (264 * (16 - length n.entries))) (children_bytes n)

pub all_entries_read : (n : TreeNode) → CanStand n → entries_in (little_number 2 (drop 10 (node_bytes n))) (drop 24 (node_bytes n)) ≡ n.entries
all_entries_read n fits =
    ap (λ k. entries_in k (drop 24 (node_bytes n))) (count_read n fits)
    ∙ (ap (λ t. entries_in (length n.entries) t) (behind_header n) ∙ entries_read n.entries (behind_entries n) fits.entries)

pub at_children : (n : TreeNode) → CanStand n → drop 4248 (node_bytes n) ≡ children_bytes n
unfolding node_bytes
at_children n fits = drop_at (entries_bytes n.entries) (children_bytes n) 4224 (length-entries n.entries fits.entries fits.few)

children_read : (n : TreeNode) → CanStand n → places_in 17 (drop 4248 (node_bytes n)) ≡ n.children
children_read n fits =
    ap (λ t. places_in 17 t) (at_children n fits ∙ sym (append-nil (children_bytes n)))
    ∙ (ap (λ k. places_in k (children_bytes n ++ [])) (sym fits.children) ∙ places_read n.children [] fits.places)

pub node_read : (n : TreeNode) → CanStand n → node_in (node_bytes n) ≡ n
unfolding node_in
node_read n fits =
    let bytes = node_bytes n in
    let level = little_number 2 (drop 8 bytes) in
    let next = little_number 8 (drop 16 bytes) in
    let entries : List Entry = entries_in (little_number 2 (drop 10 bytes)) (drop 24 bytes) in
    let children : List ℕ = places_in 17 (drop 4248 bytes) in
    ap (λ x. of_fields x level next entries children) (parent_read n fits)
    ∙ (ap (λ x. of_fields n.parent x next entries children) (level_read n fits)
    ∙ (ap (λ x. of_fields n.parent n.level x entries children) (next_read n fits)
    ∙ (ap (λ x. of_fields n.parent n.level n.next_leaf x children) (all_entries_read n fits)
    ∙ ap (λ x. of_fields n.parent n.level n.next_leaf n.entries x) (children_read n fits))))

pub bytes_hold : (n : TreeNode) → CanStand n → IsNode (node_bytes n)
bytes_hold n fits = record { node = subst CanStand (sym (node_read n fits)) fits; bytes = ap node_bytes (sym (node_read n fits)) }

-- what is written as a node's bytes holds the node
pub holds : (content : List ℕ) (n : TreeNode) → CanStand n → content ≡ node_bytes n → IsNode content
holds content n fits is = subst IsNode (sym is) (bytes_hold n fits)

pub holds_it : (content : List ℕ) (n : TreeNode) → CanStand n → content ≡ node_bytes n → node_in content ≡ n
holds_it content n fits is = ap node_in is ∙ node_read n fits

pub length-content : (content : List ℕ) → IsNode content → length content ≡ 4384
length-content content is = ap (λ (t : List ℕ). length t) is.bytes ∙ length-node (node_in content) is.node
