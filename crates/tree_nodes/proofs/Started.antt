-- A node with no key and no place.
use Rattle.std.proofs.Common.{◌≡◌, ℕ, List, ◌++◌, replicate, refl, ap, ◌∙◌}
use Rattle.std.proofs.lemmas.List.Elements.{All-nil, All-replicate}
use Rattle.byteorder.specs.Endian.{little_bytes}
use Rattle.std.proofs.Common.{◌<◌, ◌^◌, arith}
use Rattle.tree_nodes.specs.Nodes.{CanStand, IsEntry, header_bytes, no_place, node_bytes, started}
use Rattle.tree_nodes.specs.inside.Splices.{over}
use Rattle.tree_nodes.proofs.Fields.{zeros}
use Rattle.tree_nodes.proofs.Nodes.{holds, holds_it}
use Rattle.tree_nodes.proofs.Calls.{Holds}

pub stands : (level : ℕ) → level < 2 ^ 16 → CanStand (started level)
stands level small = record {
  parent = omega arith;
  level = small;
  next_leaf = omega arith;
  few = omega arith;
  entries = All-nil IsEntry;
  children = refl;
  places = All-replicate (λ p. p < 2 ^ 64) 17 no_place (omega arith);
}

pub header_written : (level n : ℕ) (h0 h1 h2 h3 : List ℕ) → n ≡ 24 → h0 ≡ zeros n → h1 ≡ over 0 (little_bytes 8 no_place) h0 → h2 ≡ over 8 (little_bytes 2 level) h1
    → h3 ≡ over 16 (little_bytes 8 no_place) h2 → h3 ≡ header_bytes no_place level 0 no_place
header_written level n h0 h1 h2 h3 is e0 e1 e2 e3 =
    e3 ∙ ap (λ t. over 16 (little_bytes 8 no_place) t) (e2 ∙ ap (λ t. over 8 (little_bytes 2 level) t) (e1 ∙ ap (λ t. over 0 (little_bytes 8 no_place) t) (e0 ∙ ap (λ k. zeros k) is)))

pub parts_written : (level : ℕ) (header entries children : List ℕ) → header ≡ header_bytes no_place level 0 no_place → entries ≡ zeros 4224 → children ≡ replicate 136 255
    → (header ++ entries) ++ children ≡ node_bytes (started level)
unfolding node_bytes
parts_written level header entries children is_header is_entries is_children =
    ap (λ t. (t ++ entries) ++ children) is_header
    ∙ (ap (λ t. (header_bytes no_place level 0 no_place ++ t) ++ children) is_entries
    ∙ ap (λ t. (header_bytes no_place level 0 no_place ++ zeros 4224) ++ t) is_children)

pub all_written : (level m n : ℕ) (node header entries children : List ℕ) → level < 2 ^ 16 → m ≡ 4224 → n ≡ 136 → node ≡ (header ++ entries) ++ children
    → header ≡ header_bytes no_place level 0 no_place → entries ≡ zeros m → children ≡ replicate n 255 → Holds node (started level)
all_written level m n node header entries children small is_m is_n is is_header is_entries is_children =
    let bytes = is ∙ parts_written level header entries children is_header (is_entries ∙ ap (λ k. zeros k) is_m) (is_children ∙ ap (λ (k : ℕ). replicate k 255) is_n) in
    (holds_it node (started level) (stands level small) bytes, holds node (started level) (stands level small) bytes)
