-- The bytes of an entry, written over zero bytes.
use Rattle.std.proofs.Common.{◌≡◌, ℕ, ◌+◌, ◌-◌, ◌≤◌, List, ◌++◌, length, refl, ap, sym, ◌∙◌, arith}
use Rattle.std.proofs.lemmas.List.{length-replicate, replicate-append-replicate}
use Rattle.byteorder.specs.Endian.{little_bytes}
use Rattle.tree_nodes.specs.Nodes.{Entry, entry_bytes}
use Rattle.tree_nodes.specs.inside.Splices.{over}
use Rattle.tree_nodes.proofs.Splices.{over_parts}
use Rattle.tree_nodes.proofs.Fields.{zeros}

pub entry_written : (e : Entry) (w0 w1 w2 w3 : List ℕ) → length e.key ≤ 256 → w0 ≡ zeros 264 → w1 ≡ over 0 (little_bytes 2 (length e.key)) w0
    → w2 ≡ over 4 (little_bytes 4 e.number) w1 → w3 ≡ over 8 e.key w2 → w3 ≡ entry_bytes e
entry_written e w0 w1 w2 w3 short e0 e1 e2 e3 =
    let n = length e.key in
    let front : List ℕ = little_bytes 2 n ++ zeros 2 ++ little_bytes 4 e.number in
    let two : w2 ≡ front ++ zeros 256 = e2 ∙ ap (λ t. over 4 (little_bytes 4 e.number) t) (e1 ∙ ap (λ t. over 0 (little_bytes 2 n) t) e0) in
    let cut : zeros 256 ≡ zeros n ++ zeros (256 - n) = ap (λ k. zeros k) {x = 256} {y = n + (256 - n)} (omega arith) ∙ sym (replicate-append-replicate n (256 - n) 0) in
    e3 ∙ (ap (λ t. over 8 e.key t) (two ∙ ap (λ t. front ++ t) cut)
    ∙ over_parts front (zeros n) (zeros (256 - n)) e.key 8 refl (length-replicate {A = ℕ} n 0))
