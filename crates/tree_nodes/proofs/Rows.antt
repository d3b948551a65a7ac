-- What each edit of the entries' bytes makes of the node.
use Rattle.std.proofs.Common.{◌≡◌, ℕ, suc, ◌+◌, ◌-◌, ◌*◌, ◌<◌, ◌≤◌, List, ◌∷◌, ◌++◌, All, length, map, refl, ap, sym, ◌∙◌, append_assoc, arith, length-append}
use Rattle.std.specs.List.{concat}
use Rattle.std.proofs.lemmas.List.{length-map, length-replicate, map-append, replicate-append-replicate}
use Rattle.std.proofs.lemmas.List.Folds.{concat-append}
use Rattle.byteorder.specs.Endian.{little_bytes}
use Rattle.tree_nodes.specs.Nodes.{Entry, TreeNode, IsEntry, entry_bytes, node_bytes}
use Rattle.tree_nodes.specs.inside.Splices.{over, put_in, taken_out}
use Rattle.tree_nodes.proofs.Splices.{over_parts, put_in_parts, taken_out_parts}
use Rattle.tree_nodes.proofs.Pieces.{length-concat}
use Rattle.tree_nodes.proofs.Fields.{entries_wide, length-entry, zeros}
use Rattle.tree_nodes.proofs.Nodes.{children_bytes}
use Rattle.tree_nodes.proofs.Edits.{head_of, count_written}

-- the entries, zero bytes for those that a node of so many has not, and what is behind them
abbrev pub area : ℕ → List Entry → List ℕ → List ℕ
area count es rest = concat (map entry_bytes es) ++ (zeros (264 * (16 - count)) ++ rest)

pub node_by_entries : (n : TreeNode) → node_bytes n ≡ head_of n (length n.entries) ++ area (length n.entries) n.entries (children_bytes n)
unfolding node_bytes
node_by_entries n =
    ap (λ t. head_of n (length n.entries) ++ t) (append_assoc (concat (map entry_bytes n.entries)) (zeros (264 * (16 - length n.entries))) (children_bytes n))

pub joined_two : (a : List ℕ) (xs ys : List Entry) (rest : List ℕ)
    → a ++ (concat (map entry_bytes (xs ++ ys)) ++ rest) ≡ (a ++ concat (map entry_bytes xs)) ++ (concat (map entry_bytes ys) ++ rest)
joined_two a xs ys rest =
    ap (λ (p : List (List ℕ)). a ++ (concat p ++ rest)) (map-append entry_bytes xs ys)
    ∙ (ap (λ t. a ++ (t ++ rest)) (concat-append (map entry_bytes xs) (map entry_bytes ys))
    ∙ (ap (λ t. a ++ t) (append_assoc (concat (map entry_bytes xs)) (concat (map entry_bytes ys)) rest)
    ∙ sym (append_assoc a (concat (map entry_bytes xs)) (concat (map entry_bytes ys) ++ rest))))

pub length-entries_of : (es : List Entry) → All IsEntry es → length (concat (map entry_bytes es)) ≡ 264 * length es
length-entries_of es all = length-concat 264 (map entry_bytes es) (entries_wide es all) ∙ ap (λ k. 264 * k) (length-map es entry_bytes)

abbrev pub before : TreeNode → List Entry → List ℕ
before n xs = head_of n (length n.entries) ++ concat (map entry_bytes xs)

pub length-before : (n : TreeNode) (xs : List Entry) (i : ℕ) → All IsEntry xs → length xs ≡ i → length (before n xs) ≡ 24 + 264 * i
length-before n xs i all is =
    let mine = length-entries_of xs all in
    length-append (head_of n (length n.entries)) (concat (map entry_bytes xs)) ∙ omega arith

-- the zero bytes of one entry more
one_more : (count : ℕ) (rest : List ℕ) → count < 16 → zeros (264 * (16 - count)) ++ rest ≡ zeros 264 ++ (zeros (264 * (16 - suc count)) ++ rest)
one_more count rest few =
    ap (λ k. zeros k ++ rest) (omega arith)
    ∙ (ap (λ t. t ++ rest) (sym (replicate-append-replicate 264 (264 * (16 - suc count)) 0))
    ∙ append_assoc (zeros 264) (zeros (264 * (16 - suc count))) rest)

-- an entry is put in
pub entry_put_in : (n : TreeNode) (i moved : ℕ) (xs ys : List Entry) (e : Entry) → All IsEntry xs → All IsEntry ys → IsEntry e
    → length xs ≡ i → 264 * length ys ≡ moved → n.entries ≡ xs ++ ys → length n.entries < 16
    → put_in (24 + 264 * i) moved (entry_bytes e) (node_bytes n) ≡ head_of n (length n.entries) ++ area (suc (length n.entries)) (xs ++ e ∷ ys) (children_bytes n)
entry_put_in n i moved xs ys e all_xs all_ys fits is_xs is_ys are few =
    let rest : List ℕ = zeros (264 * (16 - suc (length n.entries))) ++ children_bytes n in
    let mid : List ℕ = concat (map entry_bytes ys) in
    let whole : node_bytes n ≡ before n xs ++ (mid ++ (zeros 264 ++ rest)) =
    node_by_entries n
    ∙ (ap (λ (es : List Entry). head_of n (length n.entries) ++ area (length n.entries) es (children_bytes n)) are
    ∙ (joined_two (head_of n (length n.entries)) xs ys (zeros (264 * (16 - length n.entries)) ++ children_bytes n)
    ∙ ap (λ t. before n xs ++ (mid ++ t)) (one_more (length n.entries) (children_bytes n) few))) in
    let length_mid : length mid ≡ moved = length-entries_of ys all_ys ∙ is_ys in
    let length_zeros : length (zeros 264) ≡ length (entry_bytes e) = length-replicate {A = ℕ} 264 0 ∙ sym (length-entry e fits) in
    ap (λ t. put_in (24 + 264 * i) moved (entry_bytes e) t) whole
    ∙ (put_in_parts (before n xs) mid (zeros 264) rest (entry_bytes e) (24 + 264 * i) moved (length-before n xs i all_xs is_xs) length_mid length_zeros
    ∙ sym (joined_two (head_of n (length n.entries)) xs (e ∷ ys) rest ∙ ap (λ t. before n xs ++ t) (append_assoc (entry_bytes e) mid rest)))

-- an entry is taken out, and zero bytes stand behind the others
pub entry_taken_out : (n : TreeNode) (i moved : ℕ) (xs ys : List Entry) (e : Entry) → All IsEntry xs → All IsEntry ys → IsEntry e
    → length xs ≡ i → 264 * length ys ≡ moved → n.entries ≡ xs ++ e ∷ ys → length n.entries ≤ 16
    → taken_out (24 + 264 * i) moved (zeros 264) (node_bytes n) ≡ head_of n (length n.entries) ++ area (length n.entries - 1) (xs ++ ys) (children_bytes n)
entry_taken_out n i moved xs ys e all_xs all_ys fits is_xs is_ys are few =
    let rest : List ℕ = zeros (264 * (16 - length n.entries)) ++ children_bytes n in
    let mid : List ℕ = concat (map entry_bytes ys) in
    let whole : node_bytes n ≡ before n xs ++ (entry_bytes e ++ (mid ++ rest)) =
    node_by_entries n
    ∙ (ap (λ (es : List Entry). head_of n (length n.entries) ++ area (length n.entries) es (children_bytes n)) are
    ∙ (joined_two (head_of n (length n.entries)) xs (e ∷ ys) rest
    ∙ ap (λ t. before n xs ++ t) (append_assoc (entry_bytes e) mid rest))) in
    let length_mid : length mid ≡ moved = length-entries_of ys all_ys ∙ is_ys in
    let length_zeros : length (entry_bytes e) ≡ length (zeros 264) = length-entry e fits ∙ sym (length-replicate {A = ℕ} 264 0) in
    let held : length n.entries ≡ length xs + suc (length ys) = ap (λ (es : List Entry). length es) are ∙ length-append xs (e ∷ ys) in
    let more : zeros (264 * (16 - (length n.entries - 1))) ++ children_bytes n ≡ zeros 264 ++ rest =
    one_more (length n.entries - 1) (children_bytes n) (omega arith) ∙ ap (λ k. zeros 264 ++ (zeros (264 * (16 - k)) ++ children_bytes n)) (omega arith) in
    ap (λ t. taken_out (24 + 264 * i) moved (zeros 264) t) whole
    ∙ (taken_out_parts (before n xs) (entry_bytes e) mid rest (zeros 264) (24 + 264 * i) moved (length-before n xs i all_xs is_xs) length_zeros length_mid
    ∙ sym (joined_two (head_of n (length n.entries)) xs ys (zeros (264 * (16 - (length n.entries - 1))) ++ children_bytes n) ∙ ap (λ t. before n xs ++ (mid ++ t)) more))

abbrev pub with_entries : TreeNode → List Entry → TreeNode
with_entries n es = record n { entries = es }

-- and how many there are is written
pub then_counted : (n : TreeNode) (count old : ℕ) (es : List Entry) → count ≡ length es
    → over 10 (little_bytes 2 count) (head_of n old ++ area count es (children_bytes n)) ≡ node_bytes (with_entries n es)
then_counted n count old es is =
    count_written n count old (area count es (children_bytes n))
    ∙ (ap (λ k. head_of n k ++ area k es (children_bytes n)) is ∙ sym (node_by_entries (with_entries n es)))

-- an entry in front of its number, and behind it
abbrev in_front : Entry → List ℕ
in_front e = little_bytes 2 (length e.key) ++ zeros 2

-- a number is written over
pub number_over : (n : TreeNode) (i number : ℕ) (xs ys : List Entry) (e : Entry) → All IsEntry xs → length xs ≡ i → n.entries ≡ xs ++ e ∷ ys
    → over (24 + 264 * i + 4) (little_bytes 4 number) (node_bytes n) ≡ node_bytes (with_entries n (xs ++ (record e { number = number }) ∷ ys))
number_over n i number xs ys e all_xs is_xs are =
    let new : Entry = record e { number = number } in
    let rest : List ℕ = zeros (264 * (16 - length n.entries)) ++ children_bytes n in
    let tail : List ℕ = (e.key ++ zeros (256 - length e.key)) ++ (concat (map entry_bytes ys) ++ rest) in
    let parts : (f : Entry) → (in_front e ++ (little_bytes 4 f.number ++ (e.key ++ zeros (256 - length e.key))) ≡ entry_bytes f)
    → head_of n (length n.entries) ++ area (length n.entries) (xs ++ f ∷ ys) (children_bytes n) ≡ (before n xs ++ in_front e) ++ (little_bytes 4 f.number ++ tail) =
    λ f is. joined_two (head_of n (length n.entries)) xs (f ∷ ys) rest
    ∙ (ap (λ t. before n xs ++ t) (append_assoc (entry_bytes f) (concat (map entry_bytes ys)) rest ∙ ap (λ t. t ++ (concat (map entry_bytes ys) ++ rest)) (sym is))
    ∙ sym (append_assoc (before n xs) (in_front e) (little_bytes 4 f.number ++ tail))) in
    let whole : node_bytes n ≡ (before n xs ++ in_front e) ++ (little_bytes 4 e.number ++ tail) =
    node_by_entries n ∙ (ap (λ (es : List Entry). head_of n (length n.entries) ++ area (length n.entries) es (children_bytes n)) are ∙ parts e refl) in
    let length_front : length (before n xs ++ in_front e) ≡ 24 + 264 * i + 4 = length-append (before n xs) (in_front e) ∙ (let l = length-before n xs i all_xs is_xs in omega arith) in
    let as_many : length (xs ++ new ∷ ys) ≡ length n.entries = length-append xs (new ∷ ys) ∙ sym (ap (λ (es : List Entry). length es) are ∙ length-append xs (e ∷ ys)) in
    ap (λ t. over (24 + 264 * i + 4) (little_bytes 4 number) t) whole
    ∙ (over_parts (before n xs ++ in_front e) (little_bytes 4 e.number) tail (little_bytes 4 number) (24 + 264 * i + 4) length_front refl
    ∙ sym (node_by_entries (with_entries n (xs ++ new ∷ ys))
    ∙ (ap (λ k. head_of n k ++ area k (xs ++ new ∷ ys) (children_bytes n)) as_many ∙ parts new refl)))
