-- What is left of a node where several entries or children are taken away.
use Rattle.std.proofs.Common.{◌≡◌, ℕ, zero, suc, ◌+◌, ◌-◌, ◌*◌, ◌<◌, ◌≤◌, ◌^◌, List, [], ◌++◌, All, length, take, drop, map, replicate, refl, ap, sym, ◌∙◌, append_assoc, arith, length-append}
use Rattle.std.specs.List.{concat}
use Rattle.std.proofs.lemmas.List.{append-nil, length-take-le, length-drop, length-replicate, replicate-append-replicate, take-append-drop, drop-drop}
use Rattle.std.proofs.lemmas.List.Elements.{All-append, All-take, All-drop, All-replicate}
use Rattle.byteorder.specs.Endian.{little_bytes}
use Rattle.tree_nodes.specs.Nodes.{Entry, TreeNode, CanStand, IsNode, IsEntry, entry_bytes, no_place, node_bytes, node_in}
use Rattle.tree_nodes.specs.inside.Splices.{over, taken_out}
use Rattle.tree_nodes.proofs.Splices.{taken_out_parts}
use Rattle.tree_nodes.proofs.Fields.{place_bytes, zeros}
use Rattle.tree_nodes.proofs.Nodes.{children_bytes}
use Rattle.tree_nodes.proofs.Edits.{front_of, head_of, length-places, node_by_children, with_children}
use Rattle.tree_nodes.proofs.Edits as children
use Rattle.tree_nodes.proofs.Rows.{area, before, joined_two, length-entries_of, node_by_entries, then_counted, with_entries}
use Rattle.tree_nodes.proofs.Rows as rows
use Rattle.tree_nodes.proofs.Calls.{Holds, held, stands_with_children, stands_with_entries}

-- a list in three parts
three_parts : {A : Type 0} (xs : List A) (i k : ℕ) → xs ≡ take i xs ++ (take k (drop i xs) ++ drop (i + k) xs)
three_parts xs i k =
    sym (take-append-drop i xs)
    ∙ ap (λ t. take i xs ++ t) (sym (take-append-drop k (drop i xs)) ∙ ap (λ t. take k (drop i xs) ++ t) (drop-drop k i xs))

more_zeros : (a b c : ℕ) (rest : List ℕ) → a + b ≡ c → zeros a ++ (zeros b ++ rest) ≡ zeros c ++ rest
more_zeros a b c rest is = sym (append_assoc (zeros a) (zeros b) rest) ∙ (ap (λ t. t ++ rest) (replicate-append-replicate a b 0) ∙ ap (λ k. zeros k ++ rest) is)

entries_taken_out : (n : TreeNode) (i k moved : ℕ) (xs ds ys : List Entry) → All IsEntry xs → All IsEntry ds → All IsEntry ys
    → length xs ≡ i → length ds ≡ k → 264 * length ys ≡ moved → n.entries ≡ xs ++ (ds ++ ys) → length n.entries ≤ 16
    → taken_out (24 + 264 * i) moved (zeros (k * 264)) (node_bytes n) ≡ head_of n (length n.entries) ++ area (length n.entries - k) (xs ++ ys) (children_bytes n)
entries_taken_out n i k moved xs ds ys all_xs all_ds all_ys is_xs is_ds is_ys are few =
    let rest : List ℕ = zeros (264 * (16 - length n.entries)) ++ children_bytes n in
    let gone : List ℕ = concat (map entry_bytes ds) in
    let mid : List ℕ = concat (map entry_bytes ys) in
    let whole : node_bytes n ≡ before n xs ++ (gone ++ (mid ++ rest)) =
    node_by_entries n
    ∙ (ap (λ (es : List Entry). head_of n (length n.entries) ++ area (length n.entries) es (children_bytes n)) are
    ∙ (joined_two (head_of n (length n.entries)) xs (ds ++ ys) rest
    ∙ ap (λ t. before n xs ++ t) (joined_two [] ds ys rest))) in
    let length_mid : length mid ≡ moved = length-entries_of ys all_ys ∙ is_ys in
    let length_gone : length gone ≡ length (zeros (k * 264)) = length-entries_of ds all_ds ∙ (ap (λ m. 264 * m) is_ds ∙ (omega arith ∙ sym (length-replicate {A = ℕ} (k * 264) 0))) in
    let held : length n.entries ≡ length xs + (length ds + length ys) = ap (λ (es : List Entry). length es) are ∙ (length-append xs (ds ++ ys) ∙ ap (λ m. length xs + m) (length-append ds ys)) in
    let more : zeros (k * 264) ++ rest ≡ zeros (264 * (16 - (length n.entries - k))) ++ children_bytes n =
    more_zeros (k * 264) (264 * (16 - length n.entries)) (264 * (16 - (length n.entries - k))) (children_bytes n) (omega arith) in
    ap (λ t. taken_out (24 + 264 * i) moved (zeros (k * 264)) t) whole
    ∙ (taken_out_parts (before n xs) gone mid rest (zeros (k * 264)) (24 + 264 * i) moved (rows.length-before n xs i all_xs is_xs) length_gone length_mid
    ∙ sym (joined_two (head_of n (length n.entries)) xs ys (zeros (264 * (16 - (length n.entries - k))) ++ children_bytes n) ∙ ap (λ t. before n xs ++ (mid ++ t)) (sym more)))

pub entries_cut : (content mid new : List ℕ) (i k at moved count : ℕ) → IsNode content → i + k ≤ length (node_in content).entries
    → at ≡ 24 + 264 * i → moved ≡ (length (node_in content).entries - k - i) * 264 → count ≡ length (node_in content).entries - k
    → mid ≡ taken_out at moved (zeros (k * 264)) content → new ≡ over 10 (little_bytes 2 count) mid
    → Holds new (with_entries (node_in content) (take i (node_in content).entries ++ drop (i + k) (node_in content).entries))
entries_cut content mid new i k at moved count is within here far counted put made =
    let n = node_in content in let fits = is.node in let es : List Entry = n.entries in
    let few = fits.few in
    let xs : List Entry = take i es in
    let ds : List Entry = take k (drop i es) in
    let ys : List Entry = drop (i + k) es in
    let length_xs : length xs ≡ i = length-take-le i es (omega arith) in
    let length_ds : length ds ≡ k = length-take-le k (drop i es) (let l = length-drop i es in omega arith) in
    let length_ys : length ys ≡ length es - (i + k) = length-drop (i + k) es in
    let all_xs = All-take IsEntry i es fits.entries in
    let all_ds = All-take IsEntry k (drop i es) (All-drop IsEntry i es fits.entries) in
    let all_ys = All-drop IsEntry (i + k) es fits.entries in
    let as_many : length (xs ++ ys) ≡ length es - k = length-append xs ys ∙ omega arith in
    let put_here : mid ≡ head_of n (length es) ++ area (length es - k) (xs ++ ys) (children_bytes n) =
    put ∙ (ap (λ t. taken_out at moved (zeros (k * 264)) t) is.bytes
    ∙ (ap (λ m. taken_out m moved (zeros (k * 264)) (node_bytes n)) here
    ∙ entries_taken_out n i k moved xs ds ys all_xs all_ds all_ys length_xs length_ds (omega arith) (three_parts es i k) few)) in
    held new (with_entries n (xs ++ ys))
    (stands_with_entries n fits (xs ++ ys) (omega arith) (All-append IsEntry xs ys all_xs all_ys))
    (made ∙ (ap (λ t. over 10 (little_bytes 2 count) t) (put_here ∙ ap (λ m. head_of n (length es) ++ area m (xs ++ ys) (children_bytes n)) (sym counted))
    ∙ then_counted n count (length es) (xs ++ ys) (counted ∙ sym as_many)))

-- ---- children

nones : (k : ℕ) → concat (map place_bytes (replicate k no_place)) ≡ replicate (k * 8) 255
nones zero = refl
nones (suc k) =
    ap (λ t. place_bytes no_place ++ t) (nones k)
    ∙ (replicate-append-replicate {A = ℕ} 8 (k * 8) 255 ∙ ap (λ m. replicate m 255) {x = 8 + k * 8} {y = suc k * 8} (omega arith))

children_taken_out : (n : TreeNode) (fits : CanStand n) (i k moved : ℕ) (xs ds ys : List ℕ) → length xs ≡ i → length ds ≡ k → length ys * 8 ≡ moved → n.children ≡ xs ++ (ds ++ ys)
    → taken_out (4248 + 8 * i) moved (replicate (k * 8) 255) (node_bytes n) ≡ node_bytes (with_children n (xs ++ (ys ++ replicate k no_place)))
children_taken_out n fits i k moved xs ds ys is_xs is_ds is_ys are =
    let front : List ℕ = front_of n ++ concat (map place_bytes xs) in
    let gone : List ℕ = concat (map place_bytes ds) in
    let mid : List ℕ = concat (map place_bytes ys) in
    let bytes : List ℕ = replicate (k * 8) 255 in
    let behind : concat (map place_bytes (ds ++ ys)) ≡ gone ++ (mid ++ []) = children.joined_two [] ds ys ∙ ap (λ t. gone ++ t) (sym (append-nil mid)) in
    let whole : node_bytes n ≡ front ++ (gone ++ (mid ++ [])) =
    node_by_children n ∙ (ap (λ (c : List ℕ). front_of n ++ concat (map place_bytes c)) are ∙ (children.joined_two (front_of n) xs (ds ++ ys) ∙ ap (λ t. front ++ t) behind)) in
    let length_mid : length mid ≡ moved = let l = length-places ys in omega arith in
    let length_gone : length gone ≡ length bytes = length-places ds ∙ (omega arith ∙ sym (length-replicate {A = ℕ} (k * 8) 255)) in
    let tail : concat (map place_bytes (ys ++ replicate k no_place)) ≡ mid ++ (bytes ++ []) =
    children.joined_two [] ys (replicate k no_place) ∙ ap (λ t. mid ++ t) (nones k ∙ sym (append-nil bytes)) in
    ap (λ t. taken_out (4248 + 8 * i) moved bytes t) whole
    ∙ (taken_out_parts front gone mid [] bytes (4248 + 8 * i) moved (children.length-before n fits xs i is_xs) length_gone length_mid
    ∙ sym (node_by_children (with_children n (xs ++ (ys ++ replicate k no_place))) ∙ (children.joined_two (front_of n) xs (ys ++ replicate k no_place) ∙ ap (λ t. front ++ t) tail)))

abbrev IsPlace : ℕ → Type 0
IsPlace place = place < 2 ^ 64

pub children_cut : (content new : List ℕ) (i k at moved : ℕ) → IsNode content → i + k ≤ 17 → at ≡ 4248 + 8 * i → moved ≡ (17 - k - i) * 8
    → new ≡ taken_out at moved (replicate (k * 8) 255) content
    → Holds new (with_children (node_in content) (take i (node_in content).children ++ (drop (i + k) (node_in content).children ++ replicate k no_place)))
children_cut content new i k at moved is within here far made =
    let n = node_in content in let fits = is.node in let cs : List ℕ = n.children in let many = fits.children in
    let xs : List ℕ = take i cs in
    let ds : List ℕ = take k (drop i cs) in
    let ys : List ℕ = drop (i + k) cs in
    let none : List ℕ = replicate k no_place in
    let length_xs : length xs ≡ i = length-take-le i cs (omega arith) in
    let length_ds : length ds ≡ k = length-take-le k (drop i cs) (let l = length-drop i cs in omega arith) in
    let length_ys : length ys ≡ 17 - (i + k) = length-drop (i + k) cs ∙ omega arith in
    let length_none : length none ≡ k = length-replicate {A = ℕ} k no_place in
    let all : All IsPlace (xs ++ (ys ++ none)) = All-append IsPlace xs (ys ++ none) (All-take IsPlace i cs fits.places)
    (All-append IsPlace ys none (All-drop IsPlace (i + k) cs fits.places) (All-replicate IsPlace k no_place (omega arith))) in
    let as_many : length (xs ++ (ys ++ none)) ≡ 17 = length-append xs (ys ++ none) ∙ (let l = length-append ys none in omega arith) in
    held new (with_children n (xs ++ (ys ++ none)))
    (stands_with_children n fits (xs ++ (ys ++ none)) as_many all)
    (made ∙ (ap (λ t. taken_out at moved (replicate (k * 8) 255) t) is.bytes
    ∙ (ap (λ m. taken_out m moved (replicate (k * 8) 255) (node_bytes n)) here
    ∙ children_taken_out n fits i k moved xs ds ys length_xs length_ds (omega arith) (three_parts cs i k))))
