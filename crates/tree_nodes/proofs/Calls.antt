-- What each call makes of a content, and what it reads.
use Rattle.std.proofs.Common.{◌≡◌, ℕ, zero, suc, ◌+◌, ◌-◌, ◌*◌, ◌<◌, ◌≤◌, ◌^◌, List, [], ◌∷◌, ◌++◌, All, length, take, drop, map, get_or, set, refl, ap, sym, subst, ◌∙◌, append_assoc, arith, length-append}
use Rattle.std.specs.List.{concat, insert, remove}
use Rattle.std.proofs.lemmas.List.{length-take-le, length-drop, length-map, set_split, drop_more, drop-drop, drop-map, length-set, take-append-drop}
use Rattle.std.proofs.lemmas.List.Elements.{All-append, All-nil, All-cons, All-take, All-drop, All-set, All-get_or}
use Rattle.byteorder.specs.Endian.{little_number, little_bytes}
use Rattle.tree_nodes.specs.Nodes.{Entry, TreeNode, CanStand, IsNode, IsEntry, node_bytes, node_in, entry_bytes, entry_in, entries_in, places_in, no_entry, no_place, entry_at, child_at}
use Rattle.tree_nodes.specs.inside.Splices.{over, put_in, taken_out}
use Rattle.tree_nodes.proofs.Pieces.{behind_front}
use Rattle.tree_nodes.proofs.Fields.{entries_wide, key_length_read, zeros}
use Rattle.tree_nodes.proofs.Nodes.{behind_entries, behind_header, holds, holds_it, children_bytes}
use Rattle.tree_nodes.proofs.Edits.{parent_written, next_written, child_over, child_put_in, child_taken_out, with_children, head_of}
use Rattle.tree_nodes.proofs.Parts.{at_index, at_last, put_in_at}
use Rattle.tree_nodes.proofs.Rows.{area, entry_put_in, entry_taken_out, number_over, then_counted, with_entries}

-- the content holds the node
abbrev pub Holds : List ℕ → TreeNode → Type 0
Holds content n = (node_in content ≡ n) × IsNode content

pub held : (content : List ℕ) (n : TreeNode) → CanStand n → content ≡ node_bytes n → Holds content n
held content n fits is = (holds_it content n fits is, holds content n fits is)

pub stands_with_children : (n : TreeNode) → CanStand n → (cs : List ℕ) → length cs ≡ 17 → All (λ p. p < 2 ^ 64) cs → CanStand (with_children n cs)
stands_with_children n fits cs many all = record {
  parent = fits.parent;
  level = fits.level;
  next_leaf = fits.next_leaf;
  few = fits.few;
  entries = fits.entries;
  children = many;
  places = all;
}

pub stands_with_entries : (n : TreeNode) → CanStand n → (es : List Entry) → length es ≤ 16 → All IsEntry es → CanStand (with_entries n es)
stands_with_entries n fits es few all = record {
  parent = fits.parent;
  level = fits.level;
  next_leaf = fits.next_leaf;
  few = few;
  entries = all;
  children = fits.children;
  places = fits.places;
}

-- ---- links

pub parent_set : (content new : List ℕ) (place : ℕ) → IsNode content → place < 2 ^ 64 → new ≡ over 0 (little_bytes 8 place) content
    → Holds new (record (node_in content) { parent = place })
parent_set content new place is small made =
    let n = node_in content in let fits = is.node in
    held new (record n { parent = place })
    (record { parent = small; level = fits.level; next_leaf = fits.next_leaf; few = fits.few; entries = fits.entries; children = fits.children; places = fits.places })
    (made ∙ (ap (λ t. over 0 (little_bytes 8 place) t) is.bytes ∙ parent_written n place))

pub next_set : (content new : List ℕ) (place : ℕ) → IsNode content → place < 2 ^ 64 → new ≡ over 16 (little_bytes 8 place) content
    → Holds new (record (node_in content) { next_leaf = place })
next_set content new place is small made =
    let n = node_in content in let fits = is.node in
    held new (record n { next_leaf = place })
    (record { parent = fits.parent; level = fits.level; next_leaf = small; few = fits.few; entries = fits.entries; children = fits.children; places = fits.places })
    (made ∙ (ap (λ t. over 16 (little_bytes 8 place) t) is.bytes ∙ next_written n place))

-- ---- children

abbrev IsPlace : ℕ → Type 0
IsPlace place = place < 2 ^ 64

pub child_set : (content new : List ℕ) (i at place : ℕ) → IsNode content → i < 17 → at ≡ 4248 + 8 * i → place < 2 ^ 64
    → new ≡ over at (little_bytes 8 place) content → Holds new (with_children (node_in content) (set (node_in content).children i place))
child_set content new i at place is within here small made =
    let n = node_in content in let fits = is.node in let cs : List ℕ = n.children in let many = fits.children in
    let in_list : i < length cs = omega arith in
    let split : set cs i place ≡ take i cs ++ place ∷ drop (suc i) cs = set_split cs i place in_list in
    held new (with_children n (set cs i place))
    (stands_with_children n fits (set cs i place) (length-set cs i place ∙ many) (All-set IsPlace cs i place small fits.places))
    (made ∙ (ap (λ t. over at (little_bytes 8 place) t) is.bytes
    ∙ (ap (λ k. over k (little_bytes 8 place) (node_bytes n)) here
    ∙ (child_over n fits i (take i cs) (drop (suc i) cs) (get_or cs i 0) place (length-take-le i cs (omega arith)) (at_index cs i 0 in_list)
    ∙ ap (λ t. node_bytes (with_children n t)) (sym split)))))

pub child_added : (content new : List ℕ) (i at moved place : ℕ) → IsNode content → i < 17 → at ≡ 4248 + 8 * i → moved ≡ (16 - i) * 8 → place < 2 ^ 64
    → new ≡ put_in at moved (little_bytes 8 place) content → Holds new (with_children (node_in content) (take 17 (insert (node_in content).children i place)))
child_added content new i at moved place is within here far small made =
    let n = node_in content in let fits = is.node in let cs : List ℕ = n.children in let many = fits.children in
    let xs : List ℕ = take i cs in
    let ys : List ℕ = take (16 - i) (drop i cs) in
    let children : take 17 (insert cs i place) ≡ xs ++ place ∷ ys = put_in_at cs i 16 place 0 (omega arith) many in
    let length_xs : length xs ≡ i = length-take-le i cs (omega arith) in
    let length_ys : length ys ≡ 16 - i = length-take-le (16 - i) (drop i cs) (let l = length-drop i cs in omega arith) in
    let all : All IsPlace (xs ++ place ∷ ys) = All-append IsPlace xs (place ∷ ys) (All-take IsPlace i cs fits.places)
    (All-cons IsPlace place ys small (All-take IsPlace (16 - i) (drop i cs) (All-drop IsPlace i cs fits.places))) in
    let as_many : length (xs ++ place ∷ ys) ≡ 17 = length-append xs (place ∷ ys) ∙ omega arith in
    held new (with_children n (take 17 (insert cs i place)))
    (subst (λ t. CanStand (with_children n t)) (sym children) (stands_with_children n fits (xs ++ place ∷ ys) as_many all))
    (made ∙ (ap (λ t. put_in at moved (little_bytes 8 place) t) is.bytes
    ∙ (ap (λ k. put_in k moved (little_bytes 8 place) (node_bytes n)) here
    ∙ (child_put_in n fits i moved xs ys (get_or cs 16 0) place length_xs (omega arith) (at_last cs i 16 0 (omega arith) many)
    ∙ ap (λ t. node_bytes (with_children n t)) (sym children)))))

pub child_cut : (content new : List ℕ) (i at moved : ℕ) → IsNode content → i < 17 → at ≡ 4248 + 8 * i → moved ≡ (16 - i) * 8
    → new ≡ taken_out at moved (little_bytes 8 no_place) content → Holds new (with_children (node_in content) (remove (node_in content).children i ++ no_place ∷ []))
child_cut content new i at moved is within here far made =
    let n = node_in content in let fits = is.node in let cs : List ℕ = n.children in let many = fits.children in
    let xs : List ℕ = take i cs in
    let ys : List ℕ = drop (suc i) cs in
    let children : remove cs i ++ no_place ∷ [] ≡ xs ++ (ys ++ no_place ∷ []) = append_assoc xs ys (no_place ∷ []) in
    let length_xs : length xs ≡ i = length-take-le i cs (omega arith) in
    let length_ys : length ys ≡ 16 - i = length-drop (suc i) cs ∙ omega arith in
    let all : All IsPlace (xs ++ (ys ++ no_place ∷ [])) = All-append IsPlace xs (ys ++ no_place ∷ []) (All-take IsPlace i cs fits.places)
    (All-append IsPlace ys (no_place ∷ []) (All-drop IsPlace (suc i) cs fits.places) (All-cons IsPlace no_place [] (omega arith) (All-nil IsPlace))) in
    let as_many : length (xs ++ (ys ++ no_place ∷ [])) ≡ 17 = length-append xs (ys ++ no_place ∷ []) ∙ (let l = length-append ys (no_place ∷ []) in omega arith) in
    held new (with_children n (remove cs i ++ no_place ∷ []))
    (subst (λ t. CanStand (with_children n t)) (sym children) (stands_with_children n fits (xs ++ (ys ++ no_place ∷ [])) as_many all))
    (made ∙ (ap (λ t. taken_out at moved (little_bytes 8 no_place) t) is.bytes
    ∙ (ap (λ k. taken_out k moved (little_bytes 8 no_place) (node_bytes n)) here
    ∙ (child_taken_out n fits i moved xs ys (get_or cs i 0) no_place length_xs (omega arith) (at_index cs i 0 (omega arith))
    ∙ ap (λ t. node_bytes (with_children n t)) (sym children)))))

-- ---- entries

pub number_set : (content new : List ℕ) (i at number : ℕ) → IsNode content → i < length (node_in content).entries → at ≡ 24 + 264 * i + 4 → number < 2 ^ 32
    → new ≡ over at (little_bytes 4 number) content
    → Holds new (with_entries (node_in content) (set (node_in content).entries i (record (entry_at (node_in content) i) { number = number })))
number_set content new i at number is within here small made =
    let n = node_in content in let fits = is.node in let es : List Entry = n.entries in
    let old : Entry = entry_at n i in
    let e : Entry = record old { number = number } in
    let old_fits = All-get_or IsEntry es i no_entry within fits.entries in
    let e_fits : IsEntry e = record { some_key = old_fits.some_key; short_key = old_fits.short_key; number = small } in
    let split : set es i e ≡ take i es ++ e ∷ drop (suc i) es = set_split es i e within in
    held new (with_entries n (set es i e))
    (stands_with_entries n fits (set es i e) (let l = length-set es i e in let few = fits.few in omega arith) (All-set IsEntry es i e e_fits fits.entries))
    (made ∙ (ap (λ t. over at (little_bytes 4 number) t) is.bytes
    ∙ (ap (λ k. over k (little_bytes 4 number) (node_bytes n)) here
    ∙ (number_over n i number (take i es) (drop (suc i) es) old (All-take IsEntry i es fits.entries) (length-take-le i es (omega arith)) (at_index es i no_entry within)
    ∙ ap (λ t. node_bytes (with_entries n t)) (sym split)))))

pub entry_added : (content mid new : List ℕ) (i at moved count : ℕ) (e : Entry) → IsNode content → i ≤ length (node_in content).entries → length (node_in content).entries < 16
    → at ≡ 24 + 264 * i → moved ≡ (length (node_in content).entries - i) * 264 → count ≡ length (node_in content).entries + 1 → IsEntry e
    → mid ≡ put_in at moved (entry_bytes e) content → new ≡ over 10 (little_bytes 2 count) mid
    → Holds new (with_entries (node_in content) (insert (node_in content).entries i e))
entry_added content mid new i at moved count e is within room here far counted e_fits put made =
    let n = node_in content in let fits = is.node in let es : List Entry = n.entries in
    let xs : List Entry = take i es in
    let ys : List Entry = drop i es in
    let length_xs : length xs ≡ i = length-take-le i es within in
    let length_ys : length ys ≡ length es - i = length-drop i es in
    let all_xs = All-take IsEntry i es fits.entries in
    let all_ys = All-drop IsEntry i es fits.entries in
    let as_many : length (xs ++ e ∷ ys) ≡ length es + 1 = length-append xs (e ∷ ys) ∙ omega arith in
    let put_here : mid ≡ head_of n (length es) ++ area (suc (length es)) (xs ++ e ∷ ys) (children_bytes n) =
    put ∙ (ap (λ t. put_in at moved (entry_bytes e) t) is.bytes
    ∙ (ap (λ k. put_in k moved (entry_bytes e) (node_bytes n)) here
    ∙ entry_put_in n i moved xs ys e all_xs all_ys e_fits length_xs (omega arith) (sym (take-append-drop i es)) room)) in
    let same : suc (length es) ≡ count = omega arith in
    held new (with_entries n (insert es i e))
    (stands_with_entries n fits (xs ++ e ∷ ys) (omega arith) (All-append IsEntry xs (e ∷ ys) all_xs (All-cons IsEntry e ys e_fits all_ys)))
    (made ∙ (ap (λ t. over 10 (little_bytes 2 count) t) (put_here ∙ ap (λ k. head_of n (length es) ++ area k (xs ++ e ∷ ys) (children_bytes n)) same)
    ∙ then_counted n count (length es) (xs ++ e ∷ ys) (counted ∙ sym as_many)))

pub entry_cut : (content mid new : List ℕ) (i at moved count : ℕ) → IsNode content → i < length (node_in content).entries
    → at ≡ 24 + 264 * i → moved ≡ (length (node_in content).entries - 1 - i) * 264 → count ≡ length (node_in content).entries - 1
    → mid ≡ taken_out at moved (zeros 264) content → new ≡ over 10 (little_bytes 2 count) mid
    → Holds new (with_entries (node_in content) (remove (node_in content).entries i))
entry_cut content mid new i at moved count is within here far counted put made =
    let n = node_in content in let fits = is.node in let es : List Entry = n.entries in
    let few = fits.few in
    let xs : List Entry = take i es in
    let ys : List Entry = drop (suc i) es in
    let length_xs : length xs ≡ i = length-take-le i es (omega arith) in
    let length_ys : length ys ≡ length es - suc i = length-drop (suc i) es in
    let all_xs = All-take IsEntry i es fits.entries in
    let all_ys = All-drop IsEntry (suc i) es fits.entries in
    let as_many : length (xs ++ ys) ≡ length es - 1 = length-append xs ys ∙ omega arith in
    let put_here : mid ≡ head_of n (length es) ++ area (length es - 1) (xs ++ ys) (children_bytes n) =
    put ∙ (ap (λ t. taken_out at moved (zeros 264) t) is.bytes
    ∙ (ap (λ k. taken_out k moved (zeros 264) (node_bytes n)) here
    ∙ entry_taken_out n i moved xs ys (get_or es i no_entry) all_xs all_ys (All-get_or IsEntry es i no_entry within fits.entries) length_xs (omega arith) (at_index es i no_entry within) few)) in
    held new (with_entries n (remove es i))
    (stands_with_entries n fits (xs ++ ys) (omega arith) (All-append IsEntry xs ys all_xs all_ys))
    (made ∙ (ap (λ t. over 10 (little_bytes 2 count) t) (put_here ∙ ap (λ k. head_of n (length es) ++ area k (xs ++ ys) (children_bytes n)) (sym counted))
    ∙ then_counted n count (length es) (xs ++ ys) (counted ∙ sym as_many)))

-- ---- what is read

pub length-entries_in : (k : ℕ) (bytes : List ℕ) → length (entries_in k bytes) ≡ k
unfolding entries_in
length-entries_in zero bytes = refl
length-entries_in (suc k) bytes = ap suc (length-entries_in k (drop 264 bytes))

entry_of_entries : (k i : ℕ) (bytes : List ℕ) → i < k → get_or (entries_in k bytes) i no_entry ≡ entry_in (drop (264 * i) bytes)
unfolding entries_in
entry_of_entries zero i bytes within = absurd (omega arith)
entry_of_entries (suc k) zero bytes within = refl
entry_of_entries (suc k) (suc i) bytes within =
    entry_of_entries k i (drop 264 bytes) (omega arith)
    ∙ (ap (λ t. entry_in t) (drop-drop (264 * i) 264 bytes) ∙ ap (λ m. entry_in (drop m bytes)) {y = 264 * suc i} (omega arith))

-- where an entry stands, and how long its key is
pub entry_stands : (content : List ℕ) (i at : ℕ) → IsNode content → i < length (node_in content).entries → at ≡ 24 + 264 * i → entry_at (node_in content) i ≡ entry_in (drop at content)
unfolding node_in
entry_stands content i at is within here =
    entry_of_entries (little_number 2 (drop 10 content)) i (drop 24 content) (subst (λ k. i < k) (length-entries_in (little_number 2 (drop 10 content)) (drop 24 content)) within)
    ∙ (ap (λ t. entry_in t) (drop-drop (264 * i) 24 content) ∙ ap (λ m. entry_in (drop m content)) (sym here))

-- the bytes of an entry in its content, and what is behind them
abbrev pub behind_entry : TreeNode → ℕ → List ℕ
behind_entry n i = concat (map entry_bytes (drop (suc i) n.entries)) ++ behind_entries n

pub entry_bytes_stand : (content : List ℕ) (i at : ℕ) → IsNode content → i < length (node_in content).entries → at ≡ 24 + 264 * i
    → drop at content ≡ entry_bytes (entry_at (node_in content) i) ++ behind_entry (node_in content) i
entry_bytes_stand content i at is within here =
    let n = node_in content in let fits = is.node in let es : List Entry = n.entries in
    let e : Entry = get_or es i no_entry in
    ap (λ m. drop m content) here
    ∙ (sym (drop-drop (264 * i) 24 content)
    ∙ (ap (λ t. drop (264 * i) (drop 24 t)) is.bytes
    ∙ (ap (λ t. drop (264 * i) t) (behind_header n)
    ∙ (behind_front 264 i (map entry_bytes es) (behind_entries n) (entries_wide es fits.entries) (let l = length-map es entry_bytes in omega arith)
    ∙ (ap (λ (t : List (List ℕ)). concat t ++ behind_entries n) (drop-map entry_bytes i es ∙ ap (λ (t : List Entry). map entry_bytes t) (drop_more es i no_entry within ∙ ap (λ k. e ∷ drop k es) {y = suc i} (omega arith)))
    ∙ append_assoc (entry_bytes e) (concat (map entry_bytes (drop (suc i) es))) (behind_entries n))))))

pub key_length : (content : List ℕ) (i at : ℕ) → IsNode content → i < length (node_in content).entries → at ≡ 24 + 264 * i → little_number 2 (drop at content) ≤ 256
key_length content i at is within here =
    let n = node_in content in let fits = is.node in
    let e : Entry = entry_at n i in
    let e_fits = All-get_or IsEntry n.entries i no_entry within fits.entries in
    let there = entry_bytes_stand content i at is within here in
    let short = e_fits.short_key in
    subst (λ k. k ≤ 256) (sym (ap (λ t. little_number 2 t) there ∙ key_length_read e (behind_entry n i) e_fits)) short

place_of_places : (k i : ℕ) (bytes : List ℕ) → i < k → get_or (places_in k bytes) i no_place ≡ little_number 8 (drop (8 * i) bytes)
unfolding places_in
place_of_places zero i bytes within = absurd (omega arith)
place_of_places (suc k) zero bytes within = refl
place_of_places (suc k) (suc i) bytes within =
    place_of_places k i (drop 8 bytes) (omega arith)
    ∙ (ap (λ t. little_number 8 t) (drop-drop (8 * i) 8 bytes) ∙ ap (λ m. little_number 8 (drop m bytes)) {y = 8 * suc i} (omega arith))

pub child_stands : (content : List ℕ) (i at : ℕ) → i < 17 → at ≡ 4248 + 8 * i → child_at (node_in content) i ≡ little_number 8 (drop at content)
unfolding node_in
child_stands content i at within here =
    place_of_places 17 i (drop 4248 content) within
    ∙ (ap (λ t. little_number 8 t) (drop-drop (8 * i) 4248 content) ∙ ap (λ m. little_number 8 (drop m content)) (sym here))

pub key_stands : (content : List ℕ) (i at len : ℕ) → IsNode content → i < length (node_in content).entries → at ≡ 24 + 264 * i
    → len ≡ little_number 2 (drop at content) → take len (drop (at + 8) content) ≡ (entry_at (node_in content) i).key
key_stands content i at len is within here so =
    ap (λ k. take k (drop (at + 8) content)) so
    ∙ (ap (λ t. take (little_number 2 (drop at content)) t) (sym (drop-drop 8 at content))
    ∙ sym (ap (λ (e : Entry). e.key) (entry_stands content i at is within here)))
