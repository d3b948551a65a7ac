-- What is read from the bytes of entries and of places.
use Rattle.std.proofs.Common.{◌≡◌, ℕ, ◌+◌, ◌-◌, ◌*◌, ◌<◌, ◌≤◌, ◌^◌, List, [], ◌∷◌, ◌++◌, All, length, take, drop, map, replicate, refl, ap, ◌∙◌, append_assoc, arith, length-append}
use Rattle.std.specs.List.{concat}
use Rattle.std.proofs.lemmas.List.{take_at, drop_at, length-replicate, length-map}
use Rattle.std.proofs.lemmas.List.Elements.{All-nil, All-cons, All-head, All-tail, All-map, All-weaker}
use Rattle.byteorder.specs.Endian.{little_number, little_bytes}
use Rattle.byteorder.specs.Numbers.{little_number-reads_back}
use Rattle.tree_nodes.specs.Nodes.{Entry, IsEntry, entry_bytes, entries_bytes, entry_in, entries_in, places_in}
use Rattle.tree_nodes.proofs.Pieces.{AreWide, length-concat}

abbrev pub zeros : ℕ → List ℕ
zeros n = replicate n 0

abbrev behind_key : Entry → List ℕ → List ℕ
behind_key e r = zeros (256 - length e.key) ++ r

pub length-entry : (e : Entry) → IsEntry e → length (entry_bytes e) ≡ 264
length-entry e fits =
    let parts : length (e.key ++ zeros (256 - length e.key)) ≡ length e.key + length (zeros (256 - length e.key)) = length-append e.key (zeros (256 - length e.key)) in
    let end : length (zeros (256 - length e.key)) ≡ 256 - length e.key = length-replicate (256 - length e.key) 0 in
    let short = fits.short_key in
    omega arith

pub key_length_read : (e : Entry) (r : List ℕ) → IsEntry e → little_number 2 (entry_bytes e ++ r) ≡ length e.key
key_length_read e r fits = little_number-reads_back 2 (length e.key) [] (let short = fits.short_key in omega arith)

number_read : (e : Entry) (r : List ℕ) → IsEntry e → little_number 4 (drop 4 (entry_bytes e ++ r)) ≡ e.number
number_read e r fits = little_number-reads_back 4 e.number [] fits.number

key_read : (e : Entry) (r : List ℕ) → IsEntry e → take (little_number 2 (entry_bytes e ++ r)) (drop 8 (entry_bytes e ++ r)) ≡ e.key
key_read e r fits =
    ap (λ k. take k (drop 8 (entry_bytes e ++ r))) (key_length_read e r fits)
    ∙ (ap (λ t. take (length e.key) t) (append_assoc e.key (zeros (256 - length e.key)) r) ∙ take_at e.key (behind_key e r) (length e.key) refl)

abbrev of_parts : List ℕ → ℕ → Entry
of_parts key number = record { key = key; number = number }

pub entry_read : (e : Entry) (r : List ℕ) → IsEntry e → entry_in (entry_bytes e ++ r) ≡ e
entry_read e r fits =
    ap (λ key. of_parts key (little_number 4 (drop 4 (entry_bytes e ++ r)))) (key_read e r fits)
    ∙ ap (λ number. of_parts e.key number) (number_read e r fits)

pub entries_wide : (es : List Entry) → All IsEntry es → AreWide 264 (map entry_bytes es)
entries_wide es all = All-map (λ piece. length piece ≡ 264) entry_bytes es (All-weaker IsEntry (λ e. length (entry_bytes e) ≡ 264) length-entry es all)

pub entries_read : (es : List Entry) (r : List ℕ) → All IsEntry es → entries_in (length es) (concat (map entry_bytes es) ++ r) ≡ es
unfolding entries_in
entries_read [] r all = refl
entries_read (e ∷ es) r all =
    let fits = All-head IsEntry e es all in
    let rest : List ℕ = concat (map entry_bytes es) ++ r in
    let is : (entry_bytes e ++ concat (map entry_bytes es)) ++ r ≡ entry_bytes e ++ rest = append_assoc (entry_bytes e) (concat (map entry_bytes es)) r in
    ap (λ t. entry_in t ∷ entries_in (length es) (drop 264 t)) is
    ∙ (ap (λ x. x ∷ entries_in (length es) (drop 264 (entry_bytes e ++ rest))) (entry_read e rest fits)
    ∙ (ap (λ t. e ∷ entries_in (length es) t) (drop_at (entry_bytes e) rest 264 (length-entry e fits))
    ∙ ap (λ t. e ∷ t) (entries_read es r (All-tail IsEntry e es all))))

pub length-entries : (es : List Entry) → All IsEntry es → length es ≤ 16 → length (entries_bytes es) ≡ 4224
length-entries es all few =
    let both : length (concat (map entry_bytes es) ++ zeros (264 * (16 - length es))) ≡ length (concat (map entry_bytes es)) + length (zeros (264 * (16 - length es))) =
    length-append (concat (map entry_bytes es)) (zeros (264 * (16 - length es))) in
    let front : length (concat (map entry_bytes es)) ≡ 264 * length es = length-concat 264 (map entry_bytes es) (entries_wide es all) ∙ ap (λ n. 264 * n) (length-map es entry_bytes) in
    let end : length (zeros (264 * (16 - length es))) ≡ 264 * (16 - length es) = length-replicate (264 * (16 - length es)) 0 in
    omega arith

-- ---- places

abbrev pub place_bytes : ℕ → List ℕ
place_bytes place = little_bytes 8 place

pub places_wide : (ps : List ℕ) → AreWide 8 (map place_bytes ps)
places_wide [] = All-nil (λ piece. length piece ≡ 8)
places_wide (p ∷ ps) = All-cons (λ piece. length piece ≡ 8) (place_bytes p) (map place_bytes ps) refl (places_wide ps)

pub places_read : (ps : List ℕ) (r : List ℕ) → All (λ p. p < 2 ^ 64) ps → places_in (length ps) (concat (map place_bytes ps) ++ r) ≡ ps
unfolding places_in
places_read [] r all = refl
places_read (p ∷ ps) r all =
    ap (λ t. t ∷ places_in (length ps) (concat (map place_bytes ps) ++ r)) (little_number-reads_back 8 p [] (All-head (λ q. q < 2 ^ 64) p ps all))
    ∙ ap (λ t. p ∷ t) (places_read ps r (All-tail (λ q. q < 2 ^ 64) p ps all))
