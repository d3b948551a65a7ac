-- The keys of a scan, as the plain cache cuts them.
use Rattle.std.proofs.Common.{◌≡◌, ℕ, ◌<◌, ◌≤◌, Bool, List, length, take, map, filter, sym, ap, ◌∙◌, subst}
use Rattle.std.specs.Prelude.{All, Contains}
use Rattle.std.proofs.lemmas.List.{get_or-map, length-map, take-map}
use Rattle.std.proofs.lemmas.List.Elements.{All-contains, All-map}
use denote.Ref.{Bor}
use Rattle.layout.specs.Sizes.{greatest_key}
use Rattle.plain_cache.specs.declared.plain.OwnedRow.{OwnedRow}
use Rattle.rows.specs.Apply.{in_order, is_at_most, keys_in}
use Rattle.rows.specs.Key.{Key}
use Rattle.rows.specs.Row.{Row}
use Rattle.row_lemmas.proofs.Tables.{All-keys_in}
use Rattle.plain_cache.specs.inside.OwnedRow.{row_in, IsSmall}
use Rattle.plain_cache.proofs.RowLists.{keys_from}

-- the keys from one on, sorted and cut
pub scanned_is : (key : Key) (ks : List OwnedRow) (keys sorted cut : List (Bor (List ℕ))) (n : ℕ)
    → map (λ found. found.now) keys ≡ keys_from key ks → map (λ found. found.now) sorted ≡ in_order (map (λ found. found.now) keys) → cut ≡ take n sorted
    → map (λ found. found.now) cut ≡ take n (in_order (keys_from key ks))
scanned_is key ks keys sorted cut n are in-order cut_is =
    ap (map (λ found. found.now)) cut_is ∙ sym (take-map (λ found. found.now) n sorted) ∙ ap (take n) (in-order ∙ ap in_order are)

abbrev IsShort : List ℕ → Type 0
IsShort key = length key ≤ greatest_key

-- they are short
all_now : (keys : List (Bor (List ℕ))) → All IsShort (map (λ key. key.now) keys) → All (λ key. length key.now ≤ greatest_key) keys
all_now keys all k d within =
    let inside : k < length (map (λ key. key.now) keys) = rw (length-map keys (λ key. key.now)) within in
    let here = all k d.now inside in
    rw (get_or-map (λ key. key.now) keys k d d.now within) at here

pub scanned_are_short : (key : Key) (ks : List OwnedRow) (cut : List (Bor (List ℕ))) (n : ℕ)
    → ((count : ℕ) (test : List ℕ → Bool) (keys : List (List ℕ)) → All (Contains keys) (take count (in_order (filter test keys)))) → All IsSmall ks
    → map (λ found. found.now) cut ≡ take n (in_order (keys_from key ks)) → All (λ found. length found.now ≤ greatest_key) cut
scanned_are_short key ks cut n among small are =
    let keys = keys_in key.table (map row_in ks) in
    let rows = All-map (λ (row : Row). row.key.table ≡ key.table → IsShort row.key.bytes) row_in ks (λ k d within same. (small k d within).0) in
    let all : All IsShort keys = All-keys_in IsShort key.table (map row_in ks) rows in
    let found : All IsShort (take n (in_order (keys_from key ks))) = λ k d within. All-contains IsShort keys _ all (among n (is_at_most key.bytes) keys k d within) in
    all_now cut (subst (All IsShort) (sym are) found)
