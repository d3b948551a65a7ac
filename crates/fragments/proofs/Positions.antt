-- Chains by entry, and their places by number.
use Rattle.std.proofs.Common.{◌≡◌, ◌≢◌, ℕ, zero, suc, ◌<◌, ◌≤◌, inl, inr, cond, List, [], ◌∷◌, length, drop, map, replicate, Option, Some, None, refl, ap, ◌∙◌, arith}
use Rattle.std.specs.Prelude.{option_map, slice_get, slice_set}
use Rattle.std.proofs.lemmas.Bool.Decides.{leb_tells}
use Rattle.std.proofs.lemmas.List.{get_or-set_same, get_or-set_other}
use Rattle.std.proofs.lemmas.Option.{slice_get-map}
use Rattle.regions.specs.Contents.{Item}
use Rattle.regions.specs.declared.place.Place.{Place}
use Rattle.fragments.specs.Chains.{TableState, AreChains, chain_at, first_at, owner, place_at, place_before}
use Rattle.place_lemmas.proofs.Places.{HasRoomIf, some_none}

-- ---- an entry is set

pub chain_set : (chains : List (List Place)) (e : ℕ) (ps : List Place) → e < length chains → chain_at (slice_set chains e ps) e ≡ ps
chain_set chains e ps h = get_or-set_same chains e ps [] h

pub chain_past : (chains : List (List Place)) (e f : ℕ) (ps : List Place) → f ≢ e → chain_at (slice_set chains e ps) f ≡ chain_at chains f
chain_past chains e f ps far = get_or-set_other chains e f ps [] far

pub first_set : (firsts : List (Option Place)) (e : ℕ) (o : Option Place) → e < length firsts → first_at (slice_set firsts e o) e ≡ o
first_set firsts e o h = get_or-set_same firsts e o None h

pub first_past : (firsts : List (Option Place)) (e f : ℕ) (o : Option Place) → f ≢ e → first_at (slice_set firsts e o) f ≡ first_at firsts f
first_past firsts e f o far = get_or-set_other firsts e f o None far

-- ---- numbers

pub chain_mapped : (g : Place → Place) (chains : List (List Place)) (e : ℕ) → chain_at (map (map g) chains) e ≡ map g (chain_at chains e)
chain_mapped g [] e = refl
chain_mapped g (ps ∷ chains) zero = refl
chain_mapped g (ps ∷ chains) (suc e) = chain_mapped g chains e

pub place_mapped : (g : Place → Place) (chains : List (List Place)) (e i : ℕ) → place_at (map (map g) chains) e i ≡ option_map g (place_at chains e i)
place_mapped g chains e i = ap (λ (ps : List Place). slice_get ps i) (chain_mapped g chains e) ∙ slice_get-map g (chain_at chains e) i

pub before_mapped : (g : Place → Place) (chains : List (List Place)) (e i : ℕ) → place_before (map (map g) chains) e i ≡ option_map g (place_before chains e i)
before_mapped g chains e zero = refl
before_mapped g chains e (suc i) = place_mapped g chains e i

pub dropped_at : {A : Type 0} (xs : List A) (i : ℕ) → slice_get (drop 1 xs) i ≡ slice_get xs (suc i)
dropped_at [] i = refl
dropped_at (x ∷ xs) i = refl

-- before a place is a place
pub earlier : {A : Type 0} (xs : List A) (i : ℕ) (x : A) → slice_get xs (suc i) ≡ Some x → (y : A) × (slice_get xs i ≡ Some y)
earlier [] i x e = some_none e refl
earlier (y ∷ xs) zero x e = (y, refl)
earlier (y ∷ xs) (suc i) x e = earlier xs i x e

pub lists_same : {A : Type 0} (xs ys : List A) → ((i : ℕ) → slice_get xs i ≡ slice_get ys i) → xs ≡ ys
lists_same [] [] h = refl
lists_same {A} [] (y ∷ ys) h = absurd (let e : None ≡ Some y = h 0 in cc)
lists_same {A} (x ∷ xs) [] h = absurd (let e : Some x ≡ None = h 0 in cc)
lists_same {A} (x ∷ xs) (y ∷ ys) h =
    let head : x ≡ y = (let e : Some x ≡ Some y = h 0 in cc) in
    ap (λ (z : A). z ∷ xs) head ∙ ap (λ (zs : List A). y ∷ zs) (lists_same xs ys (λ i. h (suc i)))

-- an entry without chains
pub no_chain : (n e : ℕ) → chain_at (replicate n []) e ≡ []
no_chain zero e = refl
no_chain (suc n) zero = refl
no_chain (suc n) (suc e) = no_chain n e

-- ---- owners

pub owner_named : (t : TableState) (e : ℕ) → e < t.names → owner t e ≡ e
owner_named t e h = elim (leb_tells (suc e) t.names) [ inl k ↦ ap (λ b. cond b e t.grows) k.0 | inr k ↦ absurd (let g = k.1 in omega (arith, g, h)) ]

pub owner_written : (t : TableState) (e : ℕ) → t.names ≤ e → owner t e ≡ t.grows
owner_written t e h = elim (leb_tells (suc e) t.names) [ inl k ↦ absurd (let g = k.1 in omega (arith, g, h)) | inr k ↦ ap (λ b. cond b e t.grows) k.0 ]

-- ---- chains

-- a place of a chain has room in a link
pub room_at : (t : TableState) (live : Place → Option Item) (e i : ℕ) → AreChains t live → HasRoomIf (place_at t.chains e i)
room_at t live e i are = by (place_at t.chains e i) refl
  where
    by : (o : Option Place) → place_at t.chains e i ≡ o → HasRoomIf o
    by None h = tt
    by (Some p) h = (let l = are.linked e i p h in l.room)

pub room_before : (t : TableState) (live : Place → Option Item) (e i : ℕ) → AreChains t live → HasRoomIf (place_before t.chains e i)
room_before t live e zero are = tt
room_before t live e (suc i) are = room_at t live e i are
