-- What several texts that were added one behind another are together.
use Rattle.std.proofs.Common.{◌≡◌, ℕ, ◌+◌, ◌<◌, ◌≤◌, List, [], ◌++◌, length, take, drop, get_or, map, Ok, Err, sym, ap, ◌∙◌, subst, zero-add}
use Rattle.std.specs.List.{flat_map, enumerate_from}
use Rattle.std.proofs.lemmas.List.{flat_map_more, take_more, take-append-drop, get_or-map, length-map, take_all}
use Rattle.std.proofs.lemmas.List.Concat.{flat_map-append}
use Rattle.std.proofs.lemmas.List.FromFn.{length-enumerate_from, get_or-enumerate_from}
use Rattle.outside.specs.declared.failure.Failed.{Failed}
use Rattle.text_lemmas.specs.Writing.{Output, Writes}
use Rattle.text_lemmas.proofs.Written.{Writes-then, Writes-stop}

-- the text was added with no failure
abbrev pub Added : Output → Output → List ℕ → Type 0
Added a b text = Writes {T = Unit {0}} {E = Failed} (Ok tt) a b text

-- ---- the texts of a list, one behind another

flat_map-next : {X : Type 0} (f : X → List ℕ) (xs : List X) (i : ℕ) (d : X) → i < length xs → flat_map f (take (i + 1) xs) ≡ flat_map f (take i xs) ++ f (get_or xs i d)
flat_map-next f xs i d within = ap (flat_map f) (take_more xs i d within) ∙ sym (flat_map_more f [] (take i xs) (get_or xs i d))

flat_map-split : {X : Type 0} (f : X → List ℕ) (xs : List X) (n : ℕ) → flat_map f xs ≡ flat_map f (take n xs) ++ flat_map f (drop n xs)
flat_map-split f xs n = ap (flat_map f) (sym (take-append-drop n xs)) ∙ flat_map-append f (take n xs) (drop n xs)

-- one text more
pub Writes-next : {T E X : Type 0} {u v : T} {a b c : Output} (f : X → List ℕ) (xs : List X) (i : ℕ) (d : X) → i < length xs
    → Writes {T = T} {E = E} (Ok u) a b (flat_map f (take i xs)) → Writes {T = T} {E = E} (Ok v) b c (f (get_or xs i d)) → Writes {T = T} {E = E} (Ok v) a c (flat_map f (take (i + 1) xs))
Writes-next {a = a} {c = c} f xs i d within p q = subst (Writes (Ok _) a c) (sym (flat_map-next f xs i d within)) (Writes-then p q)

-- a failure in one of the texts
pub Writes-broken : {T E X : Type 0} {u : T} {e : E} {a b c : Output} (f : X → List ℕ) (xs : List X) (i : ℕ) (d : X) → i < length xs
    → Writes {T = T} {E = E} (Ok u) a b (flat_map f (take i xs)) → Writes {T = T} {E = E} (Err e) b c (f (get_or xs i d)) → Writes {T = T} {E = E} (Err e) a c (flat_map f xs)
Writes-broken {a = a} {c = c} f xs i d within p q =
    let so_far : flat_map f (take i xs) ++ f (get_or xs i d) ≡ flat_map f (take (i + 1) xs) = sym (flat_map-next f xs i d within) in
    subst (Writes (Err _) a c) (ap (λ l. l ++ flat_map f (drop (i + 1) xs)) so_far ∙ sym (flat_map-split f xs (i + 1))) (Writes-stop _ (Writes-then p q))

pub Writes-next-at : {T E X : Type 0} {u v : T} {a b c : Output} (f : X → List ℕ) (xs : List X) (i : ℕ) (x : X) → i < length xs → get_or xs i x ≡ x
    → Writes {T = T} {E = E} (Ok u) a b (flat_map f (take i xs)) → Writes {T = T} {E = E} (Ok v) b c (f x) → Writes {T = T} {E = E} (Ok v) a c (flat_map f (take (i + 1) xs))
Writes-next-at {T} {E} {v = v} {b = b} {c = c} f xs i x within is p q = Writes-next f xs i x within p (subst (λ y. Writes {T = T} {E = E} (Ok v) b c (f y)) (sym is) q)

pub Writes-broken-at : {T E X : Type 0} {u : T} {e : E} {a b c : Output} (f : X → List ℕ) (xs : List X) (i : ℕ) (x : X) → i < length xs → get_or xs i x ≡ x
    → Writes {T = T} {E = E} (Ok u) a b (flat_map f (take i xs)) → Writes {T = T} {E = E} (Err e) b c (f x) → Writes {T = T} {E = E} (Err e) a c (flat_map f xs)
Writes-broken-at {T} {E} {e = e} {b = b} {c = c} f xs i x within is p q = Writes-broken f xs i x within p (subst (λ y. Writes {T = T} {E = E} (Err e) b c (f y)) (sym is) q)

-- all texts were put
pub Writes-all : {T E X : Type 0} {u : T} {a b : Output} (f : X → List ℕ) (xs : List X) (n : ℕ) → length xs ≤ n → Writes {T = T} {E = E} (Ok u) a b (flat_map f (take n xs))
    → Writes {T = T} {E = E} (Ok u) a b (flat_map f xs)
Writes-all {a = a} {b = b} f xs n past p = subst (Writes (Ok _) a b) (ap (flat_map f) (take_all n xs past)) p

-- an element with its number
pub numbered_at : {X Y : Type 0} (g : X → Y) (xs : List X) (i : ℕ) (x : X) → i < length xs → get_or xs i x ≡ x → get_or (enumerate_from 0 (map g xs)) i (i, g x) ≡ (i, g x)
numbered_at g xs i x within is =
    get_or-enumerate_from 0 (map g xs) i (i, g x) (simp length-map within) ∙ ap (λ n. (n, get_or (map g xs) i (g x))) (zero-add i)
    ∙ ap (λ y. (i, y)) (get_or-map g xs i x (g x) within ∙ ap g is)

-- how many there are
numbered_length : {X Y : Type 0} (g : X → Y) (xs : List X) → length (enumerate_from 0 (map g xs)) ≡ length xs
numbered_length g xs = length-enumerate_from 0 (map g xs) ∙ simp length-map

pub Writes-all-numbered : {T E X Y : Type 0} {u : T} {a b : Output} (f : ℕ × Y → List ℕ) (g : X → Y) (xs : List X) (n : ℕ) → length xs ≤ n
    → Writes {T = T} {E = E} (Ok u) a b (flat_map f (take n (enumerate_from 0 (map g xs)))) → Writes {T = T} {E = E} (Ok u) a b (flat_map f (enumerate_from 0 (map g xs)))
Writes-all-numbered f g xs n past p = Writes-all f (enumerate_from 0 (map g xs)) n (subst (λ m. m ≤ n) (sym (numbered_length g xs)) past) p

pub Writes-next-numbered : {T E X Y : Type 0} {u v : T} {a b c : Output} (f : ℕ × Y → List ℕ) (g : X → Y) (xs : List X) (i : ℕ) (x : X) → i < length xs → get_or xs i x ≡ x
    → Writes {T = T} {E = E} (Ok u) a b (flat_map f (take i (enumerate_from 0 (map g xs)))) → Writes {T = T} {E = E} (Ok v) b c (f (i, g x))
    → Writes {T = T} {E = E} (Ok v) a c (flat_map f (take (i + 1) (enumerate_from 0 (map g xs))))
Writes-next-numbered f g xs i x within is p q =
    Writes-next-at f (enumerate_from 0 (map g xs)) i (i, g x) (subst (λ n. i < n) (sym (numbered_length g xs)) within) (numbered_at g xs i x within is) p q

pub Writes-broken-numbered : {T E X Y : Type 0} {u : T} {e : E} {a b c : Output} (f : ℕ × Y → List ℕ) (g : X → Y) (xs : List X) (i : ℕ) (x : X) → i < length xs → get_or xs i x ≡ x
    → Writes {T = T} {E = E} (Ok u) a b (flat_map f (take i (enumerate_from 0 (map g xs)))) → Writes {T = T} {E = E} (Err e) b c (f (i, g x))
    → Writes {T = T} {E = E} (Err e) a c (flat_map f (enumerate_from 0 (map g xs)))
Writes-broken-numbered f g xs i x within is p q =
    Writes-broken-at f (enumerate_from 0 (map g xs)) i (i, g x) (subst (λ n. i < n) (sym (numbered_length g xs)) within) (numbered_at g xs i x within is) p q
