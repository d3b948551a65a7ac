-- Each event keeps each ticket in one place.
use Rattle.std.proofs.Common.{length-set, ◌≡◌, ℕ, zero, suc, ◌+◌, ◌<◌, ◌≤◌, ◌⊎◌, cond, nat_lt, List, [], ◌∷◌, length, map, replicate, set, Option, Some, None, slice_get, refl, sym, ◌∙◌, ap, arith, inl, inr}
use Rattle.std.specs.Option.{option_map}
use Rattle.std.proofs.lemmas.Bool.{cases_eq, eq-eqb, ne_eqb, lt-ltb, cases_lt}
use Rattle.std.proofs.lemmas.Bool.Decides.{nat_tests}
use Rattle.std.proofs.lemmas.Option.{slice_get-map, slice_get_past}
use Rattle.foreign_core.specs.Tickets.{Tickets, start, state_of, becomes, listed_first, taken}
use Rattle.foreign_core.specs.Places.{InOnePlace, IsOff, times_on, listed_times, walked_times}
use Rattle.foreign_core.specs.declared.ticket_state.TicketState.{TicketState}
use Rattle.foreign_core.specs.declared.ticket_state.TicketState.TheVariants.{Idle, Listed, Walked}

-- an element that was written, and one beside it
pub slice_get-set_same : {X : Type 0} (xs : List X) (i : ℕ) (x : X) → i < length xs → slice_get (set xs i x) i ≡ Some x
slice_get-set_same [] i x h = absurd (omega arith)
slice_get-set_same (y ∷ ys) zero x h = refl
slice_get-set_same (y ∷ ys) (suc i) x h = slice_get-set_same ys i x (omega arith)

pub slice_get-set_other : {X : Type 0} (xs : List X) (i j : ℕ) (x : X) → (j ≡ i → ⊥) → slice_get (set xs i x) j ≡ slice_get xs j
slice_get-set_other [] i j x ne = refl
slice_get-set_other (y ∷ ys) zero zero x ne = absurd (ne refl)
slice_get-set_other (y ∷ ys) zero (suc j) x ne = refl
slice_get-set_other (y ∷ ys) (suc i) zero x ne = refl
slice_get-set_other (y ∷ ys) (suc i) (suc j) x ne = slice_get-set_other ys i j x (λ e. ne (ap suc e))

pub slice_get-replicate : {X : Type 0} (n i : ℕ) (x : X) → (slice_get (replicate n x) i ≡ None) ⊎ (slice_get (replicate n x) i ≡ Some x)
slice_get-replicate zero i x = inl refl
slice_get-replicate (suc n) zero x = inr refl
slice_get-replicate (suc n) (suc i) x = slice_get-replicate n i x

-- once more on the list, and not the other
pub times_on_first : (t : ℕ) (xs : List ℕ) → times_on (t ∷ xs) t ≡ suc (times_on xs t)
times_on_first t xs = rw (eq-eqb t t refl) (omega arith)

pub times_on_other : (t u : ℕ) (xs : List ℕ) → (u ≡ t → ⊥) → times_on (t ∷ xs) u ≡ times_on xs u
times_on_other t u xs ne = rw (ne_eqb u t ne) (omega arith)

-- a ticket that is on no list is there, and is on no list
pub off_within : (xs : List TicketState) (t : ℕ) → IsOff (slice_get xs t) → t < length xs
off_within [] t off = absurd off
off_within (x ∷ xs) zero off = omega arith
off_within (x ∷ xs) (suc t) off = omega (arith, off_within xs t off)

pub off_list : (o : Option TicketState) → IsOff o → listed_times o ≡ 0
off_list (Some Listed) off = absurd off
off_list _ off = refl

pub off_walk : (o : Option TicketState) → IsOff o → walked_times o ≡ 0
off_walk (Some Walked) off = absurd off
off_walk _ off = refl

-- where no ticket is lent, each is in one place
pub start_place : (n : ℕ) → InOnePlace (start n)
start_place n = record {
  on_list = λ t. elim (slice_get-replicate n t Idle) [ inl e ↦ rw e refl | inr e ↦ rw e refl ];
  on_walk = λ t. elim (slice_get-replicate n t Idle) [ inl e ↦ rw e refl | inr e ↦ rw e refl ];
}

pub becomes_place : (s : Tickets) (t : ℕ) (x : TicketState) → InOnePlace s → IsOff (state_of s t) → IsOff (Some x) → InOnePlace (becomes s t x)
becomes_place s t x p from to =
    let within : t < length s.states = off_within s.states t from in
    record {
      on_list = λ u. elim (cases_eq u t) [
        | inl e ↦ rw (e, slice_get-set_same s.states t x within, off_list (Some x) to) (rw (p.on_list t) (off_list (state_of s t) from))
        | inr ne ↦ rw (slice_get-set_other s.states t u x ne) (p.on_list u)
      ];
      on_walk = λ u. elim (cases_eq u t) [
        | inl e ↦ rw (e, slice_get-set_same s.states t x within, off_walk (Some x) to) (rw (p.on_walk t) (off_walk (state_of s t) from))
        | inr ne ↦ rw (slice_get-set_other s.states t u x ne) (p.on_walk u)
      ];
    }

pub listed_place : (s : Tickets) (t : ℕ) → InOnePlace s → IsOff (state_of s t) → InOnePlace (listed_first s t)
listed_place s t p from =
    let within : t < length s.states = off_within s.states t from in
    record {
      on_list = λ u. elim (cases_eq u t) [
        | inl e ↦ rw (e, slice_get-set_same s.states t Listed within) (rw (times_on_first t s.listed) (ap suc (rw (p.on_list t) (off_list (state_of s t) from))))
        | inr ne ↦ rw (slice_get-set_other s.states t u Listed ne, times_on_other t u s.listed ne) (p.on_list u)
      ];
      on_walk = λ u. elim (cases_eq u t) [
        | inl e ↦ rw (e, slice_get-set_same s.states t Listed within) (rw (p.on_walk t) (off_walk (state_of s t) from))
        | inr ne ↦ rw (slice_get-set_other s.states t u Listed ne) (p.on_walk u)
      ];
    }

listed-taken : (o : Option TicketState) → listed_times (option_map taken o) ≡ 0
listed-taken (Some Listed) = refl
listed-taken _ = refl

walked-taken : (o : Option TicketState) → walked_times (option_map taken o) ≡ listed_times o + walked_times o
walked-taken (Some Listed) = refl
walked-taken _ = refl

pub take_place : (s : Tickets) → InOnePlace s → s.walk ≡ [] → InOnePlace (record { states = map taken s.states; listed = []; walk = s.listed })
take_place s p none = record {
  on_list = λ u. rw (slice_get-map taken s.states u) (sym (listed-taken (state_of s u)));
  on_walk = λ u.
      let no_walk : times_on s.walk u ≡ 0 = rw none refl in
      rw (slice_get-map taken s.states u, walked-taken (state_of s u)) (omega (arith, p.on_list u, p.on_walk u, no_walk));
}

walked_within : (xs : List TicketState) (t n : ℕ) → suc n ≡ walked_times (slice_get xs t) → t < length xs
walked_within [] t n e = absurd (omega arith)
walked_within (x ∷ xs) zero n e = omega arith
walked_within (x ∷ xs) (suc t) n e = omega (arith, walked_within xs t n e)

walked_once : (o : Option TicketState) (n : ℕ) → suc n ≡ walked_times o → (n ≡ 0) × (listed_times o ≡ 0) × (o ≡ Some Walked)
walked_once (Some Walked) n e = (omega arith, refl, refl)
walked_once _ n e = absurd (omega arith)

-- the first of the walk is a ticket that is there, is walked and stands nowhere else
pub first_walked : (s : Tickets) (t : ℕ) (rest : List ℕ) → InOnePlace s → s.walk ≡ t ∷ rest → state_of s t ≡ Some Walked
first_walked s t rest p w =
    let e : suc (times_on rest t) ≡ walked_times (state_of s t) = sym (times_on_first t rest) ∙ (rw w at (p.on_walk t)) in
    (walked_once (state_of s t) (times_on rest t) e).2

pub first_not_again : (s : Tickets) (t : ℕ) (rest : List ℕ) → InOnePlace s → s.walk ≡ t ∷ rest → times_on rest t ≡ 0
first_not_again s t rest p w =
    let e : suc (times_on rest t) ≡ walked_times (state_of s t) = sym (times_on_first t rest) ∙ (rw w at (p.on_walk t)) in
    (walked_once (state_of s t) (times_on rest t) e).0

pub back_place : (s : Tickets) (t : ℕ) (rest : List ℕ) → InOnePlace s → s.walk ≡ t ∷ rest → InOnePlace (record { states = set s.states t Idle; listed = s.listed; walk = rest })
back_place s t rest p w =
    let e : suc (times_on rest t) ≡ walked_times (state_of s t) = sym (times_on_first t rest) ∙ (rw w at (p.on_walk t)) in
    let within : t < length s.states = walked_within s.states t (times_on rest t) e in
    let once : (times_on rest t ≡ 0) × (listed_times (state_of s t) ≡ 0) × (state_of s t ≡ Some Walked) = walked_once (state_of s t) (times_on rest t) e in
    record {
      on_list = λ u. elim (cases_eq u t) [
        | inl same ↦ rw (same, slice_get-set_same s.states t Idle within) (rw (p.on_list t) once.1)
        | inr ne ↦ rw (slice_get-set_other s.states t u Idle ne) (p.on_list u)
      ];
      on_walk = λ u. elim (cases_eq u t) [
        | inl same ↦ rw (same, slice_get-set_same s.states t Idle within) once.0
        | inr ne ↦ rw (slice_get-set_other s.states t u Idle ne) (sym (times_on_other t u rest ne) ∙ (rw w at (p.on_walk u)))
      ];
    }

-- A list that has each of n tickets at most once, and no other, is no longer than n.
abbrev below : ℕ → List ℕ → ℕ
below n [] = 0
below n (x ∷ xs) = cond (nat_lt x n) 1 0 + below n xs

below_more : (n : ℕ) (xs : List ℕ) → below (suc n) xs ≡ below n xs + times_on xs n
below_more n [] = refl
below_more n (x ∷ xs) = grind (arith, below_more n xs, nat_tests)

at_most_below : (n : ℕ) (xs : List ℕ) → ((u : ℕ) → times_on xs u ≤ 1) → below n xs ≤ n
at_most_below zero xs once = no_below xs
  where
    no_below : (ys : List ℕ) → below 0 ys ≤ 0
    no_below [] = omega arith
    no_below (y ∷ ys) = grind (arith, no_below ys, nat_tests)
at_most_below (suc n) xs once = rw (below_more n xs) (omega (arith, at_most_below n xs once, once n))

all_below : (n : ℕ) (xs : List ℕ) → ((u : ℕ) → n ≤ u → times_on xs u ≡ 0) → length xs ≡ below n xs
all_below n [] none = refl
all_below n (x ∷ xs) none =
    let first : x < n = elim (cases_lt x n) [ inl h ↦ h | inr h ↦ absurd (omega (arith, times_on_first x xs, none x h)) ] in
    let rest : (u : ℕ) → n ≤ u → times_on xs u ≡ 0 = λ u h. omega (arith, none u h) in
    rw (lt-ltb x n first) (omega (arith, all_below n xs rest))

listed_at_most : (o : Option TicketState) → listed_times o ≤ 1
listed_at_most (Some Listed) = omega arith
listed_at_most _ = omega arith

-- the list is no longer than there are tickets
pub length-listed : (s : Tickets) → InOnePlace s → length s.listed ≤ length s.states
length-listed s p =
    let once : (u : ℕ) → times_on s.listed u ≤ 1 = λ u. rw (p.on_list u) (listed_at_most (state_of s u)) in
    let none : (u : ℕ) → length s.states ≤ u → times_on s.listed u ≡ 0 = λ u h. p.on_list u ∙ (rw (slice_get_past s.states u h) refl) in
    rw (all_below (length s.states) s.listed none) (at_most_below (length s.states) s.listed once)

-- a list with room for all tickets has room for one that isn't on it
pub room_for : (s : Tickets) (t room : ℕ) → InOnePlace s → IsOff (state_of s t) → length s.states ≤ room → length s.listed < room
room_for s t room p from all =
    omega (arith, length-listed (listed_first s t) (listed_place s t p from), length-set s.states t Listed)
