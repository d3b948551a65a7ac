-- What the tests open their nodes with.
use Rattle.std.proofs.Common.{◌≡◌, ℕ, ◌+◌, ◌-◌, ◌<◌, List, [], ◌∷◌, ◌++◌, Vec, length, length-append, inl, inr, get_or, Option, Some, Result, Ok, Err, IfOk, slice_get, arith, ap, sym, subst, ◌∙◌}
use Rattle.std.specs.List.{All}
use Rattle.std.specs.declared.alloc.Global.{Global}
use Rattle.std.specs.declared.alloc.AllocError.{AllocError}
use Rattle.std.specs.Option.{option_to_list}
use Rattle.std.proofs.lemmas.Bool.{cases_eq}
use Rattle.std.proofs.lemmas.List.{get_or_append_left, get_or-append_right}
use Rattle.std.proofs.lemmas.Option.{slice_get-get_or}
use Rattle.foreign_list.specs.Lists.{OwnedList}
use Rattle.foreign_list.specs.OwnerSeats.{OwnerState, IsAtRest}
use Rattle.shard_rings.specs.Links.{LinkState, Outgoing, Incoming}
use Rattle.shard_rings.specs.Mesh.{IsMesh}
use Rattle.shard_drive.specs.Trials.{AreReady, AreUnused, IsReady}

-- what stands behind a list is at its length
last-at : {A : Type 0} (xs : List A) (x d : A) (k : ℕ) → k ≡ length xs → get_or (xs ++ x ∷ []) k d ≡ x
last-at xs x d k is =
    get_or-append_right xs (x ∷ []) k k d (sym is) (omega arith) ∙ ap (λ (j : ℕ). get_or (x ∷ []) j d) (let none : k - k ≡ 0 = omega arith in none)

pub ready-next : (homes : List OwnedList) (seats : List OwnerState) (home : OwnedList) (seat : OwnerState) (n : ℕ) → length homes ≡ n → length seats ≡ n
    → home.owner ≡ n → IsAtRest home seat → AreReady homes seats → AreReady (homes ++ home ∷ []) (seats ++ seat ∷ [])
ready-next homes seats home seat n many count owner rest ready k d e below = elim (cases_eq k n) [
  | inl same ↦
      let is : IsReady k home seat = record { owner = owner ∙ sym same; at_rest = rest } in
      subst (λ (h : OwnedList). IsReady k h (get_or (seats ++ seat ∷ []) k e)) (sym (last-at homes home d k (same ∙ sym many)))
      (subst (λ (s : OwnerState). IsReady k home s) (sym (last-at seats seat e k (same ∙ sym count))) is)
  | inr ne ↦
      let longer : length (seats ++ seat ∷ []) ≡ n + 1 = length-append seats (seat ∷ []) ∙ ap (λ (m : ℕ). m + 1) count in
      let before : k < n = omega (arith, longer, below, ne) in
      let in_homes : k < length homes = subst (λ (m : ℕ). k < m) (sym many) before in
      let in_seats : k < length seats = subst (λ (m : ℕ). k < m) (sym count) before in
      subst (λ (h : OwnedList). IsReady k h (get_or (seats ++ seat ∷ []) k e)) (sym (get_or_append_left homes (home ∷ []) d k in_homes))
      (subst (λ (s : OwnerState). IsReady k (get_or homes k d) s) (sym (get_or_append_left seats (seat ∷ []) e k in_seats)) (ready k d e in_seats))
]

pub ready-less : (homes : List OwnedList) (seats : List OwnerState) (seat : OwnerState) → AreReady homes (seats ++ seat ∷ []) → AreReady homes seats
ready-less homes seats seat ready k d e below =
    let longer : length (seats ++ seat ∷ []) ≡ length seats + 1 = length-append seats (seat ∷ []) in
    subst (λ (s : OwnerState). IsReady k (get_or homes k d) s) (get_or_append_left seats (seat ∷ []) e k below) (ready k d e (omega (arith, longer, below)))

-- the last of a list was taken, and it was there
pub one-less : {A : Type 0} (old new : List A) (r : Option A) (x : A) → old ≡ new ++ option_to_list r → r ≡ Some x → length old ≡ length new + 1
one-less old new r x items is = ap length (items ∙ ap (λ o. new ++ option_to_list o) is) ∙ length-append new (x ∷ [])

unused-links : (n : ℕ) (links : List (Vec LinkState Global)) → length links ≡ n → IsMesh links → All (AreUnused n) links
unused-links n links many mesh k d below =
    let own = get_or links k d in
    let at : slice_get links k ≡ Some own = slice_get-get_or links k d below in
    record {
      one_each = mesh.lengths k own at ∙ many;
      unused = λ j e within.
          let unused = mesh.unused k j (get_or own.items j e) (record { own = own; own_at = at; end_at = slice_get-get_or own.items j e within }) in
          record { sent = ap (λ (o : Outgoing). o.sent) unused.0; received = ap (λ (i : Incoming). i.received) unused.1 };
    }

pub unused-or-none : (n : ℕ) (r : Result (Vec (Vec LinkState Global) Global) AllocError) → IfOk r (λ links. length links.items ≡ n) → IfOk r (λ links. IsMesh links.items)
    → IfOk r (λ links. All (AreUnused n) links.items)
unused-or-none n (Ok links) many mesh = unused-links n links.items many mesh
unused-or-none n (Err e) many mesh = tt
