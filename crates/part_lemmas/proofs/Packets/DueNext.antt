-- What a peer should say next: the request of the first of the commands that it still will ask, or Bye where none is left.
use Rattle.std.proofs.Common.{◌≡◌, ℕ, zero, suc, ◌+◌, ◌≤◌, Bool, true, false, List, [], ◌∷◌, ◌++◌, length, map, drop, fold, slice_get, arith, refl, Option, Some, None, if◌then◌else◌}
use Rattle.std.specs.Option.{option_map}
use Rattle.std.proofs.lemmas.Option.{slice_get_within}
use Rattle.rows.specs.Operation.{Operation}
use Rattle.shard_rings.specs.Request.{request}
use Rattle.shard_rings.specs.declared.link.Packet.{Packet}
use Rattle.part_lemmas.specs.Due.{is_next, is_same, is_same_as, requests_taken, said, then_taken}

-- what is due for these operations
abbrev pub due_for : List Operation → List (Option (List ℕ))
due_for operations = map (λ operation. Some (request operation)) operations ++ None ∷ []

pub due-next : (operations : List Operation) (taken : ℕ) (packet : Packet) → taken ≤ length operations
    → is_next (due_for operations) taken packet ≡ is_same (option_map request (slice_get (drop taken operations) 0)) (said packet)
due-next [] zero packet within = refl
due-next [] (suc taken) packet within = absurd (omega (arith, within))
due-next (operation ∷ operations) zero packet within = refl
due-next (operation ∷ operations) (suc taken) packet within = due-next operations taken packet (omega (arith, within))

false-true : false ≡ true → ⊥
false-true e = cc

-- no more is taken than was due
next-within : (due : List (Option (List ℕ))) (taken : ℕ) (packet : Packet) → is_next due taken packet ≡ true → taken + 1 ≤ length due
next-within due taken packet next = go (slice_get due taken) refl next
  where
    go : (what : Option (Option (List ℕ))) → slice_get due taken ≡ what → is_same_as what (said packet) ≡ true → taken + 1 ≤ length due
    go None is same = absurd (false-true same)
    go (Some what) is same = let within = slice_get_within due taken what is in omega (arith, within)

taken-from : (due : List (Option (List ℕ))) (taken : ℕ) (packets : List Packet) → taken ≤ length due → fold (then_taken due) taken packets ≤ length due
taken-from due taken [] within = within
taken-from due taken (packet ∷ packets) within = taken-from due (then_taken due taken packet) packets (go (is_next due taken packet) refl)
  where
    go : (b : Bool) → is_next due taken packet ≡ b → (if b then taken + 1 else taken) ≤ length due
    go true next = next-within due taken packet next
    go false next = within

pub taken-most : (due : List (Option (List ℕ))) (packets : List Packet) → requests_taken due packets ≤ length due
taken-most due packets = taken-from due 0 packets (omega arith)
