-- The tickets at each position of a history.
use Rattle.std.proofs.Common.{◌≡◌, ℕ, zero, suc, ◌<◌, List, [], ◌∷◌, length, take, Option, Some, None, IsSome, IsSomeAnd, IfSome, unwrap_or, slice_get, refl, sym, subst, arith}
use Rattle.std.proofs.lemmas.List.{length-replicate}
use Rattle.std.specs.Option.{option_and_then}
use Rattle.std.proofs.lemmas.Bool.{false≢true}
use Rattle.foreign_core.specs.Tickets.{Tickets, start, step}
use Rattle.foreign_core.specs.Places.{InOneState}
use Rattle.foreign_core.specs.Histories.{run, IsPossible, before}
use Rattle.foreign_core.specs.declared.event.Event.{Event}
use Rattle.foreign_core.proofs.PlaceLemmas.{start_place}
use Rattle.foreign_core.proofs.StepLemmas.{step_keeps}

abbrev pub tickets_at : Tickets → ℕ → List Event → Tickets
tickets_at s zero events = s
tickets_at s (suc k) [] = s
tickets_at s (suc k) (event ∷ events) = tickets_at (unwrap_or (step s event) s) k events

run_before : (events : List Event) (s : Tickets) (k : ℕ) → IsSome (run s events) → run s (take k events) ≡ Some (tickets_at s k events)
run_before events s zero possible = refl
run_before [] s (suc k) possible = refl
run_before (event ∷ events) s (suc k) possible =
    (elim (step s event) as (λ o. IsSome (option_and_then (λ next. run next events) o) → option_and_then (λ next. run next (take k events)) o ≡ Some (tickets_at (unwrap_or o s) k events)) [
      | None ↦ λ none. absurd (false≢true none)
      | Some next ↦ λ rest. run_before events next k rest
    ]) possible

step_at : (events : List Event) (s : Tickets) (k : ℕ) (event : Event) → IsSome (run s events) → slice_get events k ≡ Some event
    → step (tickets_at s k events) event ≡ Some (tickets_at s (suc k) events)
step_at [] s k event possible here = absurd cc
step_at (first ∷ events) s zero event possible here =
    (elim (step s first) as (λ o. step s first ≡ o → IsSome (option_and_then (λ next. run next events) o) → step s event ≡ Some (unwrap_or o s)) [
      | None ↦ λ e none. absurd (false≢true none)
      | Some next ↦ λ e rest. let same : first ≡ event = cc in rw (← same) e
    ]) refl possible
step_at (first ∷ events) s (suc k) event possible here =
    (elim (step s first) as (λ o. IsSome (option_and_then (λ next. run next events) o) → step (tickets_at (unwrap_or o s) k events) event ≡ Some (tickets_at (unwrap_or o s) (suc k) events)) [
      | None ↦ λ none. absurd (false≢true none)
      | Some next ↦ λ rest. step_at events next k event rest here
    ]) possible

run_keeps : (n : ℕ) (events : List Event) (s : Tickets) → InOneState n s → IfSome (run s events) (InOneState n)
run_keeps n [] s p = p
run_keeps n (event ∷ events) s p =
    (elim (step s event) as (λ o. IfSome o (InOneState n) → IfSome (option_and_then (λ next. run next events) o) (InOneState n)) [
      | None ↦ λ none. tt
      | Some next ↦ λ q. run_keeps n events next q
    ]) (step_keeps n s event p)

-- What is so in each case, is so in this one.
pub IfSome_at : {A : Type 0} (o : Option A) (x : A) (P : A → Type 0) → o ≡ Some x → IfSome o P → P x
IfSome_at o x P e p = let Q : Option _ → Type 0 = λ w. IfSome w P in subst Q e p

pub IsSomeAnd_at : {A : Type 0} (o : Option A) (x : A) (P : A → Type 0) → o ≡ Some x → IsSomeAnd o P → P x
IsSomeAnd_at o x P e p = let Q : Option _ → Type 0 = λ w. IsSomeAnd w P in subst Q e p

pub IsSomeAnd_from : {A : Type 0} (o : Option A) (x : A) (P : A → Type 0) → o ≡ Some x → P x → IsSomeAnd o P
IsSomeAnd_from o x P e p = let Q : Option _ → Type 0 = λ w. IsSomeAnd w P in subst Q (sym e) p

start_state : (n : ℕ) → InOneState n (start n)
start_state n = record { number = length-replicate n _; place = start_place n }

-- each ticket is in one state, after every history
pub each_in_one_state : (n : ℕ) (events : List Event) (s : Tickets) → run (start n) events ≡ Some s → InOneState n s
each_in_one_state n events s e = IfSome_at (run (start n) events) s (InOneState n) e (run_keeps n events (start n) (start_state n))

-- the tickets before a position of a possible history
abbrev pub at_position : ℕ → List Event → ℕ → Tickets
at_position n events k = tickets_at (start n) k events

pub before_is : (n : ℕ) (events : List Event) (k : ℕ) → IsPossible n events → before n events k ≡ Some (at_position n events k)
before_is n events k possible = run_before events (start n) k possible

pub state_at : (n : ℕ) (events : List Event) (k : ℕ) → IsPossible n events → InOneState n (at_position n events k)
state_at n events k possible = each_in_one_state n (take k events) (at_position n events k) (before_is n events k possible)

pub next_at : (n : ℕ) (events : List Event) (k : ℕ) (event : Event) → IsPossible n events → slice_get events k ≡ Some event
    → step (at_position n events k) event ≡ Some (at_position n events (suc k))
next_at n events k event possible here = step_at events (start n) k event possible here

pub event_at : (events : List Event) (k : ℕ) → k < length events → (event : Event) × (slice_get events k ≡ Some event)
event_at [] k h = absurd (omega arith)
event_at (event ∷ events) zero h = (event, refl)
event_at (first ∷ events) (suc k) h = event_at events k (omega arith)

-- the events after one that was possible
pub run_more : (s : Tickets) (event : Event) (events : List Event) → IsSome (step s event) → run (unwrap_or (step s event) s) events ≡ run s (event ∷ events)
run_more s event events possible =
    (elim (step s event) as (λ o. IsSome o → run (unwrap_or o s) events ≡ option_and_then (λ next. run next events) o) [
      | None ↦ λ none. absurd (false≢true none)
      | Some next ↦ λ some. refl
    ]) possible
