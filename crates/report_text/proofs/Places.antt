-- The places of the next parts, from one command to the next.
use Rattle.std.proofs.Common.{◌≡◌, ℕ, ◌+◌, ◌*◌, ◌^◌, ◌<◌, ◌≤◌, ◌≢◌, Bool, true, false, eqb, cond, List, length, map, set, get_or, refl, sym, ap, ◌∙◌, subst, arith, get_or-set_same, get_or-set_other}
use Rattle.std.proofs.lemmas.Bool.{eqb-true}
use Rattle.std.proofs.lemmas.Bool.Decides.{nat_tests}
use Rattle.std.proofs.lemmas.List.{get_or-map, length-map}
use Rattle.std.proofs.Math.Nat.{mul-le-mul_left}
use Rattle.trace_text.specs.declared.command.Command.{Command}
use Rattle.rows.specs.Operation.{Operation, is_scan}
use Rattle.trace_text.specs.Operation.{operation}
use Rattle.trace_text.specs.Parsed.{Parsed, trace_in}
use Rattle.trace_text.specs.Parts.{longest_value, origin}
use Rattle.trace_text.specs.Trace.{Trace}
use Rattle.rows.specs.Apply.{Reply}
use Rattle.cache_model.specs.Logged.{AreLogged}
use Rattle.cache_model.specs.ReadOff.{IsRead}
use Rattle.cache_model.specs.OwnParts.{parts_before, Log}
use Rattle.run_log.specs.Replies.{Replies}
use Rattle.report_text.specs.inside.Places.{ArePlaces}
use Rattle.report_text.specs.Views.{replies_in}

-- ---- the laws of parts and answers

abbrev pub GoUp : Type 0
GoUp = (trace : Trace) (n o i : ℕ) (d : Operation) → i < length trace.operations
    → parts_before trace n o (i + 1) ≡ parts_before trace n o i
    + cond (eqb (origin (get_or trace.operations i d).number n) o) (cond (is_scan (get_or trace.operations i d).kind) n 1) 0

abbrev pub AreFew : Type 0
AreFew = (trace : Trace) (n o i : ℕ) → 1 ≤ n → parts_before trace n o i ≤ i * n

abbrev pub AreReadBack : Type 0
AreReadBack = (trace : Trace) (n i : ℕ) (logs : List Log) (answers : List (ℕ × Reply)) (d : Operation) (e : Log) (f : ℕ × Reply)
    → AreLogged trace n logs answers → 1 ≤ n → i < length trace.operations
    → IsRead (longest_value trace) n (get_or trace.operations i d) (get_or logs (origin (get_or trace.operations i d).number n) e)
    (parts_before trace n (origin (get_or trace.operations i d).number n) i) (get_or answers i f)

-- ---- one command more

stepped : (here : Bool) (o p parts before : ℕ) (places : List ℕ) → eqb o p ≡ here → o < length places → get_or places p 0 ≡ before
    → get_or (set places o (get_or places o 0 + parts)) p 0 ≡ before + cond here parts 0
stepped true o p parts before places is within was =
    let same : o ≡ p = eqb-true o p is in
    subst (λ (q : ℕ). get_or (set places o (get_or places o 0 + parts)) q 0 ≡ before + parts) same
    (get_or-set_same places o (get_or places o 0 + parts) 0 within ∙ ap (λ b. b + parts) (ap (λ q. get_or places q 0) same ∙ was))
stepped false o p parts before places is within was =
    let other : p ≢ o = grind (arith, nat_tests) in
    let sum : before ≡ before + 0 = omega arith in
    get_or-set_other places o p (get_or places o 0 + parts) 0 other ∙ was ∙ sum

pub places_behind : GoUp → (trace : Parsed) (n i o parts first : ℕ) (d : Command) (places after : List ℕ) → i < length trace.commands → o < length places
    → o ≡ origin (get_or trace.commands i d).number n → parts ≡ cond (is_scan (get_or trace.commands i d).kind) n 1
    → first ≡ get_or places o 0 → after ≡ set places o (first + parts)
    → ArePlaces (trace_in trace) n i places → ArePlaces (trace_in trace) n (i + 1) after
places_behind up trace n i o parts first d places after below within origin-is parts-are first-is after-is are p p-below =
    let ops = map (operation trace.bytes) trace.commands in
    let one = get_or trace.commands i d in
    let op-is : get_or ops i (operation trace.bytes d) ≡ operation trace.bytes one = get_or-map (operation trace.bytes) trace.commands i d (operation trace.bytes d) below in
    let step = up (trace_in trace) n p i (operation trace.bytes d) (rw (length-map trace.commands (operation trace.bytes)) below) in
    let told : parts_before (trace_in trace) n p (i + 1) ≡ parts_before (trace_in trace) n p i + cond (eqb o p) parts 0 =
    step ∙ ap (λ (x : Operation). parts_before (trace_in trace) n p i + cond (eqb (origin x.number n) p) (cond (is_scan x.kind) n 1) 0) op-is
    ∙ ap (λ k. parts_before (trace_in trace) n p i + cond (eqb k p) (cond (is_scan one.kind) n 1) 0) (sym origin-is)
    ∙ ap (λ k. parts_before (trace_in trace) n p i + cond (eqb o p) k 0) (sym parts-are) in
    ap (λ (list : List ℕ). get_or list p 0) (after-is ∙ ap (λ k. set places o (k + parts)) first-is)
    ∙ stepped (eqb o p) o p parts (parts_before (trace_in trace) n p i) places refl within (are p p-below)
    ∙ sym told

pub room_for : AreFew → (trace : Trace) (n i o : ℕ) (places : List ℕ) → 1 ≤ n → n ≤ 16 → i < 1048576 → o < n → ArePlaces trace n i places
    → get_or places o 0 + n < 2 ^ 32
room_for few trace n i o places some most short below are =
    let bound : i * n ≤ i * 16 = mul-le-mul_left i most in
    omega (arith, few trace n o i some, are o below, bound)

-- ---- what is read there

moved : (longest n : ℕ) (op other : Operation) (log list : Log) (first start : ℕ) (answer : ℕ × Reply) → op ≡ other → log ≡ list → first ≡ start
    → IsRead longest n op log first answer → IsRead longest n other list start answer
moved longest n op other log list first start answer op-is log-is first-is p =
    subst (λ (o : Operation). IsRead longest n o list start answer) op-is
    (subst (λ (l : Log). IsRead longest n op l start answer) log-is
    (subst (λ (k : ℕ). IsRead longest n op log k answer) first-is p))

pub read_there : AreReadBack → (trace : Parsed) (n i o first : ℕ) (logs : List Replies) (log : Replies) (places : List ℕ) (answers : List (ℕ × Reply)) (d : Command) (f : ℕ × Reply)
    → AreLogged (trace_in trace) n (replies_in logs) answers → 1 ≤ n → i < length trace.commands → o < n → o < length logs
    → o ≡ origin (get_or trace.commands i d).number n → log ≡ get_or logs o log → first ≡ get_or places o 0 → ArePlaces (trace_in trace) n i places
    → IsRead (longest_value (trace_in trace)) n (operation trace.bytes (get_or trace.commands i d)) log.replies first (get_or answers i f)
read_there read trace n i o first logs log places answers d f logged some below o-below within origin-is log-is first-is are =
    let ops = map (operation trace.bytes) trace.commands in
    let one = get_or trace.commands i d in
    let op-is : get_or ops i (operation trace.bytes d) ≡ operation trace.bytes one = get_or-map (operation trace.bytes) trace.commands i d (operation trace.bytes d) below in
    let at : origin (get_or ops i (operation trace.bytes d)).number n ≡ o = ap (λ (x : Operation). origin x.number n) op-is ∙ sym origin-is in
    let here = read (trace_in trace) n i (replies_in logs) answers (operation trace.bytes d) log.replies f logged some
    (rw (length-map trace.commands (operation trace.bytes)) below) in
    moved (longest_value (trace_in trace)) n (get_or ops i (operation trace.bytes d)) (operation trace.bytes one)
    (get_or (replies_in logs) (origin (get_or ops i (operation trace.bytes d)).number n) log.replies) log.replies
    (parts_before (trace_in trace) n (origin (get_or ops i (operation trace.bytes d)).number n) i) first (get_or answers i f) op-is
    (ap (λ (k : ℕ). get_or (replies_in logs) k log.replies) at ∙ get_or-map (λ (l : Replies). l.replies) logs o log log.replies within ∙ ap (λ (l : Replies). l.replies) (sym log-is))
    (ap (λ (k : ℕ). parts_before (trace_in trace) n k i) at ∙ sym (are o o-below) ∙ sym first-is) here

-- the same where the shards and the commands go by other names
pub read_for : (trace : Parsed) (n i first : ℕ) (commands : List Command) (logs : List Replies) (log : Replies) (answers : List (ℕ × Reply)) (d : Command) (f : ℕ × Reply)
    → n ≡ trace.shards → commands ≡ trace.commands
    → ((all : List (ℕ × Reply)) (x : Command) (e : ℕ × Reply) → AreLogged (trace_in trace) trace.shards (replies_in logs) all
    → IsRead (longest_value (trace_in trace)) trace.shards (operation trace.bytes (get_or trace.commands i x)) log.replies first (get_or all i e))
    → AreLogged (trace_in trace) n (replies_in logs) answers
    → IsRead (longest_value (trace_in trace)) n (operation trace.bytes (get_or commands i d)) log.replies first (get_or answers i f)
read_for trace n i first commands logs log answers d f many are read logged =
    subst (λ (list : List Command). IsRead (longest_value (trace_in trace)) n (operation trace.bytes (get_or list i d)) log.replies first (get_or answers i f)) (sym are)
    (subst (λ (m : ℕ). IsRead (longest_value (trace_in trace)) m (operation trace.bytes (get_or trace.commands i d)) log.replies first (get_or answers i f)) (sym many)
    (read answers d f (subst (λ (m : ℕ). AreLogged (trace_in trace) m (replies_in logs) answers) many logged)))

-- an answer for each command
pub answers_for : ((trace : Trace) (n : ℕ) (logs : List Log) (answers : List (ℕ × Reply)) → AreLogged trace n logs answers → length answers ≡ length trace.operations)
    → (trace : Parsed) (n : ℕ) (commands : List Command) (logs : List Replies) (answers : List (ℕ × Reply)) → commands ≡ trace.commands → AreLogged (trace_in trace) n (replies_in logs) answers
    → length answers ≡ length commands
answers_for each trace n commands logs answers are logged =
    each (trace_in trace) n (replies_in logs) answers logged ∙ length-map trace.commands (operation trace.bytes) ∙ ap length (sym are)
