-- Where commands go, as it is written down while a trace is read.
use Rattle.std.proofs.Common.{◌≡◌, ℕ, suc, ◌+◌, ◌-◌, ◌<◌, ◌≤◌, ◌%◌, List, [], ◌∷◌, ◌++◌, length, map, get_or, arith, refl, sym, ap, ◌∙◌}
use Rattle.std.proofs.Math.Nat.{mod-lt}
use Rattle.std.proofs.lemmas.List.{get_or-map, length-map, map-append}
use Rattle.trace_text.specs.declared.command.Command.{Command}
use Rattle.rows.specs.declared.kind.Kind.TheVariants.{Put}
use Rattle.trace_text.specs.declared.route.Route.{Route}
use Rattle.rows.specs.Operation.{Operation}
use Rattle.trace_text.specs.Operation.{operation, operations}
use Rattle.trace_text.specs.Parsed.{AreNumbered}
use Rattle.trace_text.specs.Parts.{hash, origin}
use Rattle.trace_text.specs.inside.Found.{IsKeyAt, LiesAt}
use Rattle.trace_text.specs.inside.Routes.{AddsRoute, AreRoutedAt, route, route_of, routes}
use Rattle.trace_text.proofs.LinesRead.{Reads}
use Rattle.trace_text.proofs.Offsets.{lies_within}

-- for places behind the end
abbrev pub no_command : Command
no_command = record { number = 0; line = 0; kind = Put; table = 0; key = record { start = 0; len = 0 }; value = record { start = 0; len = 0 }; count = 0 }

abbrev pub no_operation : Operation
no_operation = operation [] no_command

abbrev pub no_route : Route
no_route = record { kind = Put; owner = 0 }

-- a command more, and its route
pub adds_route : (n : ℕ) (text : List ℕ) (start : ℕ) (commands : List Command) (old : List Route) (command : Command) (key : List ℕ)
    (to : Route) → IsKeyAt text start command key → to ≡ route_of n command.kind key
    → AddsRoute n text start commands old (commands ++ command ∷ []) (old ++ to ∷ [])
adds_route n text start commands old command key to is goes bytes lies are =
    let here : to ≡ route n (operation bytes command) = goes ∙ ap (route_of n command.kind) (sym (is bytes lies)) in
    ap (λ list. list ++ to ∷ []) are
    ∙ ap (λ r. routes n (operations bytes commands) ++ r ∷ []) here
    ∙ sym (map-append (route n) (operations bytes commands) (operation bytes command ∷ []))
    ∙ ap (map (route n)) (sym (map-append (operation bytes) commands (command ∷ [])))

-- one line more
pub routes_more : (version n : ℕ) (bytes : List ℕ) (commands more : List Command) (old new : List Route) (rest : List ℕ) (line : ℕ) (text : List ℕ)
    → Reads version bytes commands rest line → LiesAt rest 0 text → AddsRoute n text (length bytes - length rest) commands old more new
    → old ≡ routes n (operations bytes commands) → new ≡ routes n (operations bytes more)
routes_more version n bytes commands more old new rest line text reads lies adds are =
    let zero : length bytes - length rest + 0 ≡ length bytes - length rest = omega arith in
    let at : LiesAt bytes (length bytes - length rest) text = rw zero at (lies_within bytes rest text 0 reads.is_rest lies) in
    adds bytes at are

-- there is one for each command
pub length-routes : (n : ℕ) (bytes : List ℕ) (commands : List Command) → length (routes n (operations bytes commands)) ≡ length commands
length-routes n bytes commands = length-map (operations bytes commands) (route n) ∙ length-map commands (operation bytes)

pub route_at : (n : ℕ) (trace : List Operation) (to : List Route) (at : ℕ) (e : Route) (d : Operation) → to ≡ routes n trace → at < length to
    → get_or to at e ≡ route n (get_or trace at d)
route_at n trace to at e d are within =
    let many : length to ≡ length trace = ap length are ∙ length-map trace (route n) in
    ap (λ list. get_or list at e) are ∙ get_or-map (route n) trace at d e (omega (arith, many, within))

-- the commands' origins, in order
pub origin_at : (bytes : List ℕ) (commands : List Command) (n at : ℕ) (c : Command) (d : Operation) → AreNumbered commands → at < length commands
    → origin (get_or (operations bytes commands) at d).number n ≡ at % n
origin_at bytes commands n at c d numbered within =
    ap (λ (o : Operation). origin o.number n) (get_or-map (operation bytes) commands at c d within)
    ∙ ap (λ i. (i - 1) % n) (numbered at c within)
    ∙ ap (λ i. i % n) (omega arith)

pub owner_below : (n : ℕ) (trace : List Operation) (to : List Route) (at : ℕ) (e : Route) → 1 ≤ n → to ≡ routes n trace → at < length to
    → (get_or to at e).owner < n
owner_below n trace to at e some are within =
    rw (route_at n trace to at e no_operation are within) (mod-lt (hash (get_or trace at no_operation).key.bytes) some)

-- where each stands at its place, they are all of them
pub routes_from_each : (n : ℕ) (bytes : List ℕ) (commands : List Command) (to : List Route) → length to ≡ length commands
    → AreRoutedAt bytes commands n to → to ≡ routes n (operations bytes commands)
routes_from_each n bytes [] [] many each = refl
routes_from_each n bytes [] (t ∷ to) many each = absurd (omega (arith, many))
routes_from_each n bytes (c ∷ commands) [] many each = absurd (omega (arith, many))
routes_from_each n bytes (c ∷ commands) (t ∷ to) many each =
    let here : t ≡ route n (operation bytes c) = each 0 c t (omega arith) in
    let later = routes_from_each n bytes commands to (omega (arith, many)) (λ k d e within. each (suc k) d e (omega (arith, within))) in
    ap (λ r. r ∷ to) here ∙ ap (λ rest. route n (operation bytes c) ∷ rest) later
