use Rattle.std.proofs.Common.{◌≡◌, ◌%◌, ◌-◌, ◌<◌, ◌≤◌, Bool, true, false, List, ℕ, ◌+◌, arith, cond, get_or, length, ap, ◌∙◌}
use Rattle.std.proofs.lemmas.List.{get_or_default}
use Rattle.trace_text.specs.declared.command.Command.{Command}
use Rattle.rows.specs.declared.kind.Kind.TheVariants.{Put}
use Rattle.trace_text.specs.Parsed.{trace_in}
use Rattle.rows.specs.Operation.{is_scan}
use Rattle.trace_text.specs.Parts.{origin}
use Rattle.report_text.proofs.Places.{places_behind, read_there, room_for}
use Rattle.cache_lemmas.proofs.Laws.{parts_go_up_by_command-most, parts_go_up_by_command-next, answers_are_read_by_command-read}
use Rattle.report_text.proofs.place.next_replies.Goals as goal
use Rattle.report_text.proofs.place.next_replies.Goals.{After-parts}

abbrev none : Command
none = record { number = 0; line = 0; kind = Put; table = 0; key = record { start = 0; len = 0 }; value = record { start = 0; len = 0 }; count = 0 }

few : (scan : Bool) (parts n : ℕ) → parts ≡ cond scan n 1 → 1 ≤ n → parts ≤ n
few true parts n is some = omega (arith, is)
few false parts n is some = omega (arith, is, some)

below : (k n o : ℕ) → 1 ≤ n → o ≡ k % n → o < n
below k n o some is = omega (arith, is)

-- of the command at hand: its number, its origin and its parts
abbrev number_at : List Command → ℕ → ℕ
number_at commands i = (get_or commands i none).number

origin-is : (c : After-parts) → c.origin_of-origin.result ≡ origin (number_at c.args.trace.now.commands c.args.index) c.args.trace.now.shards
origin-is c =
    c.origin_of-origin.ensures ∙ ap (λ n. origin (number_at c.commands.result.now c.args.index) n) c.requires.one_log_each
    ∙ ap (λ (list : List Command). origin (number_at list c.args.index) c.args.trace.now.shards) c.commands.ensures.value

parts-are : (c : After-parts) → c.parts.result ≡ cond (is_scan (get_or c.args.trace.now.commands c.args.index none).kind) c.args.trace.now.shards 1
parts-are c =
    c.parts.ensures ∙ ap (λ (n : ℕ). cond (is_scan (get_or c.commands.result.now c.args.index none).kind) n 1) c.requires.one_log_each
    ∙ ap (λ (list : List Command). cond (is_scan (get_or list c.args.index none).kind) c.args.trace.now.shards 1) c.commands.ensures.value

room-is : (c : After-parts) → get_or c.args.places.now c.origin_of-origin.result 0 + c.args.trace.now.shards < 4294967296
room-is c =
    let n = c.args.trace.now.shards in
    let o = c.origin_of-origin.result in
    let short : c.args.index < 1048576 = omega (arith, c.requires.index, c.commands.ensures.few, ap (λ (list : List Command). length list) c.commands.ensures.value) in
    room_for parts_go_up_by_command-most (trace_in c.args.trace.now) n c.args.index o c.args.places.now c.commands.ensures.some_shards c.commands.ensures.most_shards short
    (below (number_at c.args.trace.now.commands c.args.index - 1) n o c.commands.ensures.some_shards (origin-is c)) c.requires.places

pub take_place-first-requires-clause-small : goal.take_place-first-requires-clause-small
take_place-first-requires-clause-small c =
    omega (arith, room-is c, few _ c.parts.result c.args.trace.now.shards (parts-are c) c.commands.ensures.some_shards)

pub returns-clause-places_behind : goal.returns-clause-places_behind
returns-clause-places_behind c =
    let d = (goal.at-returns-clause-places_behind c).After-parts in
    let n = c.args.trace.now.shards in
    let o = c.origin_of-origin.result in
    let o-below = below (number_at c.args.trace.now.commands c.args.index - 1) n o c.commands.ensures.some_shards (origin-is d) in
    let within : o < length c.args.places.now = omega (arith, o-below, c.commands.ensures.most_shards, c.told-places) in
    places_behind parts_go_up_by_command-next c.args.trace.now n c.args.index o c.parts.result c.take_place-first.result none c.args.places.now
    c.take_place-first.new.places c.requires.index within (origin-is d) (parts-are d) c.take_place-first.ensures.first c.take_place-first.ensures.next c.requires.places

pub returns-clause-read : goal.returns-clause-read
returns-clause-read c = λ answers d e logged.
    let k = (goal.at-returns-clause-read c).After-parts in
    let n = c.args.trace.now.shards in
    let o = c.origin_of-origin.result in
    let o-below = below (number_at c.args.trace.now.commands c.args.index - 1) n o c.commands.ensures.some_shards (origin-is k) in
    let within : o < length c.args.logs.now = omega (arith, o-below, c.requires.one_log_each) in
    let is : o ≡ origin (get_or c.args.trace.now.commands c.args.index d).number n =
    origin-is k ∙ ap (λ (x : Command). origin x.number n) (get_or_default c.args.trace.now.commands c.args.index none d c.requires.index) in
    read_there answers_are_read_by_command-read c.args.trace.now n c.args.index o c.take_place-first.result c.args.logs.now c.index-logs-origin.result
    c.args.places.now answers d e logged c.commands.ensures.some_shards c.requires.index o-below within is c.index-logs-origin.is c.take_place-first.ensures.first c.requires.places

pub returns-clause-small : goal.returns-clause-small
returns-clause-small c =
    let k = (goal.at-returns-clause-small c).After-parts in
    rw (← c.take_place-first.ensures.first) at (room-is k)
