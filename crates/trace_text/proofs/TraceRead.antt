-- The reading of a trace, from that of the lines.
use Rattle.std.proofs.Common.{◌≡◌, ℕ, ◌<◌, ◌≤◌, ltb, List, length, Ok, Err, ap, ◌∙◌}
use Rattle.std.proofs.lemmas.Bool.{cond-false, cond-true, le-ltb, lt-ltb}
use Rattle.trace_text.specs.declared.command.Command.{Command}
use Rattle.trace_text.specs.declared.refusal.Cause.TheVariants.{RepliesTooLarge}
use Rattle.trace_text.specs.declared.refusal.ParseRefusal.{ParseRefusal}
use Rattle.trace_text.specs.declared.refusal.ParseRefusal.TheVariants as refusals
use Rattle.trace_text.specs.Operation.{operations}
use Rattle.trace_text.specs.Parsed.{AreSpelled, IsConsistent, Parsed, trace_in}
use Rattle.trace_text.specs.Parts.{replies_room}
use Rattle.trace_text.specs.Trace.{trace_with}
use Rattle.layout.specs.Sizes.{most_trace_bytes}
use Rattle.trace_text.specs.Reading.{AtLine, IsRefusedAs, TooLong, answerable, most_replies, trace_of, version_in}
use Rattle.trace_text.specs.inside.Version.{reading_in}

short_read : (bytes : List ℕ) (n : ℕ) → length bytes ≤ most_trace_bytes → trace_of bytes n ≡ answerable (version_in bytes) n (reading_in bytes)
short_read bytes n short =
    cond-false (ltb most_trace_bytes (length bytes)) (Err TooLong) (answerable (version_in bytes) n (reading_in bytes))
    (le-ltb most_trace_bytes (length bytes) short)

-- the commands are those that the bytes mean
trace_read : (bytes : List ℕ) (n : ℕ) (commands : List Command) → length bytes ≤ most_trace_bytes → AreSpelled bytes commands
    → replies_room (trace_with (version_in bytes) (operations bytes commands)) n ≤ most_replies
    → trace_of bytes n ≡ Ok (trace_with (version_in bytes) (operations bytes commands))
trace_read bytes n commands short spelled room =
    let trace = trace_with (version_in bytes) (operations bytes commands) in
    short_read bytes n short ∙ ap (answerable (version_in bytes) n) spelled.read
    ∙ cond-false (ltb most_replies (replies_room trace n)) (Err (AtLine 0 RepliesTooLarge)) (Ok trace) (le-ltb most_replies (replies_room trace n) room)

-- the replies would be too large
pub trace_too_large : (bytes : List ℕ) (n : ℕ) (commands : List Command) → length bytes ≤ most_trace_bytes → AreSpelled bytes commands
    → most_replies < replies_room (trace_with (version_in bytes) (operations bytes commands)) n → trace_of bytes n ≡ Err (AtLine 0 RepliesTooLarge)
trace_too_large bytes n commands short spelled large =
    let trace = trace_with (version_in bytes) (operations bytes commands) in
    short_read bytes n short ∙ ap (answerable (version_in bytes) n) spelled.read
    ∙ cond-true (ltb most_replies (replies_room trace n)) (Err (AtLine 0 RepliesTooLarge)) (Ok trace) (lt-ltb most_replies (replies_room trace n) large)

-- a line is refused
pub trace_refused : (bytes : List ℕ) (n : ℕ) (refusal : ParseRefusal) → length bytes ≤ most_trace_bytes
    → IsRefusedAs refusal (reading_in bytes) → IsRefusedAs refusal (trace_of bytes n)
trace_refused bytes n (refusals.Trace line cause) short refused = short_read bytes n short ∙ ap (answerable (version_in bytes) n) refused
trace_refused bytes n refusals.Memory short refused = tt

pub parsed_read : (trace : Parsed) → IsConsistent trace → trace_of trace.bytes trace.shards ≡ Ok (trace_in trace)
parsed_read trace is = trace_read trace.bytes trace.shards trace.commands is.short is.spelled is.room
