-- What a shard needs, by the counts of the trace.
use Rattle.std.proofs.Common.{◌≡◌, ◌≤◌, ◌+◌, ◌*◌, arith, sym, ◌∙◌}
use Rattle.std.proofs.Math.Nat.{mul-le-mul_right}
use Rattle.layout.specs.Sizes.{scan_room}
use Rattle.rows.specs.declared.kind.Kind.TheVariants.{Put, Get, Erase, Scan}
use Rattle.trace_text.specs.Operation.{operations}
use Rattle.trace_text.specs.Parsed.{trace_in}
use Rattle.rows.specs.Operation.{is_scan}
use Rattle.trace_text.specs.Parts.{most_shards, own_parts}
use Rattle.trace_text.specs.PartCounts.{here_parts, reply_bytes}
use Rattle.trace_text.specs.Reading.{most_replies, version_in}
use Rattle.trace_text.specs.Trace.{trace_with}
use Rattle.trace_text.specs.inside.Routes.{AreIssued, AreOwned}
use Rattle.trace_text.specs.inside.ShardCounts.{slot}
use Rattle.trace_text.proofs.PartCounts.{done_is, issued_is}
use Rattle.trace_text.proofs.ShardCounts.{here_parts_are, here_puts_are, issued_few, own_parts_are, owned_few, reply_bytes_are}
use Rattle.trace_text.proofs.Tallies.{count_in, share_fits}
use Rattle.trace_text.proofs.trace.Trace.needs.Goals as goal

pub other_than_scans-requires-clause-few : goal.other_than_scans-requires-clause-few
other_than_scans-requires-clause-few c = issued_few _ _ _ _ c.self.invariant

pub other_than_scans-requires-2-clause-few : goal.other_than_scans-requires-2-clause-few
other_than_scans-requires-2-clause-few c = owned_few _ _ _ _ c.self.invariant

pub overflow_mul-result : goal.overflow_mul-result
overflow_mul-result c =
    let few = issued_few _ _ _ _ c.self.invariant (slot c.args.shard Scan) in
    let most : c.args.shards ≤ most_shards = rw c.requires.parsed_for c.commands.ensures.most_shards in
    rw c.of-own_scans.ensures (omega (arith, mul-le-mul_right c.args.shards few, most))

pub overflow_add-result : goal.overflow_add-result
overflow_add-result c =
    let few = issued_few _ _ _ _ c.self.invariant in
    let most : c.args.shards ≤ most_shards = rw c.requires.parsed_for c.commands.ensures.most_shards in
    rw (c.of-own_scans.ensures, c.other_than_scans.ensures) (omega (
      arith,
      mul-le-mul_right c.args.shards (few (slot c.args.shard Scan)),
      most,
      few (slot c.args.shard Put),
      few (slot c.args.shard Get),
      few (slot c.args.shard Erase),
    ))

pub overflow_add-result-2 : goal.overflow_add-result-2
overflow_add-result-2 c =
    let few = owned_few _ _ _ _ c.self.invariant in
    rw c.other_than_scans-2.ensures (omega (
      arith,
      few (slot c.args.shard Put),
      few (slot c.args.shard Get),
      few (slot c.args.shard Erase),
      c.scans-scans.ensures.most,
      c.self.invariant.consistent.spelled.few,
    ))

issued_here : (c : goal.After-longest_value)
    → AreIssued c.args.shards (trace_in c.args.self.now).operations c.self.inside.issued.counts
issued_here c = rw (c.requires.parsed_for, ← c.self.view_is) c.self.invariant.issued_are

owned_here : (c : goal.After-longest_value)
    → AreOwned c.args.shards (trace_in c.args.self.now).operations c.self.inside.owned.counts
owned_here c = rw (c.requires.parsed_for, ← c.self.view_is) c.self.invariant.owned_are

bytes : (c : goal.After-longest_value)
    → c.of-own_gets.result * c.longest_value.result + c.of-own_scans.result * (c.args.shards * scan_room)
    ≡ reply_bytes (trace_in c.args.self.now) c.args.shards c.args.shard
bytes c =
    rw (c.of-own_gets.ensures, c.of-own_scans.ensures, c.longest_value.ensures)
    (reply_bytes_are (trace_in c.args.self.now) c.args.shards c.args.shard _ (issued_here c))

room : (c : goal.After-longest_value)
    → c.of-own_gets.result * c.longest_value.result + c.of-own_scans.result * (c.args.shards * scan_room) ≤ most_replies
room c =
    let fits = rw (← c.requires.parsed_for) at c.commands.ensures.room in
    let share = share_fits (trace_in c.args.self.now) c.args.shards c.args.shard in
    rw (bytes c) (omega (arith, share, fits))

pub overflow_mul-result-2 : goal.overflow_mul-result-2
overflow_mul-result-2 c = let most = room c in omega (arith, most)

pub overflow_mul-result-4 : goal.overflow_mul-result-4
overflow_mul-result-4 c = let most = room c in omega (arith, most)

pub overflow_add-result-3 : goal.overflow_add-result-3
overflow_add-result-3 c = let most = room c in omega (arith, most)

own : (c : goal.After-longest_value)
    → c.other_than_scans.result + c.of-own_scans.result * c.args.shards ≡ own_parts (trace_in c.args.self.now) c.args.shards c.args.shard
own c =
    rw (c.other_than_scans.ensures, c.of-own_scans.ensures)
    (own_parts_are (trace_in c.args.self.now) c.args.shards c.args.shard _ (issued_here c))

here : (c : goal.After-longest_value)
    → c.other_than_scans-2.result + c.scans-scans.result ≡ here_parts (trace_in c.args.self.now) c.args.shards c.args.shard
here c =
    let inside = c.self.inside in
    let trace = trace_with (version_in inside.bytes) (operations inside.bytes inside.commands) in
    let scans = c.scans-scans.ensures.value ∙ count_in inside.bytes (λ o. is_scan o.kind) inside.commands in
    rw (c.requires.parsed_for, ← c.self.view_is, c.other_than_scans-2.ensures, scans)
    (here_parts_are trace inside.shards c.args.shard _ c.self.invariant.owned_are)

pub returns-clause-own_parts : goal.returns-clause-own_parts
returns-clause-own_parts c = own c

pub returns-clause-here_parts : goal.returns-clause-here_parts
returns-clause-here_parts c = here c

pub returns-clause-here_puts : goal.returns-clause-here_puts
returns-clause-here_puts c =
    c.of.ensures ∙ here_puts_are (trace_in c.args.self.now) c.args.shards c.args.shard _ (owned_here c)

pub returns-clause-reply_bytes : goal.returns-clause-reply_bytes
returns-clause-reply_bytes c = bytes c

pub returns-clause-issued : goal.returns-clause-issued
returns-clause-issued c =
    let some = rw (← c.requires.parsed_for) at c.commands.ensures.some_shards in
    own c ∙ sym (issued_is (trace_in c.args.self.now) c.args.shards c.args.shard some)

pub returns-clause-done_here : goal.returns-clause-done_here
returns-clause-done_here c =
    let some = rw (← c.requires.parsed_for) at c.commands.ensures.some_shards in
    here c ∙ sym (done_is (trace_in c.args.self.now) c.args.shards c.args.shard some)
