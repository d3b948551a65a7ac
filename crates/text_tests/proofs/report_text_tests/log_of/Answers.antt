use Rattle.std.proofs.Common.{◌≡◌, ◌+◌, ◌-◌, ◌<◌, ◌∙◌, suc, Some, length, map, slice_set, ap, sym, subst, arith}
use Rattle.std.proofs.lemmas.List.{length-map}
use Rattle.trace_text.specs.declared.command.Command.{Command}
use Rattle.rows.specs.declared.kind.Kind.TheVariants.{Put}
use Rattle.trace_text.specs.Operation.{operation}
use Rattle.trace_text.specs.Parsed.{trace_in}
use Rattle.trace_text.specs.Parts.{longest_value}
use Rattle.cache_lemmas.proofs.Laws.{one_shard_answers_alone-part, one_shard_answers_alone-parts, one_shard_answers_alone-fitting}
use Rattle.text_tests.proofs.Logs.{IsFilled, fits_at, logged_when_filled, one_more_filled}
use Rattle.text_tests.proofs.report_text_tests.log_of.Goals as goal

abbrev none : Command
none = record { number = 0; line = 0; kind = Put; table = 0; key = record { start = 0; len = 0 }; value = record { start = 0; len = 0 }; count = 0 }

pub loop-part-preserved : goal.loop-part-preserved
loop-part-preserved g c =
    let bytes = c.args.trace.now.bytes in
    let commands = c.commands-commands.result.now in
    let longest = longest_value (trace_in c.args.trace.now) in
    let part = c.loop-part.part in
    let rest = length c.args.replies.now - (part + 1) in
    let old = c.loop-part.log.replies in
    let reply = c.reply_to-kind.ensures.fits in
    let fits = rw (c.longest_value-longest.ensures, c.key-key.ensures.value) at reply.2 in
    let one : length c.args.replies.now - part ≡ suc rest = omega (arith, c.loop-part-test.true) in
    let below : part < length commands = omega (arith, c.loop-part-test.true) in
    let within : part < length (map (operation bytes) commands) = simp length-map below in
    let new = c.record.ensures.replies ∙ ap (λ r. slice_set old part (Some r)) reply.1 in
    record {
      filled = subst (λ parts. IsFilled longest (map (operation bytes) commands) parts (part + 1) rest) (sym new)
          (one_more_filled longest (map (operation bytes) commands) old part rest reply.0 (operation bytes none) within (fits_at longest bytes commands part _ none reply.0 below fits)
          (subst (IsFilled longest (map (operation bytes) commands) old part) one c.loop-part.invariant.filled));
      room = omega (arith, c.record.ensures.room, c.reply_to-kind.ensures.short, c.loop-part.invariant.room);
    }

pub returns : goal.returns
returns g c =
    let k = c.commands-commands in
    let operations = map (operation c.args.trace.now.bytes) k.result.now in
    let longest = longest_value (trace_in c.args.trace.now) in
    let part = c.loop-part.part in
    let many : part ≡ length k.result.now = omega arith in
    let over : length c.args.replies.now - part ≡ 0 = omega arith in
    logged_when_filled one_shard_answers_alone-part one_shard_answers_alone-parts one_shard_answers_alone-fitting c.args.trace.now k.result.now c.loop-part.log.replies k.ensures.value k.ensures.numbered
    (subst (λ n. IsFilled longest operations c.loop-part.log.replies n 0) many (subst (IsFilled longest operations c.loop-part.log.replies part) over c.loop-part.invariant.filled))
