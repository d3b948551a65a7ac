use Rattle.std.proofs.Common.{◌<◌, ◌%◌, length, refl, sym, ap, ◌∙◌}
use Rattle.trace_text.specs.Parsed.{trace_in}
use Rattle.cache_model.specs.OwnParts.{parts_before}
use Rattle.part_lemmas.specs.Rest.{left_from}
use Rattle.part_lemmas.proofs.OwnParts.PartsBefore.{parts-behind}
use Rattle.part_lemmas.proofs.Cursors.Places.{from-places, here-at, next-round, no_operation, round}
use Rattle.shard_parts.proofs.rest.find.Goals as goal

pub loop-next-preserved : goal.loop-next-preserved
loop-next-preserved c =
    let value = c.commands_in_turn-commands.ensures.value in
    let within : c.loop-next.next.at < length c.args.trace.now.commands = rw value at c.loop-next-test.true in
    let further = c.past-next.ensures.at in
    record {
      left = ap (left_from c.args.trace.now c.args.trace.now.shards c.args.origin c.args.shard) further
          ∙ next-round c.args.trace.now c.args.trace.now.shards c.args.origin c.args.shard c.loop-next.next.at c.commands_in_turn-commands.ensures.consistent.spelled.numbered
          c.commands_in_turn-commands.ensures.consistent.some_shards c.loop-next.invariant.origin within
          (λ d. sym (c.has_part.ensures d) ∙ c.if-not-has_part.true)
          ∙ c.loop-next.invariant.left;
      origin = ap (λ at. at % c.args.trace.now.shards) further ∙ round _ _ _ c.loop-next.invariant.origin;
      before = c.past-next.ensures.before no_operation
          ∙ parts-behind c.args.trace.now c.args.trace.now.shards c.args.origin c.loop-next.next.at c.loop-next.next.before no_operation c.commands_in_turn-commands.ensures.next refl c.loop-next.invariant.origin within c.loop-next.invariant.before
          ∙ ap (λ at. parts_before (trace_in c.args.trace.now) c.args.trace.now.shards c.args.origin at) (sym further);
    }

pub returns-else-not-has_part-clause-here : goal.returns-else-not-has_part-clause-here
returns-else-not-has_part-clause-here c d within =
    here-at c.args.trace.now c.args.trace.now.shards c.args.origin c.args.shard c.loop-next.next.at d c.commands_in_turn-commands.ensures.consistent.spelled.numbered
    c.loop-next.invariant.origin within (sym (c.has_part.ensures d) ∙ c.if-not-has_part.false)

pub returns-else-not-has_part-clause-left : goal.returns-else-not-has_part-clause-left
returns-else-not-has_part-clause-left c place below above = c.loop-next.invariant.left
    ∙ from-places c.args.trace.now c.args.trace.now.shards c.args.origin c.args.shard c.args.from.at c.commands_in_turn-commands.ensures.consistent.spelled.numbered c.requires.origin place below above

pub returns-after-loop-next-clause-left : goal.returns-after-loop-next-clause-left
returns-after-loop-next-clause-left c place below above = c.loop-next.invariant.left
    ∙ from-places c.args.trace.now c.args.trace.now.shards c.args.origin c.args.shard c.args.from.at c.commands_in_turn-commands.ensures.consistent.spelled.numbered c.requires.origin place below above
