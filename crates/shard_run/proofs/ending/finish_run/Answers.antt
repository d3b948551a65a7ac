use Rattle.std.proofs.Common.{◌≤◌, length, sym, subst}
use Rattle.std.proofs.lemmas.List.{length-map}
use Rattle.trace_text.specs.Operation.{operation}
use Rattle.trace_text.specs.Parsed.{trace_in}
use Rattle.trace_text.specs.Reading.{most_commands}
use Rattle.shard_rings.specs.Links.{traffic_of}
use Rattle.run_log.specs.Runs.{IsOfRun}
use Rattle.shard_run.specs.Remaining.{AllCanFinish, IsRoomFor}
use Rattle.shard_run.proofs.Driven.{as_many, can_finish, paired, seats_back, together}
use Rattle.shard_run.proofs.Numbered.{commands_found, keys_of}
use Rattle.shard_run.proofs.Runs.{is_finished}
use Rattle.cache_lemmas.proofs.Laws.{logs_hold_the_answers}
use Rattle.shard_run.proofs.ending.finish_run.Goals as goal

pub finish_nodes-ran-requires-clause-nodes : goal.finish_nodes-ran-requires-clause-nodes
finish_nodes-ran-requires-clause-nodes g c =
    let driven = c.requires.driven in
    subst (λ t. AllCanFinish g.G.Gate.holds t c.args.into.ran.pages c.args.nodes.items) (sym c.requires.room.run.of_trace)
    (can_finish g.G.Gate.holds (trace_in c.args.trace.now) c.args.trace.now.shards c.args.into.ran.pages driven.0 c.args.nodes.items driven.1)

pub finish_nodes-ran-requires-clause-room : goal.finish_nodes-ran-requires-clause-room
finish_nodes-ran-requires-clause-room g c =
    let driven = c.requires.driven in
    let many = as_many g.G.Gate.holds (trace_in c.args.trace.now) c.args.trace.now.shards c.args.into.ran.pages driven.0 c.args.nodes.items driven.1 in
    subst (λ t. IsRoomFor t (length c.args.nodes.items) c.args.into.ran.pages c.args.into) (sym c.requires.room.run.of_trace)
    (subst (λ n. IsRoomFor (trace_in c.args.trace.now) n c.args.into.ran.pages c.args.into) (sym many) c.requires.room)

pub close_links-requires : goal.close_links-requires
close_links-requires g c =
    let driven = c.requires.driven in
    paired g.G.Gate.holds (trace_in c.args.trace.now) c.args.trace.now.shards c.args.into.ran.pages driven.0 c.args.nodes.items driven.1 c.finish_nodes-ran.result.links.items
    c.finish_nodes-ran.ensures.left.links

pub returns-clause-run : goal.returns-clause-run
returns-clause-run g c =
    let driven = c.requires.driven in
    let homes = driven.0 in
    let pages = c.args.into.ran.pages in
    let trace = c.args.trace.now in
    let left = c.finish_nodes-ran.ensures.left in
    let nodes = c.args.nodes.items in
    let met = together g.G.Gate.holds (trace_in trace) trace.shards pages homes nodes driven.1 c.finish_nodes-ran.result.links.items left.links c.finish_nodes-ran.ensures.facts c.close_links.ensures in
    let agree = c.done_nodes_agree.ensures traffic_of g.G.Gate.holds trace trace.shards pages nodes c.shards.ensures.consistent.spelled.numbered c.shards.ensures.consistent.some_shards met in
    let of_run = subst (λ t. IsOfRun t (length nodes) pages c.finish_nodes-ran.result.ran) c.requires.room.run.of_trace c.finish_nodes-ran.ensures.run in
    let short = subst (λ k. k ≤ most_commands) (sym (length-map trace.commands (operation trace.bytes))) c.shards.ensures.few_commands in
    is_finished g.G.Gate.holds (trace_in trace) trace.shards pages homes nodes driven.1 c.finish_nodes-ran.result left of_run agree c.shards.ensures.consistent.most_shards short
    logs_hold_the_answers (keys_of trace c.shards.ensures.well_formed) (commands_found trace c.shards.ensures.consistent.spelled.numbered)

pub returns-clause-seats : goal.returns-clause-seats
returns-clause-seats g c homes driven =
    seats_back g.G.Gate.holds (trace_in c.args.trace.now) c.args.trace.now.shards c.args.into.ran.pages homes c.args.nodes.items driven c.finish_nodes-ran.result c.finish_nodes-ran.ensures.left
