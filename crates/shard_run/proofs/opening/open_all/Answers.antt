use Rattle.std.proofs.Common.{length, sym, subst, ◌∙◌, arith}
use Rattle.trace_text.specs.Parsed.{trace_in}
use Rattle.shard_run.specs.inside.Opening.{AreLeft}
use Rattle.shard_run.proofs.Getting.{on_error}
use Rattle.shard_run.proofs.Openings.{next_links, one_opened, left_of, all_opened}
use Rattle.shard_run.proofs.opening.open_all.Goals as goal

pub open_last-requires-clause-unused : goal.open_last-requires-clause-unused
open_last-requires-clause-unused g c κs _ k link at =
    let next = next_links (trace_in c.args.trace.now) c.args.trace.now.shards c.args.pages c.args.homes.now c.args.links.items c.loop-own.links.items c.pop.new.self.items c.in-Some.own c.loop-own.seats.items c.loop-own.nodes.items c.loop-own.invariant.0 c.in-Some.ensures.items in
    c.requires.mesh.unused (length c.pop.new.self.items) k link (record { own = c.in-Some.own; own_at = next.1; end_at = at })

pub loop-own-preserved : goal.loop-own-preserved
loop-own-preserved g c =
    let room = c.loop-own.invariant in
    let seats_room = c.in_ok-open_last.ensures.seats_room in
    let nodes_room = c.in_ok-open_last.ensures.nodes_room in (
      one_opened (trace_in c.args.trace.now) c.args.trace.now.shards c.args.pages c.args.homes.now c.args.links.items c.loop-own.links.items c.pop.new.self.items
          c.in-Some.own c.loop-own.seats.items c.open_last.new.seats.items c.loop-own.nodes.items c.open_last.new.nodes.items c.loop-own.invariant.0 c.in-Some.ensures.items c.in_ok-open_last.ensures.opened,
      (let r = room.1 in omega (arith, r, seats_room)),
      (let r = room.2 in omega (arith, r, nodes_room)),
    )

pub returns-in_err-open_last-clause-refused : goal.returns-in_err-open_last-clause-refused
returns-in_err-open_last-clause-refused g c =
    let same = c.in_err-open_last.ensures.refused in
    let left = left_of (trace_in c.args.trace.now) c.args.trace.now.shards c.args.pages c.args.homes.now c.args.links.items c.loop-own.links.items c.loop-own.seats.items c.loop-own.nodes.items c.loop-own.invariant.0 c.requires.lists in
    on_error c.from_residual.result _ (subst (λ l. AreLeft c.args.trace.now.shards c.args.homes.now l c.open_last.new.nodes.items) (sym same.0)
    (subst (λ l. AreLeft c.args.trace.now.shards c.args.homes.now c.loop-own.seats.items l) (sym same.1) left))

pub returns-clause-opened : goal.returns-clause-opened
returns-clause-opened g c =
    let none = sym c.loop-own.links.ok.0 ∙ c.in_default.ensures.cases.0 in
    all_opened (trace_in c.args.trace.now) c.args.trace.now.shards c.args.pages c.args.homes.now c.args.links.items c.loop-own.links.items c.loop-own.seats.items c.loop-own.nodes.items c.loop-own.invariant.0 none c.requires.mesh c.requires.links c.requires.lists
