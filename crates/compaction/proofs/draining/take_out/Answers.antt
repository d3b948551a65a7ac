use Rattle.std.proofs.Common.{ap, ◌∙◌}
use Rattle.std.specs.Prelude.{option_map}
use Rattle.regions.specs.Stores.{without_references}
use Rattle.compaction.proofs.Shut.{closed-kept}
use Rattle.compaction.proofs.Drains.{drained-begun, drained-on}
use Rattle.compaction.proofs.draining.take_out.Goals as goal

pub returns-clause-others : goal.returns-clause-others
returns-clause-others g c p far shut =
    let m = c.make_room.ensures in
    c.move_object.ensures.others p far (closed-kept c.args.region.now c.make_room.new.region m.closed p.segment shut) ∙ ap (option_map (without_references g.M.Movers.bare)) (m.objects p)

pub returns-clause-drained : goal.returns-clause-drained
returns-clause-drained g c =
    let bare = g.M.Movers.bare in let n = c.args.place.segment in let old = c.args.region.now in let roomy = c.make_room.new.region in let m = c.make_room.ensures in
    drained-on bare n old roomy c.move_object.new.region (drained-begun bare n old roomy m.holds m.closed m.objects m.used m.live) c.move_object.ensures.drained
