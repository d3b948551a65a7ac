use Rattle.std.proofs.Common.{length, sym, ap, ◌∙◌, subst}
use Rattle.shard_rings.specs.Mesh.{IsMesh}
use Rattle.shard_rings.proofs.Meshes.{one_more_back}
use Rattle.shard_rings.proofs.mesh.add_shard.Goals as goal

pub returns-clause-mesh : goal.returns-clause-mesh
returns-clause-mesh c =
    let value = c.as_mut_slice.ensures.value in
    subst (λ l. IsMesh l) (sym c.in_ok-push.ensures.items)
    (one_more_back c.args.links.now.items c.as_mut_slice.result.now c.meet.new.links c.in_ok-own.own _ _ c.requires value c.in_ok-own.ensures
    (sym c.as_mut_slice.ensures.len ∙ ap length value))
