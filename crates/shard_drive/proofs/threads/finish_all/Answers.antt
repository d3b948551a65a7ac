use Rattle.shard_drive.proofs.Turned.{lasts-on}
use Rattle.shard_drive.proofs.threads.finish_all.Goals as goal

pub rounds-preserved : goal.rounds-preserved
rounds-preserved g c = record {
  can_next = tt;
  is_finite = tt;
  stands = c.drive_round-sleeps.ensures.stands;
  lasting = lasts-on g.N.Driven.lasting c.args.nodes.now c.rounds.nodes c.drive_round-sleeps.new.nodes c.rounds.auto.nodes c.rounds.invariant.lasting c.drive_round-sleeps.ensures.lasting;
}
