use Rattle.std.proofs.Common.{◌≡◌, ◌+◌, ◌++◌, ◌∷◌, [], length, length-append, ap, sym, subst, ◌∙◌}
use Rattle.shard_drive.specs.Trials.{AreReady}
use Rattle.shard_drive.proofs.Trials.{ready-next}
use Rattle.shard_drive.proofs.tests.opening.lists.Goals as goal

pub loop-shard-preserved : goal.loop-shard-preserved
loop-shard-preserved c =
    let homes = c.loop-shard.homes.items in
    let seats = c.loop-shard.seats.items in
    let home = c.in_ok-home.home in
    let seat = c.in_ok-home.seat in
    let so_far = c.loop-shard.invariant in
    let more_homes : c.push.new.self.items ≡ homes ++ home ∷ [] = c.in_ok-push.ensures.items in
    let more_seats : c.push-in-loop-shard.new.self.items ≡ seats ++ seat ∷ [] = c.in_ok-push-2.ensures.items in
    let ready = ready-next homes seats home seat c.loop-shard.shard so_far.homes so_far.seats c.in_ok-home.ensures.owner c.in_ok-home.ensures.rest so_far.ready in
    record {
      homes = ap length more_homes ∙ length-append homes (home ∷ []) ∙ ap (λ n. n + 1) so_far.homes;
      seats = ap length more_seats ∙ length-append seats (seat ∷ []) ∙ ap (λ n. n + 1) so_far.seats;
      ready = subst (λ hs. AreReady hs c.push-in-loop-shard.new.self.items) (sym more_homes) (subst (λ ss. AreReady (homes ++ home ∷ []) ss) (sym more_seats) ready);
    }
