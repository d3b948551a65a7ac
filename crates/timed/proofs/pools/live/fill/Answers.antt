use Rattle.timed.proofs.Lives.{taken_live, pushed_live}
use Rattle.timed.proofs.pools.live.fill.Goals as goal

pub loop-preserved : goal.loop-preserved
loop-preserved c =
    let t = taken_live c.loop.pools.allocated c.take.new.self.allocated c.loop.live.items c.in-Some.place _ c.loop.invariant.1 c.in-Some.ensures.was_free c.in-Some.ensures.allocated in
    (c.take.ensures.held, pushed_live c.take.new.self.allocated c.loop.live.items c.push.new.self.items c.in-Some.place t.1 t.2 t.0 c.in_ok-push.ensures.items)
