use Rattle.indexed_cache.proofs.Kept.{segments-activated}
use Rattle.indexed_cache.proofs.room.begin_next.Goals as goal

pub returns-then-left-size-clause-kept : goal.returns-then-left-size-clause-kept
returns-then-left-size-clause-kept c =
    let e = c.next_active.ensures in
    record {
      room = e.keeps.room;
      segments = segments-activated c.args.cache.now.region c.next_active.new.self.region c.args.group e.activated.0 e.activated.2 e.pieces e.held;
    }
