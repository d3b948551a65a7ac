use Rattle.std.proofs.Common.{sym, ap, subst, ◌∙◌, arith}
use Rattle.std.proofs.lemmas.List.{get_or_read}
use Rattle.std.specs.FinMap as map
use Rattle.std.specs.Option.{IsSome}
use Rattle.timed.proofs.Lives.{taken_live, replaced_live}
use Rattle.timed.proofs.pools.live.replace.Goals as goal

pub put-requires : goal.put-requires
put-requires c =
    let t = taken_live c.args.pools.now.allocated c.take.new.self.allocated c.args.live.now.items c.in-Some.place _ c.requires.live c.in-Some.ensures.was_free c.in-Some.ensures.allocated in
    let read = get_or_read c.args.live.now.items c.args.index c.index-old.result.now (omega arith) c.index-old.ensures 0 in
    subst (λ p. IsSome (map.get c.take.new.self.allocated p)) (sym read) (t.1.allocated_at c.args.index (omega arith))

pub returns-clause-live : goal.returns-clause-live
returns-clause-live c =
    let t = taken_live c.args.pools.now.allocated c.take.new.self.allocated c.args.live.now.items c.in-Some.place _ c.requires.live c.in-Some.ensures.was_free c.in-Some.ensures.allocated in
    let read = get_or_read c.args.live.now.items c.args.index c.index-old.result.now (omega arith) c.index-old.ensures 0 in
    replaced_live c.take.new.self.allocated c.put.new.self.allocated c.args.live.now.items c.in-Some.place c.args.index t.1 t.2 t.0 (omega arith)
    (c.put.ensures.allocated ∙ ap (map.remove c.take.new.self.allocated) read)
