use Rattle.std.proofs.Common.{◌↔◌, ◌-◌}
use Rattle.shard_rings.specs.inside.Body.{HasKeys}
use Rattle.shard_rings.proofs.body.has_keys.Given as goal

-- the body is so many keys where the rest is those that are left
abbrev pub invariant-loop : goal.invariant-loop
invariant-loop l = HasKeys l.fn.body l.fn.count ↔ HasKeys l.rest (l.fn.count - l.counter)
