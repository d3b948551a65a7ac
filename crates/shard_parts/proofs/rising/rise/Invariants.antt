use Rattle.std.proofs.Common.{◌≡◌, ℕ, ◌-◌, List, length, true}
use Rattle.rows.specs.KeyBody.{AreKeys, AreKeysAt}
use Rattle.shard_parts.specs.inside.Rising.{rise}
use Rattle.shard_parts.proofs.rising.rise.Given as goal

abbrev pub invariant-loop-span : goal.invariant-loop-span
invariant-loop-span l = (keys : List (List ℕ)) → AreKeys l.body keys
    → (left : List (List ℕ)) × AreKeysAt l.body l.at left × (rise true l.from keys ≡ rise l.is_first l.before left)

abbrev pub decreases-loop-span : goal.decreases-loop-span
decreases-loop-span l = length l.body - l.at
