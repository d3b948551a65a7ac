-- The keys so far are appended.
use Rattle.std.proofs.Common.{◌≡◌, ◌++◌, map, take}
use Rattle.std.specs.Prelude.{flat_map}
use Rattle.rows.specs.Spelled.{key_field}
use Rattle.run_log.proofs.keys.append_keys.Given as goal

abbrev pub invariant-loop-key : goal.invariant-loop-key
invariant-loop-key l = l.body.items ≡ l.fn.body.items ++ flat_map key_field (map (λ key. key.now) (take l.key-index l.keys))
