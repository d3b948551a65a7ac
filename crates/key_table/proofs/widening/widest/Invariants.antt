use Rattle.std.proofs.Common.{◌≡◌, ℕ, ◌-◌, ◌≤◌}
use Rattle.key_table.specs.Table.{mask_of}
use Rattle.key_table.proofs.widening.widest.Given as goal

abbrev pub invariant-widening : goal.invariant-widening
invariant-widening l = record {
  doubled : (times : ℕ) → l.mask ≡ mask_of times → (n : ℕ) × (l.wider ≡ mask_of n);
  upto : l.wider ≤ l.most;
}

abbrev pub decreases-widening : goal.decreases-widening
decreases-widening l = l.most - l.wider
