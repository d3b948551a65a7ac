use Rattle.std.proofs.Common.{◌+◌, ◌*◌, suc, ap, arith}
use Rattle.key_table.proofs.widening.widest.Goals as goal

pub widening-init : goal.widening-init
widening-init c = record { doubled = λ times is. (times, is); upto = c.requires }

pub widening-preserved : goal.widening-preserved
widening-preserved c = record {
  doubled = λ times is. let n = c.widening.invariant.doubled times is in (suc n.0, ap (λ mask. mask * 2 + 1) n.1);
  upto = omega arith;
}
