use Rattle.std.proofs.Common.{◌≡◌, ℕ, suc, ◌+◌, ◌-◌, ◌*◌, ◌/◌, ◌^◌, ◌<◌, ◌≤◌, sym, subst, arith}
use Rattle.std.proofs.lemmas.Nat.{leading_top, and_mask}
use Rattle.std.specs.Int.Bits.{bit_and}
use Rattle.std.specs.Int.Count.{count_leading_zeros}
use Rattle.small_pools.specs.Classes.{IsLeastClass}
use Rattle.small_pools.proofs.ClassFacts.{between_classes, least_class, is_class}
use Rattle.small_pools.proofs.classes.class_above.Goals as goal

-- the place of the highest bit
highest : (n : ℕ) → 32 ≤ n → n < 16384 → (j : ℕ) × (31 - count_leading_zeros 32 n ≡ j) × (2 ^ j ≤ n) × (n < 2 ^ suc j)
highest n least most = (let t = leading_top 32 n (omega arith) (omega arith) in let e = t.1 in (t.0, omega (arith, e), t.2, t.3))

class_is : (n : ℕ) → 32 ≤ n → n < 16384 → IsLeastClass (n + 1) (4 * (31 - count_leading_zeros 32 n - 5) + bit_and (n / 2 ^ (31 - count_leading_zeros 32 n - 2)) 3 + 1)
class_is n least most =
    let h = highest n least most in
    subst (λ j. IsLeastClass (n + 1) (4 * (j - 5) + bit_and (n / 2 ^ (j - 2)) 3 + 1)) (sym h.1)
    (subst (λ q. IsLeastClass (n + 1) (4 * (h.0 - 5) + q + 1)) (sym (and_mask (n / 2 ^ (h.0 - 2)) 2)) (least_class n h.0 least most h.2 h.3))

pub overflow_sub-quarter : goal.overflow_sub-quarter
overflow_sub-quarter c =
    let h = highest c.args.last c.requires.least c.requires.most in
    let b = between_classes c.args.last h.0 c.requires.least c.requires.most h.2 h.3 in
    let five = b.0 in let e = h.1 in omega (arith, five, e)

pub overflow_sub-result : goal.overflow_sub-result
overflow_sub-result c =
    let h = highest c.args.last c.requires.least c.requires.most in
    let b = between_classes c.args.last h.0 c.requires.least c.requires.most h.2 h.3 in
    let five = b.0 in let e = h.1 in omega (arith, five, e)

pub returns-clause-least : goal.returns-clause-least
returns-clause-least c = class_is c.args.last c.requires.least c.requires.most

pub returns-clause-bounds : goal.returns-clause-bounds
returns-clause-bounds c = is_class _ (class_is c.args.last c.requires.least c.requires.most).within
