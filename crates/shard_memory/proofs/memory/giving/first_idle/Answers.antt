use Rattle.std.proofs.Common.{◌≡◌, ℕ, ◌<◌, ◌≤◌, Option, Some, None, IfSome, IfNone, subst, sym}
use Rattle.shard_memory.specs.Tickets.{Tickets, HasIdle, IsLeastIdle, IsIdle, first_ticket, end_ticket}
use Rattle.shard_memory.specs.declared.share.Share.{Share}
use Rattle.shard_memory.proofs.memory.giving.first_idle.Goals as goal

none : (lent : Tickets) (share : Share) (first end : ℕ) (found : Option ℕ) → first ≡ first_ticket share → end ≡ end_ticket share
    → IfNone found ((t : ℕ) → first ≤ t → t < end → ¬ IsIdle lent t) → IfNone found (¬ HasIdle lent share)
none lent share first end (Some t) from to h = tt
none lent share first end None from to h = λ has. h has.0 (subst (λ (n : ℕ). n ≤ has.0) (sym from) has.1.0) (subst (λ (n : ℕ). has.0 < n) (sym to) has.1.1) has.2

some : (lent : Tickets) (share : Share) (first end : ℕ) (found : Option ℕ) → first ≡ first_ticket share → end ≡ end_ticket share
    → IfSome found (λ t. (first ≤ t) × (t < end) × IsIdle lent t) → IfSome found (λ t. (other : ℕ) → first ≤ other → other < t → ¬ IsIdle lent other)
    → IfSome found (IsLeastIdle lent share)
some lent share first end None from to h least = tt
some lent share first end (Some t) from to h least = record {
  of_share = (subst (λ (n : ℕ). n ≤ t) from h.0, subst (λ (n : ℕ). t < n) to h.1);
  idle = h.2;
  least = λ other of_share under. least other (subst (λ (n : ℕ). n ≤ other) (sym from) of_share.0) under;
}

pub returns-clause-none : goal.returns-clause-none
returns-clause-none c =
    let at = c.tickets_of-first.ensures.bounds in none c.args.seat.now.lent c.args.share c.tickets_of-first.result.0 c.tickets_of-first.result.1 c.least_idle.result at.0 at.1 c.least_idle.ensures.none

pub returns-clause-some : goal.returns-clause-some
returns-clause-some c =
    let at = c.tickets_of-first.ensures.bounds in
    some c.args.seat.now.lent c.args.share c.tickets_of-first.result.0 c.tickets_of-first.result.1 c.least_idle.result at.0 at.1 c.least_idle.ensures.some c.least_idle.ensures.least
