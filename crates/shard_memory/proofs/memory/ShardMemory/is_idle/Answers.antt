use Rattle.std.proofs.Common.{◌≡◌, ℕ, Bool, true, false, Option, Some, None, IfSome, IfNone, IsTrue, is_some, length, ◌↔◌, refl, sym, subst}
use Rattle.layout.specs.Sizes.{tickets}
use Rattle.shard_memory.specs.Tickets.{Tickets, HasIdle, IsLeastIdle}
use Rattle.shard_memory.specs.Shards.{MemoryState}
use Rattle.shard_memory.specs.declared.share.Share.{Share}
use Rattle.shard_memory.proofs.memory.ShardMemory.is_idle.Goals as goal

told : (lent : Tickets) (share : Share) (found : Option ℕ) → IfNone found (¬ HasIdle lent share) → IfSome found (IsLeastIdle lent share) → is_some found ≡ true ↔ HasIdle lent share
told lent share None none some = (λ e. absurd (let clash : false ≡ true = e in cc), λ has. absurd (none has))
told lent share (Some t) none some = (λ _. (t, some.of_share, some.idle), λ _. refl)

pub returns-clause-idle : goal.returns-clause-idle
returns-clause-idle c =
    subst (λ (s : MemoryState). IsTrue c.is_some.result ↔ HasIdle s.lent c.args.share) c.self.view_is
    (subst (λ (b : Bool). b ≡ true ↔ HasIdle c.self.inside.seat.lent c.args.share) (sym c.is_some.ensures)
    (told c.self.inside.seat.lent c.args.share c.first_idle.result c.first_idle.ensures.none c.first_idle.ensures.some))

pub returns-clause-tickets : goal.returns-clause-tickets
returns-clause-tickets c = subst (λ (s : MemoryState). length s.lent ≡ tickets) c.self.view_is c.self.invariant.lent.count
