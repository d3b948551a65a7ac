-- What calls on a store leave as it was, one after another, and the bounds of a cache.
use Rattle.std.proofs.Common.{◌≡◌, ℕ, ◌+◌, ◌-◌, ◌*◌, ◌/◌, ◌≤◌, Some, refl, sym, ap, subst, ◌∙◌, arith}
use Rattle.rows.specs.Row.{Row}
use Rattle.row_bytes.specs.Rows.{row_in}
use Rattle.regions.specs.Contents.{Standing}
use Rattle.regions.specs.Segments.{RegionState}
use Rattle.regions.specs.declared.place.Place.{Place}
use Rattle.row_cache.specs.Rows.{StandsAt}
use Rattle.shard_memory.specs.Tickets.{Tickets, tickets_out}
use Rattle.shard_store.specs.Stores.{IsSameStore, KeepsTickets, StoreState}
use Rattle.shard_store.specs.Lending.{ComeHome, TakesBack}
use Rattle.shard_store.specs.Works.{pressure}
use Rattle.embedded_cache.specs.States.{EmbeddedState, least_bound, most_bound}
use Rattle.embedded_cache.specs.inside.Limits.{AreLimits}

pub same_store : (s : StoreState) → IsSameStore s s
same_store s = record { shard = refl; pages = refl; regions = refl; room = refl; list = refl; guards = λ g. refl }

pub same_both : (a b c : StoreState) → IsSameStore a b → IsSameStore b c → IsSameStore a c
same_both a b c p q = record {
  shard = q.shard ∙ p.shard;
  pages = q.pages ∙ p.pages;
  regions = q.regions ∙ p.regions;
  room = q.room ∙ p.room;
  list = q.list ∙ p.list;
  guards = λ g. q.guards g ∙ p.guards g;
}

pub keeps_none : (s : StoreState) → KeepsTickets s s
keeps_none s = record { lent = refl; lends = refl; backs = refl; looks = refl }

pub keeps_both : (a b c : StoreState) → KeepsTickets a b → KeepsTickets b c → KeepsTickets a c
keeps_both a b c p q = record { lent = q.lent ∙ p.lent; lends = q.lends ∙ p.lends; backs = q.backs ∙ p.backs; looks = q.looks ∙ p.looks }

-- blocks came home behind calls that left them alone
pub taken_after : (a b c : StoreState) → KeepsTickets a b → TakesBack b c → TakesBack a c
taken_after a b c k t = record {
  home = subst (λ (l : Tickets). ComeHome l c.lent a.backs c.backs) k.lent (subst (λ (n : ℕ). ComeHome b.lent c.lent n c.backs) k.backs t.home);
  lends = t.lends ∙ k.lends;
  looks = let was = k.looks in let more = t.looks in omega (arith, was, more);
}

-- the pages hold as much as before
pub pressed_same : (a b : StoreState) → IsSameStore a b → KeepsTickets a b → pressure b.pages b.lent b.regions ≡ pressure a.pages a.lent a.regions
pressed_same a b same keeps =
    ap (λ (n : ℕ). pressure n b.lent b.regions) same.pages
    ∙ (ap (λ (l : Tickets). pressure a.pages l b.regions) keeps.lent ∙ ap (λ (n : ℕ). pressure a.pages a.lent n) same.regions)

-- two rows that stand at one place are one
pub same_row : (r : RegionState) (p : Place) (a b : Row) → StandsAt r p a → StandsAt r p b → a ≡ b
same_row r p a b one other =
    let same : one.0 ≡ other.0 = (let some : Some one.0 ≡ Some other.0 = sym one.1 ∙ other.1 in cc) in sym one.3 ∙ (ap (λ (s : Standing). row_in s.item.content) same ∙ other.3)

-- where no block is out the bound is the one that was asked for
pub least_is : (s : EmbeddedState) → s.bound ≤ most_bound s.store.pages s.store.regions → tickets_out s.store.lent ≡ 0 → least_bound s ≡ s.bound
least_is s low none =
    let segments = s.store.pages / 32 in
    let wide : s.bound ≤ (segments - 1 - s.store.regions - tickets_out s.store.lent) * 118776 + 118776 = omega (arith, low, none) in
    grind (arith, wide)

-- the limits are those of a store of the same pages and tables, with as much memory for the pieces of a value
pub limits_still : (room bound capacity now : ℕ) (a b : StoreState) → IsSameStore a b → capacity ≤ now → AreLimits room bound capacity a → AreLimits room bound now b
limits_still room bound capacity now a b same more are = record {
  room_is = are.room_is ∙ sym same.room;
  some = are.some;
  few = are.few;
  low = subst (λ (n : ℕ). bound ≤ most_bound n b.regions) (sym same.pages) (subst (λ (n : ℕ). bound ≤ most_bound a.pages n) (sym same.regions) are.low);
  wide = let wide = are.wide in omega (arith, wide, more);
}
