use Rattle.std.proofs.Common.{◌≡◌, ◌⊎◌, inl, inr, ℕ, ◌+◌, ◌/◌, ◌≤◌, replicate, sym, ap, ◌∙◌, subst, refl, arith}
use Rattle.std.specs.Prelude.{None}
use Rattle.std.proofs.lemmas.List.{length-replicate}
use Rattle.layout.specs.Sizes.{fewest_table_pages, segment_pages, tables, tickets, ArePages}
use Rattle.foreign_list.specs.Lists.{OwnedList}
use Rattle.regions.specs.Segments.{RegionState, idle}
use Rattle.regions.specs.Shapes.{shape, is_free, group_count, guards_of, free_count}
use Rattle.shard_memory.specs.Tickets.{Tickets, tickets_out}
use Rattle.shard_store.proofs.Homecoming.{none-out}
use Rattle.shard_store.proofs.Groups.{guards-idle}
use Rattle.shard_store.proofs.Holding.{none-counted, holds-none}
use Rattle.shard_store.proofs.store.ShardStore.open.Goals as goal

-- there are as many groups as regions
groups-are : (most regions : ℕ) (r : RegionState) → r ≡ record { most = most; groups = replicate regions idle; segments = replicate most None } → group_count r ≡ regions
groups-are most regions r is = ap group_count is ∙ length-replicate regions idle

some-regions : (pages regions : ℕ) → (regions ≡ 1) ⊎ ((regions ≡ tables) × (fewest_table_pages ≤ pages)) → (1 ≤ regions) × (regions ≤ 8)
some-regions pages regions (inl one) = (omega (arith, one), omega (arith, one))
some-regions pages regions (inr all) = let e = all.0 in (omega (arith, e), omega (arith, e))

-- the pages are enough for them
enough : (pages regions size groups : ℕ) → ArePages pages → (regions ≡ 1) ⊎ ((regions ≡ tables) × (fewest_table_pages ≤ pages)) → size ≡ pages → groups ≡ regions
    → tickets + 2 + groups ≤ size / segment_pages
enough pages regions size groups are (inl one) same count = (let least : 40 ≤ size / segment_pages = omega (arith, are.0, same) in omega (arith, least, one, count))
enough pages regions size groups are (inr all) same count =
    let e = all.0 in let more = all.1 in let least : 48 ≤ size / segment_pages = omega (arith, more, same) in omega (arith, least, e, count)

pub new-requires-clause-regions : goal.new-requires-clause-regions
new-requires-clause-regions c = some-regions c.args.pages c.args.regions c.requires.regions

pub begin-requires-clause-made : goal.begin-requires-clause-made
begin-requires-clause-made c =
    let r = c.in-Ok.ensures.region in let e = c.in_ok-memory.ensures in
    record {
      owner = refl;
      size = refl;
      are_pages = subst ArePages (sym e.numbers.1) c.requires.pages;
      blocks = e.blocks.0;
      most = ap (λ (r : RegionState). (shape r).most) r ∙ ap (λ k. k / segment_pages) (sym e.numbers.1);
      holds = holds-none c.in_ok-memory.memory _ c.in-Ok.cache.region e.segments (ap (λ (r : RegionState). r.segments) r);
      groups = refl;
      enough = enough c.args.pages c.args.regions c.in_ok-memory.memory.pages (group_count c.in-Ok.cache.region) c.requires.pages c.requires.regions e.numbers.1 (groups-are _ c.args.regions c.in-Ok.cache.region r);
      counted =
          (let idle = ap (λ (l : Tickets). tickets_out l) e.lent ∙ none-out _ c.requires.seat.idle in let lends = e.counts.0 in let backs = e.counts.1 in
          record {
            owner = e.numbers.0 ∙ sym c.requires.owner ∙ sym (ap (λ (l : OwnedList). l.owner) e.list);
            tickets = e.tickets;
            lends = omega (arith, idle, lends, backs);
            backs = omega (arith, backs);
          });
    }

pub begin-requires-clause-groups : goal.begin-requires-clause-groups
begin-requires-clause-groups c =
    let groups = groups-are _ c.args.regions c.in-Ok.cache.region c.in-Ok.ensures.region in let some = (some-regions c.args.pages c.args.regions c.requires.regions).0 in omega (arith, groups, some)

pub begin-requires-clause-free : goal.begin-requires-clause-free
begin-requires-clause-free c = ap (λ (r : RegionState). free_count r) c.in-Ok.ensures.region ∙ none-counted is_free (c.args.pages / segment_pages) refl

pub begin-requires-clause-idle : goal.begin-requires-clause-idle
begin-requires-clause-idle c = ap (λ (l : Tickets). tickets_out l) c.in_ok-memory.ensures.lent ∙ none-out _ c.requires.seat.idle

pub returns-clause-regions : goal.returns-clause-regions
returns-clause-regions c = c.begin.ensures.consistent.made.groups ∙ groups-are _ c.args.regions c.in-Ok.cache.region c.in-Ok.ensures.region

pub returns-clause-unguarded : goal.returns-clause-unguarded
returns-clause-unguarded c = λ g.
    c.begin.ensures.guards g ∙ ap (λ (r : RegionState). guards_of r g) c.in-Ok.ensures.region ∙ guards-idle c.args.regions g

pub returns-clause-idle : goal.returns-clause-idle
returns-clause-idle c = ap (λ (l : Tickets). tickets_out l) (c.begin.ensures.tickets.lent ∙ c.in_ok-memory.ensures.lent) ∙ none-out _ c.requires.seat.idle
