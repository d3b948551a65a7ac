-- The region and the store under other guards.
use Rattle.std.proofs.Common.{◌≡◌, ℕ, ◌≤◌, List, sym, ap, ◌∙◌, subst}
use Rattle.rows.specs.Row.{Row}
use Rattle.regions.specs.Segments.{RegionState}
use Rattle.regions.specs.Segments as segments
use Rattle.regions.specs.Shapes.{free_count, group_count, held_count, pieces, shape}
use Rattle.row_cache.specs.Rows.{CacheState, rows_of}
use Rattle.shard_memory.specs.Shards.{MemoryState}
use Rattle.shard_store.specs.Stores.{StoreState, with_guards}
use Rattle.shard_store.specs.inside.Consistent.{IsConsistent, store_of}
use Rattle.shard_store.proofs.Groups.{groups-guarded}
use Rattle.shard_store.proofs.Holding.{made-kept}

-- the region with other guards on a group
pub consistent-guarded : (shard pages regions : ℕ) (memory : MemoryState) (old new : RegionState) (g guards : ℕ) → new ≡ segments.with_guards old g guards
    → IsConsistent shard pages regions memory old → IsConsistent shard pages regions memory new
consistent-guarded shard pages regions memory old new g guards is h = record {
  made = made-kept shard pages regions memory old new (ap pieces is) (ap held_count is) (ap (λ (r : RegionState). (shape r).most) is) (groups-guarded old new g guards is) h.made;
  free = subst (λ n. 1 ≤ n) (sym (ap free_count is)) h.free;
}

abbrev built : MemoryState → ℕ → ℕ → List Row → RegionState → StoreState
built m regions room rows region = record {
  shard = m.owner;
  pages = m.pages;
  regions = regions;
  room = room;
  rows = rows;
  list = m.list;
  lent = m.lent;
  lends = m.lends;
  backs = m.backs;
  looks = m.take_wholes;
  region = region;
  free = m.room;
}

pub store-guarded : (m : MemoryState) (old new : CacheState) (g guards : ℕ) → rows_of new ≡ rows_of old → new.room ≡ old.room → new.region ≡ segments.with_guards old.region g guards
    → store_of m new ≡ with_guards (store_of m old) g guards
store-guarded m old new g guards rows room is =
    let groups = groups-guarded old.region new.region g guards is in
    ap (λ (n : ℕ). built m n new.room (rows_of new) new.region) groups
    ∙ (ap (λ (n : ℕ). built m (group_count old.region) n (rows_of new) new.region) room
    ∙ (ap (λ (rows : List Row). built m (group_count old.region) old.room rows new.region) rows ∙ ap (λ (r : RegionState). built m (group_count old.region) old.room (rows_of old) r) is))
