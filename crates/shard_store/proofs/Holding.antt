-- The region is made of the segments of the memory, also after one more was given.
use Rattle.std.proofs.Common.{◌≡◌, ◌≢◌, ◌⊎◌, inl, inr, ℕ, zero, suc, ◌+◌, ◌*◌, ◌/◌, ◌^◌, ◌<◌, ◌≤◌, Bool, true, false, not, ◌==◌, cond, List, [], ◌∷◌, length, replicate, refl, sym, ap, ◌∙◌, subst, arith}
use Rattle.std.specs.Prelude.{Option, None, Some, IsSome, slice_get, slice_set, slice_index_or, filter, Contains, option_map, map}
use Rattle.std.specs.List.{count_by}
use Rattle.std.proofs.lemmas.Bool.{ne_eqb}
use Rattle.std.proofs.lemmas.List.{map-set}
use Rattle.std.proofs.lemmas.List.Sums.{sum_by-cons}
use Rattle.std.proofs.lemmas.List.Elements.{All-contains}
use Rattle.layout.specs.Sizes.{page, segment, segment_pages, tickets, ArePages}
use Rattle.layout.specs.Counts.{raised}
use Rattle.foreign_list.specs.Lists.{OwnedList}
use Rattle.layout.specs.Extents.{Extent, extent, Disjoint, IsWithin, AreDisjoint}
use Rattle.raw_range.specs.Memory.{Lent, extent_of, remove_extent}
use Rattle.shard_memory.specs.Shards.{MemoryState, ComeBack}
use Rattle.shard_memory.specs.Tickets.{Tickets, tickets_out}
use Rattle.regions.specs.Segments.{SegmentState, RegionState, segment_at, with_segment, fresh}
use Rattle.regions.specs.Shapes.{Identity, Shape, Slot, identity, slot_at, slot_of, slots_of, shape, is_free, is_held, pieces, pieces_in, group_count, group_in, group_of, guards_at, guards_in, held_count, free_count}
use Rattle.regions.specs.Counts.{left_of, objects_in}
use Rattle.rows.specs.Row.{Row}
use Rattle.row_bytes.specs.Rows.{IsRow, row_in, number_in}
use Rattle.regions.specs.Contents.{Item, Standing, object_with, standing, standing_at, standing_in}
use Rattle.regions.specs.declared.place.Place.{Place}
use Rattle.row_cache.specs.Rows.{CacheState, IsSameRow, Keeps, Stay, StandsAt}
use Rattle.compaction.specs.Emptied.{HoldsTheSame}
use Rattle.shard_store.specs.Stores.{SameGuards}
use Rattle.shard_store.specs.inside.Consistent.{IsOf, HoldsAll, IsCounted, IsMadeOf, IsConsistent, LeavesRows}
use Rattle.shard_store.specs.inside.Homecoming.{SameTickets}
use Rattle.shard_store.proofs.Homecoming.{raised-both, raised-small, trimmed-same}

got-set : {X : Type 0} (xs : List X) (n m : ℕ) (x y : X) → slice_get (slice_set xs n x) m ≡ Some y → ((m ≡ n) × (x ≡ y)) ⊎ ((m ≢ n) × (slice_get xs m ≡ Some y))
got-set [] n m x y e = absurd (let clash : None ≡ Some y = e in cc)
got-set (a ∷ xs) zero zero x y e = inl (refl, (let some : Some x ≡ Some y = e in cc))
got-set (a ∷ xs) zero (suc m) x y e = inr (λ h. omega (arith, h), e)
got-set (a ∷ xs) (suc n) zero x y e = inr (λ h. omega (arith, h), e)
got-set (a ∷ xs) (suc n) (suc m) x y e = elim (got-set xs n m x y e) [ inl here ↦ inl (ap (λ k. suc k) here.0, here.1) | inr there ↦ inr (λ h. there.0 (omega (arith, h)), there.1) ]

-- the pieces of a region with another segment at the number
pieces-set : (r : RegionState) (n : ℕ) (piece : Lent) → pieces (with_segment r n (Some (fresh piece))) ≡ slice_set (pieces r) n (Some (identity piece))
pieces-set r n piece =
    ap (map (λ s. option_map (λ (b : Slot). b.piece) s)) (map-set (λ s. option_map slot_of s) r.segments n (Some (fresh piece)))
    ∙ map-set (λ s. option_map (λ (b : Slot). b.piece) s) (slots_of r.segments) n (Some (slot_of (fresh piece)))

further : (p q : Extent) (ps : List Extent) → Contains ps q → Contains (p ∷ ps) q
further p q ps h = (suc h.0, (let inside = h.1 in omega arith), h.2)

-- a segment that was just given begins where no other one does
module _ (old new : MemoryState) (given : Extent) (apart : AreDisjoint (page * new.pages) new.segments) (segments : new.segments ≡ given ∷ old.segments) where
  pub still-contained : (p : Extent) → Contains old.segments p → Contains new.segments p
  still-contained p h = subst (λ xs. Contains xs p) (sym segments) (further given p old.segments h)

  begins-elsewhere : (p : Extent) → Contains old.segments p → p.start ≢ given.start
  begins-elsewhere p h same =
      let all = subst (AreDisjoint (page * new.pages)) segments apart in
      let within : IsWithin (page * new.pages) p = All-contains (IsWithin (page * new.pages)) (given ∷ old.segments) p all.0 (suc h.0, (let inside = h.1 in omega arith), h.2) in
      let here : IsWithin (page * new.pages) given = all.0 0 given (omega arith) in
      let two : Disjoint given p = subst (λ q. Disjoint given q) h.2 (all.1 0 (suc h.0) p (omega arith) (let inside = h.1 in omega arith)) in
      elim two [ inl before ↦ omega (arith, before, same, here.0) | inr behind ↦ omega (arith, behind, same, within.0) ]

-- the region has it besides
module _ (old new : MemoryState) (piece : Lent) (home : (piece.home ≡ old.home) × (new.home ≡ old.home)) (apart : AreDisjoint (page * new.pages) new.segments) (segments : new.segments ≡ extent_of piece ∷ old.segments)
    (r : RegionState) (n : ℕ) (h : HoldsAll old r) where
  abbrev next : RegionState
  next = with_segment r n (Some (fresh piece))

  held-by : (m : ℕ) (q : Identity) → slice_get (pieces next) m ≡ Some (Some q) → ((m ≡ n) × (identity piece ≡ q)) ⊎ (slice_get (pieces r) m ≡ Some (Some q))
  held-by m q e =
      elim (got-set (pieces r) n m (Some (identity piece)) (Some q) (ap (λ ps. slice_get ps m) (sym (pieces-set r n piece)) ∙ e)) [
        | inl here ↦ inl (here.0, (let some : Some (identity piece) ≡ Some q = here.1 in cc))
        | inr there ↦ inr there.1
      ]

  elsewhere : (m : ℕ) (q : Identity) → slice_get (pieces r) m ≡ Some (Some q) → q.at ≢ piece.at
  elsewhere m q e = begins-elsewhere old new (extent_of piece) apart segments (extent q.at q.length) (h.of m q e).segment

  pub holds-more : held_count next ≡ held_count r + 1 → HoldsAll new next
  holds-more held = record {
    of = λ m q e. elim (held-by m q e) [
      | inl here ↦ subst (IsOf new) here.1 (record { home = home.0 ∙ sym home.1; segment = subst (λ xs. Contains xs (extent_of piece)) (sym segments) (0, omega arith, refl) })
      | inr there ↦ record { home = (h.of m q there).home ∙ sym home.1; segment = still-contained old new (extent_of piece) apart segments (extent q.at q.length) (h.of m q there).segment }
    ];
    apart = λ j k a b f g same. elim (held-by j a f) [
      | inl one ↦ elim (held-by k b g) [
        | inl other ↦ one.0 ∙ sym other.0
        | inr there ↦ absurd (elsewhere k b there (sym same ∙ ap (λ (i : Identity). i.at) (sym one.1)))
      ]
      | inr there ↦ elim (held-by k b g) [
        | inl other ↦ absurd (elsewhere j a there (same ∙ ap (λ (i : Identity). i.at) (sym other.1)))
        | inr too ↦ h.apart j k a b there too same
      ]
    ];
    count = held ∙ ap (λ k. k + 1) h.count ∙ (let longer = ap length segments in omega (arith, longer));
  }

-- the pieces are as they were
pub holds-kept : (memory : MemoryState) (old new : RegionState) → pieces new ≡ pieces old → held_count new ≡ held_count old → HoldsAll memory old → HoldsAll memory new
holds-kept memory old new same held h = record {
  of = λ n q e. h.of n q (ap (λ ps. slice_get ps n) (sym same) ∙ e);
  apart = λ m n a b f g. h.apart m n a b (ap (λ ps. slice_get ps m) (sym same) ∙ f) (ap (λ ps. slice_get ps n) (sym same) ∙ g);
  count = held ∙ h.count;
}

pub made-kept : (shard pages regions : ℕ) (memory : MemoryState) (old new : RegionState) → pieces new ≡ pieces old → held_count new ≡ held_count old → (shape new).most ≡ (shape old).most → group_count new ≡ group_count old
    → IsMadeOf shard pages regions memory old → IsMadeOf shard pages regions memory new
made-kept shard pages regions memory old new same held most groups h = record {
  owner = h.owner;
  size = h.size;
  are_pages = h.are_pages;
  blocks = h.blocks;
  most = most ∙ h.most;
  holds = holds-kept memory old new same held h.holds;
  groups = groups ∙ h.groups;
  enough = h.enough;
  counted = h.counted;
}

-- the memory counts as before, or what it lends, or what came home
pub counted-same : (old new : MemoryState) → SameTickets old new → IsCounted old → IsCounted new
counted-same old new same h = record {
  owner = same.owner ∙ h.owner ∙ sym (ap (λ (l : OwnedList). l.owner) same.list);
  tickets = ap length same.lent ∙ h.tickets;
  lends = same.lends ∙ h.lends ∙ ap (λ (n : ℕ). raised n (tickets_out old.lent)) (sym same.backs) ∙ ap (λ (l : Tickets). raised new.backs (tickets_out l)) (sym same.lent);
  backs = subst (λ n. n < 2 ^ 64) (sym same.backs) h.backs;
}

pub counted-lent : (old new : MemoryState) → new.owner ≡ old.owner → new.list ≡ old.list → length new.lent ≡ length old.lent → new.lends ≡ raised old.lends 1 → tickets_out new.lent ≡ tickets_out old.lent + 1
    → new.backs ≡ old.backs → IsCounted old → IsCounted new
counted-lent old new owner list long lends out backs h = record {
  owner = owner ∙ h.owner ∙ sym (ap (λ (l : OwnedList). l.owner) list);
  tickets = long ∙ h.tickets;
  lends = lends ∙ ap (λ n. raised n 1) h.lends ∙ raised-both old.backs (tickets_out old.lent) 1
      ∙ ap (λ n. raised old.backs n) (let e : 1 + tickets_out old.lent ≡ tickets_out new.lent = omega (arith, out) in e) ∙ ap (λ (n : ℕ). raised n (tickets_out new.lent)) (sym backs);
  backs = subst (λ n. n < 2 ^ 64) (sym backs) h.backs;
}

counted-came : (old new : MemoryState) (count : ℕ) → ComeBack old new count → length new.lent ≡ tickets → IsCounted old → IsCounted new
counted-came old new count c long h = record {
  owner = ap (λ (s : MemoryState). s.owner) c.same ∙ h.owner ∙ sym (ap (λ (s : MemoryState). s.list.owner) c.same);
  tickets = long;
  lends = ap (λ (s : MemoryState). s.lends) c.same ∙ h.lends ∙ ap (λ n. raised old.backs n) (sym c.out) ∙ sym (raised-both old.backs count (tickets_out new.lent)) ∙ ap (λ n. raised n (tickets_out new.lent)) (sym c.backs);
  backs = subst (λ n. n < 2 ^ 64) (sym c.backs) (raised-small old.backs count);
}

-- the memory has the same pieces
pub consistent-same : (shard pages regions : ℕ) (old new : MemoryState) (region : RegionState) → new.home ≡ old.home → new.owner ≡ old.owner → new.pages ≡ old.pages → new.blocks ≡ old.blocks → new.segments ≡ old.segments
    → (IsCounted old → IsCounted new) → IsConsistent shard pages regions old region → IsConsistent shard pages regions new region
consistent-same shard pages regions old new region home owner size blocks segments counted h =
    let m = h.made in
    record {
      made = record {
        owner = owner ∙ m.owner;
        size = size ∙ m.size;
        are_pages = m.are_pages;
        blocks = blocks ∙ m.blocks;
        most = m.most;
        holds = record {
          of = λ n piece e. let of = m.holds.of n piece e in record { home = of.home ∙ sym home; segment = subst (λ xs. Contains xs (extent piece.at piece.length)) (sym segments) of.segment };
          apart = m.holds.apart;
          count = m.holds.count ∙ ap length (sym segments);
        };
        groups = m.groups;
        enough = m.enough;
        counted = counted m.counted;
      };
      free = h.free;
    }

pub consistent-came : (shard pages regions : ℕ) (old new : MemoryState) (count : ℕ) (region : RegionState) → ComeBack old new count → length new.lent ≡ tickets
    → IsConsistent shard pages regions old region → IsConsistent shard pages regions new region
consistent-came shard pages regions old new count region c long h =
    consistent-same shard pages regions old new region (ap (λ (s : MemoryState). s.home) c.same) (ap (λ (s : MemoryState). s.owner) c.same) (ap (λ (s : MemoryState). s.pages) c.same) (ap (λ (s : MemoryState). s.blocks) c.same) (ap (λ (s : MemoryState). s.segments) c.same)
    (counted-came old new count c long) h

pub consistent-trimmed : (shard pages regions : ℕ) (old new : MemoryState) (region : RegionState) → new ≡ record old { pages_out = new.pages_out; room = new.room } → IsConsistent shard pages regions old region → IsConsistent shard pages regions new region
consistent-trimmed shard pages regions old new region same h =
    consistent-same shard pages regions old new region (ap (λ (s : MemoryState). s.home) same) (ap (λ (s : MemoryState). s.owner) same) (ap (λ (s : MemoryState). s.pages) same) (ap (λ (s : MemoryState). s.blocks) same) (ap (λ (s : MemoryState). s.segments) same)
    (counted-same old new (trimmed-same old new same)) h

-- another region holds the same
pub consistent-held : (shard pages regions : ℕ) (memory : MemoryState) (old new : RegionState) → HoldsTheSame old new → 1 ≤ free_count new → IsConsistent shard pages regions memory old → IsConsistent shard pages regions memory new
consistent-held shard pages regions memory old new holds free h = record {
  made = made-kept shard pages regions memory old new holds.pieces holds.held holds.most holds.groups h.made;
  free = free;
}

-- what holds for some owner, pages and number of groups holds for those that there are
pub made-own : (shard pages regions : ℕ) (memory : MemoryState) (region : RegionState) → IsMadeOf shard pages regions memory region → IsMadeOf memory.owner memory.pages (group_count region) memory region
made-own shard pages regions memory region m = record {
  owner = refl;
  size = refl;
  are_pages = subst ArePages (sym m.size) m.are_pages;
  blocks = m.blocks;
  most = m.most ∙ ap (λ k. k / segment_pages) (sym m.size);
  holds = m.holds;
  groups = refl;
  enough = (let same = ap (λ k. k / segment_pages) m.size in let groups = m.groups in let enough = m.enough in omega (arith, same, groups, enough));
  counted = m.counted;
}

pub consistent-own : (shard pages regions : ℕ) (memory : MemoryState) (region : RegionState) → IsConsistent shard pages regions memory region → IsConsistent memory.owner memory.pages (group_count region) memory region
consistent-own shard pages regions memory region h = record { made = made-own shard pages regions memory region h.made; free = h.free }

-- what holds for the owner, the pages and the groups that there were before holds for those that they are
pub consistent-since : (shard pages regions : ℕ) (mid new : MemoryState) (before after : RegionState) → IsMadeOf shard pages regions mid before
    → IsConsistent mid.owner mid.pages (group_count before) new after → IsConsistent shard pages regions new after
consistent-since shard pages regions mid new before after m h =
    subst (λ (k : ℕ). IsConsistent shard pages k new after) m.groups
    (subst (λ (k : ℕ). IsConsistent shard k (group_count before) new after) m.size (subst (λ (k : ℕ). IsConsistent k mid.pages (group_count before) new after) m.owner h))

-- rows that stand at places where each object stays
item-of : (o : Option Standing) (item : Item) → option_map (λ (s : Standing). s.item) o ≡ Some item → (s : Standing) × (o ≡ Some s) × (s.item ≡ item)
item-of None item e = absurd (let clash : None ≡ Some item = e in cc)
item-of (Some s) item e = (s, refl, (let some : Some s.item ≡ Some item = e in cc))

row-of : (item now : Item) (row : Row) → (now ≡ item) ⊎ IsSameRow item now → IsRow item.content → row_in item.content ≡ row → IsRow now.content × (row_in now.content ≡ row)
row-of item now row (inl same) is read = (subst (λ (i : Item). IsRow i.content) (sym same) is, ap (λ (i : Item). row_in i.content) same ∙ read)
row-of item now row (inr same) is read = ((number_in item.content, row_in item.content, same.is), same.row ∙ read)

pub rows-stay : (old new : RegionState) → Stay old new → (p : Place) (row : Row) → StandsAt old p row → StandsAt new p row
rows-stay old new stay p row h =
    let there = stay p h.0.item (ap (option_map (λ (s : Standing). s.item)) h.1) in
    let found = item-of (standing_at new p) there.0 there.1 in
    let is = row-of h.0.item there.0 row there.2 h.2 h.3 in
    (found.0, found.1, subst (λ (i : Item). IsRow i.content) (sym found.2) is.0, ap (λ (i : Item). row_in i.content) found.2 ∙ is.1)

-- an object is of the group of its segment
slot-in : (segments : List (Option SegmentState)) (n : ℕ) → slot_at (slots_of segments) n ≡ option_map slot_of (slice_index_or segments n None)
slot-in [] zero = refl
slot-in [] (suc n) = refl
slot-in (x ∷ xs) zero = refl
slot-in (x ∷ xs) (suc n) = slot-in xs n

group-found : {O : Type 0} (read : O → Standing) (group : Option ℕ) → ((o : O) → (read o).item.group ≡ group) → (found : Option O) (s : Standing) → option_map read found ≡ Some s → s.item.group ≡ group
group-found read group of None s e = absurd (let clash : None ≡ Some s = e in cc)
group-found read group of (Some o) s e =
    let same : read o ≡ s = (let some : Some (read o) ≡ Some s = e in cc) in ap (λ (x : Standing). x.item.group) (sym same) ∙ of o

group-in : (segment : Option SegmentState) (at : ℕ) (s : Standing) → standing_in segment at ≡ Some s → s.item.group ≡ group_in (option_map slot_of segment)
group-in None at s e = absurd (let clash : None ≡ Some s = e in cc)
group-in (Some h) at s e = group-found (standing h.group h.piece.bytes) h.group (λ _. refl) (object_with at (objects_in h)) s e

group-there : (r : RegionState) (p : Place) (s : Standing) → standing_at r p ≡ Some s → s.item.group ≡ group_of r p.segment
group-there r p s e = group-in (segment_at r p.segment) p.at s e ∙ ap group_in (sym (slot-in r.segments p.segment))

group-kept : (item now : Item) → (now ≡ item) ⊎ IsSameRow item now → now.group ≡ item.group
group-kept item now (inl same) = ap (λ (i : Item). i.group) same
group-kept item now (inr same) = same.group

guards-in : (old new : RegionState) (group : Option ℕ) → SameGuards old new → guards_in (shape new).groups group ≡ guards_in (shape old).groups group
guards-in old new None same = refl
guards-in old new (Some g) same = same g

-- so rows that stay are under as many guards
pub rows-guarded : (old new : RegionState) → Stay old new → SameGuards old new → (p : Place) (row : Row) → StandsAt old p row → guards_at new p.segment ≡ guards_at old p.segment
rows-guarded old new stay same p row h =
    let there = stay p h.0.item (ap (option_map (λ (s : Standing). s.item)) h.1) in
    let found = item-of (standing_at new p) there.0 there.1 in
    let group : group_of new p.segment ≡ group_of old p.segment =
    sym (group-there new p found.0 found.1) ∙ ap (λ (i : Item). i.group) found.2 ∙ group-kept h.0.item there.0 there.2 ∙ group-there old p h.0 h.1 in
    ap (guards_in (shape new).groups) group ∙ guards-in old new (group_of old p.segment) same

-- a cache that no call touched
pub keeps-same : (c : CacheState) → Keeps c c
keeps-same c = record { room = refl; stay = λ p i e. (i, e, inl refl) }

pub leaves-same : (m n : MemoryState) (c : CacheState) → ((shard pages regions : ℕ) → IsConsistent shard pages regions m c.region → IsConsistent shard pages regions n c.region) → LeavesRows m n c c
leaves-same m n c consistent = record { rows = refl; keeps = keeps-same c; guards = λ g. refl; consistent = consistent }

-- a free segment that is taken out
piece-in : (segments : List (Option SegmentState)) (n : ℕ) (piece : Lent) → slice_index_or segments n None ≡ Some (fresh piece) → slice_get (pieces_in (slots_of segments)) n ≡ Some (Some (identity piece))
piece-in [] zero piece e = absurd (let clash : None ≡ Some (fresh piece) = e in cc)
piece-in [] (suc n) piece e = absurd (let clash : None ≡ Some (fresh piece) = e in cc)
piece-in (x ∷ xs) zero piece e = ap (λ (o : Option SegmentState). Some (option_map (λ (b : Slot). b.piece) (option_map slot_of o))) e
piece-in (x ∷ xs) (suc n) piece e = piece-in xs n piece e

pub piece-at : (r : RegionState) (n : ℕ) (piece : Lent) → segment_at r n ≡ Some (fresh piece) → slice_get (pieces r) n ≡ Some (Some (identity piece))
piece-at r n piece e = piece-in r.segments n piece e

pub pieces-without : (r : RegionState) (n : ℕ) → pieces (with_segment r n None) ≡ slice_set (pieces r) n None
pieces-without r n =
    ap (map (λ s. option_map (λ (b : Slot). b.piece) s)) (map-set (λ s. option_map slot_of s) r.segments n None)
    ∙ map-set (λ s. option_map (λ (b : Slot). b.piece) s) (slots_of r.segments) n None

pub at-least-two : (n : ℕ) → (n ≤ 1 → ⊥) → 2 ≤ n
at-least-two zero more = absurd (more (omega arith))
at-least-two (suc zero) more = absurd (more (omega arith))
at-least-two (suc (suc n)) more = omega arith

-- a region that holds no segment
abbrev nothing : ℕ → List (Option Slot)
nothing k = slots_of (replicate k None)

no-piece : (k n : ℕ) (q : Identity) → slice_get (pieces_in (nothing k)) n ≡ Some (Some q) → ⊥
no-piece zero n q e = absurd (let clash : None ≡ Some (Some q) = e in cc)
no-piece (suc k) zero q e = absurd (let clash : Some None ≡ Some (Some q) = e in cc)
no-piece (suc k) (suc n) q e = no-piece k n q e

pub none-counted : (p : Option Slot → Bool) (k : ℕ) → p None ≡ false → count_by p (nothing k) ≡ 0
none-counted p zero off = refl
none-counted p (suc k) off =
    let step = sum_by-cons (λ s. cond (p s) 1 0) None (nothing k) in let rest = none-counted p k off in
    let here = ap (λ (b : Bool). let n : ℕ = cond b 1 0 in n) off in omega (arith, step, rest, here)

pub holds-none : (memory : MemoryState) (k : ℕ) (region : RegionState) → memory.segments ≡ [] → region.segments ≡ replicate k None → HoldsAll memory region
holds-none memory k region segments none = record {
  of = λ n q e. absurd (no-piece k n q (ap (λ xs. slice_get (pieces_in (slots_of xs)) n) (sym none) ∙ e));
  apart = λ m n a b e f same. absurd (no-piece k n b (ap (λ xs. slice_get (pieces_in (slots_of xs)) n) (sym none) ∙ f));
  count = ap (λ xs. count_by is_held (slots_of xs)) none ∙ none-counted is_held k refl ∙ ap length (sym segments);
}

-- what passes stays in a list where the others go
kept-at : (test : Extent → Bool) (q : Extent) (ps : List Extent) (k : ℕ) → k < length ps → slice_index_or ps k q ≡ q → test q ≡ true → Contains (filter test ps) q
kept-at test q [] k inside at is = absurd (omega (arith, inside))
kept-at test q (p ∷ ps) zero inside at is = subst (λ b. Contains (cond b (p ∷ filter test ps) (filter test ps)) q) (sym (ap test at ∙ is)) (0, omega arith, at)
kept-at test q (p ∷ ps) (suc k) inside at is =
    let rest = kept-at test q ps k (omega (arith, inside)) at is in
    elim (test p) as (λ b. Contains (cond b (p ∷ filter test ps) (filter test ps)) q) [ true ↦ further p q (filter test ps) rest | false ↦ rest ]

-- a segment was given back
module _ (old new : MemoryState) (home : new.home ≡ old.home) (piece : Lent) (segments : new.segments ≡ remove_extent (extent_of piece) old.segments) (one-less : length new.segments + 1 ≡ length old.segments)
    (r next : RegionState) (n : ℕ) (there : slice_get (pieces r) n ≡ Some (Some (identity piece))) (without : pieces next ≡ slice_set (pieces r) n None) (held : held_count next + 1 ≡ held_count r) (h : HoldsAll old r) where
  held-still : (m : ℕ) (q : Identity) → slice_get (pieces next) m ≡ Some (Some q) → (m ≢ n) × (slice_get (pieces r) m ≡ Some (Some q))
  held-still m q e =
      elim (got-set (pieces r) n m None (Some q) (ap (λ ps. slice_get ps m) (sym without) ∙ e)) [
        | inl here ↦ absurd (let clash : None ≡ Some q = here.1 in cc)
        | inr other ↦ other
      ]

  pub holds-less : HoldsAll new next
  holds-less = record {
    of = λ m q e.
        let was = held-still m q e in let of = h.of m q was.1 in
        let elsewhere : q.at ≢ piece.at = λ same. was.0 (h.apart m n q (identity piece) was.1 there same) in
        record { home = of.home ∙ sym home; segment = subst (λ xs. Contains xs (extent q.at q.length)) (sym segments) (kept-at (λ b. not (b.start == piece.at)) (extent q.at q.length) old.segments of.segment.0 of.segment.1 of.segment.2 (ap not (ne_eqb q.at piece.at elsewhere))) };
    apart = λ j k a b f g same. h.apart j k a b (held-still j a f).1 (held-still k b g).1 same;
    count = let counted = h.count in omega (arith, held, one-less, counted);
  }

-- what has a whole segment left has one
pub left-of-one : (used : List ℕ) (active : Option ℕ) → left_of used active ≡ segment → IsSome active
left-of-one used None whole = absurd (omega (arith, whole))
left-of-one used (Some n) whole = refl

-- a region of the same shape
pub consistent-shape : (shard pages regions : ℕ) (memory : MemoryState) (old new : RegionState) → shape new ≡ shape old → IsConsistent shard pages regions memory old → IsConsistent shard pages regions memory new
consistent-shape shard pages regions memory old new same h = record {
  made = made-kept shard pages regions memory old new (ap (λ (s : Shape). pieces_in s.slots) same) (ap (λ (s : Shape). count_by is_held s.slots) same) (ap (λ (s : Shape). s.most) same)
      (ap (λ (s : Shape). length s.groups) same) h.made;
  free = subst (λ (s : Shape). 1 ≤ count_by is_free s.slots) (sym same) h.free;
}
