-- What the live bytes exceed where nothing is left but to evict.
use Rattle.std.proofs.Common.{◌≡◌, ◌⊎◌, inl, inr, ℕ, zero, suc, ◌+◌, ◌-◌, ◌*◌, ◌/◌, ◌<◌, ◌≤◌, Bool, true, false, cond, [], ◌∷◌, length, sym, ap, ◌∙◌, subst, arith}
use Rattle.std.specs.Prelude.{Option, None, Some, IfSome, IfNone, is_some, slice_set}
use Rattle.std.proofs.lemmas.List.Sums.{sum_by-cons}
use Rattle.layout.specs.Sizes.{dense, segment_pages, tickets}
use Rattle.foreign_list.specs.declared.piece_id.PieceId.{PieceId}
use Rattle.foreign_list.specs.Blocks.{Block, piece_id_of}
use Rattle.regions.specs.Segments.{RegionState}
use Rattle.regions.specs.Shapes.{group_count, held_count}
use Rattle.row_cache.specs.Rows.{CacheState}
use Rattle.shard_memory.specs.Shards.{MemoryState, IsCrowded}
use Rattle.shard_memory.specs.Tickets.{Tickets, tickets_out}
use Rattle.shard_memory.specs.declared.share.Share.{Share}
use Rattle.shard_store.specs.Works.{floor_of, pressure}
use Rattle.shard_store.specs.Lending.{HandsOneBack}
use Rattle.shard_store.specs.inside.Consistent.{IsMadeOf, store_of}
use Rattle.shard_store.specs.inside.Homecoming.{GivesAfter, HandsBack, TakesHome}
use Rattle.shard_store.proofs.Homecoming.{out-bound}

-- of so many segments that the pages make, `segments` are segments, and the others each hold a lent block
above : (made regions segments out out_now live : ℕ) → tickets + 2 + regions ≤ made → made ≤ segments + out_now → out_now ≤ out → out ≤ tickets
    → (segments - 1 - regions) * (dense + 1) ≤ live → (made - 1 - regions - out) * dense < live
above made regions segments out out_now live enough crowded fewer few most = omega (arith, enough, crowded, fewer, few, most)

above-dense : (made regions segments out out_now live : ℕ) → tickets + 2 + regions ≤ made → made ≤ segments + out_now → out_now ≤ out → out ≤ tickets
    → (segments - regions) * (dense + 1) ≤ live → (made - 1 - regions - out) * dense + dense < live
above-dense made regions segments out out_now live enough crowded fewer few most = omega (arith, enough, crowded, fewer, few, most)

-- segments and lent blocks are together as many as the pages make segments
pub pages-filled : (shard pages regions : ℕ) (old new : MemoryState) (region : RegionState) → IsMadeOf shard pages regions new region → new.pages ≡ old.pages → IsCrowded new
    → old.pages / segment_pages ≤ held_count region + tickets_out new.lent
pages-filled shard pages regions old new region made size crowded =
    let few = made.holds.count in let none = ap length made.blocks in let here : new.pages / segment_pages ≤ length new.segments + (length new.blocks + tickets_out new.lent) = crowded in
    let same = ap (λ k. k / segment_pages) size in omega (arith, few, none, here, same)

module _ (shard pages regions : ℕ) (old new : MemoryState) (region : RegionState) (live : ℕ) (made : IsMadeOf shard pages regions new region) (takes : TakesHome old new)
    (crowded : IsCrowded new) (count : length old.lent ≡ tickets) where
  enough : tickets + 2 + regions ≤ old.pages / segment_pages
  enough = let same = ap (λ k. k / segment_pages) (sym made.size ∙ takes.pages) in let most = made.enough in omega (arith, same, most)

  filled : old.pages / segment_pages ≤ held_count region + tickets_out new.lent
  filled = pages-filled shard pages regions old new region made takes.pages crowded

  fewer : tickets_out new.lent ≤ tickets_out old.lent
  fewer = let out = takes.home.out in omega (arith, out)

  few : tickets_out old.lent ≤ tickets
  few = let bound = out-bound old.lent in omega (arith, bound, count)

  pub block-pressed : (held_count region - 1 - group_count region) * (dense + 1) ≤ live → floor_of old.pages old.lent regions < live
  block-pressed most =
      above (old.pages / segment_pages) regions (held_count region) (tickets_out old.lent) (tickets_out new.lent) live enough filled fewer few
      (subst (λ count. (held_count region - 1 - count) * (dense + 1) ≤ live) made.groups most)

  pub put-pressed : (held_count region - group_count region) * (dense + 1) ≤ live → pressure old.pages old.lent regions < live
  put-pressed most =
      above-dense (old.pages / segment_pages) regions (held_count region) (tickets_out old.lent) (tickets_out new.lent) live enough filled fewer few
      (subst (λ count. (held_count region - count) * (dense + 1) ≤ live) made.groups most)

-- the bounds are no higher where more tickets are out
pub floor-kept : (regions : ℕ) (old new : MemoryState) (live : ℕ) → TakesHome old new → floor_of new.pages new.lent regions < live → floor_of old.pages old.lent regions < live
floor-kept regions old new live takes more =
    let same = ap (λ k. k / segment_pages) takes.pages in let out = takes.home.out in
    let here : (new.pages / segment_pages - 1 - regions - tickets_out new.lent) * dense < live = more in omega (arith, same, out, here)

pub pressure-kept : (regions : ℕ) (old new : MemoryState) (live : ℕ) → TakesHome old new → pressure new.pages new.lent regions < live → pressure old.pages old.lent regions < live
pressure-kept regions old new live takes more =
    let same = ap (λ k. k / segment_pages) takes.pages in let out = takes.home.out in
    let here : (new.pages / segment_pages - 1 - regions - tickets_out new.lent) * dense + dense < live = more in omega (arith, same, out, here)

-- where these are, a segment that goes for a block goes as callers are told
pub hands-one : (old mid new : MemoryState) (before after : CacheState) (block : Option Block) → old.pages / segment_pages ≤ held_count before.region + tickets_out mid.lent
    → IfSome block (λ _. HandsBack before.region after.region) → IfSome block (λ _. tickets_out new.lent ≡ tickets_out mid.lent + 1) → IfNone block ((new ≡ mid) × (after ≡ before))
    → (after.region ≡ before.region) ⊎ HandsOneBack (store_of old before) (store_of new after)
hands-one old mid new before after None full handed out same = let kept : (new ≡ mid) × (after ≡ before) = same in inl (ap (λ (c : CacheState). c.region) kept.1)
hands-one old mid new before after (Some block) full handed out same =
    let back : HandsBack before.region after.region = handed in let one : tickets_out new.lent ≡ tickets_out mid.lent + 1 = out in
    let more : old.pages / segment_pages < held_count before.region + tickets_out new.lent = omega (arith, full, one) in
    inr (record { some = back.0; one = back.1; crowded = more })

-- a lent block takes one ticket, and a put's bound is a dense segment higher
out-set : (lent : Tickets) (t : ℕ) (p : Option PieceId) → tickets_out (slice_set lent t p) ≤ tickets_out lent + 1
out-set [] zero p = omega arith
out-set [] (suc t) p = omega arith
out-set (x ∷ lent) zero p =
    let old = sum_by-cons (λ (o : Option PieceId). cond (is_some o) 1 0) x lent in let new = sum_by-cons (λ (o : Option PieceId). cond (is_some o) 1 0) p lent in
    let one = at-most-one (is_some p) in omega (arith, old, new, one) where
      at-most-one : (b : Bool) → (let n : ℕ = cond b 1 0 in n) ≤ 1
      at-most-one true = omega arith
      at-most-one false = omega arith
out-set (x ∷ lent) (suc t) p =
    let old = sum_by-cons (λ (o : Option PieceId). cond (is_some o) 1 0) x lent in let new = sum_by-cons (λ (o : Option PieceId). cond (is_some o) 1 0) x (slice_set lent t p) in
    let rest = out-set lent t p in omega (arith, old, new, rest)

pub floor-below : (share : Share) (size regions : ℕ) (old mid : MemoryState) (block : Block) → GivesAfter share size old mid block
    → floor_of old.pages old.lent regions ≤ pressure mid.pages mid.lent regions
floor-below share size regions old mid block given =
    let g = given.gives in let pages = g.pages ∙ given.came.pages in let came = given.came.home.out in
    let lent = ap tickets_out g.lent in let one = out-set given.before.lent block.ticket (Some (piece_id_of block.piece)) in
    let same = ap (λ k. k / segment_pages) pages in
    let bound : (old.pages / segment_pages - 1 - regions - tickets_out old.lent) * dense ≤ (mid.pages / segment_pages - 1 - regions - tickets_out mid.lent) * dense + dense = omega (arith, came, lent, one, same) in
    bound
