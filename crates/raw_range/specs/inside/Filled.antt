-- Up to where the bytes of a range are written.
use Rattle.std.specs.Prelude.{◌≡◌, ℕ, ◌+◌, ◌^◌, ◌<◌, List, ◌++◌, length, replicate}
use denote.RawPtr.{◌+ₚ◌}
use Rattle.layout.specs.Extents.{AreDisjoint}
use Rattle.raw_range.specs.declared.free_bytes.FreeBytes.{FreeBytes}
use Rattle.raw_range.specs.inside.Ownership.{IsPlaced}

-- the bytes below the mark `filled` are written, and those from there on were never touched; no piece has one of these
pub record IsFilled (free : FreeBytes) : Type 0 where
  pub placed : IsPlaced free.unallocated.ptr
  pub front : length free.unallocated.bytes ≡ free.filled
  pub back : free.unfilled.ptr ≡ free.unallocated.ptr +ₚ free.filled
  pub size : free.filled + free.unfilled.len ≡ free.size
  pub disjoint : AreDisjoint free.filled free.unallocated.allocated
  pub small : free.size < 2 ^ 63

-- the bytes as a range shows them: those that are not written yet are 0
abbrev pub bytes_of : FreeBytes → List ℕ
bytes_of free = free.unallocated.bytes ++ replicate free.unfilled.len 0
