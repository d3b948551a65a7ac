-- What the pages and pools of one shard gave, whoever has it: its blocks, lent or not, and its segments.
use Rattle.std.specs.Prelude.{ℕ, ◌+◌, List, refl}
use Rattle.std.specs.Ordering.{nat_cmp}
use Rattle.std.specs.FinMap as map
use Rattle.std.specs.Coded.{Coded, code_by, coded×, coded_list, coded_ℕ}
use denote.RawPtr.{Ptr, coded_ptr}
use Rattle.layout.specs.Extents.{Extent, extent_code}
use Rattle.layout.specs.Sizes.{tickets}
use Rattle.shard_memory.specs.Room.{Room, room_code}
use Rattle.shard_memory.specs.Shards.{most_blocks}

-- the fields are those of a shard, but that blocks are all that are out, the last one in front
pub record Pieces : Type 0 where
  pub home : Ptr
  pub owner : ℕ
  pub pages : ℕ
  pub blocks : List Extent
  pub objects : map.FinMap nat_cmp ℕ
  pub segments : List Extent
  pub pages_out : ℕ
  pub room : Room

-- it is stored as the tuple of its fields
abbrev pub pieces_code : Coded Pieces
pieces_code =
    code_by (Ptr × (ℕ × (ℕ × (List Extent × (map.FinMap nat_cmp ℕ × (List Extent × (ℕ × Room)))))))
    (coded× coded_ptr (coded× coded_ℕ (coded× coded_ℕ (coded× (coded_list extent_code) (coded× (map.code coded_ℕ coded_ℕ) (coded× (coded_list extent_code) (coded× coded_ℕ room_code)))))))
    (λ s. (s.home, (s.owner, (s.pages, (s.blocks, (s.objects, (s.segments, (s.pages_out, s.room))))))))
    (λ t. record { home = t.0; owner = t.1.0; pages = t.1.1.0; blocks = t.1.1.1.0; objects = t.1.1.1.1.0; segments = t.1.1.1.1.1.0; pages_out = t.1.1.1.1.1.1.0; room = t.1.1.1.1.1.1.1 }) (λ _. refl)

-- the most blocks at once: those that stay, and one with each ticket
abbrev pub most_out : ℕ
most_out = most_blocks + tickets
