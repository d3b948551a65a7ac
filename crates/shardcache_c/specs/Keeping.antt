-- What a handle owns.
use Rattle.std.specs.Prelude.{Option, None, Some}
use mir.Syntax.{Ty}
use base.Fml.{Fml, ftrue}
use denote.RawPtr.{Ptr}
use Rattle.std_heap.specs.declared.Global.{Global}
use Rattle.std_heap.specs.contracts.GlobalAllocator.TheImpl.{ghosts}
use Rattle.std_alloc.specs.Box.Ownership.{box_owns}
use Rattle.shardcache_c.specs.contracts.shard.Shard.{the_row}

-- the one handle of the C library's heap
abbrev pub heap : Global
heap = record { memory = record { seal = tt } }

-- the right to free a block of it
abbrev pub freed : Ty → Ptr → Fml
freed = ghosts.dealloc_token heap

-- nothing, or a shard on the heap and the right to free its block
abbrev pub keeps : Ptr → Option the_row.Denot → Fml
keeps p None = ftrue
keeps p (Some shard) = box_owns freed the_row p shard
