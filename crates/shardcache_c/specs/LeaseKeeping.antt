-- What a handle of a block owns.
use Rattle.std.specs.Prelude.{Option, None, Some}
use base.Fml.{Fml, ftrue}
use denote.RawPtr.{Ptr}
use Rattle.std_alloc.specs.Box.Ownership.{box_owns}
use Rattle.shardcache_c.specs.Keeping.{freed}
use Rattle.shardcache_c.specs.contracts.lease.Lease.{the_row}

-- nothing, or a block on the heap and the right to free its block
abbrev pub keeps : Ptr → Option the_row.Denot → Fml
keeps p None = ftrue
keeps p (Some lease) = box_owns freed the_row p lease
