-- Why an export refuses: what stands where each code is answered, and which codes each call has.
use Rattle.std.specs.Prelude.{◌≡◌, ◌⊎◌, ℕ, ◌+◌, ◌*◌, ◌-◌, ◌^◌, ◌<◌, ◌≤◌, List, length, Option, None, Some, IsNone, IsSome}
use Rattle.layout.specs.Sizes.{fewest_table_pages, greatest_block, greatest_value, key_room, most_keys, tables, ArePages}
use Rattle.foreign_list.specs.Blocks.{Block}
use Rattle.regions.specs.Shapes.{guards_of, most_guards}
use Rattle.mailbox.specs.Messages.{Messages}
use Rattle.rows.specs.Apply.{row_of}
use Rattle.rows.specs.Key.{Key, in_table}
use Rattle.rows.specs.Row.{Row}
use Rattle.rows.specs.Spelled.{IsKey}
use Rattle.shard_memory.specs.Tickets.{HasIdle, tickets_out}
use Rattle.shard_memory.specs.declared.share.Share.{Share}
use Rattle.shard_store.specs.Stores.{group_for}
use Rattle.embedded_cache.specs.States.{EmbeddedState, IsUnguarded, most_bound}
use Rattle.shardcache_c.specs.declared.lease.Lease.{Lease}
use Rattle.shardcache_c.specs.declared.lease.Lease.TheVariants.{Out}

-- ---- codes

-- CLOSED: no cache is open
abbrev pub IsClosed : ℕ → Option EmbeddedState → Type 0
IsClosed code cache = (code ≡ 1) × (cache ≡ None)

-- BAD_TABLE: there is no table of this number
abbrev pub IsBadTable : ℕ → ℕ → Type 0
IsBadTable code table = (code ≡ 12) × (tables ≤ table)

-- BAD_KEY: it is none that a row can have
abbrev pub IsBadKey : ℕ → List ℕ → Type 0
IsBadKey code key = (code ≡ 5) × ¬ IsKey key

-- BAD_VALUE: a value cannot have so many bytes
abbrev pub IsBadValue : ℕ → ℕ → Type 0
IsBadValue code len = (code ≡ 6) × (greatest_value < len)

-- BAD_COUNT: no scan can have so many keys
abbrev pub IsBadCount : ℕ → ℕ → Type 0
IsBadCount code count = (code ≡ 7) × ((count ≡ 0) ⊎ (most_keys < count))

-- GUARDED: a guard stands
abbrev pub IsGuarded : ℕ → Option EmbeddedState → Type 0
IsGuarded code cache = (code ≡ 10) × (opened : EmbeddedState) × (cache ≡ Some opened) × ¬ IsUnguarded opened

-- MISSING: no row has the key
abbrev pub IsMissing : ℕ → Key → Option EmbeddedState → Type 0
IsMissing code key cache = (code ≡ 9) × (opened : EmbeddedState) × (cache ≡ Some opened) × (row_of key opened.store.rows ≡ None)

-- SHORT: the key's value is longer than this, or ends before it has so many bytes
abbrev pub IsLonger : ℕ → Key → ℕ → Option EmbeddedState → Type 0
IsLonger code key room cache = (code ≡ 8)
    × (opened : EmbeddedState) × (row : Row) × (cache ≡ Some opened) × (row_of key opened.store.rows ≡ Some row) × (room < length row.value)

abbrev pub IsShorter : ℕ → Key → ℕ → Option EmbeddedState → Type 0
IsShorter code key end cache = (code ≡ 8)
    × (opened : EmbeddedState) × (row : Row) × (cache ≡ Some opened) × (row_of key opened.store.rows ≡ Some row) × (length row.value < end)

-- ---- calls on a cache

-- what a cache can be opened with, but for its bound
abbrev pub AreSizes : ℕ → ℕ → ℕ → Type 0
AreSizes pages rows groups = ArePages pages × (1 ≤ rows) × (rows < 2 ^ 32 - 1)
    × ((groups ≡ 1) ⊎ ((groups ≡ tables) × (fewest_table_pages ≤ pages)))

-- BAD_SIZE and BAD_BOUND
abbrev pub RefusesSizes : ℕ → ℕ → ℕ → ℕ → ℕ → Type 0
RefusesSizes code pages rows groups bound =
    ((code ≡ 3) × ¬ AreSizes pages rows groups) ⊎ ((code ≡ 13) × (most_bound pages groups < bound))

-- these, OPEN_ALREADY, and NO_MEMORY
abbrev pub RefusesOpening : ℕ → ℕ → ℕ → ℕ → ℕ → Option EmbeddedState → Type 0
RefusesOpening code pages rows groups bound cache =
    RefusesSizes code pages rows groups bound ⊎ ((code ≡ 2) × IsSome cache) ⊎ (code ≡ 4)

-- BLOCKS_OUT among others
abbrev pub RefusesClosing : ℕ → Option EmbeddedState → Type 0
RefusesClosing code cache = IsClosed code cache ⊎ IsGuarded code cache
    ⊎ ((code ≡ 15) × (opened : EmbeddedState) × (cache ≡ Some opened) × (1 ≤ tickets_out opened.store.lent))

abbrev pub RefusesPut : ℕ → ℕ → List ℕ → ℕ → Option EmbeddedState → Type 0
RefusesPut code table key len cache =
    IsClosed code cache ⊎ IsBadTable code table ⊎ IsBadKey code key ⊎ IsBadValue code len ⊎ IsGuarded code cache

-- a get and an erase
abbrev pub RefusesGet : ℕ → ℕ → List ℕ → Option EmbeddedState → Type 0
RefusesGet code table key cache =
    IsClosed code cache ⊎ IsBadTable code table ⊎ IsGuarded code cache ⊎ IsMissing code (in_table table key) cache

abbrev pub RefusesPeek : ℕ → ℕ → List ℕ → Option EmbeddedState → Type 0
RefusesPeek code table key cache = IsClosed code cache ⊎ IsBadTable code table ⊎ IsMissing code (in_table table key) cache

-- into so much room
abbrev pub RefusesRead : ℕ → ℕ → List ℕ → ℕ → Option EmbeddedState → Type 0
RefusesRead code table key room cache = IsLonger code (in_table table key) room cache ⊎ RefusesGet code table key cache

-- of bytes that end there
abbrev pub RefusesPatch : ℕ → ℕ → List ℕ → ℕ → Option EmbeddedState → Type 0
RefusesPatch code table key end cache = IsShorter code (in_table table key) end cache ⊎ RefusesGet code table key cache

abbrev pub RefusesRows : ℕ → ℕ → ℕ → Option EmbeddedState → Type 0
RefusesRows code table count cache = IsClosed code cache ⊎ IsBadTable code table ⊎ IsBadCount code count ⊎ IsGuarded code cache

-- a scan of keys into so much room: SHORT where it is not that of so many of the longest keys
abbrev pub RefusesKeys : ℕ → ℕ → ℕ → ℕ → Option EmbeddedState → Type 0
RefusesKeys code table count room cache = ((code ≡ 8) × (room < key_room * count)) ⊎ RefusesRows code table count cache

-- GUARDED where as many guards stand as can
abbrev pub RefusesGuard : ℕ → ℕ → Option EmbeddedState → Type 0
RefusesGuard code table cache = IsClosed code cache ⊎ IsBadTable code table
    ⊎ ((code ≡ 10) × (opened : EmbeddedState) × (cache ≡ Some opened) × (most_guards ≤ guards_of opened.store.region (group_for opened.store table)))

-- UNGUARDED where none stands
abbrev pub RefusesUnguard : ℕ → ℕ → Option EmbeddedState → Type 0
RefusesUnguard code table cache = IsClosed code cache ⊎ IsBadTable code table
    ⊎ ((code ≡ 14) × (opened : EmbeddedState) × (cache ≡ Some opened) × (guards_of opened.store.region (group_for opened.store table) ≡ 0))

abbrev pub RefusesCompaction : ℕ → Option EmbeddedState → Type 0
RefusesCompaction code cache = IsClosed code cache ⊎ IsGuarded code cache

-- ---- blocks

-- what a handle keeps is a block that is out
abbrev pub IsOut : Option Lease → Type 0
IsOut lease = (block : Block) × (lease ≡ Some (Out block))

-- CLOSED where the block's handle is, BAD_SIZE for a head, OPEN_ALREADY where a block is out, and NO_TICKET among others
abbrev pub RefusesLend : ℕ → ℕ → ℕ → Option Lease → Option EmbeddedState → Type 0
RefusesLend code table head lease cache = ((code ≡ 1) × IsNone lease) ⊎ IsClosed code cache ⊎ IsBadTable code table
    ⊎ ((code ≡ 3) × ((head ≡ 0) ⊎ (greatest_block < head + greatest_value))) ⊎ ((code ≡ 2) × IsOut lease) ⊎ IsGuarded code cache
    ⊎ ((code ≡ 16) × (opened : EmbeddedState) × (cache ≡ Some opened) × ((share : Share) → ¬ HasIdle opened.store.lent share))

-- OPEN_ALREADY, and NO_MEMORY
abbrev pub RefusesBlockOpening : ℕ → Option Lease → Type 0
RefusesBlockOpening code lease = ((code ≡ 2) × IsSome lease) ⊎ (code ≡ 4)

-- CLOSED where no block is out, and RACED
abbrev pub RefusesRelease : ℕ → Option Lease → Type 0
RefusesRelease code lease = ((code ≡ 1) × ¬ IsOut lease) ⊎ ((code ≡ 17) × IsOut lease)

-- CLOSED, and BLOCKS_OUT
abbrev pub RefusesBlockClosing : ℕ → Option Lease → Type 0
RefusesBlockClosing code lease = ((code ≡ 1) × IsNone lease) ⊎ ((code ≡ 15) × IsOut lease)

-- ---- mailboxes

-- BAD_SIZE for no place, OPEN_ALREADY, and NO_MEMORY
abbrev pub RefusesQueueOpening : ℕ → ℕ → Option Messages → Type 0
RefusesQueueOpening code places mailbox = ((code ≡ 3) × (places ≡ 0)) ⊎ ((code ≡ 2) × IsSome mailbox) ⊎ (code ≡ 4)

-- OPEN_ALREADY where the other is open, CLOSED where this one isn't, and NO_MEMORY
abbrev pub RefusesShare : ℕ → Option Messages → Option Messages → Type 0
RefusesShare code mailbox other = ((code ≡ 2) × IsSome other) ⊎ ((code ≡ 1) × IsNone mailbox) ⊎ (code ≡ 4)

-- CLOSED, FULL and RACED: of what other threads did no clause speaks
abbrev pub RefusesPush : ℕ → Option Messages → Type 0
RefusesPush code mailbox = ((code ≡ 1) × IsNone mailbox) ⊎ ((code ≡ 18) × IsSome mailbox) ⊎ ((code ≡ 17) × IsSome mailbox)

-- CLOSED, EMPTY and RACED
abbrev pub RefusesPop : ℕ → Option Messages → Type 0
RefusesPop code mailbox = ((code ≡ 1) × IsNone mailbox) ⊎ ((code ≡ 19) × IsSome mailbox) ⊎ ((code ≡ 17) × IsSome mailbox)

abbrev pub RefusesQueueClosing : ℕ → Option Messages → Type 0
RefusesQueueClosing code mailbox = (code ≡ 1) × IsNone mailbox
