-- The line that says what a store came to.
use Rattle.std.specs.Prelude.{length}
use Rattle.rows.specs.Row.{live}
use Rattle.run_log.specs.declared.shard_line.ShardLine.{ShardLine}
use Rattle.shard_store.specs.Stores.{StoreState}

-- the rows of a store and their bytes, and the blocks that it lent and got back
abbrev pub line_of : StoreState → ShardLine
line_of store = record { rows = length store.rows; live = live store.rows; lent = store.lends; back = store.backs }
