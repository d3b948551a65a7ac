-- What a store is once a `&` that came of a `&mut` to it has ended.
use mathlib.Core.Option.{none}
use mathlib.Core.List.{[]}
use mir.Syntax.{named}
use Rattle.std.specs.Prelude.{⊤}
use Rattle.std.specs.Borrow.{Fml, MutBor, follows_so}
use Rattle.shard_store.specs.Stores.{StoreState}
use Rattle.shard_store.specs.contracts.store.ShardStore.{the_row}

-- the call left it so
abbrev pub EndsAs : MutBor StoreState → (StoreState → Type 0) → Fml
EndsAs s P = follows_so (the_row (record { mir = named 1; lft = [] })) (the_row (record { mir = named 1; lft = [] })) s.ghost_name none (λ _ _. ⊤) P
