-- What a row cache is once a `&` that came of a `&mut` to it has ended.
use mathlib.Core.Option.{none}
use Rattle.std.specs.Prelude.{⊤}
use Rattle.std.specs.Borrow.{Fml, MutBor, follows_so}
use Rattle.row_cache.specs.Rows.{CacheState}
use Rattle.row_cache.specs.contracts.cache.RowCache.{the_row}

-- the call left it so
abbrev pub EndsAs : MutBor CacheState → (CacheState → Type 0) → Fml
EndsAs c P = follows_so the_row the_row c.ghost_name none (λ _ _. ⊤) P
