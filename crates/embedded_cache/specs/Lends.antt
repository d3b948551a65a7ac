-- What a cache is once a `&` that came of a `&mut` to it has ended.
use mathlib.Core.Option.{none}
use mathlib.Core.List.{[]}
use mir.Syntax.{named}
use Rattle.std.specs.Prelude.{⊤}
use Rattle.std.specs.Borrow.{Fml, MutBor, follows_so}
use Rattle.embedded_cache.specs.States.{EmbeddedState}
use Rattle.embedded_cache.specs.contracts.cache.Cache.{the_row}

-- the call left it so
abbrev pub EndsAs : MutBor EmbeddedState → (EmbeddedState → Type 0) → Fml
EndsAs c P = follows_so (the_row (record { mir = named 1; lft = [] })) (the_row (record { mir = named 1; lft = [] })) c.ghost_name none (λ _ _. ⊤) P
