-- Evictions that are told one after another, and what is done behind them.
use Rattle.std.proofs.Common.{ℕ, List, [], ◌∷◌, ◌++◌, refl, subst}
use Rattle.rows.specs.Row.{Row}
use Rattle.rows.specs.Apply.{Reply}
use Rattle.rows.specs.Evictions.{Evicts}
use Rattle.shard_store.specs.Stores.{StoreState, IsSameStore}
use Rattle.rows.specs.Told.{AreTold}
use Rattle.shard_store.specs.Works.{DoesAbove}
use Rattle.shard_store.specs.inside.Evicted.{HasEvicted, HasDone}
use Rattle.row_lemmas.proofs.Laws.{evictions_are_counted-none}

module _ {E : Type 0} (tells : E → ℕ → E → Type 0) where
  told-more : (tags : List ℕ) (tag : ℕ) (before now after : E) → AreTold tells before tags now → tells now tag after → AreTold tells before (tags ++ tag ∷ []) after
  told-more [] tag before now after same one = (after, subst (λ (x : E). tells x tag after) same one, refl)
  told-more (t ∷ tags) tag before now after h one = (h.0, h.1, told-more tags tag h.0 now after h.2 one)

  -- before the first one
  pub evicted-none : (bound : ℕ) (rows : List Row) (now : E) → HasEvicted tells bound rows rows now now
  evicted-none bound rows now = record { tags = []; evicts = evictions_are_counted-none bound rows; told = refl }

  pub evicted-more : (bound tag : ℕ) (rows rest next : List Row) (before now after : E) (h : HasEvicted tells bound rows rest before now)
      → Evicts bound rows (h.tags ++ tag ∷ []) next → tells now tag after → HasEvicted tells bound rows next before after
  evicted-more bound tag rows rest next before now after h evicts one =
      record { tags = h.tags ++ tag ∷ []; evicts = evicts; told = told-more h.tags tag before now after h.told one }

  -- what was done so on the rows of a store
  pub done : (bound : ℕ) (does : List Row → List Row × Reply) (answer : Reply) (old new : StoreState) (before after : E) → HasDone tells bound does answer old.rows new.rows before after
      → IsSameStore old new → DoesAbove tells bound does answer old new before after
  done bound does answer old new before after h same =
      record { evicted = h.evicted.tags; rest = h.rest; evicts = h.evicted.evicts; told = h.evicted.told; rows = h.stored; reply = h.reply; same = same }
