-- Why a shard refuses, from what its cache tells.
use Rattle.std.proofs.Common.{◌≡◌, ◌↔◌, ◌∷◌, [], List, Bool, true, false, refl, sym, ap, ◌∙◌}
use Rattle.std.specs.Prelude.{◌||◌, Some, None}
use Rattle.rows.specs.Apply.{has, is_of, row_of}
use Rattle.rows.specs.Key.{Key}
use Rattle.rows.specs.Row.{Row}
use Rattle.embedded_cache.specs.States.{IsUnguarded}
use Rattle.shardcache_c.specs.Handles.{cache_in, cache_over}
use Rattle.shardcache_c.specs.Refusals.{IsGuarded, IsMissing}
use Rattle.shardcache_c.specs.declared.shard.Opened.{Opened}
use Rattle.shardcache_c.specs.declared.shard.Shard.{Shard}

-- a guard stands in the cache that is open
pub guarded : (shard : Shard) {opened : Opened} {flag : Bool} → shard.opened ≡ Some opened → (flag ≡ false ↔ IsUnguarded opened.cache) → flag ≡ true
    → IsGuarded 10 (cache_in shard)
guarded shard {opened = opened} is tells set =
    (refl, opened.cache, ap cache_over is, λ unguarded. absurd (let clash : true ≡ false = sym set ∙ tells.1 unguarded in cc))

-- no row of the cache that is open has the key
pub missing : (shard : Shard) (key : Key) {opened : Opened} → shard.opened ≡ Some opened → row_of key opened.cache.store.rows ≡ None
    → IsMissing 9 key (cache_in shard)
missing shard key {opened = opened} is none = (refl, opened.cache, ap cache_over is, none)

no-row-where : (key : Key) (row : Row) (rows : List Row) (b : Bool) → is_of key row ≡ b → (b || has key rows) ≡ false
    → (has key rows ≡ false → row_of key rows ≡ None) → row_of key (row ∷ rows) ≡ None
no-row-where key row rows true is none later = cc
no-row-where key row rows false is none later = rw is (later none)

-- where no row has the key, there is no row of it
pub no_row : (key : Key) (rows : List Row) → has key rows ≡ false → row_of key rows ≡ None
no_row key [] none = refl
no_row key (row ∷ rows) none = no-row-where key row rows (is_of key row) refl none (no_row key rows)
