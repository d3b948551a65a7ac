-- What a caller sees of a handle.
use Rattle.std.specs.Prelude.{◌≡◌, ◌≢◌, ℕ, Bool, true, false, List, Option, None, Some}
use Rattle.rows.specs.Key.{Key}
use Rattle.row_cache.specs.declared.put.Put.{Put}
use Rattle.row_cache.specs.declared.put.Put.TheVariants.{Stored, Replaced}
use Rattle.embedded_cache.specs.Puts.{Puts}
use Rattle.embedded_cache.specs.States.{CanOpen, EmbeddedState, most_bound, most_waiting}
use Rattle.embedded_cache.specs.declared.opening.Opening.{Opening}
use Rattle.embedded_cache.specs.declared.put_answer.PutAnswer.{PutAnswer}
use Rattle.shardcache_c.specs.declared.shard.Opened.{Opened}
use Rattle.shardcache_c.specs.declared.shard.Shard.{Shard}

-- the cache of a shard, where it is open
abbrev pub cache_over : Option Opened → Option EmbeddedState
cache_over None = None
cache_over (Some opened) = Some opened.cache

abbrev pub cache_in : Shard → Option EmbeddedState
cache_in shard = cache_over shard.opened

-- the same of a handle, which may keep no shard yet
abbrev pub cache_of : Option Shard → Option EmbeddedState
cache_of None = None
cache_of (Some shard) = cache_in shard

-- What is asked for at an opening: 0 stands for the greatest bound, and for the usual number of rows that may wait.
pub record IsAsked (pages rows groups bound waiting : ℕ) (wide : Bool) (opening : Opening) : Type 0 where
  pub can : CanOpen opening
  pub shard : opening.shard ≡ 0
  pub pages_are : opening.pages ≡ pages
  pub rows_are : opening.rows ≡ rows
  pub groups_are : opening.regions ≡ groups
  pub asked : bound ≢ 0 → opening.bound ≡ bound
  pub default : bound ≡ 0 → opening.bound ≡ most_bound pages groups
  pub waits : waiting ≢ 0 → opening.waiting ≡ waiting
  pub waits_as_usual : waiting ≡ 0 → opening.waiting ≡ most_waiting
  pub wide_is : opening.wide ≡ wide

-- whether a row was replaced
abbrev pub replaces : Put → Bool
replaces Stored = false
replaces Replaced = true

-- a put, what was told of the rows that went and how many did, and whether it replaced a row
abbrev pub Stores : Key → List ℕ → ℕ → ℕ → Bool → List ℕ → List ℕ → EmbeddedState → EmbeddedState → Type 0
Stores key value tag went replaced places told old new =
    (answer : PutAnswer) × Puts key value tag answer places told old new × (went ≡ answer.evicted) × (replaced ≡ replaces answer.put)
