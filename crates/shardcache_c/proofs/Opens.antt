-- Shards in which a cache is open.
use Rattle.std.proofs.Common.{◌≡◌, refl, sym, ap, ◌∙◌, subst}
use Rattle.std.proofs.Props.{props}
use Rattle.std.specs.Prelude.{Option, Some}
use Rattle.std.specs.Coded.{Coded}
use mathlib.Core.HLevel.{is_prop→PathP}
use Rattle.foreign_list.specs.Lists.{OwnedList, owned_list_code}
use Rattle.embedded_cache.specs.States.{EmbeddedState}
use Rattle.shardcache_c.specs.Handles.{cache_in, cache_of}
use Rattle.shardcache_c.specs.declared.shard.Opened.{Opened}
use Rattle.shardcache_c.specs.declared.shard.Shard.{Shard}

-- a list and a cache make one value
pub alike : (a b : Opened) → a.list ≡ b.list → a.cache ≡ b.cache → a ≡ b
alike a b lists caches =
    let K : Coded OwnedList = owned_list_code in
    λ i. record {
      list = lists i;
      cache = caches i;
      over = is_prop→PathP (λ j. (caches j).store.list ≡ (lists j).now) (λ j. hlevel props) a.over b.over i;
      owner = is_prop→PathP (λ j. (lists j).now.owner ≡ 0) (λ j. hlevel props) a.owner b.owner i;
    }

-- a shard whose cache is as it was is as it was
pub stays : (shard : Shard) (opened now : Opened) → shard.opened ≡ Some opened → now.list ≡ opened.list → now.cache ≡ opened.cache
    → ◌≡◌ {A = Shard} (record { opened = Some now; home = shard.home }) shard
stays shard opened now is lists caches = λ i. record {
  opened = let all : Some now ≡ shard.opened = subst (λ (o : Option Opened). Some now ≡ o) (sym is) (λ j. Some (alike now opened lists caches j)) in all i;
  home = shard.home;
}

-- what is open in a shard is open in the handle that keeps it
pub held : {kept : Option Shard} {shard now : Shard} {cache : Option EmbeddedState} → kept ≡ Some shard → now ≡ shard → cache_in now ≡ cache
    → cache_of kept ≡ cache
held kept same is = ap cache_of kept ∙ ap cache_in (sym same) ∙ is

-- and what holds of the one holds of the other
pub because : {kept : Option Shard} {shard now : Shard} (P : Option EmbeddedState → Type 0) → kept ≡ Some shard → now ≡ shard → P (cache_in now)
    → P (cache_of kept)
because P kept same holds = subst P (sym (held kept same refl)) holds
