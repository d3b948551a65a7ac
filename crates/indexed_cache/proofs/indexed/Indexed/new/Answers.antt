-- No row.
use Rattle.std.proofs.Common.{ℕ, List, ap, ◌∙◌}
use Rattle.rows.specs.Row.{Row}
use Rattle.plain_cache.specs.Cache.{Cache}
use Rattle.indexed_cache.proofs.indexed.Indexed.new.Goals as goal

abbrev cache_of : ℕ → ℕ → List Row → Cache
cache_of pages regions rows = record { pages = pages; regions = regions; rows = rows }

pub returns : goal.returns
returns c = ap (cache_of c.args.pages c.args.regions) (c.in_ok-ranged.ensures.content ∙ c.in_ok-rows.ensures.empty)
