use Rattle.std.proofs.Common.{refl, sym, ap, ◌∙◌, inl, inr}
use Rattle.shardcache_c.specs.Handles.{cache_over}
use Rattle.shardcache_c.proofs.Refused.{guarded, missing, no_row}
use Rattle.rows.specs.Key.{in_table}
use Rattle.shardcache_c.proofs.exports.storing.erase.Goals as goal

pub returns-then-erase-clause-done : goal.returns-then-erase-clause-done
returns-then-erase-clause-done c = λ done.
    (c.in-Some.opened.cache, c.erase.new.self, ap cache_over c.in-Some.is, refl, sym c.erase.ensures.found ∙ c.if-erase.true, c.erase.ensures.rows)

pub returns-then-is_guarded-clause-why : goal.returns-then-is_guarded-clause-why
returns-then-is_guarded-clause-why c = λ no. inr (inr (inl (guarded c.args.shard.now c.in-Some.is c.is_guarded.ensures c.if-is_guarded.true)))

pub returns-else-erase-clause-why : goal.returns-else-erase-clause-why
returns-else-erase-clause-why c = λ no. inr (inr (inr (missing c.args.shard.now _ c.in-Some.is
    (no_row (in_table c.args.table c.args.key.now) c.in-Some.opened.cache.store.rows (sym c.erase.ensures.found ∙ c.if-erase.false)))))
