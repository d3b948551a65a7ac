use Rattle.std.proofs.Common.{ap, ◌∙◌}
use Rattle.shardcache_c.specs.Handles.{cache_of}
use Rattle.shardcache_c.proofs.exports.opening.shardcache_open.Goals as goal

pub returns-clause-done : goal.returns-clause-done
returns-clause-done c = λ done. let did = c.open-code.ensures.done done in let asked = c.in-Ok.ensures.asked in (
  did.0,
  ap cache_of c.put.ensures ∙ did.1,
  did.2,
  did.3 ∙ asked.pages_are,
  did.4 ∙ asked.rows_are,
  did.5 ∙ asked.groups_are,
  (λ some. did.6 ∙ asked.asked some),
  (λ none. did.6 ∙ asked.default none),
)
