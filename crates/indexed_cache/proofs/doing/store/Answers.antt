use Rattle.std.proofs.Common.{ap, ◌∙◌}
use Rattle.rows.specs.Spelled.{spelled}
use Rattle.indexed_cache.proofs.Kept.{keeps-shape}
use Rattle.indexed_cache.proofs.doing.store.Goals as goal

pub returns-clause-reply : goal.returns-clause-reply
returns-clause-reply c = c.kind_of.ensures ∙ ap spelled c.in-Ok.ensures.reply

pub returns-clause-kept : goal.returns-clause-kept
returns-clause-kept c = keeps-shape c.args.cache.now c.put.new.self c.put.ensures.keeps.room c.put.ensures.shape
