-- A row had the key, or none had.
use Rattle.std.proofs.Common.{Bool, cond, sym, ap, ◌∙◌}
use Rattle.rows.specs.Apply.{Erased, Missing}
use Rattle.rows.specs.Spelled.{spelled}
use Rattle.indexed_cache.proofs.Kept.{keeps-shape}
use Rattle.indexed_cache.proofs.doing.erase.Goals as goal

pub returns-then-erase-clause-reply : goal.returns-then-erase-clause-reply
returns-then-erase-clause-reply c = ap (λ (b : Bool). spelled (cond b Erased Missing)) (sym c.if-erase.true ∙ c.erase.ensures.found)

pub returns-else-erase-clause-reply : goal.returns-else-erase-clause-reply
returns-else-erase-clause-reply c = ap (λ (b : Bool). spelled (cond b Erased Missing)) (sym c.if-erase.false ∙ c.erase.ensures.found)

pub returns-then-erase-clause-kept : goal.returns-then-erase-clause-kept
returns-then-erase-clause-kept c = keeps-shape c.args.cache.now c.erase.new.self c.erase.ensures.keeps.room c.erase.ensures.shape

pub returns-else-erase-clause-kept : goal.returns-else-erase-clause-kept
returns-else-erase-clause-kept c = keeps-shape c.args.cache.now c.erase.new.self c.erase.ensures.keeps.room c.erase.ensures.shape
