-- The row that went is of one put alone.
use Rattle.std.proofs.Common.{List, None, refl, sym, ap}
use Rattle.std.specs.List.{last_or}
use Rattle.rows.specs.Row.{Row, is_of_put}
use Rattle.row_cache.specs.Rows.{rows_of}
use Rattle.indexed_cache.proofs.Kept.{keeps-shape}
use Rattle.indexed_cache.proofs.Replied.{last-is}
use Rattle.indexed_cache.proofs.doing.evict_last.Goals as goal

pub returns-in-Some-clause-last : goal.returns-in-Some-clause-last
returns-in-Some-clause-last c = last-is (last_or None (rows_of c.args.cache.now)) c.in-Some.gone c.args.put c.in-Some.ensures.last

pub returns-in-None-clause-last : goal.returns-in-None-clause-last
returns-in-None-clause-last c = ap (λ (rows : List Row). is_of_put c.args.put (last_or None rows)) (sym (c.in-None.ensures.none.0 refl))

pub returns-in-Some-clause-kept : goal.returns-in-Some-clause-kept
returns-in-Some-clause-kept c = keeps-shape c.args.cache.now c.evict_last.new.self c.evict_last.ensures.keeps.room c.evict_last.ensures.shape

pub returns-in-None-clause-kept : goal.returns-in-None-clause-kept
returns-in-None-clause-kept c = keeps-shape c.args.cache.now c.evict_last.new.self c.evict_last.ensures.keeps.room c.evict_last.ensures.shape
