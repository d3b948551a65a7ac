use Rattle.std.proofs.Common.{◌≡◌, sym, subst, ◌∙◌}
use Rattle.std.specs.Result.{IfOk, OnOk}
use Rattle.rows.specs.Apply.{apply}
use Rattle.rows.specs.Spelled.{spelled, with_body}
use Rattle.trace_text.specs.Operation.{operation}
use Rattle.row_cache.specs.Rows.{CacheState, rows_of}
use Rattle.segmented_store.specs.Segments.{HoldsSegments}
use Rattle.indexed_cache.proofs.stored.StoredRows.apply.Goals as goal

pub do_part-requires-clause-room : goal.do_part-requires-clause-room
do_part-requires-clause-room c = sym c.self.invariant.1

pub invariant_of-self : goal.invariant_of-self
invariant_of-self c =
    let kept = c.do_part.ensures.kept in
    (kept.segments.groups ∙ c.self.invariant.0, kept.room ∙ c.self.invariant.1)

pub returns-clause-applied : goal.returns-clause-applied
returns-clause-applied c =
    subst (λ (s : CacheState). OnOk c.do_part.result (rows_of c.do_part.new.cache ≡ (apply (operation c.args.trace.now.bytes c.args.command.now) (rows_of s)).0)) c.self.view_is c.do_part.ensures.applied

pub returns-clause-replied : goal.returns-clause-replied
returns-clause-replied c =
    subst (λ (s : CacheState). IfOk c.do_part.result (λ kind. (kind, c.do_part.new.body.items) ≡ with_body c.args.body.now.items (spelled (apply (operation c.args.trace.now.bytes c.args.command.now) (rows_of s)).1)))
    c.self.view_is c.do_part.ensures.replied

pub returns-clause-segments : goal.returns-clause-segments
returns-clause-segments c = subst (λ (s : CacheState). HoldsSegments s.region c.do_part.new.cache.region) c.self.view_is c.do_part.ensures.kept.segments
