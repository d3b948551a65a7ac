-- The segments are those of the range still.
use Rattle.std.proofs.Common.{◌≡◌, subst, ◌∙◌}
use Rattle.std.specs.Result.{IfOk, OnOk}
use Rattle.rows.specs.Apply.{apply}
use Rattle.rows.specs.Spelled.{spelled, with_body}
use Rattle.trace_text.specs.Operation.{operation}
use Rattle.place_lemmas.proofs.Ranges.{first_kept}
use Rattle.row_cache.specs.Rows.{CacheState, rows_of}
use Rattle.segmented_store.specs.Ranged.{InRange}
use Rattle.indexed_cache.proofs.indexed.apply_in.Goals as goal

pub invariant_of-ranged : goal.invariant_of-ranged
invariant_of-ranged c =
    let r = c.ranged.inside in let i = c.ranged.invariant in let same = c.apply.ensures.segments in
    record {
      are = i.are;
      first = first_kept r.range r.store.region c.apply.new.self.region _ i.first same.most same.pieces same.held;
      unguarded = same.guards 0 ∙ i.unguarded;
    }

pub returns-clause-applied : goal.returns-clause-applied
returns-clause-applied c =
    subst (λ (r : InRange CacheState). OnOk c.apply.result (rows_of c.apply.new.self ≡ (apply (operation c.args.trace.now.bytes c.args.command.now) (rows_of r.store)).0)) c.ranged.view_is c.apply.ensures.applied

pub returns-clause-replied : goal.returns-clause-replied
returns-clause-replied c =
    subst
    (λ (r : InRange CacheState). IfOk c.apply.result (λ kind. (kind, c.apply.new.body.items) ≡ with_body c.args.body.now.items (spelled (apply (operation c.args.trace.now.bytes c.args.command.now) (rows_of r.store)).1)))
    c.ranged.view_is c.apply.ensures.replied
