use Rattle.std.proofs.Common.{◌≤◌, ap, subst, sym, ◌∙◌}
use Rattle.trace_text.specs.Parsed.{trace_in}
use Rattle.dirty_region.specs.State.{DirtyState, Keeps}
use Rattle.segmented_store.specs.Ranged.{InRange}
use Rattle.dirty_mode.specs.DirtyText.{dirty_text, put_count}
use Rattle.place_lemmas.proofs.Ranges.{first_kept}
use Rattle.text_lemmas.proofs.Written.{Writes-same}
use Rattle.dirty_mode.proofs.text.write_on.Goals as goal

pub write_text-requires-clause-empty : goal.write_text-requires-clause-empty
write_text-requires-clause-empty g c = ap (λ (r : InRange DirtyState). r.store.queue) c.ranged.view_is ∙ c.requires.empty

pub write_text-requires-clause-room : goal.write_text-requires-clause-room
write_text-requires-clause-room g c = subst (λ (r : InRange DirtyState). put_count (trace_in c.args.trace.now) ≤ r.store.room) (sym c.ranged.view_is) c.requires.room

pub invariant_of-ranged : goal.invariant_of-ranged
invariant_of-ranged g c =
    let r = c.ranged.inside in let i = c.ranged.invariant in let same = c.write_text.ensures.kept.segments in
    record {
      are = i.are;
      first = first_kept r.range r.store.region c.write_text.new.dirty.region _ i.first same.most same.pieces same.held;
      unguarded = same.guards 0 ∙ i.unguarded;
    }

pub returns-clause-written : goal.returns-clause-written
unfolding dirty_text
returns-clause-written g c =
    Writes-same (ap (λ (r : InRange DirtyState). dirty_text (trace_in c.args.trace.now) r.pages) c.ranged.view_is) c.write_text.ensures.written

pub returns-clause-pages : goal.returns-clause-pages
returns-clause-pages g c = ap (λ (r : InRange DirtyState). r.pages) c.ranged.view_is

pub returns-clause-kept : goal.returns-clause-kept
returns-clause-kept g c = subst (λ (r : InRange DirtyState). Keeps r.store c.write_text.new.dirty) c.ranged.view_is c.write_text.ensures.kept
