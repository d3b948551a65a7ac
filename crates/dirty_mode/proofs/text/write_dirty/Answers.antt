use Rattle.std.proofs.Common.{◌≡◌, ◌≤◌, ap, subst, sym, rules, ◌∙◌}
use Rattle.std.specs.Prelude.{Result, Ok, Err}
use Rattle.std.specs.Result.{OnOk}
use Rattle.trace_text.specs.Parsed.{trace_in}
use Rattle.dirty_region.specs.State.{empty, Keeps}
use Rattle.dirty_mode.specs.DirtyText.{dirty_text, put_count}
use Rattle.dirty_mode.specs.Stores.{IsEmpty, StoreState}
use Rattle.text_lemmas.proofs.Written.{Writes-same}
use Rattle.text_lemmas.proofs.Sent.{sent}
use Rattle.dirty_mode.proofs.text.write_dirty.Goals as goal

empty_if : {T E : Type 0} (r : Result T E) (store : StoreState) → OnOk r (store.dirty.queue ≡ empty) → OnOk r (IsEmpty store)
empty_if (Ok v) store queue = record { queue = queue }
empty_if (Err e) store queue = tt

pub write_on-written-requires-clause-empty : goal.write_on-written-requires-clause-empty
write_on-written-requires-clause-empty g c = ap (λ (s : StoreState). s.dirty.queue) c.store.view_is ∙ c.requires.empty.queue

pub write_on-written-requires-clause-room : goal.write_on-written-requires-clause-room
write_on-written-requires-clause-room g c = subst (λ (s : StoreState). put_count (trace_in c.args.trace.now) ≤ s.dirty.room) (sym c.store.view_is) c.requires.room

pub returns-clause-sent : goal.returns-clause-sent
returns-clause-sent g c =
    let same = ap (λ (s : StoreState). dirty_text (trace_in c.args.trace.now) s.pages) c.store.view_is in
    sent g.K.Sink.written g.K.Sink.faults _ _ c.into_sink.result.now _ _ _ c.write_on-written.result c.new-out.result c.write_on-written.new.out c.new-out.ensures c.into_sink.ensures (search rules)
    c.write_on-written.ensures.empty (Writes-same same c.write_on-written.ensures.written)

pub returns-clause-empty : goal.returns-clause-empty
returns-clause-empty g c = empty_if c.write_on-written.result _ c.write_on-written.ensures.queue

pub returns-clause-pages : goal.returns-clause-pages
returns-clause-pages g c = c.write_on-written.ensures.pages ∙ ap (λ (s : StoreState). s.pages) c.store.view_is

pub returns-clause-kept : goal.returns-clause-kept
returns-clause-kept g c = subst (λ (s : StoreState). Keeps s.dirty c.write_on-written.new.ranged.store) c.store.view_is c.write_on-written.ensures.kept
