-- The writer is given back, and the text is what it wrote.
use Rattle.std.proofs.Common.{◌≡◌, ap, ◌∙◌, subst, rules}
use Rattle.std.specs.Result.{OnOk}
use Rattle.segmented_store.specs.Segments.{HoldsSegments}
use Rattle.fragments.specs.Store.{values_of}
use Rattle.fragments.specs.Values.{Values}
use Rattle.value_script.specs.Script.{script_in}
use Rattle.text_lemmas.proofs.Written.{Writes-same}
use Rattle.text_lemmas.proofs.Sent.{sent}
use Rattle.values_mode.specs.State.{OpenStore}
use Rattle.values_mode.specs.Text.{values_text}
use Rattle.values_mode.specs.Left.{values_left}
use Rattle.values_mode.proofs.writing.write_values.Goals as goal

pub write_on-written-requires-clause-none : goal.write_on-written-requires-clause-none
write_on-written-requires-clause-none g c = ap (λ (s : OpenStore). values_of s.values) c.store.view_is ∙ c.requires.empty.values

pub invariant_of-store : goal.invariant_of-store
invariant_of-store g c = record { many = c.write_on-written.ensures.many }

pub returns-clause-sent : goal.returns-clause-sent
returns-clause-sent g c =
    let e = ap (λ (s : OpenStore). values_text (script_in c.args.script.now) s.pages) c.store.view_is in
    sent g.K.Sink.written g.K.Sink.faults _ _ c.into_sink.result.now _ _ _ c.write_on-written.result c.new-out.result c.write_on-written.new.out c.new-out.ensures c.into_sink.ensures (search rules)
    c.write_on-written.ensures.empty (Writes-same e c.write_on-written.ensures.written)

pub returns-clause-values : goal.returns-clause-values
returns-clause-values g c =
    let e = ap (λ (s : OpenStore). values_left (script_in c.args.script.now) s.pages) c.store.view_is in
    subst (λ (v : Values). OnOk c.write_on-written.result (values_of c.write_on-written.new.ranged.store ≡ v)) e c.write_on-written.ensures.values

pub returns-clause-pages : goal.returns-clause-pages
returns-clause-pages g c = c.write_on-written.ensures.pages ∙ ap (λ (s : OpenStore). s.pages) c.store.view_is

pub returns-clause-segments : goal.returns-clause-segments
returns-clause-segments g c =
    subst (λ (s : OpenStore). HoldsSegments s.values.region c.write_on-written.new.ranged.store.region) c.store.view_is c.write_on-written.ensures.segments
