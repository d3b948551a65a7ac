use Rattle.std.proofs.Common.{◌≡◌, length, ap, subst, ◌∙◌, rules}
use Rattle.std.specs.Vec.{with_items}
use Rattle.std.specs.Prelude.{OnOk}
use Rattle.std.proofs.lemmas.List.{with_items_is}
use Rattle.trace_text.specs.Parsed.{trace_in}
use Rattle.segmented_store.specs.Segments.{HoldsSegments}
use Rattle.index_tree.specs.Indexes.{Index}
use Rattle.index_tree.specs.Store.{index_in}
use Rattle.index_mode.specs.IndexText.{index_left, index_text}
use Rattle.index_mode.specs.Stores.{StoreState}
use Rattle.text_lemmas.proofs.Written.{Writes-same}
use Rattle.text_lemmas.proofs.Sent.{sent}
use Rattle.index_mode.proofs.text.write_index.Goals as goal

pub write_on-written-requires-clause-empty : goal.write_on-written-requires-clause-empty
write_on-written-requires-clause-empty g c = ap (λ (t : StoreState). index_in t.index) c.store.view_is ∙ c.requires.empty.index

pub invariant_of-store : goal.invariant_of-store
invariant_of-store g c =
    let s = c.store.inside in let keys = c.write_on-written.new.keys in
    let is : (with_items s.keys keys).items ≡ keys = with_items_is s.keys keys (c.write_on-written.auto.keys ∙ c.as_mut_slice.ensures.len) in
    ap length is ∙ (c.write_on-written.auto.keys ∙ (ap length c.as_mut_slice.ensures.value ∙ c.store.invariant))

pub returns-clause-sent : goal.returns-clause-sent
returns-clause-sent g c =
    let same = ap (λ (t : StoreState). index_text (trace_in c.args.trace.now) t.pages) c.store.view_is in
    sent g.K.Sink.written g.K.Sink.faults _ _ c.into_sink.result.now _ _ _ c.write_on-written.result c.new-out.result c.write_on-written.new.out c.new-out.ensures c.into_sink.ensures (search rules)
    c.write_on-written.ensures.empty (Writes-same same c.write_on-written.ensures.written)

pub returns-clause-index : goal.returns-clause-index
returns-clause-index g c =
    let same = ap (λ (t : StoreState). index_left (trace_in c.args.trace.now) t.pages) c.store.view_is in
    subst (λ (x : Index). OnOk c.write_on-written.result (index_in c.write_on-written.new.ranged.store ≡ x)) same c.write_on-written.ensures.index

pub returns-clause-pages : goal.returns-clause-pages
returns-clause-pages g c = c.write_on-written.ensures.pages ∙ ap (λ (t : StoreState). t.pages) c.store.view_is

pub returns-clause-segments : goal.returns-clause-segments
returns-clause-segments g c =
    subst (λ (t : StoreState). HoldsSegments t.index.region c.write_on-written.new.ranged.store.region) c.store.view_is c.write_on-written.ensures.segments
