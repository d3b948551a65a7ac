use Rattle.std.proofs.Common.{◌≡◌, ◌/◌, [], ap, subst, ◌∙◌}
use Rattle.std.specs.Prelude.{OnOk}
use Rattle.layout.specs.Sizes.{segment_pages}
use Rattle.trace_text.specs.Parsed.{trace_in}
use Rattle.segmented_store.specs.Ranged.{InRange}
use Rattle.segmented_store.specs.Segments.{HoldsSegments}
use Rattle.index_tree.specs.Indexes.{Index}
use Rattle.index_tree.specs.Sizes.{most}
use Rattle.index_tree.specs.Store.{IndexState, index_in}
use Rattle.index_mode.specs.IndexText.{index_after, index_left, index_text, text_from}
use Rattle.place_lemmas.proofs.Ranges.{first_kept}
use Rattle.text_lemmas.proofs.Written.{Writes-same}
use Rattle.index_mode.proofs.text.write_on.Goals as goal

pub invariant_of-ranged : goal.invariant_of-ranged
invariant_of-ranged g c =
    let r = c.ranged.inside in let i = c.ranged.invariant in let same = c.write_text.ensures.segments in
    record {
      are = i.are;
      first = first_kept r.range r.store.region c.write_text.new.tree.region _ i.first same.most same.pieces same.held;
      unguarded = same.guards 0 ∙ i.unguarded;
    }

pub returns-clause-written : goal.returns-clause-written
unfolding index_text
returns-clause-written g c =
    let r = c.ranged.inside in let trace = trace_in c.args.trace.now in
    let none : index_in r.store ≡ [] = ap (λ (x : InRange IndexState). index_in x.store) c.ranged.view_is ∙ c.requires.empty in
    Writes-same (ap (λ n. text_from (most n) (index_in r.store) trace.operations) c.ranged.invariant.first.held
    ∙ (ap (λ (x : Index). text_from (most (r.pages / segment_pages)) x trace.operations) none ∙ ap (λ (x : InRange IndexState). index_text trace x.pages) c.ranged.view_is))
    c.write_text.ensures.written

pub returns-clause-index : goal.returns-clause-index
unfolding index_left
returns-clause-index g c =
    let r = c.ranged.inside in let trace = trace_in c.args.trace.now in
    let none : index_in r.store ≡ [] = ap (λ (x : InRange IndexState). index_in x.store) c.ranged.view_is ∙ c.requires.empty in
    let same = ap (λ n. index_after (most n) (index_in r.store) trace.operations) c.ranged.invariant.first.held
    ∙ (ap (λ (x : Index). index_after (most (r.pages / segment_pages)) x trace.operations) none ∙ ap (λ (x : InRange IndexState). index_left trace x.pages) c.ranged.view_is) in
    subst (λ (x : Index). OnOk c.write_text.result (index_in c.write_text.new.tree ≡ x)) same c.write_text.ensures.index

pub returns-clause-pages : goal.returns-clause-pages
returns-clause-pages g c = ap (λ (x : InRange IndexState). x.pages) c.ranged.view_is

pub returns-clause-segments : goal.returns-clause-segments
returns-clause-segments g c = subst (λ (x : InRange IndexState). HoldsSegments x.store.region c.write_text.new.tree.region) c.ranged.view_is c.write_text.ensures.segments
