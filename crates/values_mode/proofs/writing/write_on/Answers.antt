-- The room of all segments is that of the pages.
use Rattle.std.proofs.Common.{◌≡◌, ℕ, ◌/◌, List, length, ap, ◌∙◌, subst, arith}
use Rattle.std.specs.Result.{OnOk}
use Rattle.layout.specs.Sizes.{segment_pages}
use Rattle.regions.specs.Shapes.{held_count}
use Rattle.segmented_store.specs.Ranged.{InRange}
use Rattle.segmented_store.specs.Room.{room}
use Rattle.segmented_store.specs.Segments.{HoldsSegments}
use Rattle.fragments.specs.Store.{StoreState, values_of}
use Rattle.fragments.specs.Values.{Values}
use Rattle.value_script.specs.Order.{Order}
use Rattle.value_script.specs.Script.{script_in}
use Rattle.text_lemmas.proofs.Written.{Writes-same}
use Rattle.values_mode.specs.Left.{values_after, values_left}
use Rattle.values_mode.specs.Text.{no_values, text_from, values_text}
use Rattle.place_lemmas.proofs.Ranges.{first_kept}
use Rattle.values_mode.proofs.writing.write_on.Goals as goal

text_is : (s : StoreState) (script : List Order) (pages : ℕ) → held_count s.region ≡ pages / segment_pages → values_of s ≡ no_values
    → text_from (room (held_count s.region)) 1 (values_of s) script ≡ values_text script pages
unfolding values_text
text_is s script pages held none = ap (λ n. text_from (room n) 1 (values_of s) script) held ∙ ap (λ v. text_from (room (pages / segment_pages)) 1 v script) none

left_is : (s : StoreState) (script : List Order) (pages : ℕ) → held_count s.region ≡ pages / segment_pages → values_of s ≡ no_values
    → values_after (room (held_count s.region)) (values_of s) script ≡ values_left script pages
unfolding values_left
left_is s script pages held none = ap (λ n. values_after (room n) (values_of s) script) held ∙ ap (λ v. values_after (room (pages / segment_pages)) v script) none

pub write_text-requires : goal.write_text-requires
write_text-requires g c =
    let i = c.ranged.invariant in let held = i.first.held in let least = i.are.0 in
    record {
      serving = record {
        many = ap (λ (r : InRange StoreState). length r.store.firsts) c.ranged.view_is ∙ c.requires.many;
        held = omega (arith, held, least);
        unguarded = i.unguarded;
      };
    }

pub invariant_of-ranged : goal.invariant_of-ranged
invariant_of-ranged g c =
    let r = c.ranged.inside in let i = c.ranged.invariant in let w = c.write_text.ensures in let same = w.segments in
    record {
      are = i.are;
      first = first_kept r.range r.store.region c.write_text.new.store.region _ i.first same.most same.pieces same.held;
      unguarded = w.serving.unguarded;
    }

pub returns-clause-written : goal.returns-clause-written
returns-clause-written g c =
    let r = c.ranged.inside in let script = script_in c.args.script.now in
    let none = ap (λ (x : InRange StoreState). values_of x.store) c.ranged.view_is ∙ c.requires.none in
    let e = text_is r.store script r.pages c.ranged.invariant.first.held none ∙ ap (λ (x : InRange StoreState). values_text script x.pages) c.ranged.view_is in
    Writes-same e c.write_text.ensures.written

pub returns-clause-values : goal.returns-clause-values
returns-clause-values g c =
    let r = c.ranged.inside in let script = script_in c.args.script.now in
    let none = ap (λ (x : InRange StoreState). values_of x.store) c.ranged.view_is ∙ c.requires.none in
    let e = left_is r.store script r.pages c.ranged.invariant.first.held none ∙ ap (λ (x : InRange StoreState). values_left script x.pages) c.ranged.view_is in
    subst (λ (v : Values). OnOk c.write_text.result (values_of c.write_text.new.store ≡ v)) e c.write_text.ensures.values

pub returns-clause-many : goal.returns-clause-many
returns-clause-many g c = c.write_text.ensures.serving.many

pub returns-clause-pages : goal.returns-clause-pages
returns-clause-pages g c = ap (λ (x : InRange StoreState). x.pages) c.ranged.view_is

pub returns-clause-segments : goal.returns-clause-segments
returns-clause-segments g c = subst (λ (x : InRange StoreState). HoldsSegments x.store.region c.write_text.new.store.region) c.ranged.view_is c.write_text.ensures.segments
