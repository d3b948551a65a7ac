use Rattle.std.proofs.Common.{◌≡◌, ◌<◌, ◌≤◌, ℕ, true, false, Option, Some, None, get_or, sym, ap, subst, ◌∙◌, arith}
use Rattle.std.proofs.lemmas.List.{get_or_read}
use Rattle.std.specs.Int.{bit_at}
use Rattle.common_lemmas.proofs.Options.{some_is}
use Rattle.small_pools.specs.Objects.{Objects, IsHeld, HasObject}
use Rattle.small_pools.specs.inside.Tables.{Tables, class_at, objects_of, IsConsistent}
use Rattle.small_pools.proofs.Tables.{get_held, class_of_held}
use Rattle.small_pools.proofs.Found.{no_object, some_object}
use Rattle.small_pools.proofs.Steps.{IsSpanAt, first_below, span_at, read_mask}
use Rattle.small_pools.proofs.held_spans.HeldSpans.unused_at.Goals as goal

-- what is read at a page
read_class : {t : Tables} {s : Objects} → IsConsistent t → objects_of t ≡ s → (f : ℕ) (now : Option ℕ) → f < s.pages → now ≡ get_or t.classes f now → now ≡ class_at t f
read_class {t} h view f now below read =
    get_or_read t.classes f now (let l = h.classes_len in let b = subst (λ (o : Objects). f < o.pages) (sym view) below in omega arith) read None

at_page : {t : Tables} {s : Objects} → IsConsistent t → objects_of t ≡ s → (f c : ℕ) (now : Option ℕ) → f < s.pages → now ≡ get_or t.classes f now → now ≡ Some c → IsSpanAt t f c
at_page h view f c now below read is = span_at h f c (sym (read_class h view f now below read) ∙ is)

pub class_capacity-requires : goal.class_capacity-requires
class_capacity-requires c = (at_page c.self.invariant.0 c.self.view_is c.args.first c.in-Some.class c.get.result c.requires c.get.ensures c.in-Some.is).class.within

pub get_written-requires : goal.get_written-requires
get_written-requires c = first_below c.self.invariant.1.masks_written (at_page c.self.invariant.0 c.self.view_is c.args.first c.in-Some.class c.get.result c.requires c.get.ensures c.in-Some.is)

pub returns-in_default-clause-none : goal.returns-in_default-clause-none
returns-in_default-clause-none c = λ class held.
    absurd (c.in_default.not-Some class (read_class c.self.invariant.0 c.self.view_is c.args.first c.get.result c.requires c.get.ensures ∙ class_of_held c.self.invariant.0 c.args.first class (subst (λ s. IsHeld s c.args.first class) (sym c.self.view_is) held)))

pub returns-then-not-is_unused-clause-none : goal.returns-then-not-is_unused-clause-none
returns-then-not-is_unused-clause-none c = λ class held.
    (let span = at_page c.self.invariant.0 c.self.view_is c.args.first c.in-Some.class c.get.result c.requires c.get.ensures c.in-Some.is in
    let read = read_mask span c.get_written.result c.get_written.ensures in
    let value = c.class_capacity.ensures.value in
    let same : c.in-Some.class ≡ class = some_is span.at (class_of_held c.self.invariant.0 c.args.first class (subst (λ s. IsHeld s c.args.first class) (sym c.self.view_is) held)) in
    let object = some_object c.self.invariant.0 c.args.first c.in-Some.class c.all_free.result span.at
    (λ s l. c.all_free.ensures.free s (subst (λ n. s < n) (sym value) l)) (λ s l. c.all_free.ensures.none s (subst (λ n. n ≤ s) (sym value) l))
    (λ e. absurd (let clash : true ≡ false = sym (c.is_unused.ensures.1 (read ∙ e)) ∙ c.if-not-is_unused.true in cc)) in
    subst (λ k. HasObject c.args.self.now c.args.first k) same (subst (λ s. HasObject s c.args.first c.in-Some.class) c.self.view_is object))

pub returns-clause-class : goal.returns-clause-class
returns-clause-class c = (at_page c.self.invariant.0 c.self.view_is c.args.first c.in-Some.class c.get.result c.requires c.get.ensures c.in-Some.is).class.within

pub returns-clause-held : goal.returns-clause-held
returns-clause-held c =
    subst (λ s. IsHeld s c.args.first c.in-Some.class) c.self.view_is
    (get_held c.self.invariant.0 c.args.first ∙ (at_page c.self.invariant.0 c.self.view_is c.args.first c.in-Some.class c.get.result c.requires c.get.ensures c.in-Some.is).at)

pub returns-clause-unused : goal.returns-clause-unused
returns-clause-unused c =
    let span = at_page c.self.invariant.0 c.self.view_is c.args.first c.in-Some.class c.get.result c.requires c.get.ensures c.in-Some.is in
    let read = read_mask span c.get_written.result c.get_written.ensures in
    let value = c.class_capacity.ensures.value in
    subst (λ s. ¬ HasObject s c.args.first c.in-Some.class) c.self.view_is
    (no_object c.self.invariant.0 c.args.first c.in-Some.class span.at
    (λ s l. ap (λ m. bit_at m s) (sym read ∙ c.is_unused.ensures.0 c.if-not-is_unused.false) ∙ c.all_free.ensures.free s (subst (λ n. s < n) (sym value) l)))
