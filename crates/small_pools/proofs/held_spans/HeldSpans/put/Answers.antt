use Rattle.std.proofs.Common.{◌≡◌, ◌-◌, ◌*◌, ◌/◌, ◌<◌, ℕ, Option, Some, None, get_or, sym, ap, subst, ◌∙◌, arith}
use Rattle.std.proofs.lemmas.List.{get_or_read}
use Rattle.std.specs.FinMap as map
use Rattle.layout.specs.Sizes.{page}
use Rattle.common_lemmas.proofs.Options.{some_is}
use Rattle.small_pools.specs.Classes.{size_of, capacity_of}
use Rattle.small_pools.specs.Objects.{Objects, slot_place, IsHeld, AreObjects}
use Rattle.small_pools.specs.inside.Tables.{Tables, class_at}
use Rattle.small_pools.proofs.Marked.{others_used}
use Rattle.small_pools.proofs.Tables.{get_held, are_objects}
use Rattle.small_pools.proofs.Steps.{first_below, allocated_at, page_below, found_at, IsFoundAt, slot_is}
use Rattle.small_pools.proofs.held_spans.HeldSpans.put.Goals as goal

-- the class that is read at the span's first page is the object's
read_class : {t : Tables} {place f : ℕ} → IsFoundAt t place f → (now : Option ℕ) → now ≡ get_or t.classes f now → now ≡ class_at t f
read_class {t} {place} {f} o now read = get_or_read t.classes f now o.span.in_classes read None

class_is : {t : Tables} {place f : ℕ} → (o : IsFoundAt t place f) → (now : Option ℕ) (c : ℕ) → now ≡ get_or t.classes f now → now ≡ Some c → o.class ≡ c
class_is o now c read is = some_is (read_class o now read ∙ o.span.at) is

slot_of : {t : Tables} {place f : ℕ} → (o : IsFoundAt t place f) → (now : Option ℕ) (c size : ℕ) → now ≡ get_or t.classes f now → now ≡ Some c → size ≡ size_of c → (place - page * f) / size ≡ o.slot
slot_of o now c size read is e = slot_is o size (e ∙ ap size_of (sym (class_is o now c read is)))

slot_fits : {t : Tables} {place f : ℕ} → (o : IsFoundAt t place f) → (now : Option ℕ) (c size : ℕ) → now ≡ get_or t.classes f now → now ≡ Some c → size ≡ size_of c → (place - page * f) / size < capacity_of c
slot_fits o now c size read is e = subst (λ n. n < capacity_of c) (sym (slot_of o now c size read is e)) (subst (λ n. o.slot < capacity_of n) (class_is o now c read is) o.in_slot)

place_is : {t : Tables} {place f : ℕ} → (o : IsFoundAt t place f) → (now : Option ℕ) (c size : ℕ) → now ≡ get_or t.classes f now → now ≡ Some c → size ≡ size_of c → slot_place f c ((place - page * f) / size) ≡ place
place_is {t} {place} {f} o now c size read is e =
    ap (slot_place f c) (slot_of o now c size read is e) ∙ ap (λ n. slot_place f n o.slot) (sym (class_is o now c read is)) ∙ sym o.at

pub get_written-first-requires : goal.get_written-first-requires
get_written-first-requires c = (let o = allocated_at c.self.invariant.0 c.self.view_is c.args.place c.requires in page_below c.self.invariant.0 c.self.invariant.1.firsts_written c.args.place o.0 o.1)

pub get_written-requires : goal.get_written-requires
get_written-requires c =
    let o = allocated_at c.self.invariant.0 c.self.view_is c.args.place c.requires in
    first_below c.self.invariant.1.classes_written (found_at c.self.invariant.0 c.args.place o.0 c.get_written-first.result o.1 c.get_written-first.ensures).span

pub overflow_mul-slot : goal.overflow_mul-slot
overflow_mul-slot c =
    let o = allocated_at c.self.invariant.0 c.self.view_is c.args.place c.requires in
    let below = (found_at c.self.invariant.0 c.args.place o.0 c.get_written-first.result o.1 c.get_written-first.ensures).span.below in
    let small = c.self.invariant.0.small in
    omega arith

pub overflow_sub-slot : goal.overflow_sub-slot
overflow_sub-slot c =
    let o = allocated_at c.self.invariant.0 c.self.view_is c.args.place c.requires in
    (found_at c.self.invariant.0 c.args.place o.0 c.get_written-first.result o.1 c.get_written-first.ensures).from

pub class_size-requires : goal.class_size-requires
class_size-requires c =
    let o = allocated_at c.self.invariant.0 c.self.view_is c.args.place c.requires in
    let found = found_at c.self.invariant.0 c.args.place o.0 c.get_written-first.result o.1 c.get_written-first.ensures in
    subst (λ n. n < 37) (class_is found c.get_written.result c.in-Some.class c.get_written.ensures c.in-Some.is) found.span.class.within

pub overflow_cast-slot : goal.overflow_cast-slot
overflow_cast-slot c =
    let o = allocated_at c.self.invariant.0 c.self.view_is c.args.place c.requires in
    let found = found_at c.self.invariant.0 c.args.place o.0 c.get_written-first.result o.1 c.get_written-first.ensures in
    let fits = slot_fits found c.get_written.result c.in-Some.class c.class_size.result c.get_written.ensures c.in-Some.is c.class_size.ensures.value in
    let most = c.class_size.ensures.bounds.capacity_most in
    omega (arith, fits, most)

pub release-requires-clause-held : goal.release-requires-clause-held
release-requires-clause-held c =
    let o = allocated_at c.self.invariant.0 c.self.view_is c.args.place c.requires in
    let found = found_at c.self.invariant.0 c.args.place o.0 c.get_written-first.result o.1 c.get_written-first.ensures in
    subst (λ s. IsHeld s c.get_written-first.result c.in-Some.class) c.self.view_is (get_held c.self.invariant.0 c.get_written-first.result ∙ sym (read_class found c.get_written.result c.get_written.ensures) ∙ c.in-Some.is)

pub release-requires-clause-slot : goal.release-requires-clause-slot
release-requires-clause-slot c =
    let o = allocated_at c.self.invariant.0 c.self.view_is c.args.place c.requires in
    let found = found_at c.self.invariant.0 c.args.place o.0 c.get_written-first.result o.1 c.get_written-first.ensures in
    slot_fits found c.get_written.result c.in-Some.class c.class_size.result c.get_written.ensures c.in-Some.is c.class_size.ensures.value

pub returns-in-Some-clause-allocated : goal.returns-in-Some-clause-allocated
returns-in-Some-clause-allocated c =
    let o = allocated_at c.self.invariant.0 c.self.view_is c.args.place c.requires in
    let found = found_at c.self.invariant.0 c.args.place o.0 c.get_written-first.result o.1 c.get_written-first.ensures in
    ap (λ (s : Objects). s.allocated) c.release.ensures.moves
    ∙ ap (map.remove c.args.self.now.allocated) (place_is found c.get_written.result c.in-Some.class c.class_size.result c.get_written.ensures c.in-Some.is c.class_size.ensures.value)

pub returns-in_default-clause-allocated : goal.returns-in_default-clause-allocated
returns-in_default-clause-allocated c =
    let o = allocated_at c.self.invariant.0 c.self.view_is c.args.place c.requires in
    let found = found_at c.self.invariant.0 c.args.place o.0 c.get_written-first.result o.1 c.get_written-first.ensures in
    absurd (c.in_default.not-Some found.class (read_class found c.get_written.result c.get_written.ensures ∙ found.span.at))

pub returns-in_default-clause-objects : goal.returns-in_default-clause-objects
returns-in_default-clause-objects c =
    let o = allocated_at c.self.invariant.0 c.self.view_is c.args.place c.requires in
    let found = found_at c.self.invariant.0 c.args.place o.0 c.get_written-first.result o.1 c.get_written-first.ensures in
    absurd (c.in_default.not-Some found.class (read_class found c.get_written.result c.get_written.ensures ∙ found.span.at))

pub returns-in-Some-clause-within : goal.returns-in-Some-clause-within
returns-in-Some-clause-within c =
    let o = allocated_at c.self.invariant.0 c.self.view_is c.args.place c.requires in
    let found = found_at c.self.invariant.0 c.args.place o.0 c.get_written-first.result o.1 c.get_written-first.ensures in
    subst (λ (s : Objects). c.get_written-first.result < s.pages) c.self.view_is found.span.below

pub returns-in-Some-clause-others : goal.returns-in-Some-clause-others
returns-in-Some-clause-others c = λ f d far held object.
    let o = allocated_at c.self.invariant.0 c.self.view_is c.args.place c.requires in
    let found = found_at c.self.invariant.0 c.args.place o.0 c.get_written-first.result o.1 c.get_written-first.ensures in
    let first = subst (λ s. IsHeld s c.get_written-first.result c.in-Some.class) c.self.view_is (get_held c.self.invariant.0 c.get_written-first.result ∙ sym (read_class found c.get_written.result c.get_written.ensures) ∙ c.in-Some.is) in
    others_used c.args.self.now c.release.new.self f d c.get_written-first.result c.in-Some.class _ (subst AreObjects c.self.view_is (are_objects c.self.invariant.0)) held first far
    (slot_fits found c.get_written.result c.in-Some.class c.class_size.result c.get_written.ensures c.in-Some.is c.class_size.ensures.value) (ap (λ (s : Objects). s.allocated) c.release.ensures.moves) object

pub returns-in_default-clause-within : goal.returns-in_default-clause-within
returns-in_default-clause-within c =
    let o = allocated_at c.self.invariant.0 c.self.view_is c.args.place c.requires in
    let found = found_at c.self.invariant.0 c.args.place o.0 c.get_written-first.result o.1 c.get_written-first.ensures in
    absurd (c.in_default.not-Some found.class (read_class found c.get_written.result c.get_written.ensures ∙ found.span.at))
