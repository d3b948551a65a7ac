-- What each call of the pools reads and leaves.
use Rattle.std.proofs.Common.{◌≡◌, ◌≢◌, ℕ, ◌+◌, ◌-◌, ◌*◌, ◌/◌, ◌^◌, ◌<◌, ◌≤◌, ◌⊎◌, List, length, replicate, max, inl, inr, Option, Some, None, IsSome, true, false, refl, sym, ap, subst, ◌∙◌, arith}
use Rattle.std.proofs.Common.{get_or, set, get_or-set_same, get_or-set_other}
use Rattle.std.proofs.lemmas.List.{get_or_read}
use Rattle.std.proofs.lemmas.Nat.{div_below, pow_pos}
use Rattle.std.proofs.lemmas.Nat.Bits.{bit_at-zero}
use Rattle.std.specs.FinMap as map
use Rattle.std.specs.Int.{bit_at}
use Rattle.layout.specs.Sizes.{page}
use Rattle.index_lists.specs.Lists.{Lists, list_at}
use Rattle.common_lemmas.specs.Lists.{times}
use Rattle.small_pools.specs.Classes.{size_of, order_of, capacity_of, IsClass}
use Rattle.small_pools.specs.Objects.{Objects, slot_place, IsHeld, HasObject, HasRoom}
use Rattle.small_pools.specs.inside.Tables.{Tables, class_at, mask_at, object_at, objects_of, list_of, stands_on, IsRelisted, IsConsistent, HoldsBelow, AreWritten}
use Rattle.small_pools.proofs.ClassFacts.{is_class}
use Rattle.common_lemmas.proofs.Options.{some_is, some_or_none}
use Rattle.std.proofs.lemmas.Bool.{cases_eq}
use Rattle.small_pools.proofs.Fresh.{all_alike}
use Rattle.small_pools.proofs.Places.{IsAllocatedAt, object_is, slot_page, slot_within, slot_back}
use Rattle.small_pools.proofs.Stands.{list_of_room}
use Rattle.small_pools.proofs.Tables.{get_held, get_allocated, class_of_held, first_within, place_below, AreOthers, IsTaken, slot_taken, IsReleased, slot_released, IsOwned, IsAdded, span_added, IsRemoved, span_removed}
use Rattle.small_pools.proofs.Found.{free_of_room, all_free_of_none, stands_before}

-- objects are their fields
pub same_fields : (a b : Objects) → a.pages ≡ b.pages → a.held ≡ b.held → a.allocated ≡ b.allocated → a ≡ b
same_fields a b p h o =
    ap (λ x. let r : Objects = record { pages = x; held = a.held; allocated = a.allocated } in r) p
    ∙ ap (λ x. let r : Objects = record { pages = b.pages; held = x; allocated = a.allocated } in r) h
    ∙ ap (λ x. let r : Objects = record { pages = b.pages; held = b.held; allocated = x } in r) o

-- a span that is held, in the tables
pub record IsSpanAt (t : Tables) (f c : ℕ) : Type 0 where
  pub at : class_at t f ≡ Some c
  pub class : IsClass c
  pub below : f < t.pages
  pub in_masks : f < length t.masks
  pub in_classes : f < length t.classes
  pub in_lists : f < t.lists.indices
  pub list : c < length t.lists.lists

pub span_at : {t : Tables} → IsConsistent t → (f c : ℕ) → class_at t f ≡ Some c → IsSpanAt t f c
span_at {t} h f c e =
    let w = first_within h f c e in
    let small = (h.spans f c e).0 in
    let ml = h.masks_len in let cl = h.classes_len in let il = h.indices in let ll = h.lists_len in
    record { at = e; class = is_class c small; below = w; in_masks = omega arith; in_classes = omega arith; in_lists = omega arith; list = omega arith }

pub held_at : {t : Tables} {s : Objects} → IsConsistent t → objects_of t ≡ s → (f c : ℕ) → IsHeld s f c → IsSpanAt t f c
held_at {t} {s} h view f c held = span_at h f c (class_of_held h f c (subst (λ o. IsHeld o f c) (sym view) held))

-- a span's pages are below a number, as those of each are
pub first_below : {t : Tables} {f c end : ℕ} → HoldsBelow t.classes end → IsSpanAt t f c → f < end
first_below {t} {f} {c} below span = (let low = below f c span.at in let pos = pow_pos (order_of c) in omega (arith, low, pos))

pub read_mask : {t : Tables} {f c : ℕ} → IsSpanAt t f c → (now : ℕ) → now ≡ get_or t.masks f now → now ≡ mask_at t f
read_mask {t} {f} {c} s now read = get_or_read t.masks f now s.in_masks read 0

-- tables of as many pages
abbrev pub with_tables : Tables → List (Option ℕ) → List ℕ → List ℕ → Lists → Tables
with_tables t classes firsts masks lists = record { pages = t.pages; classes = classes; firsts = firsts; masks = masks; lists = lists }

-- ---- a slot is allocated

pub has_free : {t : Tables} {s : Objects} → IsConsistent t → objects_of t ≡ s → (f c now : ℕ) → IsSpanAt t f c → HasRoom s f c → now ≡ get_or t.masks f now → now ≢ 0
has_free {t} h view f c now span room read e = free_of_room h f c span.at (subst (λ o. HasRoom o f c) (sym view) room) (sym (read_mask span now read) ∙ e)

pub stands_with_room : {t : Tables} → IsConsistent t → (f c now : ℕ) → IsSpanAt t f c → now ≡ get_or t.masks f now → now ≢ 0 → (k : ℕ) → k < length t.lists.lists → times f (list_at t.lists k) ≡ stands_on (Some c) k
stands_with_room {t} h f c now span read n =
    stands_before h f c (Some c) span.at (sym (list_of_room c (mask_at t f) (λ z. n (read_mask span now read ∙ z))))

pub stands_by_mask : {t : Tables} → IsConsistent t → (f c now : ℕ) (o : Option ℕ) → IsSpanAt t f c → now ≡ get_or t.masks f now → o ≡ list_of (Some c) now → (k : ℕ) → k < length t.lists.lists → times f (list_at t.lists k) ≡ stands_on o k
stands_by_mask {t} h f c now o span read oe = stands_before h f c o span.at (oe ∙ ap (list_of (Some c)) (read_mask span now read))

pub popped : {t : Tables} → IsConsistent t → (f c now s m : ℕ) (to : Option ℕ) (masks : List ℕ) (lists : Lists) → IsSpanAt t f c → now ≡ get_or t.masks f now → bit_at now s ≡ 1 → bit_at m s ≡ 0 → AreOthers now m s
    → to ≡ list_of (Some c) m → masks ≡ set t.masks f m → IsRelisted t.lists lists f to → IsTaken t (with_tables t t.classes t.firsts masks lists) f c s
popped {t} h f c now s m to masks lists span read free taken others toe me moved =
    let r = read_mask span now read in
    subst (λ l. IsTaken t (with_tables t t.classes t.firsts l lists) f c s) (sym me)
    (slot_taken h f c s m lists span.at (ap (λ z. bit_at z s) (sym r) ∙ free) taken (λ o d. others o d ∙ ap (λ z. bit_at z o) r) (subst (IsRelisted t.lists lists f) toe moved))

pub place_fits : {t : Tables} → IsConsistent t → (f c s n : ℕ) → IsSpanAt t f c → s < capacity_of c → n ≡ size_of c → page * f + s * n < 2 ^ 32
place_fits {t} h f c s n span within e =
    let b = place_below h f c s span.at within in let small = h.small in
    subst (λ z. page * f + s * z < 2 ^ 32) (sym e) (omega (arith, b, small))

-- ---- a slot comes back

pub bit_not_zero : (m s : ℕ) → bit_at m s ≡ 1 → m ≢ 0
bit_not_zero m s one z = absurd (let none = ap (λ x. bit_at x s) z ∙ bit_at-zero s in omega (arith, one, none))

pub pushed : {t : Tables} → IsConsistent t → (f c now s m : ℕ) (masks : List ℕ) (lists : Lists) → IsSpanAt t f c → now ≡ get_or t.masks f now → s < capacity_of c → bit_at m s ≡ 1 → AreOthers now m s
    → masks ≡ set t.masks f m → IsRelisted t.lists lists f (Some c) → IsReleased t (with_tables t t.classes t.firsts masks lists) f c s
pushed {t} h f c now s m masks lists span read within free others me moved =
    let r = read_mask span now read in
    subst (λ l. IsReleased t (with_tables t t.classes t.firsts l lists) f c s) (sym me)
    (slot_released h f c s m lists span.at within free (λ o d. others o d ∙ ap (λ z. bit_at z o) r)
    (subst (IsRelisted t.lists lists f) (sym (list_of_room c m (bit_not_zero m s free))) moved))

-- what a call knows of an allocated object
pub allocated_at : {t : Tables} {s : Objects} → IsConsistent t → objects_of t ≡ s → (place : ℕ) → IsSome (map.get s.allocated place) → (n : ℕ) × IsAllocatedAt t place n
allocated_at {t} {s} h view place some = go (object_at t place) refl (subst IsSome (get_allocated h place) (subst (λ (o : Objects). IsSome (map.get o.allocated place)) (sym view) some))
  where
    go : (o : Option ℕ) → object_at t place ≡ o → IsSome o → (n : ℕ) × IsAllocatedAt t place n
    go None e q = absurd (let clash : false ≡ true = q in cc)
    go (Some n) e q = (n, object_is t place n e)

-- the span of an object, as it is read
pub record IsFoundAt (t : Tables) (place f : ℕ) : Type 0 where
  pub class : ℕ
  pub slot : ℕ
  pub span : IsSpanAt t f class
  pub in_slot : slot < capacity_of class
  pub at : place ≡ slot_place f class slot
  pub from : page * f ≤ place

pub page_within : {t : Tables} → IsConsistent t → (place n : ℕ) → IsAllocatedAt t place n → place / page < length t.firsts
page_within {t} h place n o =
    let b = place_below h o.first o.class o.slot o.held o.in_slot in
    let at = o.at in let fl = h.firsts_len in
    subst (λ z. place / page < z) (sym fl) (div_below place 4096 t.pages (omega arith) (omega arith))

pub page_below : {t : Tables} {end : ℕ} → IsConsistent t → HoldsBelow t.classes end → (place n : ℕ) → IsAllocatedAt t place n → place / page < end
page_below {t} {end} h below place n o =
    let high = (slot_page o.first o.class o.slot (h.spans o.first o.class o.held).0 o.in_slot).1 in
    let low = below o.first o.class o.held in
    subst (λ p. p / page < end) (sym o.at) (omega (arith, high, low))

pub found_at : {t : Tables} → IsConsistent t → (place n f : ℕ) → IsAllocatedAt t place n → f ≡ get_or t.firsts (place / page) f → IsFoundAt t place f
found_at {t} h place n f o read =
    let fo : f ≡ o.first = get_or_read t.firsts (place / page) f (page_within h place n o) read 0 ∙ o.owner in
    let w = slot_within o.first o.class o.slot (h.spans o.first o.class o.held).0 o.in_slot in
    let low = w.0 in let at = o.at in
    record {
      class = o.class;
      slot = o.slot;
      span = span_at h f o.class (ap (class_at t) fo ∙ o.held);
      in_slot = o.in_slot;
      at = o.at ∙ ap (λ z. slot_place z o.class o.slot) (sym fo);
      from = omega arith;
    }

-- the slot that the code computes
pub slot_is : {t : Tables} {place f : ℕ} → (o : IsFoundAt t place f) → (size : ℕ) → size ≡ size_of o.class → (place - page * f) / size ≡ o.slot
slot_is {t} {place} {f} o size e = ap (λ n. (place - page * f) / n) e ∙ ap (λ p. (p - page * f) / size_of o.class) o.at ∙ slot_back f o.class o.slot o.span.class.within

-- ---- a span comes to the pools, or leaves them

-- a span that came: it has a free slot
pub record IsAddedFree (t t' : Tables) (f c : ℕ) : Type 0 where
  pub step : IsAdded t t' f c
  pub at : class_at t' f ≡ Some c
  pub free : mask_at t' f ≢ 0

pub added : {t : Tables} {s : Objects} → IsConsistent t → objects_of t ≡ s → (f c m : ℕ) (classes : List (Option ℕ)) (firsts masks : List ℕ) (lists : Lists) → c < 37 → f + 2 ^ order_of c ≤ s.pages
    → ((g d : ℕ) → IsHeld s g d → (g + 2 ^ order_of d ≤ f) ⊎ (f + 2 ^ order_of c ≤ g))
    → IsOwned t.firsts firsts f (2 ^ order_of c) → (cap : ℕ) → cap ≡ capacity_of c → ((slot : ℕ) → slot < cap → bit_at m slot ≡ 1) → ((slot : ℕ) → cap ≤ slot → bit_at m slot ≡ 0)
    → classes ≡ set t.classes f (Some c) → masks ≡ set t.masks f m → IsRelisted t.lists lists f (Some c) → IsAddedFree t (with_tables t classes firsts masks lists) f c
added {t} {s} h view f c m classes firsts masks lists small inside clear owned cap cape free none ce me moved =
    let least = (is_class c small).capacity_least in
    let some : m ≢ 0 = bit_not_zero m 0 (free 0 (omega (arith, least, cape))) in
    let within : f + 2 ^ order_of c ≤ t.pages = subst (λ (o : Objects). f + 2 ^ order_of c ≤ o.pages) (sym view) inside in
    let pos = pow_pos (order_of c) in
    let cl = h.classes_len in let ml = h.masks_len in
    subst (λ l. IsAddedFree t (with_tables t l firsts masks lists) f c) (sym ce)
    (subst (λ l. IsAddedFree t (with_tables t (set t.classes f (Some c)) firsts l lists) f c) (sym me) (record {
      step = span_added h f c m firsts lists small within
          (λ g d e. clear g d (subst (λ o. IsHeld o g d) view (get_held h g ∙ e))) owned
          (λ x l. free x (subst (λ z. x < z) (sym cape) l)) (λ x l. none x (subst (λ z. z ≤ x) (sym cape) l))
          (subst (IsRelisted t.lists lists f) (sym (list_of_room c m some)) moved);
      at = get_or-set_same t.classes f (Some c) None (omega arith);
      free = λ z. some (sym (get_or-set_same t.masks f m 0 (omega arith)) ∙ z);
    }))

pub dropped : {t : Tables} {s : Objects} → IsConsistent t → objects_of t ≡ s → (f c : ℕ) (classes : List (Option ℕ)) (lists : Lists) → IsSpanAt t f c → ¬ HasObject s f c
    → classes ≡ set t.classes f None → IsRelisted t.lists lists f None → IsRemoved t (with_tables t classes t.firsts t.masks lists) f
dropped {t} h view f c classes lists span unused ce moved =
    subst (λ l. IsRemoved t (with_tables t l t.firsts t.masks lists) f) (sym ce)
    (span_removed h f c lists span.at (all_free_of_none h f c span.at (subst (λ o. ¬ HasObject o f c) (sym view) unused)) moved)

-- ---- which entries are written

pub written_none : (pages classes firsts masks : ℕ) (held : List (Option ℕ)) → held ≡ replicate pages None → AreWritten held classes firsts masks
written_none pages classes firsts masks held e =
    let none : (end : ℕ) → HoldsBelow held end = (λ end f c at. some_or_none at (ap (λ l. get_or l f None) e ∙ all_alike pages f None)) in
    record { classes_written = none classes; firsts_written = none firsts; masks_written = none masks }

-- as many entries are written in tables that were set
pub written_still : {held : List (Option ℕ)} {classes firsts masks masks' : ℕ} → AreWritten held classes firsts masks → masks' ≡ masks → AreWritten held classes firsts masks'
written_still {held} w e = record { classes_written = w.classes_written; firsts_written = w.firsts_written; masks_written = subst (HoldsBelow held) (sym e) w.masks_written }

below_with : (held held' : List (Option ℕ)) (f c old end : ℕ) → HoldsBelow held old → held' ≡ set held f (Some c) → f < length held → f + 2 ^ order_of c ≤ end → old ≤ end → HoldsBelow held' end
below_with held held' f c old end below e inside fits more = subst (λ l. HoldsBelow l end) (sym e) (λ g d at. elim (cases_eq g f) [
  | inl here ↦
      (let same : c ≡ d = some_is (ap (λ z. get_or (set held f (Some c)) z None) here ∙ get_or-set_same held f (Some c) None inside) at in
      subst (λ z. g + 2 ^ order_of z ≤ end) same (omega (arith, here, fits)))
  | inr n ↦ (let low = below g d (sym (get_or-set_other held f g (Some c) None n) ∙ at) in omega (arith, low, more))
])

below_without : (held held' : List (Option ℕ)) (f end end' : ℕ) → HoldsBelow held end → held' ≡ set held f None → f < length held → end' ≡ end → HoldsBelow held' end'
below_without held held' f end end' below e inside same = subst (λ l. HoldsBelow l end') (sym e) (λ g d at. elim (cases_eq g f) [
  | inl here ↦ some_or_none at (ap (λ z. get_or (set held f None) z None) here ∙ get_or-set_same held f None None inside)
  | inr n ↦ (let low = below g d (sym (get_or-set_other held f g None None n) ∙ at) in omega (arith, low, same))
])

pub written_with : {held held' : List (Option ℕ)} {classes firsts masks classes' firsts' masks' : ℕ} → AreWritten held classes firsts masks → (f c n : ℕ) → n ≡ f + 2 ^ order_of c → held' ≡ set held f (Some c) → f < length held
    → classes' ≡ max classes n → firsts' ≡ max firsts n → masks' ≡ max masks n → AreWritten held' classes' firsts' masks'
written_with {held} {held'} w f c n ne e inside ec ef em = record {
  classes_written = below_with held held' f c _ _ w.classes_written e inside (omega (arith, ne, ec)) (omega (arith, ec));
  firsts_written = below_with held held' f c _ _ w.firsts_written e inside (omega (arith, ne, ef)) (omega (arith, ef));
  masks_written = below_with held held' f c _ _ w.masks_written e inside (omega (arith, ne, em)) (omega (arith, em));
}

pub written_without : {held held' : List (Option ℕ)} {classes firsts masks classes' : ℕ} → AreWritten held classes firsts masks → (f : ℕ) → held' ≡ set held f None → f < length held → classes' ≡ classes → AreWritten held' classes' firsts masks
written_without {held} {held'} w f e inside same = record {
  classes_written = below_without held held' f _ _ w.classes_written e inside same;
  firsts_written = below_without held held' f _ _ w.firsts_written e inside refl;
  masks_written = below_without held held' f _ _ w.masks_written e inside refl;
}
