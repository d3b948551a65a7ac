-- How the pools and the pages go together.
use Rattle.std.proofs.Common.{◌≡◌, ◌≢◌, ℕ, ◌+◌, ◌-◌, ◌^◌, ◌<◌, ◌≤◌, ◌⊎◌, inl, inr, true, cond, is_some, Option, Some, None, refl, sym, ap, subst, ◌∙◌, arith}
use Rattle.std.proofs.lemmas.Bool.{cases_eq}
use Rattle.std.proofs.lemmas.Cmp.{nat_cmp_total}
use Rattle.std.specs.Ordering.{nat_cmp}
use Rattle.std.specs.FinMap as map
use Rattle.span_lists.specs.Layout.{Layout, IsAllocated, HasNone, Divides}
use Rattle.common_lemmas.proofs.Orders.{trichotomy}
use Rattle.common_lemmas.proofs.Maps.{get_inserted, get_past_insert, get_removed, get_past_remove}
use Rattle.common_lemmas.proofs.Options.{some_is}
use Rattle.small_pools.specs.Classes.{size_of, order_of}
use Rattle.small_pools.specs.Objects.{Objects, slot_place, IsHeld, HasObject, HasRoom, IsUsedUp, AreHeldIn, Trims, KeepsRoom}

-- a span with room keeps the class from being used up
pub not_used_up : (s : Objects) (f c : ℕ) → IsHeld s f c → HasRoom s f c → ¬ IsUsedUp s c
not_used_up s f c held room used = (let clash : Some (size_of c) ≡ None = sym (used f room.0 held room.1) ∙ room.2 in cc)

-- a span that was just taken meets none that the pools hold
pub clear_of : (s : Objects) (old new : Layout) (f c : ℕ) → AreHeldIn s old → map.get old.allocated f ≡ None → new.allocated ≡ map.insert old.allocated f (order_of c) → Divides new → (g d : ℕ) → IsHeld s g d → (g + 2 ^ order_of d ≤ f) ⊎ (f + 2 ^ order_of c ≤ g)
clear_of s old new f c held free e divided g d h =
    let allocated_g = held.allocated g d h in
    let apart : g ≢ f = (λ q. (let clash : Some (order_of d) ≡ None = sym allocated_g ∙ ap (map.get old.allocated) q ∙ free in cc)) in
    let now_g : IsAllocated new g (order_of d) = ap (λ m. map.get m g) e ∙ get_past_insert old.allocated f (order_of c) g apart ∙ allocated_g in
    let now_f : IsAllocated new f (order_of c) = ap (λ m. map.get m f) e ∙ get_inserted old.allocated f (order_of c) f refl in
    elim (trichotomy g f) [
      | inl q ↦ absurd (apart q)
      | inr (inl l) ↦ inl (divided.apart g f (order_of d) (order_of c) (inr now_g) (inr now_f) l)
      | inr (inr l) ↦ inr (divided.apart f g (order_of c) (order_of d) (inr now_f) (inr now_g) l)
    ]

pub inside_of : (s : Objects) (old new : Layout) (f c : ℕ) → AreHeldIn s old → new.allocated ≡ map.insert old.allocated f (order_of c) → new.pages ≡ old.pages → Divides new → f + 2 ^ order_of c ≤ s.pages
inside_of s old new f c held e same divided =
    subst (λ n. f + 2 ^ order_of c ≤ n) (same ∙ held.pages) (divided.spans f (order_of c) (inr (ap (λ m. map.get m f) e ∙ get_inserted old.allocated f (order_of c) f refl))).2

pub held_more : (s t : Objects) (old new : Layout) (f c : ℕ) → AreHeldIn s old → map.get old.allocated f ≡ None → new.allocated ≡ map.insert old.allocated f (order_of c) → new.pages ≡ old.pages → t ≡ record s { held = map.insert s.held f c } → AreHeldIn t new
held_more s t old new f c held free e same te = record {
  pages = same ∙ held.pages ∙ sym (ap (λ (o : Objects). o.pages) te);
  allocated = λ g d h.
      (let h' : map.get (map.insert s.held f c) g ≡ Some d = sym (ap (λ (o : Objects). map.get o.held g) te) ∙ h in
      elim (cases_eq g f) [
        | inl q ↦ (let cd : c ≡ d = some_is (get_inserted s.held f c g q) h' in ap (λ m. map.get m g) e ∙ get_inserted old.allocated f (order_of c) g q ∙ ap (λ z. Some (order_of z)) cd)
        | inr n ↦ ap (λ m. map.get m g) e ∙ get_past_insert old.allocated f (order_of c) g n ∙ held.allocated g d (sym (get_past_insert s.held f c g n) ∙ h')
      ]);
}

pub free_before : (s : Objects) (old : Layout) (f : ℕ) → AreHeldIn s old → map.get old.allocated f ≡ None → map.get s.held f ≡ None
free_before s old f held free = go (map.get s.held f) refl
  where
    go : (o : Option ℕ) → map.get s.held f ≡ o → map.get s.held f ≡ None
    go None e = e
    go (Some c) e = (let clash : Some (order_of c) ≡ None = sym (held.allocated f c e) ∙ free in cc)

-- ---- a trim

pub trims_none : (s : Objects) (l : Layout) → Trims s s l l
trims_none s l = record { pages = refl; allocated = refl; kept = λ f c h. h; left = λ f c h _. h; given = λ f c h n. (let clash : Some c ≡ None = sym h ∙ n in cc); others = λ f _. refl }

same_objects : (s t : Objects) (f c : ℕ) → t.allocated ≡ s.allocated → HasObject s f c → HasObject t f c
same_objects s t f c e object = (object.0, object.1, ap (λ m. map.get m (slot_place f c object.0)) e ∙ object.2)

pub trims_more : (old mid new : Objects) (s s1 s2 : Layout) (f c : ℕ) → Trims old mid s s1 → IsHeld mid f c → ¬ HasObject mid f c → new ≡ record mid { held = map.remove mid.held f } → s2.allocated ≡ map.remove s1.allocated f → Trims old new s s2
trims_more old mid new s s1 s2 f c h held empty e se =
    let held_is : (g : ℕ) → map.get new.held g ≡ map.get (map.remove mid.held f) g = λ g. ap (λ (o : Objects). map.get o.held g) e in
    let allocated_is : (g : ℕ) → map.get s2.allocated g ≡ map.get (map.remove s1.allocated f) g = λ g. ap (λ m. map.get m g) se in
    record {
      pages = ap (λ (o : Objects). o.pages) e ∙ h.pages;
      allocated = ap (λ (o : Objects). o.allocated) e ∙ h.allocated;
      kept = λ g d q. elim (cases_eq g f) [
        | inl gf ↦ (let clash : None ≡ Some d = sym (get_removed mid.held f g gf) ∙ sym (held_is g) ∙ q in cc)
        | inr n ↦ h.kept g d (sym (get_past_remove mid.held f g n) ∙ sym (held_is g) ∙ q)
      ];
      left = λ g d q object. elim (cases_eq g f) [
        | inl gf ↦ absurd (let dc : d ≡ c = some_is (h.left g d q object) (ap (map.get mid.held) gf ∙ held) in
            empty (same_objects old mid f c h.allocated (subst (λ z. HasObject old z c) gf (subst (λ z. HasObject old g z) dc object))))
        | inr n ↦ held_is g ∙ get_past_remove mid.held f g n ∙ h.left g d q object
      ];
      given = λ g d q none. elim (cases_eq g f) [
        | inl gf ↦ allocated_is g ∙ get_removed s1.allocated f g gf
        | inr n ↦ allocated_is g ∙ get_past_remove s1.allocated f g n ∙ h.given g d q (sym (get_past_remove mid.held f g n) ∙ sym (held_is g) ∙ none)
      ];
      others = λ g none. allocated_is g ∙ get_past_remove s1.allocated f g (λ gf. (let clash : Some c ≡ None = sym (h.kept f c held) ∙ ap (map.get old.held) (sym gf) ∙ none in cc)) ∙ h.others g none;
    }

pub trims_twice : (a b c : Objects) (s t u : Layout) → Trims a b s t → AreHeldIn b t → Trims b c t u → Trims a c s u
trims_twice a b c s t u p held q = record {
  pages = q.pages ∙ p.pages;
  allocated = q.allocated ∙ p.allocated;
  kept = λ f d h. p.kept f d (q.kept f d h);
  left = λ f d h object. q.left f d (p.left f d h object) (same_objects a b f d p.allocated object);
  given = λ f d h none. go f d h none (map.get b.held f) refl;
  others = λ f none. q.others f (none_held f none (map.get b.held f) refl) ∙ p.others f none;
}
  where
    go : (f d : ℕ) → IsHeld a f d → map.get c.held f ≡ None → (o : Option ℕ) → map.get b.held f ≡ o → map.get u.allocated f ≡ None
    go f d h none None e = q.others f e ∙ p.given f d h e
    go f d h none (Some k) e = q.given f k e none

    none_held : (f : ℕ) → map.get a.held f ≡ None → (o : Option ℕ) → map.get b.held f ≡ o → map.get b.held f ≡ None
    none_held f none None e = e
    none_held f none (Some k) e = (let clash : Some k ≡ None = sym (p.kept f k e) ∙ none in cc)

pub held_less : (mid new : Objects) (s1 s2 : Layout) (f : ℕ) → AreHeldIn mid s1 → new ≡ record mid { held = map.remove mid.held f } → s2.allocated ≡ map.remove s1.allocated f → s2.pages ≡ s1.pages → AreHeldIn new s2
held_less mid new s1 s2 f held e se same = record {
  pages = same ∙ held.pages ∙ sym (ap (λ (o : Objects). o.pages) e);
  allocated = λ g d q. (let q' : map.get (map.remove mid.held f) g ≡ Some d = sym (ap (λ (o : Objects). map.get o.held g) e) ∙ q in
      elim (cases_eq g f) [
        | inl gf ↦ (let clash : None ≡ Some d = sym (get_removed mid.held f g gf) ∙ q' in cc)
        | inr n ↦ ap (λ m. map.get m g) se ∙ get_past_remove s1.allocated f g n ∙ held.allocated g d (sym (get_past_remove mid.held f g n) ∙ q')
      ]);
}

pub fewer_held : (mid new : Objects) (f c : ℕ) → IsHeld mid f c → new ≡ record mid { held = map.remove mid.held f } → map.len new.held < map.len mid.held
fewer_held mid new f c held e =
    let has : map.contains_key mid.held f ≡ true = ap is_some held in
    let len : map.len new.held ≡ map.len mid.held - 1 = ap (λ (o : Objects). map.len o.held) e ∙ map.len-remove nat_cmp_total mid.held f ∙ ap (λ b. cond b (map.len mid.held - 1) (map.len mid.held)) has in
    elim (cases_eq (map.len mid.held) 0) [
      | inl z ↦ (let clash : None ≡ Some c = sym (ap (λ m. map.get m f) (map.empty_of_len mid.held z) ∙ map.get-empty nat_cmp f) ∙ held in cc)
      | inr n ↦ omega arith
    ]

pub still_used : (a b : Objects) (s t : Layout) (f c : ℕ) → Trims a b s t → (IsHeld a f c → HasObject a f c) → IsHeld b f c → HasObject b f c
still_used a b s t f c p used h = same_objects a b f c p.allocated (used (p.kept f c h))

-- ---- what can still be taken

pub room_same : (s : Objects) (l : Layout) → KeepsRoom s s l l
room_same s l = record { classes = λ class lacks. lacks; orders = λ order none. none }

pub room_twice : (a b c : Objects) (s t u : Layout) → KeepsRoom a b s t → KeepsRoom b c t u → KeepsRoom a c s u
room_twice a b c s t u p q = record { classes = λ class lacks. p.classes class (q.classes class lacks); orders = λ order none. p.orders order (q.orders order none) }

-- a span that is given back stands for the objects that it could have held
pub room_less : (old new : Objects) (s t : Layout) (f c : ℕ) → IsHeld old f c → new ≡ record old { held = map.remove old.held f } → ((k : ℕ) → HasNone t k → (order_of c < k) × HasNone s k) → KeepsRoom old new s t
room_less old new s t f c held e orders = record {
  classes = λ class lacks. (
    λ first slot h within.
        (let other : first ≢ f = (λ q. (let same : c ≡ class = some_is held (ap (map.get old.held) (sym q) ∙ h) in let past = (orders (order_of class) lacks.1).0 in absurd (omega (arith, past, ap order_of same)))) in
        let still : IsHeld new first class = ap (λ (o : Objects). map.get o.held first) e ∙ get_past_remove old.held f first other ∙ h in
        sym (ap (λ (o : Objects). map.get o.allocated (slot_place first class slot)) e) ∙ lacks.0 first slot still within),
    (orders (order_of class) lacks.1).1,
  );
  orders = λ order none. (orders order none).1;
}
