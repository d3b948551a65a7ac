-- A segment that becomes the active one of a group, and the one before it.
use Rattle.std.proofs.Common.{◌≡◌, ◌≢◌, ℕ, ◌<◌, ◌≤◌, inl, inr, Bool, true, false, not, cond, ◌&&◌, List, length, refl, sym, ap, ◌∙◌, subst, arith}
use Rattle.std.specs.Prelude.{Option, None, Some, IsSome, is_some, slice_index, slice_set}
use Rattle.std.proofs.lemmas.Bool.{cases_eq, cases_Bool, ne_eqb}
use Rattle.std.proofs.lemmas.List.{get_or-set_same, get_or-set_other, length-set}
use Rattle.std.proofs.lemmas.Option.{same_Some}
use Rattle.std.proofs.Math.Seq.{map-set_same}
use Rattle.layout.specs.Sizes.{dense, greatest_object}
use Rattle.regions.specs.Shapes.{Slot, slot_at, group_in, active_in, is_free, is_held, is_begun, is_number, is_closed_in}
use Rattle.regions.specs.Counts.{left_of}
use Rattle.regions.proofs.Numbers.{follows}
use Rattle.regions.specs.inside.Consistent.{IsConsistent, GroupFields, states, fields_at, begun, not_closed, closed_live, with_closed}
use Rattle.regions.proofs.Groups.{number-is, is-number, other-number, none-there, closed-in-from, closed-from, closed-parts, open-of, open-active, closed-in-same, held-within, free-held, free-unbegun, fields-here, fields-other, active-here, active-other}
use Rattle.regions.proofs.Consistency.{active-is, table-long}

full-when : (used : List ℕ) (active : Option ℕ) (m : ℕ) → active ≡ Some m → (IsSome active → left_of used active < greatest_object) → dense < slice_index used m
full-when used active m it full =
    let here : left_of used (Some m) < greatest_object = subst (λ a. IsSome a → left_of used a < greatest_object) it full refl in omega (arith, here)

long-closed : (active : Option ℕ) (al : ℕ) (table : List ℕ) → length (with_closed active al table) ≡ length table
long-closed None al table = refl
long-closed (Some n) al table = length-set table n al

closed-far : (active : Option ℕ) (al : ℕ) (table : List ℕ) (m : ℕ) → (active ≢ Some m) → slice_index (with_closed active al table) m ≡ slice_index table m
closed-far None al table m far = refl
closed-far (Some n) al table m far = get_or-set_other table n m al 0 (λ e. far (ap (λ k. Some k) (sym e)))

closed-here : (active : Option ℕ) (al : ℕ) (table : List ℕ) (m : ℕ) → active ≡ Some m → m < length table → slice_index (with_closed active al table) m ≡ al
closed-here active al table m it inside = subst (λ a. slice_index (with_closed a al table) m ≡ al) (sym it) (get_or-set_same table m al 0 inside)

module _ (most : ℕ) (groups : List GroupFields) (held free : List Bool) (slots : List (Option Slot)) (used live : List ℕ) (c : IsConsistent most groups held free slots used live)
    (g : ℕ) (f : GroupFields) (is : fields_at groups g ≡ f) (w : g < length groups) where
  own-active : f.state.active ≡ active_in (states groups) g
  own-active = active-is most groups held free slots used live c g f is w

  own-table : length f.table ≡ most
  own-table = table-long most groups held free slots used live c g f is w

  -- a free segment is the active one of the group, and the one before is closed
  pub activates : (n : ℕ) (b : Slot) → is_free (slot_at slots n) ≡ true → b.group ≡ Some g → (IsSome f.state.active → left_of used f.state.active < greatest_object)
      → IsConsistent most (slice_set groups g (begun n f)) held (slice_set free n false) (slice_set slots n (Some b)) used live
  activates n b was of full =
      let new : GroupFields = begun n f in
      let now : List GroupFields = slice_set groups g new in
      let slots' : List (Option Slot) = slice_set slots n (Some b) in
      let count : length now ≡ length groups = length-set groups g new in
      let unbegun : is_begun (slot_at slots n) ≡ false = free-unbegun (slot_at slots n) was in
      let none : group_in (slot_at slots n) ≡ None = none-there (group_in (slot_at slots n)) unbegun in
      let inside = held-within slots n (free-held (slot_at slots n) was) in
      let there : slot_at slots' n ≡ Some b = get_or-set_same slots n (Some b) None inside in
      let of-new : group_in (slot_at slots' n) ≡ Some g = ap group_in there ∙ of in
      let other : (m : ℕ) → m ≢ n → group_in (slot_at slots' m) ≡ group_in (slot_at slots m) = λ m far. ap group_in (get_or-set_other slots n m (Some b) None far) in
      let here : active_in (states now) g ≡ Some n = active-here groups g f new is w in
      let elsewhere : (h : ℕ) → h ≢ g → active_in (states now) h ≡ active_in (states groups) h = active-other groups g f new is w in
      let unlike : (h m : ℕ) → group_in (slot_at slots m) ≡ Some h → m ≢ n =
      λ h m e same. (let clash : None ≡ Some h = sym none ∙ subst (λ k. group_in (slot_at slots k) ≡ Some h) same e in cc) in
      let unfree : is_free (Some b) ≡ false = ap (λ o. not (is_some o)) of in
      record {
        long = length-set slots n (Some b) ∙ c.long;
        few = c.few;
        some_group = subst (λ k. 1 ≤ k) (sym count) c.some_group;
        few_groups = subst (λ k. k ≤ 8) (sym count) c.few_groups;
        held = c.held ∙ sym (map-set_same is_held slots n (Some b) None (sym (free-held (slot_at slots n) was)));
        free = ap (slice_set free n) (sym unfree) ∙ follows is_free free slots n (Some b) c.free;
        active = λ h m e.
            elim (cases_eq h g) [
              | inl same ↦
                  let one : m ≡ n = same_Some m n (sym (subst (λ k. active_in (states now) k ≡ Some m) same e) ∙ here) in
                  subst (λ k. group_in (slot_at slots' k) ≡ Some h) (sym one) (of-new ∙ ap (λ k. Some k) (sym same))
              | inr far ↦ (let old = c.active h m (sym (elsewhere h far) ∙ e) in other m (unlike h m old) ∙ old)
            ];
        begins = λ h m e.
            elim (cases_eq h g) [
              | inl same ↦ subst (λ k. IsSome (active_in (states now) k)) (sym same) (subst (λ o. IsSome o) (sym here) refl)
              | inr far ↦
                  let away : m ≢ n = λ same. far (same_Some h g (sym e ∙ subst (λ k. group_in (slot_at slots' k) ≡ Some g) (sym same) of-new)) in
                  subst (λ o. IsSome o) (sym (elsewhere h far)) (c.begins h m (sym (other m away) ∙ e))
            ];
        empty = λ m e.
            elim (cases_eq m n) [
              | inl same ↦ absurd (let clash : true ≡ false = sym (ap is_some of-new) ∙ subst (λ k. is_begun (slot_at slots' k) ≡ false) same e in cc)
              | inr far ↦ c.empty m (ap is_some (sym (other m far)) ∙ e)
            ];
        full = λ m e.
            let p = closed-parts (states now) slots' m e in
            elim (cases_eq m n) [
              | inl same ↦ absurd (
                  let mine : p.0 ≡ g = same_Some p.0 g (sym p.1 ∙ subst (λ k. group_in (slot_at slots' k) ≡ Some g) (sym same) of-new) in
                  let clash : false ≡ true = sym p.2 ∙ is-number (active_in (states now) p.0) m (ap (active_in (states now)) mine ∙ here ∙ ap (λ k. Some k) (sym same)) in cc)
              | inr far ↦
                  elim (cases_eq p.0 g) [
                    | inl mine ↦
                        elim (cases_Bool (is_number f.state.active m)) [
                          | inl like ↦ full-when used f.state.active m (number-is f.state.active m like) full
                          | inr miss ↦ c.full m (closed-from (states groups) slots g m (sym (other m far) ∙ p.1 ∙ ap (λ k. Some k) mine) (ap (λ o. is_number o m) (sym own-active) ∙ miss))
                        ]
                    | inr away ↦ c.full m (closed-from (states groups) slots p.0 m (sym (other m far) ∙ p.1) (ap (λ o. is_number o m) (sym (elsewhere p.0 away)) ∙ p.2))
                  ]
            ];
        tabled = λ h v.
            elim (cases_eq h g) [
              | inl same ↦ subst (λ k. length (fields_at now k).table ≡ most) (sym same) (ap (λ (f : GroupFields). length f.table) (fields-here groups g f new is w) ∙ long-closed f.state.active f.live f.table ∙ own-table)
              | inr far ↦ ap (λ (f : GroupFields). length f.table) (fields-other groups g f new is w h far) ∙ c.tabled h (subst (λ k. h < k) count v)
            ];
        table = λ h m v u.
            elim (cases_eq h g) [
              | inl same ↦
                  subst (λ k. slice_index (fields_at now k).table m ≡ closed_live (states now) slots' live k m) (sym same)
                  (ap (λ (f : GroupFields). slice_index f.table m) (fields-here groups g f new is w) ∙
                  elim (cases_Bool (is_number f.state.active m)) [
                    | inl like ↦
                        let it = number-is f.state.active m like in
                        let was : active_in (states groups) g ≡ Some m = sym own-active ∙ it in
                        let far : m ≢ n = unlike g m (c.active g m was) in
                        let shut : is_closed_in (states now) slots' g m ≡ true = closed-in-from (states now) slots' g m (other m far ∙ c.active g m was) (other-number (active_in (states now) g) m n here far) in
                        closed-here f.state.active f.live f.table m it (let l = own-table in omega (arith, u, l)) ∙ ap (λ (f : GroupFields). f.live) (sym is) ∙ c.active_live g m was
                        ∙ sym (ap (λ x. cond x (slice_index live m) not_closed) shut)
                    | inr miss ↦
                        closed-far f.state.active f.live f.table m (λ e. (let clash : true ≡ false = sym (is-number f.state.active m e) ∙ miss in cc))
                        ∙ ap (λ (f : GroupFields). slice_index f.table m) (sym is) ∙ c.table g m w u
                        ∙ ap (λ x. cond x (slice_index live m) not_closed) (elim (cases_eq m n) [
                          | inl one ↦
                              subst (λ k. is_closed_in (states groups) slots g k ≡ is_closed_in (states now) slots' g k) (sym one)
                              (open-of (states groups) slots g n None none refl ∙ sym (open-active (states now) slots' g n here))
                          | inr far ↦
                              ap (λ q. is_number (group_in (slot_at slots m)) g && not q) (ap (λ o. is_number o m) (sym own-active) ∙ miss ∙ sym (other-number (active_in (states now) g) m n here far))
                              ∙ ap (λ o. is_number o g && not (is_number (active_in (states now) g) m)) (sym (other m far))
                        ])
                  ])
              | inr far ↦
                  ap (λ (f : GroupFields). slice_index f.table m) (fields-other groups g f new is w h far) ∙ c.table h m (subst (λ k. h < k) count v) u
                  ∙ ap (λ x. cond x (slice_index live m) not_closed) (elim (cases_eq m n) [
                    | inl one ↦
                        subst (λ k. is_closed_in (states groups) slots h k ≡ is_closed_in (states now) slots' h k) (sym one)
                        (open-of (states groups) slots h n None none refl ∙ sym (open-of (states now) slots' h n (Some g) of-new (ne_eqb h g far)))
                    | inr away ↦ sym (closed-in-same (states groups) (states now) slots slots' h m (elsewhere h far) (other m away))
                  ])
            ];
        active_live = λ h m e.
            elim (cases_eq h g) [
              | inl same ↦
                  let one : m ≡ n = same_Some m n (sym (subst (λ k. active_in (states now) k ≡ Some m) same e) ∙ here) in
                  subst (λ k. (fields_at now k).live ≡ slice_index live m) (sym same) (ap (λ (f : GroupFields). f.live) (fields-here groups g f new is w) ∙ sym (ap (slice_index live) one ∙ (c.empty n unbegun).1))
              | inr far ↦ ap (λ (f : GroupFields). f.live) (fields-other groups g f new is w h far) ∙ c.active_live h m (sym (elsewhere h far) ∙ e)
            ];
      }
