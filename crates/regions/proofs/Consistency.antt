-- What changes of a region keep of its fields.
use Rattle.std.proofs.Common.{◌≡◌, ◌≢◌, ℕ, ◌+◌, ◌-◌, ◌<◌, ◌≤◌, ◌⊎◌, inl, inr, Bool, true, false, not, cond, List, length, refl, sym, ap, ◌∙◌, subst, arith}
use Rattle.std.specs.Prelude.{Option, None, Some, IsSome, is_some, slice_index, slice_set}
use Rattle.std.proofs.lemmas.Bool.{cases_eq, cases_Bool, ne_eqb}
use Rattle.std.proofs.lemmas.List.{get_or-set_same, get_or-set_other, length-set}
use Rattle.std.proofs.lemmas.Option.{same_Some}
use Rattle.std.proofs.Math.Seq.{map-set_same}
use Rattle.layout.specs.Sizes.{dense}
use Rattle.regions.specs.Shapes.{Slot, slot_at, group_in, active_in, is_free, is_held, is_begun, is_number, is_closed, is_closed_in}
use Rattle.regions.specs.Counts.{plus}
use Rattle.regions.proofs.Numbers.{follows}
use Rattle.regions.specs.inside.Consistent.{IsConsistent, GroupFields, states, fields_at, begun, lost, not_closed, closed_live}
use Rattle.regions.proofs.Groups.{number-is, is-number, none-there, closed-in-from, closed-in-parts, closed-from, closed-parts, open-of, open-active, closed-in-same, closed-same, begun-held, of-begun, held-within, active-at, group-within}
use Rattle.regions.proofs.Groups.{fields-here, fields-other, states-kept, active-here, active-other, table-kept, live-kept}

module _ (most : ℕ) (groups : List GroupFields) (held free : List Bool) (slots : List (Option Slot)) (used live : List ℕ) (c : IsConsistent most groups held free slots used live) where
  -- the segment's group is one of the region's
  pub of-within : (g n : ℕ) → group_in (slot_at slots n) ≡ Some g → g < length groups
  of-within g n of = group-within groups g (c.begins g n of)

  -- a segment is active in its own group alone
  pub active-of : (g h n : ℕ) → group_in (slot_at slots n) ≡ Some g → active_in (states groups) h ≡ Some n → h ≡ g
  active-of g h n of now = same_Some h g (sym (c.active h n now) ∙ of)

  begun-far : (n m : ℕ) → is_begun (slot_at slots n) ≡ true → is_begun (slot_at slots m) ≡ false → m ≢ n
  begun-far n m begun e same = (let clash : true ≡ false = sym (subst (λ k. is_begun (slot_at slots k) ≡ true) (sym same) begun) ∙ e in cc)

  -- the live bytes of one segment changed
  pub relived : (n : ℕ) (now : List GroupFields) (live' : List ℕ) → states now ≡ states groups → length now ≡ length groups → is_begun (slot_at slots n) ≡ true
      → ((m : ℕ) → m ≢ n → slice_index live' m ≡ slice_index live m) → ((g : ℕ) → g < length groups → length (fields_at now g).table ≡ most)
      → ((g m : ℕ) → g < length groups → m < most → slice_index (fields_at now g).table m ≡ closed_live (states groups) slots live' g m)
      → ((g m : ℕ) → active_in (states groups) g ≡ Some m → (fields_at now g).live ≡ slice_index live' m)
      → IsConsistent most now held free slots used live'
  relived n now live' same count begun others long tabled alive = record {
    long = c.long;
    few = c.few;
    some_group = subst (λ k. 1 ≤ k) (sym count) c.some_group;
    few_groups = subst (λ k. k ≤ 8) (sym count) c.few_groups;
    held = c.held;
    free = c.free;
    active = λ g m e. c.active g m (subst (λ q. active_in q g ≡ Some m) same e);
    begins = λ g m e. subst (λ q. IsSome (active_in q g)) (sym same) (c.begins g m e);
    empty = λ m e. ((c.empty m e).0, others m (begun-far n m begun e) ∙ (c.empty m e).1);
    full = λ m e. c.full m (subst (λ q. is_closed q slots m ≡ true) same e);
    tabled = λ g w. long g (subst (λ k. g < k) count w);
    table = λ g m w v. tabled g m (subst (λ k. g < k) count w) v ∙ ap (λ q. closed_live q slots live' g m) (sym same);
    active_live = λ g m e. alive g m (subst (λ q. active_in q g ≡ Some m) same e);
  }

  -- more bytes of one segment are used
  pub reused : (n : ℕ) (used' : List ℕ) → is_begun (slot_at slots n) ≡ true → ((m : ℕ) → m ≢ n → slice_index used' m ≡ slice_index used m) → slice_index used n ≤ slice_index used' n
      → IsConsistent most groups held free slots used' live
  reused n used' begun others more = record {
    long = c.long;
    few = c.few;
    some_group = c.some_group;
    few_groups = c.few_groups;
    held = c.held;
    free = c.free;
    active = c.active;
    begins = c.begins;
    empty = λ m e. (others m (begun-far n m begun e) ∙ (c.empty m e).0, (c.empty m e).1);
    full = λ m closed.
        elim (cases_eq m n) [
          | inl same ↦ (let was = c.full m closed in let grown : slice_index used m ≤ slice_index used' m = subst (λ k. slice_index used k ≤ slice_index used' k) (sym same) more in omega (arith, was, grown))
          | inr far ↦ (let was = c.full m closed in let e = others m far in omega (arith, was, e))
        ];
    tabled = c.tabled;
    table = c.table;
    active_live = c.active_live;
  }

  -- a segment that was and is not begun is another one
  pub reslotted : (n : ℕ) (s : Option Slot) → is_begun (slot_at slots n) ≡ false → is_begun s ≡ false → n < length slots
      → IsConsistent most groups (slice_set held n (is_held s)) (slice_set free n (is_free s)) (slice_set slots n s) used live
  reslotted n s was now inside =
      let there : slot_at (slice_set slots n s) n ≡ s = get_or-set_same slots n s None inside in
      let same : (m : ℕ) → group_in (slot_at (slice_set slots n s) m) ≡ group_in (slot_at slots m) =
      λ m. elim (cases_eq m n) [
        | inl e ↦ subst (λ k. group_in (slot_at (slice_set slots n s) k) ≡ group_in (slot_at slots k)) (sym e) (ap group_in there ∙ none-there (group_in s) now ∙ sym (none-there (group_in (slot_at slots n)) was))
        | inr far ↦ ap group_in (get_or-set_other slots n m s None far)
      ] in
      record {
        long = length-set slots n s ∙ c.long;
        few = c.few;
        some_group = c.some_group;
        few_groups = c.few_groups;
        held = follows is_held held slots n s c.held;
        free = follows is_free free slots n s c.free;
        active = λ g m e. same m ∙ c.active g m e;
        begins = λ g m e. c.begins g m (sym (same m) ∙ e);
        empty = λ m e. c.empty m (ap is_some (sym (same m)) ∙ e);
        full = λ m e. c.full m (closed-same (states groups) (states groups) slots (slice_set slots n s) m (λ g. refl) (same m) e);
        tabled = c.tabled;
        table = λ g m w v. c.table g m w v ∙ ap (λ b. cond b (slice_index live m) not_closed) (sym (closed-in-same (states groups) (states groups) slots (slice_set slots n s) g m refl (same m)));
        active_live = c.active_live;
      }

  -- the guards of one group are others
  pub guarded : (g k : ℕ) (f : GroupFields) → fields_at groups g ≡ f → g < length groups
      → IsConsistent most (slice_set groups g (record f { state = record f.state { guards = k } })) held free slots used live
  guarded g k f is w =
      let new : GroupFields = record f { state = record f.state { guards = k } } in
      let now : List GroupFields = slice_set groups g new in
      let acts : (h : ℕ) → active_in (states now) h ≡ active_in (states groups) h =
      λ h. elim (cases_eq h g) [
        | inl same ↦
            subst (λ k. active_in (states now) k ≡ active_in (states groups) k) (sym same)
            (active-here groups g f new is w ∙ ap (λ (f : GroupFields). f.state.active) (sym is) ∙ sym (active-at groups g))
        | inr far ↦ active-other groups g f new is w h far
      ] in
      let tables = table-kept groups g f new is w refl in
      let count : length now ≡ length groups = length-set groups g new in
      record {
        long = c.long;
        few = c.few;
        some_group = subst (λ k. 1 ≤ k) (sym count) c.some_group;
        few_groups = subst (λ k. k ≤ 8) (sym count) c.few_groups;
        held = c.held;
        free = c.free;
        active = λ h m e. c.active h m (sym (acts h) ∙ e);
        begins = λ h m e. subst (λ o. IsSome o) (sym (acts h)) (c.begins h m e);
        empty = c.empty;
        full = λ m e. c.full m (closed-same (states groups) (states now) slots slots m acts refl e);
        tabled = λ h v. ap length (tables h) ∙ c.tabled h (subst (λ k. h < k) count v);
        table = λ h m v u.
            ap (λ t. slice_index t m) (tables h) ∙ c.table h m (subst (λ k. h < k) count v) u
            ∙ ap (λ b. cond b (slice_index live m) not_closed) (sym (closed-in-same (states groups) (states now) slots slots h m (acts h) refl));
        active_live = λ h m e. live-kept groups g f new is w refl h ∙ c.active_live h m (sym (acts h) ∙ e);
      }

module _ (most : ℕ) (groups : List GroupFields) (held free : List Bool) (slots : List (Option Slot)) (used live : List ℕ) (c : IsConsistent most groups held free slots used live)
    (g : ℕ) (f : GroupFields) (is : fields_at groups g ≡ f) (w : g < length groups) where
  -- the segment of the group is in no other one closed
  open-elsewhere : (n h : ℕ) → group_in (slot_at slots n) ≡ Some g → h ≢ g → is_closed_in (states groups) slots h n ≡ false
  open-elsewhere n h of far = open-of (states groups) slots h n (Some g) of (ne_eqb h g far)

  -- the active one is closed nowhere
  open-everywhere : (n h : ℕ) → active_in (states groups) g ≡ Some n → is_closed_in (states groups) slots h n ≡ false
  open-everywhere n h now =
      elim (cases_eq h g) [
        | inl same ↦ subst (λ k. is_closed_in (states groups) slots k n ≡ false) (sym same) (open-active (states groups) slots g n now)
        | inr far ↦ open-elsewhere n h (c.active g n now) far
      ]

  pub active-is : f.state.active ≡ active_in (states groups) g
  active-is = ap (λ (f : GroupFields). f.state.active) (sym is) ∙ sym (active-at groups g)

  -- the live bytes of the active segment changed, and those that are kept of it
  pub relived-active : (n al : ℕ) (live' : List ℕ) → active_in (states groups) g ≡ Some n → ((m : ℕ) → m ≢ n → slice_index live' m ≡ slice_index live m) → al ≡ slice_index live' n
      → IsConsistent most (slice_set groups g (record f { live = al })) held free slots used live'
  relived-active n al live' now others alive =
      let new : GroupFields = record f { live = al } in
      let tables = table-kept groups g f new is w refl in
      relived most groups held free slots used live c n (slice_set groups g new) live' (states-kept groups g f new is w refl) (length-set groups g new) (of-begun (slot_at slots n) g (c.active g n now)) others
      (λ h v. ap length (tables h) ∙ c.tabled h v)
      (λ h m v u. ap (λ t. slice_index t m) (tables h) ∙ c.table h m v u ∙ elim (cases_eq m n) [
        | inl same ↦ subst (λ k. closed_live (states groups) slots live h k ≡ closed_live (states groups) slots live' h k) (sym same)
            (ap (λ b. cond b (slice_index live n) not_closed) (open-everywhere n h now) ∙ sym (ap (λ b. cond b (slice_index live' n) not_closed) (open-everywhere n h now)))
        | inr far ↦ ap (λ v. cond (is_closed_in (states groups) slots h m) v not_closed) (sym (others m far))
      ])
      (λ h m e. elim (cases_eq h g) [
        | inl same ↦
            let one : m ≡ n = same_Some m n (sym (subst (λ k. active_in (states groups) k ≡ Some m) same e) ∙ now) in
            subst (λ k. (fields_at (slice_set groups g new) k).live ≡ slice_index live' m) (sym same) (ap (λ (f : GroupFields). f.live) (fields-here groups g f new is w) ∙ alive ∙ ap (slice_index live') (sym one))
        | inr far ↦
            ap (λ (f : GroupFields). f.live) (fields-other groups g f new is w h far) ∙ c.active_live h m e
            ∙ sym (others m (λ same. far (active-of most groups held free slots used live c g h n (c.active g n now) (e ∙ ap (λ k. Some k) same))))
      ])

  -- an object of the active segment is new
  pub placed : (n k : ℕ) → active_in (states groups) g ≡ Some n → length used ≡ length slots → length live ≡ length slots
      → IsConsistent most (slice_set groups g (record f { live = f.live + k })) held free slots (plus n k used) (plus n k live)
  placed n k now used-long live-long =
      let begun = of-begun (slot_at slots n) g (c.active g n now) in
      let inside = held-within slots n (begun-held (slot_at slots n) begun) in
      let here : slice_index (plus n k live) n ≡ slice_index live n + k = get_or-set_same live n (slice_index live n + k) 0 (omega (arith, inside, live-long)) in
      let here-used : slice_index (plus n k used) n ≡ slice_index used n + k = get_or-set_same used n (slice_index used n + k) 0 (omega (arith, inside, used-long)) in
      let grown = relived-active n (f.live + k) (plus n k live) now (λ m far. get_or-set_other live n m (slice_index live n + k) 0 far) (ap (λ x. x + k) (ap (λ (f : GroupFields). f.live) (sym is) ∙ c.active_live g n now) ∙ sym here) in
      reused most (slice_set groups g (record f { live = f.live + k })) held free slots used (plus n k live) grown n (plus n k used) begun
      (λ m far. get_or-set_other used n m (slice_index used n + k) 0 far) (omega (arith, here-used))

  -- what the active or a closed segment must have for an object to die
  pub enough-active : (n k : ℕ) → k ≤ slice_index live n → is_number f.state.active n ≡ true → k ≤ f.live
  enough-active n k has e =
      let now = c.active_live g n (sym active-is ∙ number-is f.state.active n e) in let l : (fields_at groups g).live ≡ f.live = ap (λ (f : GroupFields). f.live) is in omega (arith, has, now, l)

  closed-there : (n : ℕ) → group_in (slot_at slots n) ≡ Some g → is_number f.state.active n ≡ false → (n < most) × (slice_index f.table n ≡ slice_index live n)
  closed-there n of e =
      let inside = held-within slots n (begun-held (slot_at slots n) (of-begun (slot_at slots n) g of)) in let l = c.long in
      let few : n < most = omega (arith, inside, l) in
      let closed = closed-in-from (states groups) slots g n of (ap (λ o. is_number o n) (sym active-is) ∙ e) in
      (few, ap (λ (f : GroupFields). slice_index f.table n) (sym is) ∙ c.table g n w few ∙ ap (λ b. cond b (slice_index live n) not_closed) closed)

  pub table-long : length f.table ≡ most
  table-long = ap (λ (f : GroupFields). length f.table) (sym is) ∙ c.tabled g w

  pub enough-closed : (n k : ℕ) → k ≤ slice_index live n → group_in (slot_at slots n) ≡ Some g → is_number f.state.active n ≡ false → (n < length f.table) × (k ≤ slice_index f.table n)
  enough-closed n k has of e = let it = closed-there n of e in let l = table-long in (omega (arith, it.0, l), omega (arith, has, it.1))

  -- another table of the group, which differs at one number
  table-set : (n v : ℕ) (h m : ℕ) → (h ≢ g) ⊎ (m ≢ n) → slice_index (fields_at (slice_set groups g (record f { table = slice_set f.table n v })) h).table m ≡ slice_index (fields_at groups h).table m
  table-set n v h m which =
      let new : GroupFields = record f { table = slice_set f.table n v } in
      elim (cases_eq h g) [
        | inl same ↦ elim which [
          | inl far ↦ absurd (far same)
          | inr far ↦
              subst (λ k. slice_index (fields_at (slice_set groups g new) k).table m ≡ slice_index (fields_at groups k).table m) (sym same)
              (ap (λ (f : GroupFields). slice_index f.table m) (fields-here groups g f new is w) ∙ get_or-set_other f.table n m v 0 far ∙ ap (λ (f : GroupFields). slice_index f.table m) (sym is))
        ]
        | inr far ↦ ap (λ (f : GroupFields). slice_index f.table m) (fields-other groups g f new is w h far)
      ]

  table-there : (n v : ℕ) → n < most → slice_index (fields_at (slice_set groups g (record f { table = slice_set f.table n v })) g).table n ≡ v
  table-there n v inside =
      let new : GroupFields = record f { table = slice_set f.table n v } in let l = table-long in
      ap (λ (f : GroupFields). slice_index f.table n) (fields-here groups g f new is w) ∙ get_or-set_same f.table n v 0 (omega (arith, inside, l))

  table-set-long : (n v h : ℕ) → h < length groups → length (fields_at (slice_set groups g (record f { table = slice_set f.table n v })) h).table ≡ most
  table-set-long n v h u =
      let new : GroupFields = record f { table = slice_set f.table n v } in
      elim (cases_eq h g) [
        | inl same ↦ subst (λ k. length (fields_at (slice_set groups g new) k).table ≡ most) (sym same) (ap (λ (f : GroupFields). length f.table) (fields-here groups g f new is w) ∙ length-set f.table n v ∙ table-long)
        | inr far ↦ ap (λ (f : GroupFields). length f.table) (fields-other groups g f new is w h far) ∙ c.tabled h u
      ]

  -- an object of a closed segment is dead
  killed-closed : (n k : ℕ) (live' : List ℕ) → group_in (slot_at slots n) ≡ Some g → is_number f.state.active n ≡ false → slice_index live n ≡ slice_index live' n + k → ((m : ℕ) → m ≢ n → slice_index live' m ≡ slice_index live m)
      → IsConsistent most (slice_set groups g (record f { table = slice_set f.table n (slice_index f.table n - k) })) held free slots used live'
  killed-closed n k live' of e less others =
      let v : ℕ = slice_index f.table n - k in
      let new : GroupFields = record f { table = slice_set f.table n v } in
      let it = closed-there n of e in
      let closed = closed-in-from (states groups) slots g n of (ap (λ o. is_number o n) (sym active-is) ∙ e) in
      relived most groups held free slots used live c n (slice_set groups g new) live' (states-kept groups g f new is w refl) (length-set groups g new) (of-begun (slot_at slots n) g of) others
      (table-set-long n v)
      (λ h m u inside. elim (cases_eq m n) [
        | inl same ↦ elim (cases_eq h g) [
          | inl here ↦
              subst (λ j. slice_index (fields_at (slice_set groups g new) h).table j ≡ closed_live (states groups) slots live' h j) (sym same)
              (subst (λ j. slice_index (fields_at (slice_set groups g new) j).table n ≡ closed_live (states groups) slots live' j n) (sym here)
              (table-there n v it.0 ∙ (let l = it.1 in omega (arith, l, less)) ∙ sym (ap (λ b. cond b (slice_index live' n) not_closed) closed)))
          | inr far ↦
              table-set n v h m (inl far) ∙ c.table h m u inside
              ∙ subst (λ j. closed_live (states groups) slots live h j ≡ closed_live (states groups) slots live' h j) (sym same)
              (ap (λ b. cond b (slice_index live n) not_closed) (open-elsewhere n h of far) ∙ sym (ap (λ b. cond b (slice_index live' n) not_closed) (open-elsewhere n h of far)))
        ]
        | inr far ↦ table-set n v h m (inr far) ∙ c.table h m u inside ∙ ap (λ x. cond (is_closed_in (states groups) slots h m) x not_closed) (sym (others m far))
      ])
      (λ h m now. live-kept groups g f new is w refl h ∙ c.active_live h m now ∙ sym (others m (λ same.
      (let now-n : active_in (states groups) h ≡ Some n = now ∙ ap (λ j. Some j) same in
      let here : h ≡ g = active-of most groups held free slots used live c g h n of now-n in
      let clash : false ≡ true = sym e ∙ is-number f.state.active n (active-is ∙ subst (λ j. active_in (states groups) j ≡ Some n) here now-n) in cc))))

  -- an object is dead
  pub killed : (n k : ℕ) (live' : List ℕ) → group_in (slot_at slots n) ≡ Some g → slice_index live n ≡ slice_index live' n + k → ((m : ℕ) → m ≢ n → slice_index live' m ≡ slice_index live m)
      → IsConsistent most (slice_set groups g (lost n k f)) held free slots used live'
  killed n k live' of less others =
      elim (cases_Bool (is_number f.state.active n)) [
        | inl e ↦
            let now : active_in (states groups) g ≡ Some n = sym active-is ∙ number-is f.state.active n e in
            let was : f.live ≡ slice_index live n = ap (λ (f : GroupFields). f.live) (sym is) ∙ c.active_live g n now in
            subst (λ b. IsConsistent most (slice_set groups g (cond b (record f { live = f.live - k }) (record f { table = slice_set f.table n (slice_index f.table n - k) }))) held free slots used live') (sym e)
            (relived-active n (f.live - k) live' now others (omega (arith, was, less)))
        | inr e ↦
            subst (λ b. IsConsistent most (slice_set groups g (cond b (record f { live = f.live - k }) (record f { table = slice_set f.table n (slice_index f.table n - k) }))) held free slots used live') (sym e)
            (killed-closed n k live' of e less others)
      ]

  -- a closed segment of the group without a live byte is free
  pub frees : (n : ℕ) (b : Slot) → is_closed_in (states groups) slots g n ≡ true → slice_index live n ≡ 0 → b.group ≡ None → length used ≡ length slots
      → IsConsistent most (slice_set groups g (record f { table = slice_set f.table n not_closed })) held (slice_set free n true) (slice_set slots n (Some b)) (slice_set used n 0) live
  frees n b closed dead now used-long =
      let new : GroupFields = record f { table = slice_set f.table n not_closed } in
      let after : List GroupFields = slice_set groups g new in
      let slots' : List (Option Slot) = slice_set slots n (Some b) in
      let count : length after ≡ length groups = length-set groups g new in
      let same : states after ≡ states groups = states-kept groups g f new is w refl in
      let was = closed-in-parts (states groups) slots g n closed in
      let begun = of-begun (slot_at slots n) g was.0 in
      let inside = held-within slots n (begun-held (slot_at slots n) begun) in
      let l = c.long in
      let there : slot_at slots' n ≡ Some b = get_or-set_same slots n (Some b) None inside in
      let none : group_in (slot_at slots' n) ≡ None = ap group_in there ∙ now in
      let other : (m : ℕ) → m ≢ n → group_in (slot_at slots' m) ≡ group_in (slot_at slots m) = λ m far. ap group_in (get_or-set_other slots n m (Some b) None far) in
      let is-free : is_free (Some b) ≡ true = ap (λ o. not (is_some o)) now in
      let unlike : (h m : ℕ) → active_in (states groups) h ≡ Some m → m ≢ n =
      λ h m e one. (
      let now-n : active_in (states groups) h ≡ Some n = e ∙ ap (λ k. Some k) one in
      let mine : h ≡ g = active-of most groups held free slots used live c g h n was.0 now-n in
      let clash : false ≡ true = sym was.1 ∙ is-number (active_in (states groups) g) n (subst (λ k. active_in (states groups) k ≡ Some n) mine now-n) in cc) in
      record {
        long = length-set slots n (Some b) ∙ c.long;
        few = c.few;
        some_group = subst (λ k. 1 ≤ k) (sym count) c.some_group;
        few_groups = subst (λ k. k ≤ 8) (sym count) c.few_groups;
        held = c.held ∙ sym (map-set_same is_held slots n (Some b) None (sym (begun-held (slot_at slots n) begun)));
        free = ap (slice_set free n) (sym is-free) ∙ follows is_free free slots n (Some b) c.free;
        active = λ h m e. (let old = subst (λ q. active_in q h ≡ Some m) same e in other m (unlike h m old) ∙ c.active h m old);
        begins = λ h m e.
            elim (cases_eq m n) [
              | inl one ↦ absurd (let clash : None ≡ Some h = sym none ∙ subst (λ k. group_in (slot_at slots' k) ≡ Some h) one e in cc)
              | inr far ↦ subst (λ q. IsSome (active_in q h)) (sym same) (c.begins h m (sym (other m far) ∙ e))
            ];
        empty = λ m e.
            elim (cases_eq m n) [
              | inl one ↦ (ap (slice_index (slice_set used n 0)) one ∙ get_or-set_same used n 0 0 (omega (arith, inside, used-long)), ap (slice_index live) one ∙ dead)
              | inr far ↦ (let was-empty = c.empty m (ap is_some (sym (other m far)) ∙ e) in (get_or-set_other used n m 0 0 far ∙ was-empty.0, was-empty.1))
            ];
        full = λ m e.
            let p = closed-parts (states after) slots' m e in
            elim (cases_eq m n) [
              | inl one ↦ absurd (let clash : None ≡ Some p.0 = sym none ∙ subst (λ k. group_in (slot_at slots' k) ≡ Some p.0) one p.1 in cc)
              | inr far ↦
                  subst (λ x. dense < x) (sym (get_or-set_other used n m 0 0 far))
                  (c.full m (closed-from (states groups) slots p.0 m (sym (other m far) ∙ p.1) (subst (λ q. is_number (active_in q p.0) m ≡ false) same p.2)))
            ];
        tabled = λ h v. table-set-long n not_closed h (subst (λ k. h < k) count v);
        table = λ h m v u.
            elim (cases_eq m n) [
              | inl one ↦
                  let shut : is_closed_in (states after) slots' h n ≡ false = open-of (states after) slots' h n None none refl in
                  subst (λ k. slice_index (fields_at after h).table k ≡ closed_live (states after) slots' live h k) (sym one)
                  (elim (cases_eq h g) [
                    | inl mine ↦ subst (λ k. slice_index (fields_at after k).table n ≡ not_closed) (sym mine) (table-there n not_closed (omega (arith, inside, l)))
                    | inr away ↦
                        table-set n not_closed h n (inl away) ∙ c.table h n (subst (λ k. h < k) count v) (omega (arith, inside, l))
                        ∙ ap (λ x. cond x (slice_index live n) not_closed) (open-elsewhere n h was.0 away)
                  ] ∙ sym (ap (λ x. cond x (slice_index live n) not_closed) shut))
              | inr far ↦
                  table-set n not_closed h m (inr far) ∙ c.table h m (subst (λ k. h < k) count v) u
                  ∙ ap (λ x. cond x (slice_index live m) not_closed) (sym (closed-in-same (states groups) (states after) slots slots' h m (ap (λ q. active_in q h) same) (other m far)))
            ];
        active_live = λ h m e. live-kept groups g f new is w refl h ∙ c.active_live h m (subst (λ q. active_in q h ≡ Some m) same e);
      }
