-- Rows in order beside rows that wait.
use Rattle.std.proofs.Common.{◌≡◌, ◌≢◌, ℕ, ◌+◌, ◌-◌, ◌<◌, ◌≤◌, ◌⊎◌, inl, inr, List, [], ◌∷◌, ◌++◌, length, refl, sym, ap, subst, ◌∙◌, arith, length-append}
use Rattle.std.specs.Prelude.{All, Contains}
use Rattle.std.proofs.lemmas.Bool.{cases_eq}
use Rattle.std.proofs.lemmas.List.{length-map}
use Rattle.std.proofs.lemmas.List.Elements.{All-nil, All-cons, All-contains}
use Rattle.std.proofs.lemmas.List.Sorted.{length_permutation}
use Rattle.common_lemmas.specs.Lists.{times, delete}
use Rattle.common_lemmas.proofs.Counts.{times_here, times_there, times_cons_le, times-delete_same, times-delete_other, length-delete, same-permutation}
use Rattle.rows.specs.Key.{Key}
use Rattle.key_index.specs.Order.{PutsIn, TakesOut}
use Rattle.key_index.specs.Index.{Index, IsIndexOf, IsOrdered}
use Rattle.key_table.specs.declared.entries.RowAt.{RowAt}
use Rattle.key_table.specs.Hash.{tag_of}
use Rattle.key_table.specs.Table.{Table, AreSame, IsTagged, IsTagOf, rows_of}
use Rattle.key_table.specs.Table as tables
use Rattle.key_table.specs.Late.{Numbers}
use Rattle.key_table.specs.Lazy.{Lazy, rows_in, Has, IsKeyed, IsLazyOf}
use Rattle.key_table.specs.inside.Mixed.{AreMixed, CanSettle, both}
use Rattle.key_table.proofs.Listed.{one, times_push, listed_at}

-- what holds of each number of a list
pub all_of : (P : ℕ → Type 0) (xs : List ℕ) → ((n : ℕ) → 1 ≤ times n xs → P n) → All P xs
all_of P [] is = All-nil P
all_of P (x ∷ xs) is =
    All-cons P x xs (is x (let h = times_here x xs in omega (arith, h))) (all_of P xs (λ n h. is n (let more = times_cons_le n x xs in omega (arith, more, h))))

pub contains_times : (xs : List ℕ) (x : ℕ) → Contains xs x → 1 ≤ times x xs
contains_times xs x there = All-contains (λ n. 1 ≤ times n xs) xs x (all_of (λ n. 1 ≤ times n xs) xs (λ n h. h)) there

pub times-append : (n : ℕ) (xs ys : List ℕ) → times n (xs ++ ys) ≡ times n xs + times n ys
times-append n [] ys = omega arith
times-append n (x ∷ xs) ys = ap (λ k. one x n + k) (times-append n xs ys) ∙ omega arith

middle : (row n : ℕ) (front back : List ℕ) → times n (front ++ row ∷ back) ≡ times n (front ++ back) + one row n
middle row n front back =
    let a = times-append n front (row ∷ back) in
    let b = times-append n front back in
    omega (arith, a, b)

pub put_times : (key_of : ℕ → Key) (row n : ℕ) (before after : List ℕ) → PutsIn key_of row before after → times n after ≡ times n before + one row n
put_times key_of row n before after is = ap (times n) is.are ∙ (middle row n is.front is.back ∙ ap (λ k. k + one row n) (sym (ap (times n) is.were)))

pub taken_times : (row n : ℕ) (before after : List ℕ) → TakesOut row before after → times n before ≡ times n after + one row n
taken_times row n before after is = ap (times n) is.were ∙ (middle row n is.front is.back ∙ ap (λ k. k + one row n) (sym (ap (times n) is.are)))

pub same_size : (xs ys : List ℕ) → AreSame xs ys → length xs ≡ length ys
same_size xs ys same = sym (length_permutation xs ys (same-permutation xs ys (λ n. sym (same n))))

pub put_size : (key_of : ℕ → Key) (row : ℕ) (before after : List ℕ) → PutsIn key_of row before after → length after ≡ length before + 1
put_size key_of row before after is =
    let same = same_size after (row ∷ before) (λ n. (let p = put_times key_of row n before after is in omega (arith, p))) in omega (arith, same)

pub length-rows : (kept : List RowAt) → length (rows_of kept) ≡ length kept
length-rows kept = length-map kept (λ (s : RowAt). s.row)

pub one_more : (xs ys : List ℕ) (row : ℕ) → AreSame (row ∷ xs) ys → length ys ≡ length xs + 1
one_more xs ys row same = let sizes = same_size (row ∷ xs) ys same in omega (arith, sizes)

none_listed : (n : ℕ) (xs : List ℕ) → length xs ≡ 0 → times n xs ≡ 0
none_listed n [] e = refl
none_listed n (x ∷ xs) e = absurd (omega (arith, e))

pub mixed_size : (room outside : ℕ) (table : Table) (order : Index) (late : Numbers) → AreMixed room outside table order late → length order.rows + length late.numbers ≡ length table.kept + outside
mixed_size room outside table order late is =
    let sizes = same_size (rows_of table.kept ++ is.others) (order.rows ++ late.numbers)
    (λ n. times-append n (rows_of table.kept) is.others ∙ (is.all n ∙ sym (times-append n order.rows late.numbers))) in
    let long = length-append order.rows late.numbers in
    let long' = length-append (rows_of table.kept) is.others in
    let rows = length-rows table.kept in
    omega (arith, sizes, long, long', rows, is.counted)

-- an index has the rows of its table
pub has_kept : (room outside : ℕ) (table : Table) (order : Index) (late : Numbers) → AreMixed room outside table order late → (n : ℕ) → tables.Has table n → 1 ≤ times n (order.rows ++ late.numbers)
has_kept room outside table order late is n h = let a = is.all n in let t = times-append n order.rows late.numbers in omega (arith, a, t, h)

-- the order is one of these keys
pub order_of : (has_row : ℕ → Type 0) (key_of : ℕ → Key) (order : Index) (late : Numbers) → ((n : ℕ) → 1 ≤ times n (order.rows ++ late.numbers) → has_row n) → IsOrdered key_of order → IsIndexOf has_row key_of order
order_of has_row key_of order late readable ordered = record {
  readable = all_of has_row order.rows (λ n h. readable n (let t = times-append n order.rows late.numbers in omega (arith, t, h)));
  ordered = ordered;
}

pub can_settle : (has_row : ℕ → Type 0) (key_of : ℕ → Key) (room outside : ℕ) (table : Table) (order : Index) (late : Numbers) → AreMixed room outside table order late
    → ((n : ℕ) → 1 ≤ times n (order.rows ++ late.numbers) → has_row n) → ((m n : ℕ) → 1 ≤ times m (order.rows ++ late.numbers) → 1 ≤ times n (order.rows ++ late.numbers) → key_of m ≡ key_of n → m ≡ n)
    → IsOrdered key_of order → CanSettle has_row key_of order late
can_settle has_row key_of room outside table order late is readable apart ordered =
    let all = λ (n : ℕ). times-append n order.rows late.numbers in
    record {
      readable = λ n h. readable n (let a = all n in omega (arith, a, h));
      once = is.once;
      apart = λ m n h k. apart m n (let a = all m in omega (arith, a, h)) (let a = all n in omega (arith, a, k));
      index = order_of has_row key_of order late readable ordered;
      few = (let f = is.few in let r = is.order_room in omega (arith, f, r));
    }

-- the tag of a row's key is the one that the table has beside it
pub tag_there : (key_of : ℕ → Key) (table : Table) (found : RowAt) → IsTagged key_of table → found.tag ≡ tag_of (key_of found.row) → IsTagOf table found
tag_there key_of table found tagged is = λ k d inside e. tagged k d inside ∙ (ap (λ n. tag_of (key_of n)) e ∙ sym is)

pub tag_kept : (key_of : ℕ → Key) (table : Table) (found : RowAt) → IsTagged key_of table → Contains table.kept found → found.tag ≡ tag_of (key_of found.row)
tag_kept key_of table found tagged there = All-contains (λ (s : RowAt). s.tag ≡ tag_of (key_of s.row)) table.kept found tagged there

all_at : (P : ℕ → Type 0) (xs : List ℕ) → All P xs → (n : ℕ) → 1 ≤ times n xs → P n
all_at P xs all n h = let there = listed_at n xs h in subst P there.is (all there.at 0 there.inside)

-- no row has a key that none of the table has, where none is outside
pub none_outside : (P : ℕ → Type 0) (room outside : ℕ) (table : Table) (order : Index) (late : Numbers) → AreMixed room outside table order late → outside ≡ 0
    → ((n : ℕ) → tables.Has table n → P n) → (n : ℕ) → 1 ≤ times n (order.rows ++ late.numbers) → P n
none_outside P room outside table order late is none kept n h =
    let a = is.all n in
    let t = times-append n order.rows late.numbers in
    let o = none_listed n is.others (sym is.counted ∙ none) in
    kept n (omega (arith, a, t, o, h))

-- nor where none in order has it
pub none_in_order : (P : ℕ → Type 0) (room outside : ℕ) (table : Table) (order : Index) (late : Numbers) → AreMixed room outside table order late → All P order.rows
    → ((n : ℕ) → tables.Has table n → P n) → (n : ℕ) → 1 ≤ times n (order.rows ++ late.numbers) → P n
none_in_order P room outside table order late is ordered kept n h =
    elim (cases_eq (times n order.rows) 0) [
      | inl none ↦ (let a = is.all n in let t = times-append n order.rows late.numbers in let o = is.in_order n in kept n (omega (arith, a, t, o, none, h)))
      | inr some ↦ all_at P order.rows ordered n (omega (arith, some))
    ]

-- a row is put in order, and waits no longer
pub moved_both : (key_of : ℕ → Key) (row n : ℕ) (before after : Index) (old new : Numbers) → PutsIn key_of row before.rows after.rows → old.numbers ≡ new.numbers ++ row ∷ [] → both after new n ≡ both before old n
moved_both key_of row n before after old new put pop =
    let p = put_times key_of row n before.rows after.rows put in
    let q : times n old.numbers ≡ times n new.numbers + one row n = ap (times n) pop ∙ times_push n new.numbers row in
    omega (arith, p, q)

pub waits : (row : ℕ) (old new : Numbers) → old.numbers ≡ new.numbers ++ row ∷ [] → 1 ≤ times row old.numbers
waits row old new pop =
    let q : times row old.numbers ≡ times row new.numbers + one row row = ap (times row) pop ∙ times_push row new.numbers row in
    let h : one row row + 0 ≡ 1 + 0 = times_here row [] in
    omega (arith, q, h)

pub settles : (has_row : ℕ → Type 0) (key_of : ℕ → Key) (row : ℕ) (before after : Index) (old new : Numbers) → CanSettle has_row key_of before old
    → PutsIn key_of row before.rows after.rows → old.numbers ≡ new.numbers ++ row ∷ [] → IsIndexOf has_row key_of after → after.room ≡ before.room → CanSettle has_row key_of after new
settles has_row key_of row before after old new is put pop index room =
    let same = λ (n : ℕ). moved_both key_of row n before after old new put pop in
    record {
      readable = λ n h. is.readable n (let s = same n in omega (arith, s, h));
      once = λ n. (let s = same n in let o = is.once n in omega (arith, s, o));
      apart = λ m n h k. is.apart m n (let s = same m in omega (arith, s, h)) (let s = same n in omega (arith, s, k));
      index = index;
      few =
          (let size = put_size key_of row before.rows after.rows put in
          let long : length old.numbers ≡ length new.numbers + 1 = ap (λ (xs : List ℕ). length xs) pop ∙ length-append new.numbers (row ∷ []) in
          let f = is.few in
          omega (arith, size, long, f, room));
    }

-- one row more, which there was not
one_row : (row n before after : ℕ) → after ≡ before + one row n → (row ≡ n → before ≡ 0) → before ≤ 1 → after ≤ 1
one_row row n before after more absent once =
    elim (cases_eq row n) [
      | inl e ↦ (let x : one row n + 0 ≡ 1 + 0 = subst (λ y. one row y + 0 ≡ 1 + 0) e (times_here row []) in let z = absent e in omega (arith, more, x, z))
      | inr far ↦ (let x : one row n + 0 ≡ 0 = times_there n row [] far in omega (arith, more, x, once))
    ]

both_size : (order order' : Index) (before after : Numbers) → ((n : ℕ) → both order before n ≡ both order' after n) → length order.rows + length before.numbers ≡ length order'.rows + length after.numbers
both_size order order' before after all =
    let sizes = same_size (order.rows ++ before.numbers) (order'.rows ++ after.numbers) (λ n. times-append n order.rows before.numbers ∙ (all n ∙ sym (times-append n order'.rows after.numbers))) in
    let long = length-append order.rows before.numbers in
    let long' = length-append order'.rows after.numbers in
    omega (arith, sizes, long, long')

less_size : (room row : ℕ) (order order' : Index) (before after : Numbers) → length order.rows + length before.numbers ≤ room → ((n : ℕ) → both order before n ≡ times n (row ∷ []) + both order' after n)
    → length order'.rows + length after.numbers ≤ room
less_size room row order order' before after few all =
    let sizes = same_size (order.rows ++ before.numbers) (row ∷ (order'.rows ++ after.numbers))
    (λ n. (let b = all n in let t = times-append n order.rows before.numbers in let u = times-append n order'.rows after.numbers in omega (arith, b, t, u))) in
    let long = length-append order.rows before.numbers in
    let long' = length-append order'.rows after.numbers in
    omega (arith, sizes, long, long', few)

-- a row comes, and waits
pub mixed_more : (room outside row : ℕ) (old new : Table) (order : Index) (before after : Numbers) → AreMixed room outside old order before → AreSame (row ∷ rows_of old.kept) (rows_of new.kept) → new.room ≡ old.room
    → after.numbers ≡ before.numbers ++ row ∷ [] → after.bound ≡ before.bound → both order before row ≡ 0 → length order.rows + length before.numbers < room → AreMixed room outside new order after
mixed_more room outside row old new order before after is same rooms pushed bounds absent fits =
    let long : length after.numbers ≡ length before.numbers + 1 = ap (λ (xs : List ℕ). length xs) pushed ∙ length-append before.numbers (row ∷ []) in
    let more : (n : ℕ) → times n after.numbers ≡ times n before.numbers + one row n = λ n. ap (times n) pushed ∙ times_push n before.numbers row in
    record {
      others = is.others;
      counted = is.counted;
      all = λ n. (let a = is.all n in let s = same n in let m = more n in omega (arith, a, s, m));
      in_order = is.in_order;
      once = λ n. one_row row n (both order before n) (both order after n) (let m = more n in omega (arith, m)) (λ e. subst (λ m. both order before m ≡ 0) e absent) (is.once n);
      few = omega (arith, long, fits);
      small = is.small;
      table_room = rooms ∙ is.table_room;
      order_room = is.order_room;
      late_room = bounds ∙ is.late_room;
    }

-- a row comes that the table does not take
pub mixed_outside : (key_of : ℕ → Key) (room outside row : ℕ) (old new : Table) (order order' : Index) (late : Numbers) → AreMixed room outside old order late → AreSame (rows_of old.kept) (rows_of new.kept) → new.room ≡ old.room
    → PutsIn key_of row order.rows order'.rows → order'.room ≡ order.room → both order late row ≡ 0 → length order.rows + length late.numbers < room → AreMixed room (outside + 1) new order' late
mixed_outside key_of room outside row old new order order' late is same rooms put orders absent fits =
    let more = λ (n : ℕ). put_times key_of row n order.rows order'.rows put in
    let long = put_size key_of row order.rows order'.rows put in
    record {
      others = row ∷ is.others;
      counted = (let c = is.counted in omega (arith, c));
      all = λ n. (let a = is.all n in let s = same n in let m = more n in omega (arith, a, s, m));
      in_order = λ n. (let o = is.in_order n in let m = more n in omega (arith, o, m));
      once = λ n. one_row row n (both order late n) (both order' late n) (let m = more n in omega (arith, m)) (λ e. subst (λ m. both order late m ≡ 0) e absent) (is.once n);
      few = omega (arith, long, fits);
      small = is.small;
      table_room = rooms ∙ is.table_room;
      order_room = orders ∙ is.order_room;
      late_room = is.late_room;
    }

-- a row goes
pub mixed_less : (room outside row : ℕ) (old new : Table) (order order' : Index) (before after : Numbers) → AreMixed room outside old order before → AreSame (rows_of old.kept) (row ∷ rows_of new.kept) → new.room ≡ old.room
    → ((n : ℕ) → both order before n ≡ times n (row ∷ []) + both order' after n) → ((n : ℕ) → times n order.rows ≤ times n (row ∷ []) + times n order'.rows) → order'.room ≡ order.room → after.bound ≡ before.bound
    → AreMixed room outside new order' after
mixed_less room outside row old new order order' before after is same rooms all fewer orders bounds = record {
  others = is.others;
  counted = is.counted;
  all = λ n. (let a = is.all n in let s = same n in let b = all n in omega (arith, a, s, b));
  in_order = λ n. (let a = is.all n in let s = same n in let o = is.in_order n in let f = fewer n in let c = is.once n in
      elim (cases_eq row n) [
        | inl e ↦ (let x : times n (row ∷ rows_of new.kept) ≡ 1 + times n (rows_of new.kept) = subst (λ y. times n (y ∷ rows_of new.kept) ≡ 1 + times n (rows_of new.kept)) (sym e) (times_here n (rows_of new.kept)) in omega (arith, a, s, x, c))
        | inr far ↦ (let x = times_there n row [] far in omega (arith, o, f, x))
      ]);
  once = λ n. (let b = all n in let o = is.once n in omega (arith, b, o));
  few = less_size room row order order' before after is.few all;
  small = is.small;
  table_room = rooms ∙ is.table_room;
  order_room = orders ∙ is.order_room;
  late_room = bounds ∙ is.late_room;
}

-- a row goes that the table has not
pub mixed_gone : (room outside row : ℕ) (table : Table) (order order' : Index) (before after : Numbers) → AreMixed room outside table order before → times row (rows_of table.kept) ≡ 0 → 1 ≤ both order before row
    → ((n : ℕ) → both order before n ≡ times n (row ∷ []) + both order' after n) → ((n : ℕ) → times n order.rows ≤ times n (row ∷ []) + times n order'.rows) → order'.room ≡ order.room → after.bound ≡ before.bound
    → (1 ≤ outside) × AreMixed room (outside - 1) table order' after
mixed_gone room outside row table order order' before after is none some all fewer orders bounds =
    let there : 1 ≤ times row is.others = (let a = is.all row in omega (arith, a, none, some)) in
    let long = length-delete row is.others there in
    let counted = is.counted in (
      omega (arith, long, counted),
      record {
        others = delete row is.others;
        counted = omega (arith, long, counted);
        all = λ n. (let a = is.all n in let b = all n in
            elim (cases_eq row n) [
              | inl e ↦ (let d : times n (delete row is.others) + 1 ≡ times n is.others = subst (λ y. times y (delete row is.others) + 1 ≡ times y is.others) e (times-delete_same row is.others there) in
                  let x : times n (row ∷ []) ≡ 1 = subst (λ y. times y (row ∷ []) ≡ 1) e (times_here row []) in omega (arith, a, b, d, x))
              | inr far ↦ (let d = times-delete_other n row is.others (λ e. far (sym e)) in let x = times_there n row [] far in omega (arith, a, b, d, x))
            ]);
        in_order = λ n. (let o = is.in_order n in let f = fewer n in
            elim (cases_eq row n) [
              | inl e ↦ (let d : times n (delete row is.others) + 1 ≡ times n is.others = subst (λ y. times y (delete row is.others) + 1 ≡ times y is.others) e (times-delete_same row is.others there) in
                  let x : times n (row ∷ []) ≡ 1 = subst (λ y. times y (row ∷ []) ≡ 1) e (times_here row []) in omega (arith, o, f, d, x))
              | inr far ↦ (let d = times-delete_other n row is.others (λ e. far (sym e)) in let x = times_there n row [] far in omega (arith, o, f, d, x))
            ]);
        once = λ n. (let b = all n in let o = is.once n in omega (arith, b, o));
        few = less_size room row order order' before after is.few all;
        small = is.small;
        table_room = is.table_room;
        order_room = orders ∙ is.order_room;
        late_room = bounds ∙ is.late_room;
      },
    )

-- rows that waited are put in order
pub mixed_settled : (room outside : ℕ) (table : Table) (order order' : Index) (before after : Numbers) → AreMixed room outside table order before → ((n : ℕ) → both order' after n ≡ both order before n)
    → ((n : ℕ) → times n order.rows ≤ times n order'.rows) → order'.room ≡ order.room → after.bound ≡ before.bound → AreMixed room outside table order' after
mixed_settled room outside table order order' before after is all more orders bounds = record {
  others = is.others;
  counted = is.counted;
  all = λ n. (let a = is.all n in let b = all n in omega (arith, a, b));
  in_order = λ n. (let o = is.in_order n in let m = more n in omega (arith, o, m));
  once = λ n. (let b = all n in let o = is.once n in omega (arith, b, o));
  few = (let sizes = both_size order order' before after (λ n. sym (all n)) in let f = is.few in omega (arith, sizes, f));
  small = is.small;
  table_room = is.table_room;
  order_room = orders ∙ is.order_room;
  late_room = bounds ∙ is.late_room;
}

-- ---- how often the index has a row

pub absent_row : (key_of : ℕ → Key) (row : ℕ) (order : Index) (late : Numbers) → ((n : ℕ) → 1 ≤ times n (order.rows ++ late.numbers) → key_of n ≢ key_of row) → both order late row ≡ 0
absent_row key_of row order late absent =
    let t = times-append row order.rows late.numbers in
    elim (cases_eq (times row (order.rows ++ late.numbers)) 0) [
      | inl none ↦ omega (arith, t, none)
      | inr some ↦ absurd (absent row (omega (arith, some)) refl)
    ]

pub rows_waiting : (row n : ℕ) (order : Index) (before after : Numbers) → after.numbers ≡ before.numbers ++ row ∷ [] → times n (row ∷ (order.rows ++ before.numbers)) ≡ times n (order.rows ++ after.numbers)
rows_waiting row n order before after pushed =
    let more : times n after.numbers ≡ times n before.numbers + one row n = ap (times n) pushed ∙ times_push n before.numbers row in
    let t = times-append n order.rows before.numbers in
    let u = times-append n order.rows after.numbers in
    omega (arith, more, t, u)

pub rows_ordered : (key_of : ℕ → Key) (row n : ℕ) (order order' : Index) (late : Numbers) → PutsIn key_of row order.rows order'.rows → times n (row ∷ (order.rows ++ late.numbers)) ≡ times n (order'.rows ++ late.numbers)
rows_ordered key_of row n order order' late put =
    let more = put_times key_of row n order.rows order'.rows put in
    let t = times-append n order.rows late.numbers in
    let u = times-append n order'.rows late.numbers in
    omega (arith, more, t, u)

pub rows_left : (row n : ℕ) (order order' : Index) (before after : Numbers) → both order before n ≡ times n (row ∷ []) + both order' after n → times n (order.rows ++ before.numbers) ≡ times n (row ∷ (order'.rows ++ after.numbers))
rows_left row n order order' before after all =
    let t = times-append n order.rows before.numbers in
    let u = times-append n order'.rows after.numbers in
    omega (arith, all, t, u)

pub rows_settled : (n : ℕ) (order order' : Index) (before after : Numbers) → both order' after n ≡ both order before n → times n (order.rows ++ before.numbers) ≡ times n (order'.rows ++ after.numbers)
rows_settled n order order' before after all =
    let t = times-append n order.rows before.numbers in
    let u = times-append n order'.rows after.numbers in
    omega (arith, all, t, u)

-- the index is one of these keys, with a row more
pub lazy_more : (has_row : ℕ → Type 0) (key_of : ℕ → Key) (row : ℕ) (old new : Lazy) → IsLazyOf has_row key_of old → AreSame (row ∷ rows_in old) (rows_in new) → has_row row
    → ((n : ℕ) → Has old n → key_of n ≢ key_of row) → IsKeyed key_of new → IsLazyOf has_row key_of new
lazy_more has_row key_of row old new is same readable absent keyed =
    let was : (n : ℕ) → Has new n → (row ≡ n) ⊎ Has old n = λ n h. elim (cases_eq row n) [
      | inl e ↦ inl e
      | inr far ↦ inr (let s = same n in let t = times_there n row (rows_in old) far in omega (arith, s, t, h))
    ] in
    record {
      readable = λ n h. elim (was n h) [ inl e ↦ subst has_row e readable | inr o ↦ is.readable n o ];
      apart = λ m n h k e. elim (was m h) [
        | inl a ↦ elim (was n k) [
          | inl b ↦ sym a ∙ b
          | inr o ↦ absurd (absent n o (sym e ∙ ap key_of (sym a)))
        ]
        | inr p ↦ elim (was n k) [
          | inl b ↦ absurd (absent m p (e ∙ ap key_of (sym b)))
          | inr o ↦ is.apart m n p o e
        ]
      ];
      keyed = keyed;
    }

-- the rows that wait are sorted
pub settles_sorted : (has_row : ℕ → Type 0) (key_of : ℕ → Key) (order : Index) (old new : Numbers) → CanSettle has_row key_of order old → AreSame old.numbers new.numbers → CanSettle has_row key_of order new
settles_sorted has_row key_of order old new is same = record {
  readable = λ n h. is.readable n (let s = same n in omega (arith, s, h));
  once = λ n. (let s = same n in let o = is.once n in omega (arith, s, o));
  apart = λ m n h k. is.apart m n (let s = same m in omega (arith, s, h)) (let s = same n in omega (arith, s, k));
  index = is.index;
  few = (let size = same_size old.numbers new.numbers same in let f = is.few in omega (arith, size, f));
}
