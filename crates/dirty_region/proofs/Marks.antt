-- The marks of an index, where a row comes or goes.
use Rattle.std.proofs.Common.{◌≡◌, ◌≢◌, ◌↔◌, ℕ, ◌<◌, ◌≤◌, Bool, true, false, inl, inr, List, ◌∷◌, Some, refl, sym, ap, subst, ◌∙◌, arith}
use Rattle.std.specs.Prelude.{slice_get, slice_set}
use Rattle.std.proofs.lemmas.Bool.{cases_eq}
use Rattle.std.proofs.lemmas.List.{length-set}
use Rattle.common_lemmas.specs.Lists.{times}
use Rattle.common_lemmas.proofs.Counts.{times_here, times_there}
use Rattle.key_index.specs.Index.{Index}
use Rattle.key_table.specs.Table.{Table, AreSame, rows_of}
use Rattle.dirty_region.specs.inside.PutRows.{PutRows, put_rows, rows_in, Has, AreApart, AreMarked}
use Rattle.dirty_region.proofs.Rings.{some_same, got_set, got_past_set}
use Rattle.dirty_region.proofs.PutRows.{times-append, stray_less}

-- the marks with another one at a number
re_marked : (marks : List Bool) (row : ℕ) (mark : Bool) (before after : PutRows) → AreMarked marks before → row < before.room → after.room ≡ before.room
    → Has after row ↔ (mark ≡ true) → ((n : ℕ) → row ≢ n → times n (rows_in after) ≡ times n (rows_in before)) → AreMarked (slice_set marks row mark) after
re_marked marks row mark before after is low room here others = record {
  long = length-set marks row mark ∙ (is.long ∙ sym room);
  are = λ n. elim (cases_eq row n) [
    | inl e ↦ subst (λ k. Has after k ↔ (slice_get (slice_set marks row mark) k ≡ Some true)) e
        (let got = got_set marks row mark (let long = is.long in omega (arith, low, long)) in
        (λ h. got ∙ ap (λ b. Some b) (here.0 h), λ g. here.1 (some_same got g)))
    | inr far ↦ (let past = got_past_set marks row n mark (λ e. far (sym e)) in let t = others n far in
        (λ h. past ∙ (is.are n).0 (subst (λ k. 1 ≤ k) t h), λ g. subst (λ k. 1 ≤ k) (sym t) ((is.are n).1 (sym past ∙ g))))
  ];
}

-- a row more
pub marked_more : (marks : List Bool) (row : ℕ) (before after : PutRows) → AreMarked marks before → row < before.room → after.room ≡ before.room → AreSame (row ∷ rows_in before) (rows_in after)
    → AreMarked (slice_set marks row true) after
marked_more marks row before after is low room same =
    re_marked marks row true before after is low room
    (λ h. refl, λ e. (let t = times_here row (rows_in before) in let s = same row in omega (arith, t, s)))
    (λ n far. sym (same n) ∙ times_there n row (rows_in before) far)

-- a row less, each of which stood once
pub marked_less : (marks : List Bool) (row : ℕ) (before after : PutRows) → AreMarked marks before → row < before.room → after.room ≡ before.room → times row (rows_in before) ≤ 1
    → AreSame (rows_in before) (row ∷ rows_in after) → AreMarked (slice_set marks row false) after
marked_less marks row before after is low room once same =
    re_marked marks row false before after is low room
    (λ h. absurd (let t = times_here row (rows_in after) in let s = same row in omega (arith, t, s, once, h)), λ e. absurd (let clash : false ≡ true = e in cc))
    (λ n far. sym (times_there n row (rows_in after) far) ∙ sym (same n))

-- a row that is not there
pub marked_same : (marks : List Bool) (row : ℕ) (before after : PutRows) → AreMarked marks before → row < before.room → after ≡ before → times row (rows_in before) ≡ 0 → AreMarked (slice_set marks row false) after
marked_same marks row before after is low same none =
    subst (AreMarked (slice_set marks row false)) (sym same)
    (re_marked marks row false before before is low refl
    (λ h. absurd (omega (arith, none, h)), λ e. absurd (let clash : false ≡ true = e in cc)) (λ n far. refl))

-- the table has not the row; it was a stray, or nothing changed
pub marked_left : (was : Bool) (marks : List Bool) (row : ℕ) (t u : Table) (s x : Index) → AreApart t s → AreMarked marks (put_rows t s) → row < t.room → u ≡ t → times row (rows_of t.kept) ≡ 0
    → (was ≡ true → AreSame s.rows (row ∷ x.rows)) → (was ≡ false → x ≡ s) → (was ≡ false → times row s.rows ≡ 0) → AreMarked (slice_set marks row false) (put_rows u x)
marked_left true marks row t u s x apart is low same none less unchanged absent =
    marked_less marks row (put_rows t s) (put_rows u x) is low (ap (λ (v : Table). v.room) same)
    (let o = apart.once row in let a = times-append row (rows_of t.kept) s.rows in omega (arith, o, a))
    (stray_less row t u s x same (less refl))
marked_left false marks row t u s x apart is low same none less unchanged absent =
    marked_same marks row (put_rows t s) (put_rows u x) is low (ap (λ (v : Table). put_rows v x) same ∙ ap (λ (y : Index). put_rows t y) (unchanged refl))
    (let a = times-append row (rows_of t.kept) s.rows in let b = absent refl in omega (arith, a, b, none))
