-- The commands of a trace, one after the other.
use Rattle.std.proofs.Common.{◌≡◌, ℕ, ◌+◌, ◌<◌, ◌≤◌, true, cond, List, [], ◌∷◌, ◌++◌, length, length-append, drop, map, get_or, Ok, Err, sym, ap, ◌∙◌, subst, arith}
use Rattle.std.specs.Prelude.{◌↔◌, Result}
use Rattle.std.specs.List.{count_by}
use Rattle.std.proofs.lemmas.List.{drop-map, drop_more, drop_all}
use Rattle.std.proofs.lemmas.List.Concat.{flat_map-append}
use Rattle.std.proofs.lemmas.List.Sums.{sum_by-cons}
use Rattle.layout.specs.Sizes.{greatest_key, greatest_value, greatest_object}
use Rattle.trace_text.specs.declared.command.Command.{Command}
use Rattle.rows.specs.declared.kind.Kind.{Kind}
use Rattle.rows.specs.declared.kind.Kind.TheVariants.{Put, Get, Erase, Scan}
use Rattle.rows.specs.Operation.{Operation, is_put}
use Rattle.trace_text.specs.Operation.{operation, operations}
use Rattle.rows.specs.Row.{Row, size}
use Rattle.dirty_region.specs.declared.refusal.DirtyRefusal.{DirtyRefusal}
use Rattle.dirty_region.specs.declared.refusal.DirtyRefusal.TheVariants.{TooMany, NoRoom}
use Rattle.dirty_mode.specs.DirtyText.{line_text, text_of, lines_of, lines_from, puts_after, staying, row_of}
use Rattle.text_lemmas.specs.Writing.{Output, Writes, Goes}
use Rattle.dirty_mode.proofs.Flushing.{staying_few, put_text}
use Rattle.text_lemmas.proofs.Written.{Goes-next, Goes-stop}

-- the puts of commands
abbrev pub puts_of : List Operation → ℕ
puts_of operations = count_by (λ (o : Operation). is_put o.kind) operations

-- what stands where there is no command
abbrev pub none : Command
none = record { number = 0; line = 0; kind = Put; table = 0; key = record { start = 0; len = 0 }; value = record { start = 0; len = 0 }; count = 0 }

pub room_behind : (kind : Kind) (most room left all : ℕ) (o : Operation) (puts : List Row) → length puts + all ≤ room → all ≡ cond (is_put kind) 1 0 + left
    → length (puts_after kind most o puts) + left ≤ room
room_behind Put most room left all o puts few count =
    let less = staying_few most (size o.key.bytes o.value) puts in
    let long = length-append (staying most (size o.key.bytes o.value) puts) (row_of o ∷ []) in omega (arith, less, long, few, count)
room_behind Get most room left all o puts few count = omega (arith, few, count)
room_behind Erase most room left all o puts few count = omega (arith, few, count)
room_behind Scan most room left all o puts few count = omega (arith, few, count)

-- the commands that are gone over are those of a trace, and there is another one
module _ (bytes : List ℕ) (items commands : List Command) (same : items ≡ commands) (i : ℕ) (low : i < length items) where
  abbrev now : Command
  now = get_or items i none

  -- what is left begins with the command at hand
  left_now : drop i (operations bytes commands) ≡ operation bytes now ∷ drop (i + 1) (operations bytes commands)
  left_now = subst (λ cs. drop i (operations bytes cs) ≡ operation bytes now ∷ drop (i + 1) (operations bytes cs)) same (
      drop-map (operation bytes) i items
      ∙ (ap (map (operation bytes)) (drop_more items i none low) ∙ ap (λ os. operation bytes now ∷ os) (sym (drop-map (operation bytes) (i + 1) items))))

  text_now : (most : ℕ) (puts : List Row) → text_of (lines_from most (drop i (operations bytes commands)) puts)
      ≡ text_of (lines_of now.kind most (operation bytes now) puts)
      ++ text_of (lines_from most (drop (i + 1) (operations bytes commands)) (puts_after now.kind most (operation bytes now) puts))
  text_now most puts =
      ap (λ os. text_of (lines_from most os puts)) left_now
      ∙ flat_map-append line_text (lines_of now.kind most (operation bytes now) puts)
      (lines_from most (drop (i + 1) (operations bytes commands)) (puts_after now.kind most (operation bytes now) puts))

  pub command_next : {T E : Type 0} {u : T} {a b c : Output} {t : List ℕ} (most : ℕ) (puts later : List Row) → later ≡ puts_after now.kind most (operation bytes now) puts
      → Goes a b t (text_of (lines_from most (drop i (operations bytes commands)) puts)) → Writes {T = T} {E = E} (Ok u) b c (text_of (lines_of now.kind most (operation bytes now) puts))
      → Goes a c t (text_of (lines_from most (drop (i + 1) (operations bytes commands)) later))
  command_next {a = a} {b = b} {c = c} {t = t} most puts later is gone wrote =
      subst (λ ps. Goes a c t (text_of (lines_from most (drop (i + 1) (operations bytes commands)) ps))) (sym is) (Goes-next (subst (Goes a b t) (text_now most puts) gone) wrote)

  pub command_stop : {T E : Type 0} {e : E} {a b c : Output} {t : List ℕ} (most : ℕ) (puts : List Row)
      → Goes a b t (text_of (lines_from most (drop i (operations bytes commands)) puts)) → Writes {T = T} {E = E} (Err e) b c (text_of (lines_of now.kind most (operation bytes now) puts))
      → Writes {T = T} {E = E} (Err e) a c t
  command_stop {a = a} {b = b} {t = t} most puts gone wrote =
      Goes-stop (text_of (lines_from most (drop (i + 1) (operations bytes commands)) (puts_after now.kind most (operation bytes now) puts))) (subst (Goes a b t) (text_now most puts) gone) wrote

  count_now : puts_of (drop i (operations bytes commands)) ≡ cond (is_put now.kind) 1 0 + puts_of (drop (i + 1) (operations bytes commands))
  count_now =
      ap puts_of left_now
      ∙ sum_by-cons (λ (o : Operation). cond (is_put o.kind) 1 0) (operation bytes now) (drop (i + 1) (operations bytes commands))

  -- there is room for the command's put, and for the others behind it
  pub room_now : (puts : List Row) (room : ℕ) → length puts + puts_of (drop i (operations bytes commands)) ≤ room → is_put now.kind ≡ true → length puts < room
  room_now puts room fits put =
      let count = count_now in let one : cond (is_put now.kind) 1 0 ≡ 1 = ap {B = ℕ} (λ b. cond b 1 0) put in omega (arith, fits, count, one)

  pub room_next : (most room : ℕ) (puts later : List Row) → later ≡ puts_after now.kind most (operation bytes now) puts → length puts + puts_of (drop i (operations bytes commands)) ≤ room
      → length later + puts_of (drop (i + 1) (operations bytes commands)) ≤ room
  room_next most room puts later is fits =
      subst (λ ps. length ps + puts_of (drop (i + 1) (operations bytes commands)) ≤ room) (sym is)
      (room_behind now.kind most room (puts_of (drop (i + 1) (operations bytes commands))) (puts_of (drop i (operations bytes commands))) (operation bytes now) puts fits count_now)

-- at the end the puts that are left are flushed
pub text_end : {a b : Output} {t : List ℕ} (bytes : List ℕ) (items commands : List Command) (most i : ℕ) (puts : List Row) → items ≡ commands → length items ≤ i
    → Goes a b t (text_of (lines_from most (drop i (operations bytes commands)) puts)) → Goes a b t (put_text puts)
text_end {a} {b} {t} bytes items commands most i puts same past gone =
    let none_left : drop i (operations bytes commands) ≡ [] = drop-map (operation bytes) i commands ∙ ap (map (operation bytes)) (ap (drop i) (sym same) ∙ drop_all i items past) in
    subst (λ os. Goes a b t (text_of (lines_from most os puts))) none_left gone

-- a row of a trace is no greater than the greatest object
pub size_most : (key value : List ℕ) → length key ≤ greatest_key → length value ≤ greatest_value → size key value ≤ greatest_object
size_most key value short fits = omega (arith, short, fits)

-- a put is not refused
pub taken : {A : Type 0} (r : Result A DirtyRefusal) (e : DirtyRefusal) (count room bound need : ℕ) → r ≡ Err e → (r ≡ Err TooMany) ↔ (count ≡ room) → (r ≡ Err NoRoom) ↔ ((count < room) × (bound < need))
    → count < room → need ≤ bound → ⊥
taken r TooMany count room bound need is many none low fits = let full = many.0 is in omega (arith, full, low)
taken r NoRoom count room bound need is many none low fits = let above = (none.0 is).1 in omega (arith, above, fits)
