-- The oldest puts go, one after the other.
use Rattle.std.proofs.Common.{◌≡◌, ℕ, ◌+◌, ◌-◌, ◌<◌, ◌≤◌, inl, inr, Bool, true, false, cond, leb, List, [], ◌∷◌, ◌++◌, length, take, drop, map, Ok, Err, refl, sym, ap, ◌∙◌, subst, arith}
use Rattle.std.proofs.lemmas.List.{map-append}
use Rattle.std.proofs.lemmas.List.Folds.{flat_map-map}
use Rattle.std.specs.Prelude.{◌↔◌, IsTrue, flat_map}
use Rattle.std.proofs.lemmas.Bool.Decides.{leb_tells}
use Rattle.std.proofs.lemmas.Bool.{lt-leb, le-leb, leb-true}
use Rattle.std.proofs.lemmas.List.Concat.{flat_map-append}
use Rattle.rows.specs.Row.{Row, live}
use Rattle.dirty_region.specs.Queues.{Queue, line}
use Rattle.dirty_mode.specs.DirtyText.{Flushed, going, staying, line_text, text_of}
use Rattle.dirty_region.specs.State.{DirtyState, Keeps}
use Rattle.text_lemmas.specs.Writing.{Output, Writes, Goes}
use Rattle.dirty_mode.specs.inside.Held.{whole}
use Rattle.text_lemmas.proofs.Written.{Goes-next, Goes-stop, Goes-done}

-- the text of puts that are flushed
abbrev pub put_text : List Row → List ℕ
put_text puts = text_of (map Flushed puts)

put_text-append : (xs ys : List Row) → put_text (xs ++ ys) ≡ put_text xs ++ put_text ys
put_text-append xs ys = ap text_of (map-append Flushed xs ys) ∙ flat_map-append line_text (map Flushed xs) (map Flushed ys)

-- ---- one flush

pub queue_whole : (q : Queue) → q.out ≡ 0 → q ≡ whole q.puts
queue_whole q none = ap (λ n. record { puts = q.puts; out = n }) none

none_left : (puts : List Row) → length puts ≡ 0 → puts ≡ []
none_left [] none = refl
none_left (put ∷ puts) none = absurd (omega (arith, none))

pub queue_none : (q : Queue) → q.out ≡ 0 → length q.puts ≡ 0 → q ≡ whole []
queue_none q out none = queue_whole q out ∙ ap (λ (puts : List Row). whole puts) (none_left q.puts none)

-- the line of the oldest put, of which no byte is out
pub oldest_text : (q : Queue) → q.out ≡ 0 → drop q.out (flat_map line (take 1 q.puts)) ≡ put_text (take 1 q.puts)
oldest_text q none = ap (λ n. drop n (flat_map line (take 1 q.puts))) none ∙ sym (flat_map-map line_text Flushed (take 1 q.puts))

-- ---- while the bytes are too many

-- what is no more than another where a test says that it is not more
pub no_more : (b : Bool) (m n : ℕ) → IsTrue b ↔ (m < n) → b ≡ false → n ≤ m
no_more b m n tells is_not = elim (leb_tells n m) [ inl h ↦ h.1 | inr h ↦ (let so : b ≡ true = tells.1 h.1 in absurd (let clash : false ≡ true = sym is_not ∙ so in cc)) ]

-- the queue is above what leaves so many bytes free below the most
module _ (most size : ℕ) (fits : size ≤ most) where
  too_many : (puts : List Row) → most - size < live puts → leb (live puts + size) most ≡ false
  too_many puts above = lt-leb (live puts + size) most (omega (arith, above, fits))

  few_enough : (puts : List Row) → live puts ≤ most - size → leb (live puts + size) most ≡ true
  few_enough puts below = le-leb (live puts + size) most (omega (arith, below, fits))

  pub going_next : (puts : List Row) → most - size < live puts → going most size puts ≡ take 1 puts ++ going most size (drop 1 puts)
  going_next [] above = absurd (omega (arith, above))
  going_next (put ∷ puts) above = ap (λ b. cond b [] (put ∷ going most size puts)) (too_many (put ∷ puts) above)

  pub staying_next : (puts : List Row) → most - size < live puts → staying most size puts ≡ staying most size (drop 1 puts)
  staying_next [] above = absurd (omega (arith, above))
  staying_next (put ∷ puts) above = ap (λ b. cond b (put ∷ puts) (staying most size puts)) (too_many (put ∷ puts) above)

  pub fewer : (puts : List Row) → most - size < live puts → length (drop 1 puts) < length puts
  fewer [] above = absurd (omega (arith, above))
  fewer (put ∷ puts) above = omega arith

  pub going_none : (puts : List Row) → live puts ≤ most - size → going most size puts ≡ []
  going_none [] below = refl
  going_none (put ∷ puts) below = ap (λ b. cond b [] (put ∷ going most size puts)) (few_enough (put ∷ puts) below)

  pub staying_all : (puts : List Row) → live puts ≤ most - size → staying most size puts ≡ puts
  staying_all [] below = refl
  staying_all (put ∷ puts) below = ap (λ b. cond b (put ∷ puts) (staying most size puts)) (few_enough (put ∷ puts) below)

  fit_by : (b : Bool) (put : Row) (puts : List Row) → leb (live (put ∷ puts) + size) most ≡ b → live (staying most size puts) + size ≤ most
      → live (cond b (put ∷ puts) (staying most size puts)) + size ≤ most
  fit_by true put puts e rest = leb-true (live (put ∷ puts) + size) most e
  fit_by false put puts e rest = rest

  pub staying_fits : (puts : List Row) → live (staying most size puts) + size ≤ most
  staying_fits [] = omega (arith, fits)
  staying_fits (put ∷ puts) = fit_by (leb (live (put ∷ puts) + size) most) put puts refl (staying_fits puts)

few_by : (b : Bool) (put : Row) (puts left : List Row) → length left ≤ length puts → length (cond b (put ∷ puts) left) ≤ length (put ∷ puts)
few_by true put puts left less = omega arith
few_by false put puts left less = omega (arith, less)

pub staying_few : (most size : ℕ) (puts : List Row) → length (staying most size puts) ≤ length puts
staying_few most size [] = omega arith
staying_few most size (put ∷ puts) = few_by (leb (live (put ∷ puts) + size) most) put puts (staying most size puts) (staying_few most size puts)

-- ---- the text so far

pub for_next : {T E : Type 0} {u : T} {a b c : Output} {t : List ℕ} (most size : ℕ) (puts now : List Row) → size ≤ most → most - size < live puts → now ≡ drop 1 puts → Goes a b t (put_text (going most size puts))
    → Writes {T = T} {E = E} (Ok u) b c (put_text (take 1 puts)) → Goes a c t (put_text (going most size now))
for_next {a = a} {b = b} {c = c} {t = t} most size puts now fits above is gone wrote =
    let split : put_text (going most size puts) ≡ put_text (take 1 puts) ++ put_text (going most size (drop 1 puts)) =
    ap put_text (going_next most size fits puts above) ∙ put_text-append (take 1 puts) (going most size (drop 1 puts)) in
    subst (λ ps. Goes a c t (put_text (going most size ps))) (sym is) (Goes-next (subst (Goes a b t) split gone) wrote)

pub for_stop : {T E : Type 0} {e : E} {a b c : Output} {t : List ℕ} (most size : ℕ) (puts : List Row) → size ≤ most → most - size < live puts → Goes a b t (put_text (going most size puts))
    → Writes {T = T} {E = E} (Err e) b c (put_text (take 1 puts)) → Writes {T = T} {E = E} (Err e) a c t
for_stop {a = a} {b = b} {t = t} most size puts fits above gone wrote =
    let split : put_text (going most size puts) ≡ put_text (take 1 puts) ++ put_text (going most size (drop 1 puts)) =
    ap put_text (going_next most size fits puts above) ∙ put_text-append (take 1 puts) (going most size (drop 1 puts)) in
    Goes-stop (put_text (going most size (drop 1 puts))) (subst (Goes a b t) split gone) wrote

pub for_done : {T E : Type 0} {u : T} {a b : Output} {t : List ℕ} (most size : ℕ) (puts : List Row) → size ≤ most → live puts ≤ most - size → Goes a b t (put_text (going most size puts))
    → Writes {T = T} {E = E} (Ok u) a b t
for_done {a = a} {b = b} {t = t} most size puts fits below gone = Goes-done (subst (Goes a b t) (ap put_text (going_none most size fits puts below)) gone)

-- the same where all go
all_split : (puts : List Row) → put_text puts ≡ put_text (take 1 puts) ++ put_text (drop 1 puts)
all_split [] = refl
all_split (put ∷ puts) = put_text-append (put ∷ []) puts

pub all_next : {T E : Type 0} {u : T} {a b c : Output} {t : List ℕ} (puts now : List Row) → now ≡ drop 1 puts → Goes a b t (put_text puts) → Writes {T = T} {E = E} (Ok u) b c (put_text (take 1 puts))
    → Goes a c t (put_text now)
all_next {a = a} {b = b} {c = c} {t = t} puts now is gone wrote = subst (λ ps. Goes a c t (put_text ps)) (sym is) (Goes-next (subst (Goes a b t) (all_split puts) gone) wrote)

pub all_stop : {T E : Type 0} {e : E} {a b c : Output} {t : List ℕ} (puts : List Row) → Goes a b t (put_text puts) → Writes {T = T} {E = E} (Err e) b c (put_text (take 1 puts)) → Writes {T = T} {E = E} (Err e) a c t
all_stop {a = a} {b = b} {t = t} puts gone wrote = Goes-stop (put_text (drop 1 puts)) (subst (Goes a b t) (all_split puts) gone) wrote

-- ---- what stays

pub Keeps-trans : {a b c : DirtyState} → Keeps a b → Keeps b c → Keeps a c
Keeps-trans p q = record {
  room = q.room ∙ p.room;
  segments = record {
    most = q.segments.most ∙ p.segments.most;
    groups = q.segments.groups ∙ p.segments.groups;
    pieces = q.segments.pieces ∙ p.segments.pieces;
    held = q.segments.held ∙ p.segments.held;
    guards = λ g. q.segments.guards g ∙ p.segments.guards g;
  };
}
