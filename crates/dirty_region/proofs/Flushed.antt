-- What a flush does to the queue, and what is due before and after.
use Rattle.std.proofs.Common.{◌≡◌, ℕ, suc, ◌+◌, ◌-◌, ◌<◌, ◌≤◌, List, [], ◌∷◌, ◌++◌, length, take, drop, Option, refl, sym, ap, subst, ◌∙◌, arith, append_assoc, append-nil}
use Rattle.std.specs.Prelude.{flat_map}
use Rattle.std.proofs.Math.Seq.{drop-append-le}
use Rattle.std.proofs.lemmas.List.{drop-drop, drop_all, take_rest, take-append-drop}
use Rattle.std.specs.Io.KnownBytes.{Appends}
use Rattle.rows.specs.Row.{Row}
use Rattle.regions.specs.Stores.{Live}
use Rattle.dirty_region.specs.Queues.{Queue, line, IsOut, FlushesOldest, BreaksOff, GoesOn}
use Rattle.dirty_region.specs.inside.Rings.{RingState, listed, nth, puts_in}

-- ---- how much is out

pub out_low : (out : ℕ) (puts : List Row) (put : Row) (others : List Row) → IsOut out puts → puts ≡ put ∷ others → out < length (line put)
out_low out puts put others is e = subst (IsOut out) e is

pub out_kept : (out : ℕ) (puts : List Row) (put : Row) (others : List Row) → puts ≡ put ∷ others → out < length (line put) → IsOut out puts
out_kept out puts put others e low = subst (IsOut out) (sym e) low

pub out_none : (puts : List Row) → IsOut 0 puts
out_none [] = refl
out_none (put ∷ puts) = omega arith

pub puts_first : (r : RingState) (l : Live) → 1 ≤ r.count → puts_in r l ≡ nth r l 0 ∷ listed (λ k. nth r l (suc k)) (r.count - 1)
puts_first r l some = ap (listed (nth r l)) (let e : r.count ≡ suc (r.count - 1) = omega (arith, some) in e)

-- ---- what is due

due_split : (text behind : List ℕ) (out more : ℕ) → out + more ≤ length text → drop out (text ++ behind) ≡ take more (drop out text) ++ drop (out + more) (text ++ behind)
due_split text behind out more low =
    drop-append-le out text behind (omega (arith, low))
    ∙ (ap (λ z. z ++ behind) (sym (take-append-drop more (drop out text)))
    ∙ (append_assoc (take more (drop out text)) (drop more (drop out text)) behind
    ∙ ap (λ z. take more (drop out text) ++ z) (ap (λ z. z ++ behind) (drop-drop more out text) ∙ sym (drop-append-le (out + more) text behind low))))

abbrev pub queue_of : List Row → ℕ → Queue
queue_of puts out = record { puts = puts; out = out }

pub broken_off : (q : Queue) (puts : List Row) (out now : ℕ) (put : Row) (others : List Row) (text : List ℕ) (before after : Option (List ℕ)) → queue_of puts out ≡ q → puts ≡ put ∷ others
    → text ≡ line put → out ≤ now → now < length text → Appends before after (take (now - out) (drop out text))
    → BreaksOff q (queue_of puts now) before after × GoesOn q (queue_of puts now) before after
broken_off q puts out now put others text before after is first same low high appended =
    let front : Appends before after (take (now - out) (drop out (line put))) = subst (λ t. Appends before after (take (now - out) (drop out t))) same appended in
    let unfinished : now < length (line put) = subst (λ t. now < length t) same high in
    let counted : now ≡ out + (now - out) = omega (arith, low) in
    let behind = flat_map line others in
    let due : drop out (line put ++ behind) ≡ take (now - out) (drop out (line put)) ++ drop now (line put ++ behind) =
    due_split (line put) behind out (now - out) (omega (arith, low, unfinished)) ∙ ap (λ n. take (now - out) (drop out (line put)) ++ drop n (line put ++ behind)) (sym counted) in
    subst (λ x. BreaksOff x (queue_of puts now) before after × GoesOn x (queue_of puts now) before after) is (
      record { put = put; others = others; oldest = first; stays = refl; count = now - out; counted = counted; unfinished = unfinished; front = front },
      (
        take (now - out) (drop out (line put)),
        front,
        ap (λ ps. drop out (flat_map line ps)) first ∙ (due ∙ ap (λ ps. take (now - out) (drop out (line put)) ++ drop now (flat_map line ps)) (sym first)),
      ),
    )

pub flushed : (q : Queue) (puts : List Row) (out now next number : ℕ) (put : Row) (others : List Row) (text : List ℕ) (before after : Option (List ℕ)) → queue_of puts out ≡ q → puts ≡ put ∷ others
    → text ≡ line put → number ≡ put.number → out < length text → now ≡ length text → next ≡ 0 → Appends before after (take (now - out) (drop out text))
    → FlushesOldest number q (queue_of others next) before after × GoesOn q (queue_of others next) before after
flushed q puts out now next number put others text before after is first same numbered low whole begun appended =
    let all : Appends before after (drop out (line put)) =
    subst (λ t. Appends before after (drop out t)) same (subst (Appends before after) (take_rest text out) (subst (λ n. Appends before after (take (n - out) (drop out text))) whole appended)) in
    let inside : out < length (line put) = subst (λ t. out < length t) same low in
    subst (λ n. FlushesOldest number q (queue_of others n) before after × GoesOn q (queue_of others n) before after) (sym begun)
    (subst (λ x. FlushesOldest number x (queue_of others 0) before after × GoesOn x (queue_of others 0) before after) is (
      record { put = put; taken = first; number_is = numbered; whole = all; begun = refl },
      (drop out (line put), all, ap (λ ps. drop out (flat_map line ps)) first ∙ drop-append-le out (line put) (flat_map line others) (omega (arith, inside))),
    ))

-- ---- a flush into a writer

-- what is left of the oldest line
pub rest_line : (q : Queue) (puts : List Row) (out : ℕ) (put : Row) (others : List Row) (text rest : List ℕ) → queue_of puts out ≡ q → puts ≡ put ∷ others → text ≡ line put
    → rest ≡ drop out text → rest ≡ drop q.out (flat_map line (take 1 q.puts))
rest_line q puts out put others text rest is first same left =
    left ∙ ap (drop out) same ∙ ap (drop out) (sym (append-nil (line put))) ∙ ap (λ ps. drop out (flat_map line (take 1 ps))) (sym first)
    ∙ ap (λ (x : Queue). drop x.out (flat_map line (take 1 x.puts))) is

pub queue_left : (q : Queue) (puts others : List Row) (out next : ℕ) (put : Row) → queue_of puts out ≡ q → puts ≡ put ∷ others → next ≡ 0 → queue_of others next ≡ queue_of (drop 1 q.puts) 0
queue_left q puts others out next put is first begun =
    ap (λ n. queue_of others n) begun ∙ ap (λ ps. queue_of (drop 1 ps) 0) (sym first) ∙ ap (λ (x : Queue). queue_of (drop 1 x.puts) 0) is

-- without a put nothing is out
pub queue_none : (q : Queue) (puts : List Row) (out : ℕ) → queue_of puts out ≡ q → IsOut out puts → puts ≡ [] → q ≡ queue_of (drop 1 q.puts) 0
queue_none q puts out is low none =
    sym is ∙ ap (λ ps. queue_of ps out) none ∙ ap (λ n. queue_of [] n) (subst (IsOut out) none low) ∙ ap (λ ps. queue_of (drop 1 ps) 0) (sym none)
    ∙ ap (λ (x : Queue). queue_of (drop 1 x.puts) 0) is

pub text_none : (q : Queue) (puts : List Row) (out : ℕ) → queue_of puts out ≡ q → puts ≡ [] → [] ≡ drop q.out (flat_map line (take 1 q.puts))
text_none q puts out is none =
    sym (ap (λ (x : Queue). drop x.out (flat_map line (take 1 x.puts))) (sym is) ∙ ap (λ ps. drop out (flat_map line (take 1 ps))) none ∙ drop_all out [] (omega arith))

pub puts_none : (r : RingState) (l : Live) → r.count ≡ 0 → puts_in r l ≡ []
puts_none r l none = ap (listed (nth r l)) none
