-- What several writes appended one behind another.
use Rattle.std.proofs.Common.{◌≡◌, ℕ, ◌+◌, ◌≤◌, List, [], ◌++◌, Option, Result, Ok, Err, refl, sym, ap, ◌∙◌, subst, arith, le_refl, length, length-append, take, append_assoc, append-nil}
use Rattle.std.specs.Result.{IsErrAnd, OnOk, OnErr}
use Rattle.std.proofs.lemmas.List.{take-append-le}
use Rattle.std.proofs.Math.Seq.{take-append-add}
use Rattle.std.specs.Io.KnownBytes.{Appends}
use Rattle.std.proofs.KnownBytes.{Appends-nil, Appends-trans}
use Rattle.outside.specs.Moves.{AppendsFront}
use Rattle.layout.specs.Counts.{Rose}
use Rattle.text_lemmas.specs.Writing.{Output, Adds, Fails, Writes, Goes}

rose_after : (a b c : ℕ) → a ≤ b → Rose b c → Rose a c
rose_after a b c earlier rose = grind (arith, rose, earlier)

-- a front of a piece is a front of that piece and another
front_before : (a b : Option (List ℕ)) (piece next : List ℕ) → AppendsFront a b piece → AppendsFront a b (piece ++ next)
front_before a b piece next front = record {
  count = front.count;
  within = rw length-append (omega (arith, front.within));
  appended = subst (Appends a b) (sym (take-append-le front.count piece next front.within)) front.appended;
}

-- a piece, and then a front of another, is a front of the two
front_after : (a b c : Option (List ℕ)) (piece next : List ℕ) → Appends a b piece → AppendsFront b c next → AppendsFront a c (piece ++ next)
front_after a b c piece next all front = record {
  count = length piece + front.count;
  within = rw length-append (omega (arith, front.within));
  appended = subst (Appends a c) (sym (take-append-add piece next front.count)) (Appends-trans a b c piece (take front.count next) all front.appended);
}

-- ---- texts one behind another

Adds-nothing : (a : Output) → Adds a a []
Adds-nothing a = record { sent = []; appended = Appends-nil a.written; bytes = sym (append-nil a.block) }

Adds-then : (a b c : Output) (s t : List ℕ) → Adds a b s → Adds b c t → Adds a c (s ++ t)
Adds-then a b c s t p q = record {
  sent = p.sent ++ q.sent;
  appended = Appends-trans a.written b.written c.written p.sent q.sent p.appended q.appended;
  bytes = append_assoc p.sent q.sent c.block ∙ ap (λ l. p.sent ++ l) q.bytes ∙ sym (append_assoc p.sent b.block t) ∙ ap (λ l. l ++ t) p.bytes ∙ append_assoc a.block s t;
}

-- one text, and then a failure in another
Fails-after : (a b c : Output) (s t : List ℕ) → Adds a b s → a.faults ≤ b.faults → Fails b c t → Fails a c (s ++ t)
Fails-after a b c s t p earlier q = record {
  rose = rose_after a.faults b.faults c.faults earlier q.rose;
  front =
      let same : p.sent ++ (b.block ++ t) ≡ a.block ++ (s ++ t) = sym (append_assoc p.sent b.block t) ∙ ap (λ l. l ++ t) p.bytes ∙ append_assoc a.block s t in
      subst (AppendsFront a.written c.written) same (front_after a.written b.written c.written p.sent (b.block ++ t) p.appended q.front);
}

Fails-before : (a b : Output) (s t : List ℕ) → Fails a b s → Fails a b (s ++ t)
Fails-before a b s t p = record {
  rose = p.rose;
  front = subst (AppendsFront a.written b.written) (append_assoc a.block s t) (front_before a.written b.written (a.block ++ s) t p.front);
}

pub Goes-none : {a : Output} {t : List ℕ} → Goes a a t t
Goes-none {a} {t} = record { bytes = []; added = Adds-nothing a; whole = refl; same_sink = refl; never_falls = le_refl a.faults }

-- the next part of what was left was written
pub Goes-next : {T E : Type 0} {u : T} {a b c : Output} {t s r : List ℕ} → Goes a b t (s ++ r) → Writes {T = T} {E = E} (Ok u) b c s → Goes a c t r
Goes-next {a = a} {b = b} {c = c} {s = s} {r = r} p q = record {
  bytes = p.bytes ++ s;
  added = Adds-then a b c p.bytes s p.added q.outcome;
  whole = append_assoc p.bytes s r ∙ p.whole;
  same_sink = q.same_sink ∙ p.same_sink;
  never_falls = omega (arith, p.never_falls, q.never_falls);
}

-- what was left was written, or the sink failed in it
pub Goes-end : {T E : Type 0} {x : Result T E} {a b c : Output} {t s : List ℕ} → Goes a b t s → Writes x b c s → Writes x a c t
Goes-end {x = Ok u} {a} {b} {c} {s = s} p q = record {
  outcome = subst (Adds a c) p.whole (Adds-then a b c p.bytes s p.added q.outcome);
  same_sink = q.same_sink ∙ p.same_sink;
  never_falls = omega (arith, p.never_falls, q.never_falls);
}
Goes-end {x = Err e} {a} {b} {c} {s = s} p q = record {
  outcome = subst (Fails a c) p.whole (Fails-after a b c p.bytes s p.added p.never_falls q.outcome);
  same_sink = q.same_sink ∙ p.same_sink;
  never_falls = omega (arith, p.never_falls, q.never_falls);
}

-- the sink failed in the next part of what was left
pub Goes-stop : {T E : Type 0} {e : E} {a b c : Output} {t s : List ℕ} (r : List ℕ) → Goes a b t (s ++ r) → Writes {T = T} {E = E} (Err e) b c s → Writes {T = T} {E = E} (Err e) a c t
Goes-stop {b = b} {c = c} {s = s} r p q = Goes-end p (record { outcome = Fails-before b c s r q.outcome; same_sink = q.same_sink; never_falls = q.never_falls })

pub Writes-then : {T E : Type 0} {u : T} {x : Result T E} {a b c : Output} {s t : List ℕ} → Writes {T = T} {E = E} (Ok u) a b s → Writes x b c t → Writes x a c (s ++ t)
Writes-then {u = u} p q = Goes-end (Goes-next {u = u} Goes-none p) q

-- a failure in the first of two texts is a failure in the two
pub Writes-stop : {T E : Type 0} {e : E} {a b : Output} {s : List ℕ} (t : List ℕ) → Writes {T = T} {E = E} (Err e) a b s → Writes {T = T} {E = E} (Err e) a b (s ++ t)
Writes-stop {e = e} t p = Goes-stop {e = e} t Goes-none p

-- the failure that a `?` hands on
pub Writes-exit : {T E : Type 0} (Q : E → Type 0) {e : E} {r : Result T E} {a b : Output} {s : List ℕ} → IsErrAnd r Q → Writes {T = T} {E = E} (Err e) a b s → Writes r a b s
Writes-exit Q {r = Ok v} met p = absurd met
Writes-exit Q {r = Err d} met p = record { outcome = p.outcome; same_sink = p.same_sink; never_falls = p.never_falls }

-- nothing is left
pub Goes-done : {T E : Type 0} {u : T} {a b : Output} {t : List ℕ} → Goes a b t [] → Writes {T = T} {E = E} (Ok u) a b t
Goes-done {a = a} {b = b} p = record {
  outcome = subst (Adds a b) (sym (append-nil p.bytes) ∙ p.whole) p.added;
  same_sink = p.same_sink;
  never_falls = p.never_falls;
}

-- ---- between the block and the sink

-- with an empty block the sink was given the text itself
pub Writes-sent : {T E : Type 0} (r : Result T E) (b c : Output) (t : List ℕ) → b.block ≡ [] → c.block ≡ [] → c.sink ≡ b.sink → OnOk r (Appends b.written c.written t)
    → OnErr r (AppendsFront b.written c.written t) → OnErr r (Rose b.faults c.faults) → b.faults ≤ c.faults → Writes r b c t
Writes-sent (Ok v) b c t empty after same written front rose later = record {
  outcome = record { sent = t; appended = written; bytes = ap (λ l. t ++ l) after ∙ append-nil t ∙ ap (λ l. l ++ t) (sym empty) };
  same_sink = same;
  never_falls = later;
}
Writes-sent (Err e) b c t empty after same written front rose later = record {
  outcome = record { rose = rose; front = subst (λ l. AppendsFront b.written c.written (l ++ t)) (sym empty) front };
  same_sink = same;
  never_falls = later;
}

-- the block alone was added to
pub Writes-held : {T E : Type 0} {u : T} (b : Output) (t now : List ℕ) → now ≡ b.block ++ t → Writes {T = T} {E = E} (Ok u) b (record b { block = now }) t
Writes-held b t now added = record {
  outcome = record { sent = []; appended = Appends-nil b.written; bytes = added };
  same_sink = refl;
  never_falls = le_refl b.faults;
}

-- from an empty block to an empty block
pub written_all : {T E : Type 0} (r : Result T E) (a b : Output) (t : List ℕ) → a.block ≡ [] → OnOk r (b.block ≡ []) → Writes r a b t → OnOk r (Appends a.written b.written t)
written_all (Ok v) a b t before after p =
    let q = p.outcome in
    let same : q.sent ≡ t = sym (append-nil q.sent) ∙ ap (λ l. q.sent ++ l) (sym after) ∙ q.bytes ∙ ap (λ l. l ++ t) before in
    subst (Appends a.written b.written) same q.appended
written_all (Err e) a b t before after p = tt

pub written_front : {T E : Type 0} (r : Result T E) (a b : Output) (t : List ℕ) → a.block ≡ [] → Writes r a b t → OnErr r (AppendsFront a.written b.written t)
written_front (Ok v) a b t before p = tt
written_front (Err e) a b t before p = subst (λ l. AppendsFront a.written b.written (l ++ t)) before p.outcome.front

pub written_failed : {T E : Type 0} (r : Result T E) (a b : Output) (t : List ℕ) → Writes r a b t → OnErr r (Rose a.faults b.faults)
written_failed (Ok v) a b t p = tt
written_failed (Err e) a b t p = p.outcome.rose

-- a text, and then what waits
pub Writes-last : {T E : Type 0} {u : T} {r : Result T E} {a b c : Output} {s : List ℕ} → Writes {T = T} {E = E} (Ok u) a b s → Writes r b c [] → Writes r a c s
Writes-last {r = r} {a = a} {c = c} {s = s} p q = subst (Writes r a c) (append-nil s) (Writes-then p q)

-- nothing was written
pub Writes-nothing : {T E : Type 0} {u : T} {a : Output} → Writes {T = T} {E = E} (Ok u) a a []
Writes-nothing {a = a} = record { outcome = Adds-nothing a; same_sink = refl; never_falls = le_refl a.faults }

-- whichever value is answered
pub Writes-ok : {T U E : Type 0} {u : T} {v : U} {a b : Output} {s : List ℕ} → Writes {T = T} {E = E} (Ok u) a b s → Writes {T = U} {E = E} (Ok v) a b s
Writes-ok p = record { outcome = p.outcome; same_sink = p.same_sink; never_falls = p.never_falls }

pub Writes-same : {T E : Type 0} {r : Result T E} {a b : Output} {s t : List ℕ} → s ≡ t → Writes r a b s → Writes r a b t
Writes-same {r = r} {a = a} {b = b} e p = subst (Writes r a b) e p

-- a text, and then three
pub join : (t a b c : List ℕ) → t ++ ((a ++ b) ++ c) ≡ t ++ a ++ b ++ c
join t a b c = sym (append_assoc t (a ++ b) c) ∙ ap (λ l. l ++ c) (sym (append_assoc t a b))

-- the block was given to the sink
pub Writes-flushed : {T E : Type 0} {u : T} (b c : Output) → Appends b.written c.written b.block → c.block ≡ [] → c.sink ≡ b.sink → b.faults ≤ c.faults
    → Writes {T = T} {E = E} (Ok u) b c []
Writes-flushed b c written empty same later = record {
  outcome = record { sent = b.block; appended = written; bytes = ap (λ l. b.block ++ l) empty };
  same_sink = same;
  never_falls = later;
}
