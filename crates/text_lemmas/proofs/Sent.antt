-- A text written to its end by a writer over a sink, which then ends as the writer left it.
use Rattle.std.proofs.Common.{◌≡◌, ℕ, ◌≤◌, List, [], Option, Result, ap, refl, ◌∙◌, sym, subst}
use Rattle.std.specs.Result.{OnOk, OnErr}
use Rattle.std.specs.Borrow.{GName}
use Rattle.std.specs.Io.KnownBytes.{Appends}
use Rattle.outside.specs.Moves.{AppendsFront, Sends}
use Rattle.layout.specs.Counts.{Rose}
use Rattle.text_lemmas.specs.Writing.{Output, Writes}
use Rattle.text_lemmas.proofs.Written.{written_all, written_front, written_failed}

-- what a writer is that was made over this sink
abbrev pub begun : {K : Type 0} → (K → Option (List ℕ)) → (K → ℕ) → GName → K → Output
begun bytes count name sink = record { sink = name; written = bytes sink; faults = count sink; block = [] }

-- the sink that a writer gave back
abbrev pub GivesBack : {K : Type 0} → (K → Option (List ℕ)) → (K → ℕ) → GName → K → Output → Type 0
GivesBack bytes count left last b = record { same : left ≡ b.sink; written : bytes last ≡ b.written; faults : count last ≡ b.faults }

-- a writer was made over a sink, it wrote a text or failed, and it gave the sink back
module _ {K T E : Type 0} (bytes : K → Option (List ℕ)) (count : K → ℕ) (old new last : K) (name left : GName) (text : List ℕ) (r : Result T E) (a b : Output)
    (begins : a ≡ begun bytes count name old) (back : GivesBack bytes count left last b) (ends : name ≡ left → new ≡ last) (done : OnOk r (b.block ≡ []))
    (wrote : Writes r a b text) where
  all : Writes r (begun bytes count name old) b text
  all = subst (λ x. Writes r x b text) begins wrote

  is_last : new ≡ last
  is_last = ends (sym (back.same ∙ all.same_sink))

  given : bytes new ≡ b.written
  given = ap bytes is_last ∙ back.written

  failures : count new ≡ b.faults
  failures = ap count is_last ∙ back.faults

  pub sent_all : OnOk r (Appends (bytes old) (bytes new) text)
  sent_all = subst (λ v. OnOk r (Appends (bytes old) v text)) (sym given) (written_all r (begun bytes count name old) b text refl done all)

  pub sent_front : OnErr r (AppendsFront (bytes old) (bytes new) text)
  sent_front = subst (λ v. OnErr r (AppendsFront (bytes old) v text)) (sym given) (written_front r (begun bytes count name old) b text refl all)

  pub sent_failed : OnErr r (Rose (count old) (count new))
  sent_failed = subst (λ m. OnErr r (Rose (count old) m)) (sym failures) (written_failed r (begun bytes count name old) b text all)

  pub sent_later : count old ≤ count new
  sent_later = subst (λ m. count old ≤ m) (sym failures) all.never_falls

  pub sent : Sends bytes count old new r text
  sent = record { written = sent_all; front = sent_front; failed = sent_failed; never_falls = sent_later }
