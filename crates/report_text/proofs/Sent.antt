-- A text for each x of some kind, written to its end by a writer over a sink, which then ends as the writer left it.
use Rattle.std.proofs.Common.{◌≡◌, ℕ, List, [], Option, Result, Ok, Err}
use Rattle.std.specs.Result.{OnOk, OnErr}
use Rattle.std.specs.Borrow.{GName}
use Rattle.std.specs.Io.KnownBytes.{Appends}
use Rattle.layout.specs.Counts.{Rose}
use Rattle.text_lemmas.specs.Writing.{Output, Writes}
use Rattle.text_lemmas.proofs.Sent.{begun, GivesBack, sent_all, sent_failed}

-- what holds of each x where a result is Ok
each_ok : {T E X : Type 0} (r : Result T E) (P Q : X → Type 0) → ((x : X) → P x → OnOk r (Q x)) → OnOk r ((x : X) → P x → Q x)
each_ok (Ok v) P Q each = each
each_ok (Err e) P Q each = tt

module _ {K T E X : Type 0} (bytes : K → Option (List ℕ)) (count : K → ℕ) (P : X → Type 0) (text : X → List ℕ) where
  -- the sink, as it was and as it is, was given the text of each x in P, or it failed
  abbrev pub Sent : K → K → Result T E → Type 0
  Sent old new result = record {
    written : OnOk result ((x : X) → P x → Appends (bytes old) (bytes new) (text x));
    failed : OnErr result (Rose (count old) (count new));
  }

  -- a writer was made over this sink, wrote the texts or failed, and gave it back
  pub Sent-from : (old new last : K) (name left : GName) (r : Result T E) (a b : Output) → a ≡ begun bytes count name old → GivesBack bytes count left last b → (name ≡ left → new ≡ last)
      → (x : X) × P x → OnOk r (b.block ≡ []) → ((x : X) → P x → Writes r a b (text x)) → Sent old new r
  Sent-from old new last name left r a b begins back ends some done wrote = record {
    written = each_ok r P (λ x. Appends (bytes old) (bytes new) (text x)) (λ x h. sent_all bytes count old new last name left (text x) r a b begins back ends done (wrote x h));
    failed = sent_failed bytes count old new last name left (text some.0) r a b begins back ends done (wrote some.0 some.1);
  }
