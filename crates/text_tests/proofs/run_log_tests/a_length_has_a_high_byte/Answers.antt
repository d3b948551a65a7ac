-- One key of 256 letters.
use Rattle.std.proofs.Common.{ℕ, List, [], ◌∷◌, replicate, refl, lit≤, subst, sym}
use Rattle.std.proofs.lemmas.List.Elements.{All-from_recursion}
use Rattle.rows.specs.KeyBody.{AreKeysAt}
use Rattle.rows.specs.Spelled.{IsKey}
use Rattle.text_tests.proofs.run_log_tests.a_length_has_a_high_byte.Goals as goal

abbrev long : List ℕ
long = replicate 256 107

long_key : AreKeysAt (0 ∷ 1 ∷ long) 0 (long ∷ [])
long_key = record {
  within = lit≤ tt;
  rest = record { spelled = refl; lengths = All-from_recursion IsKey (long ∷ []) (record { some = lit≤ tt; short = lit≤ tt }, tt) };
}

pub spans_of-requires-clause-keys : goal.spans_of-requires-clause-keys
spans_of-requires-clause-keys g c = (long ∷ [], subst (λ body. AreKeysAt body 0 (long ∷ [])) (sym c.long_key.ensures) long_key)
