-- The keys ab and c.
use Rattle.std.proofs.Common.{[], ◌∷◌, refl, lit≤}
use Rattle.std.specs.Prelude.{codes}
use Rattle.std.proofs.lemmas.List.Elements.{All-from_recursion}
use Rattle.rows.specs.Spelled.{IsKey}
use Rattle.text_tests.proofs.run_log_tests.keys_stand_behind_their_lengths.Goals as goal

pub spans_of-requires-clause-keys : goal.spans_of-requires-clause-keys
spans_of-requires-clause-keys g c = (
  codes "ab" ∷ codes "c" ∷ [],
  record {
    within = lit≤ tt;
    rest = record {
      spelled = refl;
      lengths = All-from_recursion IsKey (codes "ab" ∷ codes "c" ∷ []) (record { some = lit≤ tt; short = lit≤ tt }, (record { some = lit≤ tt; short = lit≤ tt }, tt));
    };
  },
)
