-- Examples on which the definitions are checked.
use Rattle.std.specs.Prelude.{◌≡◌, ℕ, List, [], ◌∷◌, codes, Some, None}
use Rattle.rows.specs.declared.kind.Kind.{Kind}
use Rattle.rows.specs.declared.kind.Kind.TheVariants.{Put, Get}
use Rattle.rows.specs.Key.{in_table}
use Rattle.rows.specs.Operation.{Operation}
use Rattle.trace_text.specs.Trace.{Trace, trace_with}
use Rattle.report_check.specs.declared.verdict.Verdict.TheVariants.{Legal, Illegal}
use Rattle.report_check.specs.Frame.{framed}
use Rattle.report_check.specs.Verdict.{verdict}

abbrev pub asks : ℕ → Kind → List ℕ → List ℕ → Operation
asks number kind key value = record { number = number; kind = kind; key = in_table 0 key; value = value; count = 0 }

abbrev pub put_and_get : Trace
put_and_get = trace_with 1 (asks 1 Put (codes "a") (codes "abc") ∷ asks 2 Get (codes "a") [] ∷ [])

-- the report of one shard of 8,192 pages, and others; of 1,088 pages the floor is 0
pub record VerdictsAreRight : Type 0 where
  pub legal : verdict put_and_get 1 8192 (codes "1 stored\n2 value abc\njournal 0 1 2\nshard 0 rows 1 live 48 lent 0 back 0\n") ≡ Legal
  pub other_value : verdict put_and_get 1 8192 (codes "1 stored\n2 value abd\njournal 0 1 2\nshard 0 rows 1 live 48 lent 0 back 0\n") ≡ Illegal 2
  pub other_order : verdict put_and_get 1 8192 (codes "1 stored\n2 value abc\njournal 0 2 1\nshard 0 rows 1 live 48 lent 0 back 0\n") ≡ Illegal 3
  pub low_eviction : verdict put_and_get 1 8192 (codes "1 stored\n2 missing\njournal 0 1 !1 2\nshard 0 rows 0 live 0 lent 0 back 0\n") ≡ Illegal 3
  pub high_eviction : verdict put_and_get 1 1088 (codes "1 stored\n2 missing\njournal 0 1 !1 2\nshard 0 rows 0 live 0 lent 0 back 0\n") ≡ Legal
  pub unended : verdict put_and_get 1 8192 (codes "1 stored\n2 value abc\njournal 0 1 2\nshard 0 rows 1 live 48 lent 0 back 0") ≡ Illegal 4
  pub surplus : verdict put_and_get 1 8192 (codes "1 stored\n2 value abc\njournal 0 1 2\nshard 0 rows 1 live 48 lent 0 back 0\n\n") ≡ Illegal 5
  -- the journals are looked at first
  pub both : verdict put_and_get 1 8192 (codes "1 stored\n2 value abd\njournal 0 1\nshard 0 rows 1 live 48 lent 0 back 0\n") ≡ Illegal 3
  pub spelled_first : verdict put_and_get 1 8192 (codes "1 stored\n2 value abd\njournal 0 1 02\nshard 0 rows 1 live 48 lent 0 back 0\n") ≡ Illegal 3
  pub missing : verdict put_and_get 1 8192 [] ≡ Illegal 3

pub record FramesAreRight : Type 0 where
  pub empty : framed [] ≡ None
  pub none : framed (codes "0\nx") ≡ Some ([], codes "x")
  pub some : framed (codes "3\nabcdef") ≡ Some (codes "abc", codes "def")
  pub short : framed (codes "3\nab") ≡ None
  pub leading_zero : framed (codes "03\nabc") ≡ None
  pub unended : framed (codes "0") ≡ None
