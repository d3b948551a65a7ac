-- Traces on which the definition is checked.
use Rattle.std.specs.Prelude.{◌≡◌, List, [], ◌∷◌, codes}
use Rattle.rows.specs.declared.kind.Kind.TheVariants.{Put, Get, Erase, Scan}
use Rattle.rows.specs.Operation.{Operation}
use Rattle.trace_text.specs.Trace.{Trace, trace_with}
use Rattle.cache_model.specs.Examples.{asks}
use Rattle.index_mode.specs.IndexText.{index_text, text_from}

-- two puts, and what is read and erased of them
abbrev pub put_both : Trace
put_both = trace_with 1 (
    asks 1 Put (codes "b") (codes "1") 0 ∷ asks 2 Put (codes "a") (codes "2") 0 ∷ asks 3 Get (codes "b") [] 0
    ∷ asks 4 Scan (codes "a") [] 5 ∷ asks 5 Erase (codes "a") [] 0 ∷ asks 6 Get (codes "a") [] 0 ∷ [])

-- three keys, of which the second has no room, until the first went
abbrev pub one_key : List Operation
one_key =
    asks 1 Put (codes "a") [] 0 ∷ asks 2 Put (codes "b") [] 0 ∷ asks 3 Put (codes "a") [] 0 ∷ asks 4 Get (codes "a") [] 0
    ∷ asks 5 Erase (codes "a") [] 0 ∷ asks 6 Put (codes "c") [] 0 ∷ asks 7 Scan (codes "a") [] 1 ∷ []

pub record TextsAreRight : Type 0 where
  pub both : index_text put_both 8192 ≡ codes "1 stored\n2 stored\n3 at 1\n4 keys a b\n5 erased\n6 missing\nindex 1\n"
  pub full : text_from 1 [] one_key ≡ codes "1 stored\n2 full\n3 replaced\n4 at 3\n5 erased\n6 stored\n7 keys c\nindex 1\n"
