-- Traces on which the definition is checked.
use Rattle.std.specs.Prelude.{◌≡◌, ◌*◌, List, [], ◌∷◌, replicate, codes}
use Rattle.rows.specs.declared.kind.Kind.TheVariants.{Put, Get, Erase, Scan}
use Rattle.rows.specs.Operation.{Operation}
use Rattle.trace_text.specs.Trace.{Trace, trace_with}
use Rattle.cache_model.specs.Examples.{asks}
use Rattle.rows.specs.Row.{size}
use Rattle.segmented_store.specs.Room.{room}
use Rattle.dirty_mode.specs.DirtyText.{text_of, lines_from, dirty_text}

-- two puts of one key, with a get behind each
abbrev pub put_twice : Trace
put_twice = trace_with 1 (
    asks 1 Put (codes "a") (codes "1") 0 ∷ asks 2 Get (codes "a") [] 0 ∷ asks 3 Put (codes "a") (codes "2") 0
    ∷ asks 4 Get (codes "a") [] 0 ∷ [])

abbrev pub passed_over : Trace
passed_over = trace_with 1 (asks 1 Get (codes "a") [] 0 ∷ asks 2 Erase (codes "a") [] 0 ∷ asks 3 Scan (codes "a") [] 5 ∷ [])

-- three puts of 48 bytes each
abbrev pub three_puts : List Operation
three_puts =
    asks 1 Put (codes "a") (codes "1") 0 ∷ asks 2 Put (codes "b") (codes "2") 0 ∷ asks 3 Put (codes "c") (codes "3") 0
    ∷ asks 4 Get (codes "a") [] 0 ∷ asks 5 Get (codes "c") [] 0 ∷ []

pub record TextsAreRight : Type 0 where
  pub twice : dirty_text put_twice 8192 ≡ codes "2 dirty 1\n4 dirty 2\nput a 1\nput a 2\ndirty 2\n"
  pub passed : dirty_text passed_over 8192 ≡ codes "1 clean\n2 passed\n3 passed\ndirty 0\n"
  -- with room for three, for two, and for one of them
  pub all_stay : text_of (lines_from 144 three_puts []) ≡ codes "4 dirty 1\n5 dirty 3\nput a 1\nput b 2\nput c 3\n"
  pub oldest_goes : text_of (lines_from 143 three_puts []) ≡ codes "put a 1\n4 clean\n5 dirty 3\nput b 2\nput c 3\n"
  pub two_go : text_of (lines_from 95 three_puts []) ≡ codes "put a 1\nput b 2\n4 clean\n5 dirty 3\nput c 3\n"
  -- the greatest values of which forty segments hold 374
  pub greatest : size (codes "k001") (replicate 12000 88) ≡ 12048
  pub of_forty : room 40 ≡ 4513488
  pub many : 374 * 12048 ≡ 4505952
