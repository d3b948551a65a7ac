-- Scripts on which the definition is checked.
use Rattle.std.specs.Prelude.{◌≡◌, ◌*◌, List, [], ◌∷◌, replicate, codes, None}
use Rattle.segmented_store.specs.Room.{room}
use Rattle.fragments.specs.Sizes.{size, greatest_value}
use Rattle.fragments.specs.Values.{Values}
use Rattle.value_script.specs.Order as orders
use Rattle.value_script.specs.Order.{Order}
use Rattle.values_mode.specs.Text.{values_text, text_from}

-- three names, none of which has a value
abbrev pub three_names : Values
three_names = replicate 3 None

-- a value that is read in part and dropped
abbrev pub set_and_dropped : List Order
set_and_dropped = orders.Set 1 (codes "hello") ∷ orders.Read 1 1 3 ∷ orders.Drop 1 ∷ orders.Read 1 0 4 ∷ []

-- an empty value, one that is read to its end, and a name that has none
abbrev pub short_values : List Order
short_values =
    orders.Set 0 [] ∷ orders.Read 0 0 64 ∷ orders.Read 0 7 1 ∷ orders.Set 0 (codes "abc") ∷ orders.Read 0 1 64 ∷ orders.Drop 2 ∷ []

-- three values of 40 bytes in segments, the last in place of the first
abbrev pub three_values : List Order
three_values = orders.Set 0 (codes "a") ∷ orders.Set 1 (codes "b") ∷ orders.Set 0 (codes "c") ∷ orders.Read 0 0 1 ∷ []

pub record TextsAreRight : Type 0 where
  pub dropped : values_text set_and_dropped 8192 ≡ codes "1 set\n2 value 5 ell\n3 dropped\n4 missing\nvalues 0 live 0\n"
  pub short : text_from 200 1 three_names short_values
      ≡ codes "1 set\n2 value 0 \n3 value 0 \n4 set\n5 value 3 bc\n6 missing\nvalues 1 live 40\n"
  -- with room for three of them, for two, and for one: the old value of a name counts beside the new one
  pub all_set : text_from 120 1 three_names three_values ≡ codes "1 set\n2 set\n3 set\n4 value 1 c\nvalues 2 live 80\n"
  pub last_full : text_from 119 1 three_names three_values ≡ codes "1 set\n2 set\n3 full\n4 value 1 a\nvalues 2 live 80\n"
  pub two_full : text_from 79 1 three_names three_values ≡ codes "1 set\n2 full\n3 full\n4 value 1 a\nvalues 1 live 40\n"
  -- the greatest values, of which forty segments hold four and no five
  pub greatest : size greatest_value ≡ 1051328
  pub of_forty : room 40 ≡ 4513488
  pub four : 4 * 1051328 ≡ 4205312
  pub five : 5 * 1051328 ≡ 5256640
