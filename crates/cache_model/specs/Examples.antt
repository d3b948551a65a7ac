-- Examples on which the definitions are checked.
use Rattle.std.specs.Prelude.{◌≡◌, ℕ, true, false, List, [], ◌∷◌, length, take, replicate, codes, Some, None}
use Rattle.layout.specs.Sizes.{dense, tickets}
use Rattle.rows.specs.declared.kind.Kind.{Kind}
use Rattle.rows.specs.declared.kind.Kind.TheVariants.{Put, Get, Erase, Scan}
use Rattle.rows.specs.Key.{in_table}
use Rattle.rows.specs.Operation.{Operation}
use Rattle.trace_text.specs.Trace.{Trace, trace_with}
use Rattle.cache_model.specs.declared.entry.Entry.{Entry}
use Rattle.cache_model.specs.declared.entry.Entry.TheVariants.{Done, Evicted}
use Rattle.rows.specs.Row.{Row, floor, live, tight_floor}
use Rattle.rows.specs.Evictions.{Evicts}
use Rattle.rows.specs.Apply.{Stored, Missing, Erased, Keys, apply}
use Rattle.cache_model.specs.Legal.{IsLegal, IsComplete, can_evict, reply_at}
use Rattle.cache_model.specs.OwnParts.{issued_parts}
use Rattle.cache_model.specs.Report.{report}
use Rattle.cache_model.specs.Summary.{summary}
use Rattle.cache_model.specs.Answer.{answer}

-- of a key in a table
abbrev pub asks_in : ℕ → ℕ → Kind → List ℕ → List ℕ → ℕ → Operation
asks_in table number kind key value count =
    record { number = number; kind = kind; key = in_table table key; value = value; count = count }

-- in version 1 all keys are of table 0
abbrev pub asks : ℕ → Kind → List ℕ → List ℕ → ℕ → Operation
asks number kind key value count = asks_in 0 number kind key value count

abbrev pub joined_scan : Operation
joined_scan = asks 7 Scan (codes "a") [] 3

-- shard 0 owns a and c, shard 1 owns b and z
abbrev pub two_shards : Trace
two_shards = trace_with 1 (
    asks 1 Put (codes "a") (codes "1") 0 ∷ asks 2 Get (codes "z") [] 0 ∷ asks 3 Put (codes "b") (codes "2") 0
    ∷ asks 4 Get (codes "z") [] 0 ∷ asks 5 Put (codes "c") (codes "3") 0 ∷ asks 6 Get (codes "z") [] 0 ∷ joined_scan ∷ [])

abbrev pub first : List Entry
first = Done 1 ∷ Done 5 ∷ Done 7 ∷ []

abbrev pub second : List Entry
second = Done 2 ∷ Done 3 ∷ Done 4 ∷ Done 6 ∷ Done 7 ∷ []

-- the scan of shard 1 is done before the gets of the other origin: they come in any order
abbrev pub second_merged : List Entry
second_merged = Done 3 ∷ Done 7 ∷ Done 2 ∷ Done 4 ∷ Done 6 ∷ []

-- an entry changed: two commands of one origin in the other order, one left out, one twice, an eviction of nothing
abbrev pub swapped : List Entry
swapped = Done 2 ∷ Done 3 ∷ Done 6 ∷ Done 4 ∷ Done 7 ∷ []

abbrev pub shortened : List Entry
shortened = Done 2 ∷ Done 3 ∷ Done 4 ∷ Done 7 ∷ []

abbrev pub doubled : List Entry
doubled = Done 2 ∷ Done 3 ∷ Done 4 ∷ Done 6 ∷ Done 7 ∷ Done 7 ∷ []

abbrev pub evicting : List Entry
evicting = Done 1 ∷ Evicted 1 ∷ Done 5 ∷ Done 7 ∷ []

-- of two shards: which journals are legal and complete, and what is answered
pub record TwoShardsAreRight : Type 0 where
  pub legal_first : IsLegal two_shards 1280 first
  pub legal_second : IsLegal two_shards 1280 second
  pub legal_merged : IsLegal two_shards 1280 second_merged
  pub complete_first : IsComplete two_shards 2 0 first
  pub complete_second : IsComplete two_shards 2 1 second
  pub complete_merged : IsComplete two_shards 2 1 second_merged
  pub wrong_shard : IsComplete two_shards 2 1 first → ⊥
  pub wrong_order : IsComplete two_shards 2 1 swapped → ⊥
  pub left_out : IsComplete two_shards 2 1 shortened → ⊥
  pub twice : IsComplete two_shards 2 1 doubled → ⊥
  pub below_floor : IsLegal two_shards 1280 evicting → ⊥
  pub counted : length (issued_parts two_shards 2 0) ≡ 5
  pub issued : issued_parts two_shards 2 0 ≡ (1, 0) ∷ (3, 1) ∷ (5, 0) ∷ (7, 0) ∷ (7, 1) ∷ []
  pub missing : reply_at two_shards 1280 second 4 ≡ Some Missing
  pub joined : answer two_shards 2 1280 (first ∷ second ∷ []) joined_scan ≡ Some (Keys (codes "a" ∷ codes "b" ∷ codes "c" ∷ []))
  pub owner_stored : answer two_shards 2 1280 (first ∷ second ∷ []) (asks 3 Put (codes "b") (codes "2") 0) ≡ Some Stored
  pub owner_alone : answer two_shards 2 1280 (second ∷ first ∷ []) (asks 3 Put (codes "b") (codes "2") 0) ≡ None

-- reports, byte for byte
abbrev pub put_a : Trace
put_a = trace_with 1 (asks 1 Put (codes "a") (codes "1") 0 ∷ [])

abbrev pub put_b : Trace
put_b = trace_with 1 (asks 1 Put (codes "b") (codes "1") 0 ∷ [])

pub record ReportsAreRight : Type 0 where
  pub at_home : report put_a 2 8192 ((Done 1 ∷ []) ∷ [] ∷ [])
      ≡ codes "1 stored\njournal 0 1\njournal 1\nshard 0 rows 1 live 48 lent 0 back 0\nshard 1 rows 0 live 0 lent 0 back 0\n"
  pub away : report put_b 2 8192 ([] ∷ (Done 1 ∷ []) ∷ [])
      ≡ codes "1 stored\njournal 0\njournal 1 1\nshard 0 rows 0 live 0 lent 1 back 1\nshard 1 rows 1 live 48 lent 1 back 1\n"
  pub joined : report two_shards 2 8192 (first ∷ second ∷ [])
      ≡ codes "1 stored\n2 missing\n3 stored\n4 missing\n5 stored\n6 missing\n7 keys a b c\njournal 0 1 5 7\njournal 1 2 3 4 6 7\nshard 0 rows 2 live 96 lent 2 back 2\nshard 1 rows 1 live 48 lent 2 back 2\n"

-- summaries, byte for byte: each answer is counted once, and so is each eviction
abbrev pub puts : Trace
puts = trace_with 1 (asks 1 Put (codes "a") (codes "1") 0 ∷ asks 2 Put (codes "b") (codes "2") 0 ∷ [])

abbrev pub one_of_each : Trace
one_of_each = trace_with 1 (
    asks 1 Put (codes "a") (codes "1") 0 ∷ asks 2 Put (codes "a") (codes "2") 0 ∷ asks 3 Get (codes "a") [] 0
    ∷ asks 4 Erase (codes "a") [] 0 ∷ asks 5 Get (codes "a") [] 0 ∷ asks 6 Scan (codes "a") [] 1 ∷ [])

pub record SummariesAreRight : Type 0 where
  pub each : summary one_of_each 1 8192 ((Done 1 ∷ Done 2 ∷ Done 3 ∷ Done 4 ∷ Done 5 ∷ Done 6 ∷ []) ∷ [])
      ≡ codes "commands 6\nstored 1 replaced 1 values 1 missing 1 erased 1 scans 1\nevictions 0\nshard 0 rows 0 live 0 lent 0 back 0\n"
  pub joined : summary two_shards 2 8192 (first ∷ second ∷ [])
      ≡ codes "commands 7\nstored 3 replaced 0 values 0 missing 3 erased 0 scans 1\nevictions 0\nshard 0 rows 2 live 96 lent 2 back 2\nshard 1 rows 1 live 48 lent 2 back 2\n"
  pub evicted : summary puts 1 1088 ((Done 1 ∷ Done 2 ∷ Evicted 1 ∷ []) ∷ [])
      ≡ codes "commands 2\nstored 2 replaced 0 values 0 missing 0 erased 0 scans 0\nevictions 1\nshard 0 rows 1 live 48 lent 0 back 0\n"

-- evictions: with 1,088 pages the floor is 0, and with 1,120 it is that of one dense segment

-- a row whose key is one letter
abbrev pub wide_row : ℕ → ℕ → Row
wide_row number bytes = record { key = in_table 0 (number ∷ []); value = replicate bytes 120; number = number }

-- ten rows, the last of so many bytes
abbrev pub ten_rows : ℕ → List Row
ten_rows bytes =
    wide_row 1 12000 ∷ wide_row 2 12000 ∷ wide_row 3 12000 ∷ wide_row 4 12000 ∷ wide_row 5 12000 ∷ wide_row 6 12000 ∷ wide_row 7 12000
    ∷ wide_row 8 12000 ∷ wide_row 9 12000 ∷ wide_row 10 bytes ∷ []

pub record EvictionsAreRight : Type 0 where
  pub floors : (floor 1088 1 ≡ 0) × (floor 1120 1 ≡ dense) × (floor 1280 1 ≡ 712656) × (floor 8192 1 ≡ 26368272)
  pub tight : tight_floor 1280 tickets 1 ≡ floor 1280 1
  pub oldest : IsLegal puts 1088 (Done 1 ∷ Done 2 ∷ Evicted 1 ∷ [])
  pub another : IsLegal puts 1088 (Done 1 ∷ Done 2 ∷ Evicted 2 ∷ []) → ⊥
  pub gone : IsLegal puts 1088 (Done 1 ∷ Evicted 1 ∷ Evicted 1 ∷ []) → ⊥
  pub at_floor : (live (ten_rows 10303) ≡ dense) × (can_evict 1120 1 10 (ten_rows 10303) ≡ false)
  -- one of them goes in turn, and with it gone no other may
  pub one_goes : Evicts dense (ten_rows 10304) (10 ∷ []) (take 9 (ten_rows 10304))
  pub no_more : Evicts dense (ten_rows 10304) (10 ∷ 9 ∷ []) (take 8 (ten_rows 10304)) → ⊥
  pub not_another : Evicts dense (ten_rows 10304) (9 ∷ []) (take 9 (ten_rows 10304)) → ⊥
  pub above_floor : (live (ten_rows 10304) ≡ 118784) × (can_evict 1120 1 10 (ten_rows 10304) ≡ true)

-- tables: two rows have the same bytes as their keys, and one recency holds for both

abbrev pub two_tables : Trace
two_tables = trace_with 2 (
    asks_in 3 1 Put (codes "a") (codes "1") 0 ∷ asks_in 4 2 Put (codes "a") (codes "2") 0 ∷ asks_in 3 3 Get (codes "a") [] 0
    ∷ asks_in 4 4 Scan (codes "a") [] 2 ∷ [])

abbrev pub row_in : ℕ → ℕ → Row
row_in table number = record { key = in_table table (codes "a"); value = codes "1"; number = number }

pub record TablesAreRight : Type 0 where
  pub text : report two_tables 1 1536 ((Done 1 ∷ Done 2 ∷ Done 3 ∷ Done 4 ∷ []) ∷ [])
      ≡ codes "1 stored\n2 stored\n3 value 1\n4 keys a\njournal 0 1 2 3 4\nshard 0 rows 2 live 96 lent 0 back 0\n"
  -- of another table nothing is found, taken away or looked up
  pub not_found : (apply (asks_in 3 3 Get (codes "a") [] 0) (row_in 4 1 ∷ [])).1 ≡ Missing
  pub other_stays : apply (asks_in 3 3 Erase (codes "a") [] 0) (row_in 4 2 ∷ row_in 3 1 ∷ []) ≡ (row_in 4 2 ∷ [], Erased)
  pub no_further : (apply (asks_in 3 3 Scan (codes "a") [] 2) (row_in 4 2 ∷ row_in 3 1 ∷ [])).1 ≡ Keys (codes "a" ∷ [])
  -- each region has an active segment: with 1,312 pages the floor of eight is 0, and of one it is not
  pub floors : (floor 1312 8 ≡ 0) × (floor 1536 8 ≡ 831432) × (floor 8192 8 ≡ 25536840)
  pub tight : tight_floor 1536 tickets 8 ≡ floor 1536 8
  pub one_region : IsLegal puts 1312 (Done 1 ∷ Done 2 ∷ Evicted 1 ∷ []) → ⊥
  -- the row used longest ago goes, whatever its table
  pub oldest : IsLegal two_tables 1312 (Done 1 ∷ Done 2 ∷ Evicted 1 ∷ [])
  pub another : IsLegal two_tables 1312 (Done 1 ∷ Done 2 ∷ Evicted 2 ∷ []) → ⊥
  pub used_later : IsLegal two_tables 1312 (Done 1 ∷ Done 2 ∷ Done 3 ∷ Evicted 2 ∷ [])
