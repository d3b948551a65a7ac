-- The summary: how many commands were answered how, how many rows were evicted, and what each shard holds.
use Rattle.std.specs.Prelude.{◌≡◌, ℕ, Bool, true, false, List, ◌++◌, length, map, flat_map, count_by, sum_by, codes, decimal}
use Rattle.std.specs.List.{enumerate_from}
use Rattle.trace_text.specs.Trace.{Trace}
use Rattle.cache_model.specs.declared.entry.Entry.{Entry}
use Rattle.cache_model.specs.declared.entry.Entry.TheVariants.{Done, Evicted}
use Rattle.rows.specs.Apply.{Reply, Stored, Replaced, Value, Missing, Erased, Keys}
use Rattle.cache_model.specs.Report.{Occupancy, answers, line, occupancy, occupancy_text}

-- which answer it is; a put is answered stored or replaced, and never both
abbrev pub is_stored : Reply → Bool
is_stored Stored = true
is_stored reply = false

abbrev pub is_replaced : Reply → Bool
is_replaced Replaced = true
is_replaced reply = false

abbrev pub is_value : Reply → Bool
is_value (Value value) = true
is_value reply = false

abbrev pub is_missing : Reply → Bool
is_missing Missing = true
is_missing reply = false

abbrev pub is_erased : Reply → Bool
is_erased Erased = true
is_erased reply = false

abbrev pub is_keys : Reply → Bool
is_keys (Keys keys) = true
is_keys reply = false

-- how many answers there are of each kind
pub record Tally : Type 0 where
  pub stored : ℕ
  pub replaced : ℕ
  pub values : ℕ
  pub missing : ℕ
  pub erased : ℕ
  pub scans : ℕ

abbrev pub tally : List (ℕ × Reply) → Tally
tally answers = record {
  stored = count_by (λ answer. is_stored answer.1) answers;
  replaced = count_by (λ answer. is_replaced answer.1) answers;
  values = count_by (λ answer. is_value answer.1) answers;
  missing = count_by (λ answer. is_missing answer.1) answers;
  erased = count_by (λ answer. is_erased answer.1) answers;
  scans = count_by (λ answer. is_keys answer.1) answers;
}

abbrev pub tally_text : Tally → List ℕ
tally_text tally =
    codes "stored " ++ decimal tally.stored ++ codes " replaced " ++ decimal tally.replaced ++ codes " values " ++ decimal tally.values
    ++ codes " missing " ++ decimal tally.missing ++ codes " erased " ++ decimal tally.erased ++ codes " scans " ++ decimal tally.scans

-- how many rows were evicted, by all journals
abbrev pub is_evicted : Entry → Bool
is_evicted (Done i) = false
is_evicted (Evicted q) = true

abbrev pub evictions : List (List Entry) → ℕ
evictions journals = sum_by (λ journal. count_by is_evicted journal) journals

-- the text of a summary: three lines, and then the occupancy of the shards as a report has it
abbrev pub summary_of : List (ℕ × Reply) → List (List Entry) → List Occupancy → List ℕ
summary_of answers journals occupancies =
    line (codes "commands " ++ decimal (length answers))
    ++ line (tally_text (tally answers))
    ++ line (codes "evictions " ++ decimal (evictions journals))
    ++ flat_map (λ occupancy. line (occupancy_text occupancy)) (enumerate_from 0 occupancies)

-- the summary of one journal per shard, n of them, each shard with so many pages
abbrev pub summary : Trace → ℕ → ℕ → List (List Entry) → List ℕ
summary trace n pages journals = summary_of (answers trace n pages journals) journals
    (map (occupancy trace n pages) (enumerate_from 0 journals))

abbrev pub IsSummaryOf : Trace → ℕ → ℕ → List ℕ → List (List Entry) → Type 0
IsSummaryOf trace n pages bytes journals = bytes ≡ summary trace n pages journals
