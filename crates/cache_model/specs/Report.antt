-- The report, and when bytes are a legal one.
use Rattle.std.specs.Prelude.{◌≡◌, ℕ, ◌==◌, ◌+◌, ◌^◌, ◌<◌, All, List, [], ◌∷◌, ◌++◌, length, map, flat_map, filter_map, sum_by, codes, decimal, if◌then◌else◌, unwrap_or}
use Rattle.std.specs.List.{slice_get, slice_index_or, slice_split, enumerate_from, range_with_len}
use Rattle.std.specs.Option.{option_map}
use Rattle.trace_text.specs.Parts.{parts}
use Rattle.trace_text.specs.Trace.{Trace}
use Rattle.cache_model.specs.declared.entry.Entry.{Entry}
use Rattle.cache_model.specs.declared.entry.Entry.TheVariants.{Done, Evicted}
use Rattle.rows.specs.Row.{live}
use Rattle.rows.specs.Apply.{Reply, Stored, Replaced, Value, Missing, Erased, Keys}
use Rattle.cache_model.specs.Legal.{cache_after, IsLegal, IsComplete}
use Rattle.cache_model.specs.Answer.{answer}

-- the text of a line, and its LF
abbrev pub line : List ℕ → List ℕ
line text = text ++ 10 ∷ []

abbrev pub reply_text : Reply → List ℕ
reply_text Stored = codes "stored"
reply_text Replaced = codes "replaced"
reply_text (Value value) = codes "value " ++ value
reply_text Missing = codes "missing"
reply_text Erased = codes "erased"
reply_text (Keys keys) = codes "keys" ++ flat_map (λ key. 32 ∷ key) keys

-- the number of a command and its answer
abbrev pub answer_text : ℕ × Reply → List ℕ
answer_text (number, reply) = decimal number ++ 32 ∷ reply_text reply

abbrev pub entry_text : Entry → List ℕ
entry_text (Done i) = decimal i
entry_text (Evicted q) = codes "!" ++ decimal q

abbrev pub number_of : Entry → ℕ
number_of (Done i) = i
number_of (Evicted q) = q

-- commands are numbered in 32 bits
abbrev pub HasNumbers : List Entry → Type 0
HasNumbers journal = All (λ entry. number_of entry < 2 ^ 32) journal

abbrev pub journal_text : ℕ × List Entry → List ℕ
journal_text (shard, journal) = codes "journal " ++ decimal shard ++ flat_map (λ entry. 32 ∷ entry_text entry) journal

-- what a report says of a shard at the end
pub record Occupancy : Type 0 where
  pub rows : ℕ
  pub live : ℕ
  -- blocks lent, and taken back
  pub lent : ℕ
  pub back : ℕ

abbrev pub occupancy_text : ℕ × Occupancy → List ℕ
occupancy_text (shard, occupancy) =
    codes "shard " ++ decimal shard ++ codes " rows " ++ decimal occupancy.rows ++ codes " live " ++ decimal occupancy.live
    ++ codes " lent " ++ decimal occupancy.lent ++ codes " back " ++ decimal occupancy.back

-- the text of a report: the answers, then the journals, then the occupancy of the shards
abbrev pub report_of : List (ℕ × Reply) → List (List Entry) → List Occupancy → List ℕ
report_of answers journals occupancies =
    flat_map (λ answer. line (answer_text answer)) answers
    ++ flat_map (λ journal. line (journal_text journal)) (enumerate_from 0 journals)
    ++ flat_map (λ occupancy. line (occupancy_text occupancy)) (enumerate_from 0 occupancies)

-- the answers to the commands, by number
abbrev pub answers : Trace → ℕ → ℕ → List (List Entry) → List (ℕ × Reply)
answers trace n pages journals =
    filter_map (λ operation. option_map (λ reply. (operation.number, reply)) (answer trace n pages journals operation)) trace.operations

-- the blocks that shard s lends: one for each part that it issues to another shard, and one for each part that
-- it does for another shard
abbrev pub lent : Trace → ℕ → ℕ → ℕ
lent trace n s =
    sum_by (λ q. if q == s then 0 else length (parts trace n s q)) (range_with_len 0 n)
    + sum_by (λ o. if o == s then 0 else length (parts trace n o s)) (range_with_len 0 n)

abbrev pub occupancy : Trace → ℕ → ℕ → ℕ × List Entry → Occupancy
occupancy trace n pages (s, journal) =
    let cache = unwrap_or (cache_after trace pages journal) [] in
    record { rows = length cache; live = live cache; lent = lent trace n s; back = lent trace n s }

-- the report of one journal per shard, n of them, each shard with so many pages
abbrev pub report : Trace → ℕ → ℕ → List (List Entry) → List ℕ
report trace n pages journals = report_of (answers trace n pages journals) journals
    (map (occupancy trace n pages) (enumerate_from 0 journals))

abbrev pub text_lines : List ℕ → List (List ℕ)
text_lines bytes = slice_split (λ b. b == 10) bytes

-- the lines behind the answers, one to each command, are those of these journals, one to each of n shards
pub record PrintsJournals (trace : Trace) (n : ℕ) (bytes : List ℕ) (journals : List (List Entry)) : Type 0 where
  pub shards : length journals ≡ n
  pub spelled : (s : ℕ) → s < n →
      slice_get (text_lines bytes) (length trace.operations + s) ≡ option_map (λ journal. journal_text (s, journal)) (slice_get journals s)

-- The bytes are a legal report of the trace, and print these journals behind the answers: each is legal and
-- complete for its shard, and the report of these journals is, byte for byte, the one at hand.
pub record IsReportOf (trace : Trace) (n pages : ℕ) (bytes : List ℕ) (journals : List (List Entry)) : Type 0 where
  pub printed : PrintsJournals trace n bytes journals
  pub legal : (s : ℕ) (d : List Entry) → s < n → IsLegal trace pages (slice_index_or journals s d)
  pub complete : (s : ℕ) (d : List Entry) → s < n → IsComplete trace n s (slice_index_or journals s d)
  pub text : bytes ≡ report trace n pages journals

abbrev pub IsLegalReport : Trace → ℕ → ℕ → List ℕ → Type 0
IsLegalReport trace n pages bytes = (journals : List (List Entry)) × IsReportOf trace n pages bytes journals
