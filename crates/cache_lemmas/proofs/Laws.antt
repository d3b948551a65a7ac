-- Laws of journals, answers and reports.
use Rattle.std.specs.Prelude.{◌≡◌, ◌==◌, ◌+◌, ◌*◌, ◌<◌, ◌≤◌, if◌then◌else◌, ℕ, Bool, true, false, List, [], ◌∷◌, ◌++◌, length, map, filter, Some, All, IsSome}
use Rattle.std.specs.List.{list_any, slice_get, slice_index_or, enumerate_from}
use Rattle.std.specs.Option.{option_map}
use Rattle.std.proofs.Common.{refl}
use Rattle.layout.specs.Sizes.{dense}
use Rattle.rows.specs.Apply.{Reply, apply, HasDistinctKeys}
use Rattle.rows.specs.Bodies.{most_of_body}
use Rattle.rows.specs.Evictions.{Evicts}
use Rattle.rows.specs.Fits.{Fits}
use Rattle.rows.specs.Holds.{PutHolds, RowsHold, ReplyHolds}
use Rattle.rows.specs.Spelled.{IsKey, spelled}
use Rattle.rows.specs.Key.{Key}
use Rattle.rows.specs.Operation.{Operation, is_scan}
use Rattle.rows.specs.Row.{Row, floor, tight_floor}
use Rattle.trace_text.specs.Parts.{longest_value, origin, own_parts, parts}
use Rattle.trace_text.specs.Trace.{Trace, regions}
use Rattle.cache_model.specs.declared.entry.Entry.{Entry as JournalEntry}
use Rattle.cache_model.specs.declared.entry.Entry.TheVariants.{Done, Evicted}
use Rattle.cache_model.specs.Answer.{answer, answer_from}
use Rattle.cache_model.specs.Bodies.{HasKeys, HasShortKeys}
use Rattle.cache_model.specs.Holds.{PutsHold, PutBytesHold, ReplyBytesHold}
use Rattle.cache_model.specs.Legal.{EvictsAbove, IsLegal, cache_after, cache_from, command_of, done, is_done, reply_at}
use Rattle.cache_model.specs.Logged.{AreLogged}
use Rattle.cache_model.specs.ReadOff.{IsReadInLogs}
use Rattle.cache_model.specs.Replied.{HoldTheReplies}
use Rattle.cache_model.specs.OwnParts.{Log, issued_parts, parts_before, parts_of}
use Rattle.cache_model.specs.Report.{HasNumbers, Occupancy, PrintsJournals, answers, answer_text, journal_text, occupancy_text, report_of, text_lines}
use Rattle.cache_model.specs.Unbroken.{IsUnbroken}
use Rattle.cache_lemmas.proofs.Distinct.{distinct-after}
use Rattle.cache_lemmas.proofs.Journals.{evicts-done, kept, leads, number_is_done, replied_at_end, replies-each}
use Rattle.cache_lemmas.proofs.Evictions.{above, legal, low}
use Rattle.cache_lemmas.proofs.Holds.{answer-holds, reply-holds, rows-hold}
use Rattle.cache_lemmas.proofs.Bodies.{reply-fits}
use Rattle.cache_lemmas.proofs.TextLines.{journal_line, report_lines}
use Rattle.cache_lemmas.proofs.Printed.{same_journals}
use Rattle.cache_lemmas.proofs.OneShard.{answer_is_reply, fitting_answer, one_part_each, one_part_of}
use Rattle.cache_lemmas.proofs.OwnParts.{issued_parts-count, issued_parts-peer}
use Rattle.cache_lemmas.proofs.ReadBack.{parts_most, parts_next, answer_each, is-read}
use Rattle.cache_lemmas.proofs.Logged.{reply-fits as logged-fits, are-logged}
use Rattle.cache_lemmas.proofs.RowLaws.{FittingLaws}
use Rattle.row_lemmas.proofs.Laws.{parts_keep_keys_distinct, other_rows_are_distinct-front, parts_hold_what_was_put, scanned_keys_are_in_order-among, scanned_keys_are_in_order-stay, rising_keys_are_in_order, replies_fit_their_operations}

-- No two rows of the cache to which a journal leads have one key.
pub keys_are_distinct : (trace : Trace) (pages : ℕ) (journal : List JournalEntry) (cache : List Row)
    → cache_after trace pages journal ≡ Some cache → HasDistinctKeys cache
keys_are_distinct trace pages journal cache leads =
    distinct-after parts_keep_keys_distinct other_rows_are_distinct-front trace pages journal cache leads

-- A journal goes on from the cache to which it leads, and what was replied in it stays so. A command that is done at its
-- end, and was not before, has the reply that it has on that cache.
pub a_journal_goes_on-leads : (trace : Trace) (pages : ℕ) (journal entries : List JournalEntry) (cache : List Row)
    → cache_after trace pages journal ≡ Some cache
    → cache_after trace pages (journal ++ entries) ≡ cache_from trace pages cache entries
a_journal_goes_on-leads trace pages journal entries cache e = leads trace pages journal entries cache e

pub a_journal_goes_on-kept : (trace : Trace) (pages : ℕ) (journal entries : List JournalEntry) (i : ℕ) (reply : Reply)
    → reply_at trace pages journal i ≡ Some reply → reply_at trace pages (journal ++ entries) i ≡ Some reply
a_journal_goes_on-kept trace pages journal entries i reply e = kept trace pages journal entries i reply e

pub a_journal_goes_on-replied : (trace : Trace) (pages i : ℕ) (journal : List JournalEntry) (cache : List Row) (operation : Operation)
    → list_any (is_done i) journal ≡ false → command_of trace i ≡ Some operation
    → cache_after trace pages journal ≡ Some cache
    → reply_at trace pages (journal ++ Done i ∷ []) i ≡ Some (apply operation cache).1
a_journal_goes_on-replied trace pages i journal cache operation none command e = replied_at_end trace pages i journal cache operation none command e

pub a_journal_goes_on-evicts : (trace : Trace) (pages bound i : ℕ) (journal : List JournalEntry)
    → EvictsAbove trace pages bound journal → EvictsAbove trace pages bound (journal ++ Done i ∷ [])
a_journal_goes_on-evicts trace pages bound i journal so_far = evicts-done trace pages bound i journal so_far

pub a_journal_goes_on-number : (i : ℕ) (journal : List JournalEntry) → list_any (is_done i) journal ≡ list_any (λ j. j == i) (done journal)
a_journal_goes_on-number i journal = number_is_done i journal

-- A legal journal replies to each command that is done in it.
pub a_legal_journal_replies : (trace : Trace) (pages i : ℕ) (journal : List JournalEntry) (operation : Operation)
    → IsLegal trace pages journal → list_any (is_done i) journal ≡ true → command_of trace i ≡ Some operation → IsSome (reply_at trace pages journal i)
a_legal_journal_replies trace pages i journal operation legal any command = replies-each trace pages i journal operation legal any command

-- Evictions in turn above a bound that is at least the floor are legal, and stand above the bound in the journal that
-- they go on from.
pub evictions_in_turn_are_legal-legal : (trace : Trace) (pages bound : ℕ) (cache rest : List Row) (puts : List ℕ)
    → Evicts bound cache puts rest → floor pages (regions trace) ≤ bound → cache_from trace pages cache (map Evicted puts) ≡ Some rest
evictions_in_turn_are_legal-legal trace pages bound cache rest puts evicts at_least = legal trace pages bound cache rest puts evicts at_least

pub evictions_in_turn_are_legal-above : (trace : Trace) (pages bound : ℕ) (journal : List JournalEntry) (cache rest : List Row) (puts : List ℕ)
    → cache_after trace pages journal ≡ Some cache → EvictsAbove trace pages bound journal
    → Evicts bound cache puts rest → floor pages (regions trace) ≤ bound → EvictsAbove trace pages bound (journal ++ map Evicted puts)
evictions_in_turn_are_legal-above trace pages bound journal cache rest puts e so_far evicts at_least =
    above trace pages bound journal cache rest puts e so_far evicts at_least

pub evictions_in_turn_are_legal-pressure : (pages count : ℕ) → floor pages count ≤ tight_floor pages 0 count + dense
evictions_in_turn_are_legal-pressure pages count = low pages count

-- What holds of the keys and the values of a trace's puts holds of each row of a cache to which a journal leads, and of
-- the value or the keys in each reply and each answer.
pub replies_hold_what_was_put-part : (on_key : Key → Bool) (on_value : List ℕ → Bool) (operation : Operation) (cache : List Row)
    → PutHolds on_key on_value operation → RowsHold on_key on_value cache
    → RowsHold on_key on_value (apply operation cache).0 × ReplyHolds on_key on_value operation.key.table (apply operation cache).1
replies_hold_what_was_put-part k v operation cache put holds = parts_hold_what_was_put k v operation cache put holds

pub replies_hold_what_was_put-rows : (on_key : Key → Bool) (on_value : List ℕ → Bool) (trace : Trace) (pages : ℕ) (journal : List JournalEntry)
    (cache : List Row)
    → PutsHold on_key on_value trace → cache_after trace pages journal ≡ Some cache → RowsHold on_key on_value cache
replies_hold_what_was_put-rows k v trace pages journal cache puts leads = rows-hold parts_hold_what_was_put k v trace pages journal cache puts leads

pub replies_hold_what_was_put-replies : (on_key : Key → Bool) (on_value : List ℕ → Bool) (trace : Trace) (pages : ℕ) (journal : List JournalEntry) (i : ℕ)
    (operation : Operation) (reply : Reply)
    → PutsHold on_key on_value trace → command_of trace i ≡ Some operation → reply_at trace pages journal i ≡ Some reply
    → ReplyHolds on_key on_value operation.key.table reply
replies_hold_what_was_put-replies k v trace pages journal i operation reply puts is e =
    reply-holds parts_hold_what_was_put k v trace pages journal i operation reply puts is e

-- of the answers, where the test is one of the bytes of keys
pub replies_hold_what_was_put-answers : (on_bytes on_value : List ℕ → Bool) (trace : Trace) (n pages : ℕ) (journals : List (List JournalEntry))
    (operation : Operation) (reply : Reply)
    → PutBytesHold on_bytes on_value trace → answer trace n pages journals operation ≡ Some reply → ReplyBytesHold on_bytes on_value reply
replies_hold_what_was_put-answers k v trace n pages journals operation reply puts e =
    answer-holds parts_hold_what_was_put scanned_keys_are_in_order-among k v trace n pages journals operation reply puts e

-- The body of a reply is no longer than the greatest value of a trace, or than the room of each key that is asked.
pub bodies_have_room : (trace : Trace) (pages : ℕ) (journal : List JournalEntry) (operation : Operation) (reply : Reply)
    → HasShortKeys trace → command_of trace operation.number ≡ Some operation
    → reply_at trace pages journal operation.number ≡ Some reply
    → length (spelled reply).1 ≤ most_of_body (longest_value trace) operation
bodies_have_room trace pages journal operation reply short is e =
    reply-fits parts_hold_what_was_put trace pages journal operation reply short is e

-- Where no reply has an LF, the lines of a report are the texts that it is made of, and behind the answers there is one
-- line for each journal.
pub a_report_has_its_lines-lines : (answers : List (ℕ × Reply)) (journals : List (List JournalEntry)) (occupancies : List Occupancy)
    → All (λ answer. IsUnbroken answer.1) answers
    → text_lines (report_of answers journals occupancies)
    ≡ map answer_text answers ++ (map journal_text (enumerate_from 0 journals) ++
    (map occupancy_text (enumerate_from 0 occupancies) ++ [] ∷ []))
a_report_has_its_lines-lines answers journals occupancies unbroken = report_lines answers journals occupancies unbroken

pub a_report_has_its_lines-journals : (answers : List (ℕ × Reply)) (journals : List (List JournalEntry)) (occupancies : List Occupancy) (s : ℕ)
    → All (λ answer. IsUnbroken answer.1) answers → s < length journals
    → slice_get (text_lines (report_of answers journals occupancies)) (length answers + s)
    ≡ option_map (λ journal. journal_text (s, journal)) (slice_get journals s)
a_report_has_its_lines-journals answers journals occupancies s unbroken below = journal_line answers journals occupancies (length answers) s unbroken refl below

-- Printed lines spell at most one list of journals, where commands are numbered in 32 bits.
pub lines_print_one_list : (trace : Trace) (n : ℕ) (bytes : List ℕ) (journals others : List (List JournalEntry))
    → PrintsJournals trace n bytes journals → PrintsJournals trace n bytes others
    → All HasNumbers journals → All HasNumbers others → journals ≡ others
lines_print_one_list trace n bytes journals others printed others-printed small others-small = same_journals trace n bytes journals others printed others-printed small others-small

-- With one shard the parts are the commands, and the answer to a command is the reply in its journal, or one that fits
-- its command: joining the one reply to a scan changes nothing.
pub one_shard_answers_alone-part : (operation : Operation) → parts_of 1 operation ≡ (operation.number, 0) ∷ []
one_shard_answers_alone-part operation = one_part_of operation

pub one_shard_answers_alone-parts : (trace : Trace) → issued_parts trace 1 0 ≡ map (λ operation. (operation.number, 0)) trace.operations
one_shard_answers_alone-parts trace = one_part_each trace.operations

pub one_shard_answers_alone-answers : (trace : Trace) (pages : ℕ) (journal : List JournalEntry) (operation : Operation) (reply : Reply)
    → command_of trace operation.number ≡ Some operation → reply_at trace pages journal operation.number ≡ Some reply
    → answer trace 1 pages (journal ∷ []) operation ≡ Some reply
one_shard_answers_alone-answers trace pages journal operation reply is replied =
    answer_is_reply scanned_keys_are_in_order-stay trace pages journal operation reply is replied

pub one_shard_answers_alone-fitting : (longest : ℕ) (operation : Operation) (reply : Reply) → Fits longest operation reply
    → answer_from 1 operation (Some reply ∷ []) ≡ Some reply
one_shard_answers_alone-fitting longest operation reply fits =
    fitting_answer rising_keys_are_in_order operation.kind longest operation reply fits

-- The list of the parts that a shard issues has their count as its length, and those that one shard does among them are
-- the parts of that peer.
pub issued_parts_are_counted-count : (trace : Trace) (n o : ℕ) → length (issued_parts trace n o) ≡ own_parts trace n o
issued_parts_are_counted-count trace n o = issued_parts-count trace n o

pub issued_parts_are_counted-peer : (trace : Trace) (n o q : ℕ) → q < n
    → map (λ part. part.0) (filter (λ part. part.1 == q) (issued_parts trace n o)) ≡ parts trace n o q
issued_parts_are_counted-peer trace n o q below = issued_parts-peer trace n o q below

-- How many parts a shard issued before a command, with so many shards: they go up by the parts of the commands that it
-- issues.
pub parts_go_up_by_command-next : (trace : Trace) (n o i : ℕ) (d : Operation) → i < length trace.operations
    → parts_before trace n o (i + 1) ≡ parts_before trace n o i
    + (if origin (slice_index_or trace.operations i d).number n == o then
    (if is_scan (slice_index_or trace.operations i d).kind then n else 1) else 0)
parts_go_up_by_command-next trace n o i d below = parts_next trace n o i d below

pub parts_go_up_by_command-most : (trace : Trace) (n o i : ℕ) → 1 ≤ n → parts_before trace n o i ≤ i * n
parts_go_up_by_command-most trace n o i some = parts_most trace n o i some

-- Each command has one answer, and it is read from the log of the command's origin, behind the parts that were issued
-- before.
pub answers_are_read_by_command-count : (trace : Trace) (n : ℕ) (logs : List Log) (answers : List (ℕ × Reply))
    → AreLogged trace n logs answers → length answers ≡ length trace.operations
answers_are_read_by_command-count trace n logs answers logged = answer_each trace n logs answers logged

pub answers_are_read_by_command-read : (trace : Trace) (n i : ℕ) (logs : List Log) (answers : List (ℕ × Reply))
    (d : Operation) (e : Log) (f : ℕ × Reply)
    → AreLogged trace n logs answers → 1 ≤ n → i < length trace.operations
    → IsReadInLogs trace n i (slice_index_or trace.operations i d) logs e (slice_index_or answers i f)
answers_are_read_by_command-read trace n i logs answers d e f logged some below = is-read trace n i logs answers d e f logged some below

-- The reply to a part fits its command: on a cache whose rows have different keys, as long as a trace's keys are, and no
-- longer values than `longest`; and at its entry in a journal.
pub replies_fit_their_commands-part : (longest : ℕ) (operation : Operation) (cache : List Row)
    → HasDistinctKeys cache → All (λ row. IsKey row.key.bytes) cache → All (λ row. length row.value ≤ longest) cache
    → Fits longest operation (apply operation cache).1
replies_fit_their_commands-part longest operation cache distinct keyed short =
    replies_fit_their_operations longest operation cache distinct keyed short

pub replies_fit_their_commands-journal : (trace : Trace) (pages : ℕ) (journal : List JournalEntry) (operation : Operation) (reply : Reply)
    → HasKeys trace → command_of trace operation.number ≡ Some operation
    → reply_at trace pages journal operation.number ≡ Some reply
    → Fits (longest_value trace) operation reply
replies_fit_their_commands-journal trace pages journal operation reply keyed is replied =
    let laws : FittingLaws = record {
      distinct = parts_keep_keys_distinct;
      front = other_rows_are_distinct-front;
      hold = parts_hold_what_was_put;
      fit = replies_fit_their_operations;
    } in
    logged-fits laws trace pages journal operation reply keyed is replied

-- Where the journals of n shards reply to each part, and the logs hold these replies, the logs hold the answers.
pub logs_hold_the_answers : (trace : Trace) (n pages : ℕ) (journals : List (List JournalEntry)) (logs : List Log)
    → HoldTheReplies trace n pages journals logs → AreLogged trace n logs (answers trace n pages journals)
logs_hold_the_answers trace n pages journals logs held =
    let laws : FittingLaws = record {
      distinct = parts_keep_keys_distinct;
      front = other_rows_are_distinct-front;
      hold = parts_hold_what_was_put;
      fit = replies_fit_their_operations;
    } in
    are-logged laws trace n pages journals logs held
