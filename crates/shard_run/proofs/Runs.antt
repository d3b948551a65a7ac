-- What nodes that agree leave is a finished run.
use Rattle.std.proofs.Common.{◌≡◌, ℕ, suc, ◌+◌, ◌≤◌, IsSome, List, [], ◌∷◌, length, map, Some, slice_get, refl, sym, ap, subst, ◌∙◌, arith}
use Rattle.std.specs.List.{All, enumerate_from, slice_index_or}
use Rattle.std.specs.Prelude.{unwrap_or}
use mathlib.Core.List.{map-map}
use Rattle.std.proofs.lemmas.List.{length-map}
use Rattle.layout.specs.Sizes.{dense}
use Rattle.trace_text.specs.Parts.{most_shards}
use Rattle.trace_text.specs.Reading.{most_commands}
use Rattle.trace_text.specs.Trace.{Trace, regions}
use Rattle.cache_model.specs.declared.entry.Entry.{Entry}
use Rattle.cache_model.specs.Bodies.{HasKeys}
use Rattle.cache_model.specs.Legal.{EvictsAbove, IsComplete, IsLegal, cache_after, command_of}
use Rattle.cache_model.specs.Logged.{AreLogged}
use Rattle.cache_model.specs.Replied.{HoldTheReplies}
use Rattle.cache_model.specs.OwnParts.{HoldsReplies, Log, part_reply, parts_of}
use Rattle.cache_model.specs.Report.{answers, lent, occupancy}
use Rattle.rows.specs.Row.{live, tight_floor}
use Rattle.foreign_list.specs.Lists.{OwnedList}
use Rattle.run_log.specs.JournalState.{JournalState}
use Rattle.shard_rings.specs.Links.{LinkState, traffic_of}
use Rattle.shard_node.specs.Nodes.{NodeState}
use Rattle.run_log.specs.Runs.{IsFinished, IsOfRun, journals_in, occupancies_in, occupancy_in, replies_in}
use Rattle.shard_node.specs.Lines.{line_of}
use Rattle.shard_node.specs.Standing.{InStanding}
use Rattle.shard_node.specs.Together.{Agree, journals_of as journals_by, logs_of as logs_by}
use Rattle.shard_run.specs.Remaining.{AreLeftBy}
use Rattle.shard_run.specs.Running.{WereDriven}
use Rattle.shard_run.specs.declared.remains.Remains.{Remains}
use Rattle.shard_run.proofs.Driven.{as_many, was_opened}
use Rattle.shard_run.proofs.Getting.{all_at, all_mapped}
use Rattle.shard_run.proofs.LentBlocks.{few_lent}

-- the law of logs, as its function promises it
abbrev pub LogLaw : Type 0
LogLaw = (trace : Trace) (n pages : ℕ) (journals : List (List Entry)) (logs : List Log) → HoldTheReplies trace n pages journals logs
    → AreLogged trace n logs (answers trace n pages journals)

-- two lists made of one, place by place
pub one_by_one : {X Y Z : Type 0} (f : X → Y) (g : X → Z) (h : ℕ × Z → Y) (at : ℕ) (xs : List X) → ((k : ℕ) (x : X) → slice_get xs k ≡ Some x → f x ≡ h (at + k, g x))
    → map f xs ≡ map h (enumerate_from at (map g xs))
one_by_one f g h at [] each = refl
one_by_one {X} f g h at (x ∷ xs) each =
    let first : f x ≡ h (at, g x) = each 0 x refl ∙ ap (λ j. h (j, g x)) (let e : at + 0 ≡ at = omega arith in e) in
    let rest = one_by_one f g h (at + 1) xs (λ k y here. each (k + 1) y (get_later x xs k y here) ∙ ap (λ j. h (j, g y)) (let e : at + (k + 1) ≡ at + 1 + k = omega arith in e)) in
    ap (λ y. y ∷ map f xs) first ∙ ap (λ l. h (at, g x) ∷ l) rest
  where
    get_later : (x : X) (xs : List X) (k : ℕ) (y : X) → slice_get xs k ≡ Some y → slice_get (x ∷ xs) (k + 1) ≡ Some y
    get_later x xs k y here = subst (λ j. slice_get (x ∷ xs) j ≡ Some y) (let e : suc k ≡ k + 1 = omega arith in e) here

module _ {G : Type 0} (holds : G → ℕ) (trace : Trace) (n pages : ℕ) (homes : List OwnedList) (nodes : List (NodeState LinkState G)) (d : WereDriven holds trace n pages homes nodes)
    (remains : Remains) (left : AreLeftBy nodes remains) (of_run : IsOfRun trace (length nodes) pages remains.ran) where
  same_journals : journals_in remains.ran.journals ≡ journals_by nodes
  same_journals = ap (map (λ (journal : JournalState). journal.entries)) left.journals ∙ map-map (λ (journal : JournalState). journal.entries) (λ node. node.journal) nodes

  same_logs : replies_in remains.ran.logs ≡ logs_by nodes
  same_logs = ap (map (λ log. log.replies)) left.logs ∙ map-map (λ log. log.replies) (λ node. node.log) nodes

  pressure : n ≡ 1 → All (EvictsAbove trace pages (tight_floor pages 0 (regions trace) + dense)) (journals_in remains.ran.journals)
  pressure one = subst (λ l. All (EvictsAbove trace pages (tight_floor pages 0 (regions trace) + dense)) l) (sym same_journals)
      (all_mapped (EvictsAbove trace pages (tight_floor pages 0 (regions trace) + dense)) (λ node. node.journal.entries) nodes (λ s node at.
      let was = was_opened holds trace n pages homes nodes d s node at in
      let stands = all_at (InStanding traffic_of) nodes s node d.standing at in
      let evicts = stands.journal.pressure (was.kept.shards ∙ was.as_opened.shards ∙ one) in
      let room : node.pages ≡ pages = was.kept.pages ∙ was.as_opened.room in
      subst (λ p. EvictsAbove trace p (tight_floor p 0 (regions trace) + dense) node.journal.entries) room
      (subst (λ t. EvictsAbove t node.pages (tight_floor node.pages 0 (regions t) + dense) node.journal.entries) (was.kept.trace ∙ was.as_opened.work) evicts)))

  module _ (agree : Agree traffic_of trace n pages nodes) (few : n ≤ most_shards) (short : length trace.operations ≤ most_commands) where
    occupied_at : (s : ℕ) (node : NodeState LinkState G) → slice_get nodes s ≡ Some node → occupancy_in (line_of node.store) ≡ occupancy trace n pages (0 + s, node.journal.entries)
    occupied_at s node at =
        let blocks = agree.occupied s node at in
        let exact = few_lent trace n s few short in
        let cache : node.store.rows ≡ unwrap_or (cache_after trace pages node.journal.entries) [] = sym (ap (λ rows. unwrap_or rows []) (agree.cache s node at)) in
        let place : s ≡ 0 + s = omega arith in
        let lends = blocks.0 ∙ (exact ∙ ap (lent trace n) place) in
        let backs = blocks.1 ∙ (exact ∙ ap (lent trace n) place) in
        ap (λ rows. (record { rows = length rows; live = live rows; lent = node.store.lends; back = node.store.backs })) cache
        ∙ (ap (λ k. (record { rows = length (unwrap_or (cache_after trace pages node.journal.entries) []); live = live (unwrap_or (cache_after trace pages node.journal.entries) []); lent = k; back = node.store.backs })) lends
        ∙ ap (λ k. (record { rows = length (unwrap_or (cache_after trace pages node.journal.entries) []); live = live (unwrap_or (cache_after trace pages node.journal.entries) []); lent = lent trace n (0 + s); back = k })) backs)

    occupied : occupancies_in remains.ran.lines ≡ map (occupancy trace n pages) (enumerate_from 0 (journals_in remains.ran.journals))
    occupied =
        ap occupancies_in left.lines ∙ (map-map occupancy_in (λ node. line_of node.store) nodes
        ∙ (one_by_one (λ node. occupancy_in (line_of node.store)) (λ node. node.journal.entries) (occupancy trace n pages) 0 nodes occupied_at
        ∙ ap (λ journals. map (occupancy trace n pages) (enumerate_from 0 journals)) (sym same_journals)))

    counted : length remains.ran.journals ≡ n
    counted = ap length left.journals ∙ (length-map nodes (λ node. node.journal) ∙ as_many holds trace n pages homes nodes d)

    -- the journals reply to each part, and the logs hold these replies
    holding : HasKeys trace → All (λ operation. command_of trace operation.number ≡ Some operation) trace.operations
        → HoldTheReplies trace n pages (journals_in remains.ran.journals) (replies_in remains.ran.logs)
    holding keys commands = record {
      one_journal_each = length-map remains.ran.journals (λ journal. journal.entries) ∙ counted;
      keys = keys;
      commands = commands;
      replied = subst (λ l. All (λ operation. All (λ part. IsSome (part_reply trace pages l part)) (parts_of n operation)) trace.operations) (sym same_journals) agree.replied;
      logged = λ o e below.
          subst (λ l. HoldsReplies trace n o (part_reply trace pages l) (slice_index_or (replies_in remains.ran.logs) o e)) (sym same_journals)
          (subst (λ l. HoldsReplies trace n o (part_reply trace pages (journals_by nodes)) (slice_index_or l o e)) (sym same_logs) (agree.logged o e below));
    }

    pub is_finished : LogLaw → HasKeys trace → All (λ operation. command_of trace operation.number ≡ Some operation) trace.operations
        → IsFinished trace n pages remains.ran
    is_finished law keys commands =
        let entries = length-map remains.ran.journals (λ journal. journal.entries) in
        let legal : All (IsLegal trace pages) (journals_in remains.ran.journals) = subst (λ l. All (IsLegal trace pages) l) (sym same_journals) agree.legal in
        record {
          of_run = record { of_trace = of_run.of_trace; of_shards = of_run.of_shards ∙ as_many holds trace n pages homes nodes d; of_pages = of_run.of_pages };
          journal_each = counted;
          log_each = ap length left.logs ∙ (length-map nodes (λ node. node.log) ∙ as_many holds trace n pages homes nodes d);
          line_each = ap length left.lines ∙ (length-map nodes (λ node. line_of node.store) ∙ as_many holds trace n pages homes nodes d);
          legal = λ s e below. legal s e (omega (arith, entries, counted, below));
          complete = λ s e below. subst (λ l. IsComplete trace n s (slice_index_or l s e)) (sym same_journals) (agree.complete s e below);
          logged = law trace n pages (journals_in remains.ran.journals) (replies_in remains.ran.logs) (holding keys commands);
          occupied = occupied;
          evicts = λ one e. pressure one 0 e (omega (arith, entries, counted, one));
        }
