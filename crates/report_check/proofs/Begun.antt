-- Where logs, commands that are left, and walks begin.
use Rattle.std.proofs.Common.{◌≡◌, ℕ, zero, suc, ◌+◌, ◌<◌, ◌⊎◌, inl, inr, List, [], ◌∷◌, ◌++◌, length, map, replicate, slice_get, Some, None, arith, refl, sym, ap, subst, ◌∙◌}
use Rattle.std.specs.List.{slice_index_or}
use Rattle.std.specs.Option.{option_and_then}
use Rattle.std.proofs.lemmas.Bool.{cases_lt}
use Rattle.std.proofs.lemmas.List.{get_or_append_left, get_or_push}
use Rattle.rows.specs.Operation.{Operation}
use Rattle.trace_text.specs.Parsed.{Parsed, trace_in}
use Rattle.trace_text.specs.Trace.{Trace, regions}
use Rattle.cache_model.specs.declared.entry.Entry.{Entry}
use Rattle.cache_model.specs.Legal.{reply_at}
use Rattle.cache_model.specs.OwnParts.{HoldsReplies, issued_parts, part_reply}
use Rattle.run_log.specs.Replies.{Replies}
use Rattle.plain_cache.specs.Cache.{Cache}
use Rattle.part_lemmas.specs.Due.{operations_for}
use Rattle.part_lemmas.specs.Rest.{RestState}
use Rattle.part_lemmas.proofs.Together.Logs.{holds-none, holds-same}
use Rattle.report_check.specs.declared.walking.Walk.{Walk}
use Rattle.report_check.specs.inside.Walks.{AreLogs, AreRests, IsRestBehind, StandsBehind, StandsOver}

-- what holds of each element by its place, and of one more
pub pushed-each : {X : Type 0} (P : ℕ → X → Type 0) (xs : List X) (x : X) (n : ℕ) → length xs ≡ n → ((o : ℕ) (d : X) → o < n → P o (slice_index_or xs o d)) → P n x
    → (o : ℕ) (d : X) → o < n + 1 → P o (slice_index_or (xs ++ x ∷ []) o d)
pushed-each P xs x n long each last o d below = elim (cases_lt o n) [
  | inl less ↦ subst (P o) (sym (get_or_append_left xs (x ∷ []) d o (omega (arith, less, long)))) (each o d less)
  | inr most ↦
      let here : n ≡ o = omega (arith, below, most) in
      subst (P o) (sym (get_or_push xs x d o (long ∙ here))) (subst (λ (k : ℕ). P k x) here last)
]

-- no reply is in a new log
pub log-begins : (trace : Trace) (n o pages m : ℕ) (log : Replies) → m ≡ length (issued_parts trace n o) → log.replies ≡ replicate m None
    → HoldsReplies trace n o (part_reply trace pages []) log.replies
log-begins trace n o pages m log many is =
    subst (HoldsReplies trace n o (part_reply trace pages [])) (sym is) (holds-none trace n o (part_reply trace pages []) (λ part. refl) m many)

-- no command is passed
pub rest-begins : (trace : Parsed) (s o : ℕ) (rest : RestState) → rest.trace ≡ trace → rest.origin ≡ o → rest.shard ≡ s → rest.left ≡ operations_for (trace_in trace) trace.shards o s
    → IsRestBehind trace s [] o rest
rest-begins trace s o rest of from to left = record {
  of_trace = of;
  origin = from;
  shard = to;
  passed = ap (map (λ (operation : Operation). operation.number)) left;
}

pub walk-begins : (trace : Parsed) (pages s count : ℕ) (walk : Walk) → walk.cache ≡ record { pages = pages; regions = count; rows = [] } → count ≡ regions (trace_in trace)
    → AreRests trace s [] walk.rests.items → StandsBehind trace pages s [] walk
walk-begins trace pages s count walk is regions-are rests = record {
  leads = ap (λ (c : Cache). Some c.rows) (sym is);
  pages = ap (λ (c : Cache). c.pages) is;
  regions = ap (λ (c : Cache). c.regions) is ∙ regions-are;
  rests = rests;
}

-- ---- a journal more that is empty has no reply

get-added : {X : Type 0} (xs : List X) (x : X) (q : ℕ) → (slice_get (xs ++ x ∷ []) q ≡ slice_get xs q) ⊎ ((slice_get xs q ≡ None) × (slice_get (xs ++ x ∷ []) q ≡ Some x))
get-added [] x zero = inr (refl, refl)
get-added [] x (suc q) = inl refl
get-added (y ∷ xs) x zero = inl refl
get-added (y ∷ xs) x (suc q) = get-added xs x q

reply-added : (trace : Trace) (pages : ℕ) (walked : List (List Entry)) (part : ℕ × ℕ) → part_reply trace pages (walked ++ [] ∷ []) part ≡ part_reply trace pages walked part
reply-added trace pages walked (i, q) = elim (get-added walked [] q) [
  | inl same ↦ ap (option_and_then (λ journal. reply_at trace pages journal i)) same
  | inr last ↦
      ap (option_and_then (λ journal. reply_at trace pages journal i)) last.1
      ∙ sym (ap (option_and_then (λ journal. reply_at trace pages journal i)) last.0)
]

pub begins : (trace : Parsed) (pages s : ℕ) (walked : List (List Entry)) (walk : Walk) (logs : List Replies) → s < trace.shards → length walked ≡ s → StandsBehind trace pages s [] walk
    → AreLogs trace pages walked logs → StandsOver trace pages s walked [] walk logs
begins trace pages s walked walk logs below many stands are = record {
  shard = below;
  before = many;
  behind = stands;
  logs = record {
    many = are.many;
    each = λ o d less.
        holds-same (trace_in trace) trace.shards o (part_reply (trace_in trace) pages walked) (part_reply (trace_in trace) pages (walked ++ [] ∷ [])) (slice_index_or logs o d).replies
        (reply-added (trace_in trace) pages walked) (are.each o d less);
  };
}
