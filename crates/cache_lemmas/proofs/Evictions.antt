-- Evictions in turn, in a journal.
use Rattle.std.proofs.Common.{◌≡◌, ℕ, ◌+◌, ◌-◌, ◌<◌, ◌≤◌, true, List, [], ◌∷◌, ◌++◌, length, take, map, append_assoc, append-nil, Some, None, arith, refl, sym, ap, ◌∙◌, subst}
use Rattle.std.specs.List.{last_or}
use Rattle.std.specs.Prelude.{nat_lt}
use Rattle.std.proofs.lemmas.Bool.Decides.{nat_tests}
use Rattle.layout.specs.Sizes.{dense}
use Rattle.rows.specs.Evictions.{Evicts}
use Rattle.rows.specs.Row.{is_of_put, Row, floor, live, tight_floor}
use Rattle.trace_text.specs.Trace.{Trace, regions}
use Rattle.cache_model.specs.declared.entry.Entry.{Entry}
use Rattle.cache_model.specs.declared.entry.Entry.TheVariants.{Evicted}
use Rattle.cache_model.specs.Legal.{EvictsAbove, after, cache_after, cache_from, can_evict}
use Rattle.cache_lemmas.proofs.Journals.{evicts-more, leads}

test-above : (floor_of bound bytes : ℕ) → floor_of ≤ bound → bound < bytes → nat_lt floor_of bytes ≡ true
test-above floor_of bound bytes low above = grind (arith, nat_tests)

can : (pages count bound put : ℕ) (cache : List Row) → floor pages count ≤ bound → is_of_put put (last_or None cache) ≡ true → bound < live cache
    → can_evict pages count put cache ≡ true
can pages count bound put cache low last above = rw (last, test-above (floor pages count) bound (live cache) low above) refl

one-goes : (trace : Trace) (pages bound put : ℕ) (cache : List Row) → floor pages (regions trace) ≤ bound → is_of_put put (last_or None cache) ≡ true → bound < live cache
    → after trace pages (Evicted put) cache ≡ Some (take (length cache - 1) cache)
one-goes trace pages bound put cache low last above = rw (can pages (regions trace) bound put cache low last above) refl

pub legal : (trace : Trace) (pages bound : ℕ) (cache rest : List Row) (puts : List ℕ) → Evicts bound cache puts rest → floor pages (regions trace) ≤ bound
    → cache_from trace pages cache (map Evicted puts) ≡ Some rest
unfolding Evicts
legal trace pages bound cache rest [] evicts low = ap Some (sym evicts)
legal trace pages bound cache rest (put ∷ puts) evicts low =
    rw (one-goes trace pages bound put cache low evicts.0 evicts.1) (legal trace pages bound (take (length cache - 1) cache) rest puts evicts.2 low)

pub above : (trace : Trace) (pages bound : ℕ) (journal : List Entry) (cache rest : List Row) (puts : List ℕ)
    → cache_after trace pages journal ≡ Some cache → EvictsAbove trace pages bound journal
    → Evicts bound cache puts rest → floor pages (regions trace) ≤ bound → EvictsAbove trace pages bound (journal ++ map Evicted puts)
unfolding Evicts
above trace pages bound journal cache rest [] e so_far evicts low = rw append-nil so_far
above trace pages bound journal cache rest (put ∷ puts) e so_far evicts low =
    let next : cache_after trace pages (journal ++ Evicted put ∷ []) ≡ Some (take (length cache - 1) cache) =
    leads trace pages journal (Evicted put ∷ []) cache e ∙ rw (one-goes trace pages bound put cache low evicts.0 evicts.1) refl in
    let here = evicts-more trace pages bound journal (Evicted put) so_far
    (λ q other is at. let same : cache ≡ other = cc in rw (← same) evicts.1) in
    subst (EvictsAbove trace pages bound) (append_assoc journal (Evicted put ∷ []) (map Evicted puts))
    (above trace pages bound (journal ++ Evicted put ∷ []) (take (length cache - 1) cache) rest puts next here evicts.2 low)

-- with no block lent the tight floor is not below the floor
pub low : (pages count : ℕ) → floor pages count ≤ tight_floor pages 0 count + dense
low pages count = omega arith
