-- Wherever a journal leads, the rows have distinct keys.
use Rattle.std.proofs.Common.{◌≡◌, ℕ, List, ◌-◌, length, Some}
use Rattle.rows.specs.Apply.{HasDistinctKeys}
use Rattle.rows.specs.Row.{Row}
use Rattle.trace_text.specs.Trace.{Trace}
use Rattle.cache_model.specs.declared.entry.Entry.{Entry}
use Rattle.cache_model.specs.Legal.{cache_after}
use Rattle.cache_lemmas.proofs.Along.{IsKept, kept-after}
use Rattle.cache_lemmas.proofs.RowLaws.{FrontsAreDistinct, PartsAreDistinct}

distinct-kept : PartsAreDistinct → FrontsAreDistinct → (trace : Trace) (pages : ℕ) → IsKept trace pages HasDistinctKeys
distinct-kept part front trace pages = record {
  parts = λ i operation cache is are. part operation cache are;
  evictions = λ q cache can are. front (length cache - 1) cache are;
}

pub distinct-after : PartsAreDistinct → FrontsAreDistinct → (trace : Trace) (pages : ℕ) (journal : List Entry) (cache : List Row)
    → cache_after trace pages journal ≡ Some cache → HasDistinctKeys cache
distinct-after part front trace pages journal cache leads =
    kept-after trace pages HasDistinctKeys (distinct-kept part front trace pages) tt journal cache leads
