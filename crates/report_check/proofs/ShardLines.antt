-- The lines of what the shards hold, and the end of a report.
use Rattle.std.proofs.Common.{◌≡◌, ℕ, List, [], ◌++◌, append-nil, map, Option, Some, None, sym, ap, ◌∙◌}
use Rattle.std.specs.List.{flat_map}
use Rattle.cache_model.specs.Report.{Occupancy, line, occupancy_text}
use Rattle.cache_lemmas.proofs.TextLines.{occupancy-unbroken}
use Rattle.report_check.specs.Lines.{Line, first_difference, lines_of}
use Rattle.report_check.specs.declared.comparing.Left.{Left}
use Rattle.report_check.specs.inside.Compared.{Differs, IsBehind}
use Rattle.report_check.proofs.Cuts.{lines-each}
use Rattle.report_check.proofs.Differences.{ends-here, surplus}

-- A report's end was compared with their text.
module _ (left : Left) (occupancies : List (ℕ × Occupancy)) (text : List ℕ) (text-is : text ≡ flat_map (λ occupancy. line (occupancy_text occupancy)) occupancies) where
  abbrev shards : List Line
  shards = map {B = Line} (λ occupancy. Some (occupancy_text occupancy)) occupancies

  same : lines_of text ≡ shards
  same = ap lines_of text-is ∙ lines-each occupancy_text occupancies (λ k d below. occupancy-unbroken _)

  expected : lines_of text ++ [] ≡ shards
  expected = append-nil (lines_of text) ∙ same

  here : (found : Option ℕ) → first_difference left.line (lines_of left.bytes.now) (lines_of text ++ []) ≡ found → found ≡ first_difference left.line (lines_of left.bytes.now) shards
  here found is = sym is ∙ ap (first_difference left.line (lines_of left.bytes.now)) expected

  -- nothing is left
  pub ends : (next : Left) → IsBehind left.bytes.now left.line (lines_of text) next → next.bytes.now ≡ [] → None ≡ first_difference left.line (lines_of left.bytes.now) shards
  ends next behind none = here None (behind.same [] ∙ ends-here next none)

  -- a line is left
  pub goes-on : (next : Left) → IsBehind left.bytes.now left.line (lines_of text) next → (next.bytes.now ≡ [] → ⊥)
      → Some next.line ≡ first_difference left.line (lines_of left.bytes.now) shards
  goes-on next behind some = here (Some next.line) (behind.same [] ∙ surplus next some)

  -- a line differs
  pub differs : (at : ℕ) → Differs left.bytes.now left.line (lines_of text) at → Some at ≡ first_difference left.line (lines_of left.bytes.now) shards
  differs at other = here (Some at) (other [])
