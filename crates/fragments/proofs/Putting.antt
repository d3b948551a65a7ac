-- A value is set.
use Rattle.std.proofs.Common.{◌≡◌, ◌≢◌, ℕ, ◌+◌, ◌<◌, ◌≤◌, inl, inr, Bool, true, false, List, [], length, take, Some, refl, sym, ap, subst, ◌∙◌, arith}
use Rattle.std.specs.Prelude.{◌↔◌, IsTrue, slice_get, slice_set}
use Rattle.std.proofs.lemmas.Bool.Decides.{leb_tells}
use Rattle.std.proofs.lemmas.List.{length-set}
use Rattle.regions.specs.Segments.{RegionState}
use Rattle.regions.specs.Shapes.{held_count}
use Rattle.regions.specs.Counts.{live_total}
use Rattle.regions.specs.Contents.{live_at}
use Rattle.segmented_store.specs.Room.{room}
use Rattle.fragments.specs.Sizes.{greatest_value, size}
use Rattle.fragments.specs.Values.{size_if, value_of}
use Rattle.fragments.specs.Chains.{TableState, HoldParts, Parts, all_parts, chain_at, parts}
use Rattle.fragments.specs.Store.{IsSetBeside, Stay, StoreState}
use Rattle.fragments.specs.inside.Consistent.{AreEntries, IsConsistent, size_of_parts, values_in}
use Rattle.fragments.specs.inside.Setting.{Sets}
use Rattle.fragments.proofs.Compacted.{free_kept, segments_again, segments_kept}
use Rattle.fragments.proofs.Dropping.{empty_chain}
use Rattle.fragments.proofs.States.{consistent_set, lengths_set, none_written, part_after, part_here, part_named, part_set}
use Rattle.fragments.proofs.Stored.{count_is, no_place, parts_written, size_if_is}

-- no value is being written
pub none_begun : (t : TableState) (r : RegionState) (lengths : List ℕ) (segments : ℕ) → IsConsistent t r lengths segments → AreEntries t → chain_at t.chains t.names ≡ []
none_begun t r lengths segments i entries =
    let all = all_parts (values_in t r) [] in let few = entries.few in
    empty_chain t (live_at r) t.names i.chains
    (i.chains.firsts t.names ∙ no_place t (live_at r) i.chains (omega (arith, few)) all i.parts t.names 0 (ap (λ (ps : List (List ℕ)). slice_get ps 0) (none_written t r entries)))

-- what is no more than another where a test says that it is not more
pub no_more : (b : Bool) (m n : ℕ) → IsTrue b ↔ (m < n) → b ≡ false → n ≤ m
no_more b m n tells is_not = elim (leb_tells n m) [ inl h ↦ h.1 | inr h ↦ (let so : b ≡ true = tells.1 h.1 in absurd (let clash : false ≡ true = sym is_not ∙ so in cc)) ]

module _ (t u : TableState) (r s : RegionState) (lengths : List ℕ) (segments n : ℕ) (text : List ℕ)
    (i : IsConsistent t r lengths segments) (entries : AreEntries t) (below : n < t.names) (w : Sets t u r s n text) where
  -- the old values, and the new one beside them
  abbrev both : Parts
  both = all_parts (values_in t r) (parts text)

  both_written : both t.names ≡ parts text
  both_written = ap both (sym (count_is t r entries)) ∙ parts_written (values_in t r) (parts text)

  both_old : (e : ℕ) → e ≢ t.names → both e ≡ all_parts (values_in t r) [] e
  both_old e far = part_named t r (parts text) e entries far ∙ sym (part_named t r [] e entries far)

  both_hold : HoldParts w.tables (live_at w.between) both
  both_hold = w.written.parts_are (all_parts (values_in t r) []) both i.parts (none_written t r entries) both_written both_old

  other : n ≢ t.names
  other e = omega (arith, e, below)

  total_now : live_total s + size_if (value_of (values_in t r) n) ≡ live_total r + size (length text)
  total_now =
      let gone = w.replaced.total both both_hold in let more = w.written.total in
      let same = ap size_of_parts (part_named t r (parts text) n entries other) ∙ size_if_is (value_of (values_in t r) n) in
      omega (arith, gone, same, more)

  pub value_put : AreEntries u → length text ≤ greatest_value → live_total r + size (length text) ≤ room (held_count r)
      → (values_in u s ≡ slice_set (values_in t r) n (Some text)) × IsConsistent u s (slice_set lengths n (length text)) segments
  value_put entries_now short enough =
      let values = slice_set (values_in t r) n (Some text) in let count = count_is t r entries in let many = i.many in let sum_now = total_now in
      let q = w.between in let names = w.written.names in let d = w.replaced in let free = w.written.free in
      consistent_set t u r s lengths (slice_set lengths n (length text)) segments n (Some text) i entries entries_now (d.names ∙ names) below d.chains
      (d.parts_are both (all_parts values []) both_hold (part_here t r n (Some text) entries below ∙ sym (ap both names ∙ both_written)) (ap (all_parts values []) names ∙ part_after t r n (Some text) entries)
      (λ e far away. part_set t r n e (Some text) entries below far ∙ sym (both_old e (λ x. away (x ∙ sym names)))))
      short (length-set lengths n (length text)) (lengths_set (values_in t r) lengths n (length text) text (omega (arith, count, below)) (omega (arith, many, below)) refl i.lens)
      (segments_again r q s w.written.segments (segments_kept q s d.shape_is)) (inl (let f = free_kept q s d.shape_is in omega (arith, f, free))) sum_now (omega (arith, sum_now, enough))

  pub set_beside : (new : StoreState) → new.region ≡ s → IsSetBeside (record { firsts = take t.names t.firsts; region = r }) new text
  set_beside new is = record {
    between = w.between;
    tables = w.tables;
    facts = w.written.facts;
    segments = w.written.segments;
    free = w.written.free;
    total = w.written.total ∙ ap (λ m. m + size (length text)) (sym i.sizes);
    chains = w.written.chains;
    parts_are = both_hold;
    stay = subst (λ (x : RegionState). Stay w.between x) (sym is) w.replaced.stay;
  }
