use Rattle.std.proofs.Common.{◌≡◌, ◌≢◌, ℕ, ◌+◌, ◌<◌, inr, List, [], None, refl, sym, ap, ◌∙◌, arith}
use Rattle.std.specs.Prelude.{slice_set}
use Rattle.std.proofs.lemmas.List.{set-get_or}
use Rattle.regions.specs.Segments.{RegionState}
use Rattle.regions.specs.Shapes.{shape}
use Rattle.regions.specs.Counts.{live_total}
use Rattle.regions.specs.Contents.{live_at}
use Rattle.fragments.specs.Values.{size_if, value_of}
use Rattle.fragments.specs.Chains.{TableState, AreChains, HoldParts, Parts, all_parts}
use Rattle.fragments.specs.Store.{StoreState, values_of}
use Rattle.fragments.specs.inside.Consistent.{AreEntries, IsConsistent, size_of_parts, values_in}
use Rattle.fragments.proofs.Compacted.{segments_kept}
use Rattle.fragments.proofs.States.{consistent_set, lengths_dropped, part_here, part_named, part_set}
use Rattle.fragments.proofs.Stored.{count_is, size_if_is, value_none}
use Rattle.fragments.proofs.store.Fragments.erase.Goals as goal

-- what is live no more
size_gone : (t : TableState) (r s : RegionState) (n : ℕ) → AreEntries t → n < t.names → ((all : Parts) → HoldParts t (live_at r) all → live_total s + size_of_parts (all n) ≡ live_total r)
    → HoldParts t (live_at r) (all_parts (values_in t r) []) → live_total s + size_if (value_of (values_in t r) n) ≡ live_total r
size_gone t r s n entries below total hold =
    let all = all_parts (values_in t r) [] in
    let same = ap size_of_parts (part_named t r [] n entries (λ e. (omega (arith, e, below)))) ∙ size_if_is (value_of (values_in t r) n) in
    let gone = total all hold in omega (arith, same, gone)

erased : (t u : TableState) (r s : RegionState) (lengths : List ℕ) (segments n : ℕ) → IsConsistent t r lengths segments → AreEntries t → AreEntries u → u.names ≡ t.names → n < t.names
    → AreChains u (live_at s)
    → ((all fewer : Parts) → HoldParts t (live_at r) all → fewer n ≡ [] → ((e : ℕ) → e ≢ n → fewer e ≡ all e) → HoldParts u (live_at s) fewer)
    → ((all : Parts) → HoldParts t (live_at r) all → live_total s + size_of_parts (all n) ≡ live_total r) → shape s ≡ shape r
    → (values_in u s ≡ slice_set (values_in t r) n None) × IsConsistent u s lengths segments
erased t u r s lengths segments n i entries entries_now names below are parts total same =
    let all = all_parts (values_in t r) [] in
    let gone = size_gone t r s n entries below total i.parts in let within = i.within in
    consistent_set t u r s lengths lengths segments n None i entries entries_now names below are
    (parts all (all_parts (slice_set (values_in t r) n None) []) i.parts (part_here t r n None entries below) (λ e far. part_set t r n e None entries below far))
    tt refl (lengths_dropped (values_in t r) lengths n (let count = count_is t r entries in omega (arith, count, below)) i.lens)
    (segments_kept r s same) (inr same) (omega (arith, gone)) (omega (arith, gone, within))

pub invariant_of-self : goal.invariant_of-self
invariant_of-self c =
    let f = c.self.inside in let e = c.drop_value.ensures in
    let below : c.args.name < f.tables.names = (let test = c.if-name-names.false in let is = c.names.ensures in omega (arith, test, is)) in
    (erased f.tables c.drop_value.new.tables f.region c.drop_value.new.region f.lengths.items f.segments c.args.name c.self.invariant c.self.invariant.entries e.entries
    e.names below e.chains e.parts e.live_total e.shape).1

pub returns-clause-values : goal.returns-clause-values
returns-clause-values c =
    let f = c.self.inside in let e = c.drop_value.ensures in
    let below : c.args.name < f.tables.names = (let test = c.if-name-names.false in let is = c.names.ensures in omega (arith, test, is)) in
    (erased f.tables c.drop_value.new.tables f.region c.drop_value.new.region f.lengths.items f.segments c.args.name c.self.invariant c.self.invariant.entries e.entries
    e.names below e.chains e.parts e.live_total e.shape).0
    ∙ ap (λ (s : StoreState). slice_set (values_of s) c.args.name None) c.self.view_is

pub returns-in_default-clause-values : goal.returns-in_default-clause-values
returns-in_default-clause-values c =
    let f = c.self.inside in let n = c.args.name in
    let below : n < f.tables.names = (let test = c.if-name-names.false in let is = c.names.ensures in omega (arith, test, is)) in
    let none = value_none f.tables f.region c.self.invariant.entries n below (sym c.first.ensures.place ∙ c.in_default.is) in
    sym (ap (λ (s : StoreState). slice_set (values_of s) n None) (sym c.self.view_is)
    ∙ (ap (λ o. slice_set (values_in f.tables f.region) n o) (sym none) ∙ (set-get_or (values_in f.tables f.region) n None ∙ ap (λ (s : StoreState). values_of s) c.self.view_is)))
