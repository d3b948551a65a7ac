-- A value is written, the last fragment first.
use Rattle.std.proofs.Common.{◌≡◌, ◌≢◌, ℕ, suc, ◌+◌, ◌-◌, ◌*◌, ◌<◌, ◌≤◌, inl, inr, List, [], ◌∷◌, length, take, drop, Option, Some, None, refl, sym, ap, subst, ◌∙◌, arith, length-drop}
use Rattle.std.specs.Prelude.{option_map, slice_get}
use Rattle.std.proofs.lemmas.Bool.{cases_eq}
use Rattle.std.proofs.lemmas.Bool.Decides.{leb_tells}
use Rattle.std.proofs.lemmas.List.{drop-drop, get_or_past, take_all}
use Rattle.regions.specs.Segments.{RegionState}
use Rattle.regions.specs.Shapes.{free_count}
use Rattle.regions.specs.Counts.{live_total}
use Rattle.regions.specs.Contents.{live_at}
use Rattle.regions.specs.Stores.{Live, found}
use Rattle.regions.specs.declared.place.Place.{Place}
use Rattle.fragments.specs.Sizes.{count_of, fragment_bytes, last_of, object_size, size}
use Rattle.fragments.specs.Fragment.{bare, bare_fragment}
use Rattle.fragments.specs.Chains.{TableState, AreChains, HoldParts, IsLinked, Parts, chain_at, cut, owner, parts, place_at, place_before}
use Rattle.segmented_store.specs.Segments.{HoldsSegments}
use Rattle.fragments.specs.inside.Consistent.{AreEntries}
use Rattle.fragments.proofs.Compacted.{segments_again}
use Rattle.fragments.proofs.Dropping.{parts_here, parts_past, with_parts}
use Rattle.place_lemmas.proofs.Places.{some_none}
use Rattle.fragments.proofs.Positions.{owner_named}

-- ---- the name of what is written

module _ (t : TableState) (name : ℕ) (live : Live) (are : AreChains t live) (entries : AreEntries t) (none : chain_at t.chains t.names ≡ []) where
  abbrev begun : TableState
  begun = record t { grows = name }

  -- an entry with a fragment is a name's
  named : (e i : ℕ) (p : Place) → place_at t.chains e i ≡ Some p → e < t.names
  named e i p h = elim (leb_tells t.names e) [
    | inl k ↦ some_none h (ap (λ (ps : List Place). slice_get ps i) (empty e k.1))
    | inr k ↦ k.1
  ]
    where
      empty : (e : ℕ) → t.names ≤ e → chain_at t.chains e ≡ []
      empty e k = elim (cases_eq e t.names) [
        | inl s ↦ ap (λ n. chain_at t.chains n) s ∙ none
        | inr far ↦ get_or_past t.chains e [] (let cs = entries.chains in omega (arith, cs, k, far))
      ]

  same_owner : (e : ℕ) → e < t.names → owner begun e ≡ owner t e
  same_owner e h = owner_named begun e h ∙ sym (owner_named t e h)

  pub chains_begun : AreChains begun live
  chains_begun = record {
    firsts = are.firsts;
    linked = λ e i p h. subst (λ k. IsLinked live p (place_before t.chains e i) (place_at t.chains e (suc i)) k) (sym (same_owner e (named e i p h))) (are.linked e i p h);
    owned = λ e i p h. subst (λ k. k < t.names) (sym (same_owner e (named e i p h))) (are.owned e i p h);
    apart = are.apart;
    every = are.every;
    short = are.short;
  }

  pub parts_begun : (all : Parts) → HoldParts t live all → HoldParts begun live all
  parts_begun all hold = λ e i. by e i (place_at t.chains e i) refl
    where
      no_part : (o : Option (List ℕ)) (j k : ℕ) → None ≡ option_map (bare_fragment j) o → None ≡ option_map (bare_fragment k) o
      no_part None j k h = refl
      no_part (Some part) j k h = some_none refl (sym h)

      by : (e i : ℕ) (o : Option Place) → place_at t.chains e i ≡ o → found bare live (place_at t.chains e i) ≡ option_map (bare_fragment (owner begun e)) (slice_get (all e) i)
      by e i None h = ap (found bare live) h ∙ no_part (slice_get (all e) i) (owner t e) (owner begun e) (sym (ap (found bare live) h) ∙ hold e i)
      by e i (Some p) h = hold e i ∙ ap (λ k. option_map (bare_fragment k) (slice_get (all e) i)) (sym (same_owner e (named e i p h)))

-- ---- the loop

-- what is left to write is so many full fragments
pub record IsWriting (before t : TableState) (old r : RegionState) (name : ℕ) (bytes : List ℕ) (left : ℕ) : Type 0 where
  pub chains : AreChains t (live_at r)
  pub names : t.names ≡ before.names
  pub grows : t.grows ≡ name
  pub counted : left + length (chain_at t.chains before.names) ≡ count_of (length bytes)
  pub some : 1 ≤ length (chain_at t.chains before.names)
  pub parts_are : (all more : Parts) → HoldParts before (live_at old) all → all before.names ≡ []
      → more before.names ≡ cut (count_of (length bytes) - left) (drop (left * fragment_bytes) bytes) → ((e : ℕ) → e ≢ before.names → more e ≡ all e) → HoldParts t (live_at r) more
  pub total : live_total r + left * 12296 ≡ live_total old + size (length bytes)
  pub free : 1 ≤ free_count r
  pub segments : HoldsSegments old r

-- the last part
pub last_part : (bytes part : List ℕ) (left : ℕ) → suc left ≡ count_of (length bytes) → part ≡ drop (left * fragment_bytes) bytes
    → cut (count_of (length bytes) - left) (drop (left * fragment_bytes) bytes) ≡ part ∷ []
last_part bytes part left is part_is =
    let one : count_of (length bytes) - left ≡ 1 = omega (arith, is) in
    let long = length-drop (left * fragment_bytes) bytes in
    ap (λ n. cut n (drop (left * fragment_bytes) bytes)) one
    ∙ ap (λ (p : List ℕ). p ∷ []) (take_all fragment_bytes (drop (left * fragment_bytes) bytes) (omega (arith, long, is)) ∙ sym part_is)

-- a part before it
pub one_part : (bytes part : List ℕ) (less : ℕ) → suc less < count_of (length bytes) → part ≡ take fragment_bytes (drop (less * fragment_bytes) bytes)
    → cut (count_of (length bytes) - less) (drop (less * fragment_bytes) bytes) ≡ part ∷ cut (count_of (length bytes) - suc less) (drop (suc less * fragment_bytes) bytes)
one_part bytes part less within part_is =
    let rest = count_of (length bytes) - suc less in
    let more : count_of (length bytes) - less ≡ suc rest = omega (arith, within) in
    let on : less * fragment_bytes + fragment_bytes ≡ suc less * fragment_bytes = omega arith in
    ap (λ n. cut n (drop (less * fragment_bytes) bytes)) more
    ∙ (ap (λ (p : List ℕ). p ∷ cut rest (drop fragment_bytes (drop (less * fragment_bytes) bytes))) (sym part_is)
    ∙ ap (λ (b : List ℕ). part ∷ cut rest b) (drop-drop fragment_bytes (less * fragment_bytes) bytes ∙ ap (λ k. drop k bytes) on))

pub whole_value : (bytes : List ℕ) → cut (count_of (length bytes) - 0) (drop (0 * fragment_bytes) bytes) ≡ parts bytes
whole_value bytes = (let n : count_of (length bytes) - 0 ≡ count_of (length bytes) = omega arith in ap (λ k. cut k bytes) n)

-- the last part is written first
pub writes_last : (before b u : TableState) (old s : RegionState) (name : ℕ) (bytes part : List ℕ) (left : ℕ) → AreChains before (live_at old) → AreEntries before
    → chain_at before.chains before.names ≡ [] → b ≡ record before { grows = name } → suc left ≡ count_of (length bytes) → part ≡ drop (left * fragment_bytes) bytes
    → AreChains u (live_at s) → u.names ≡ b.names → u.grows ≡ b.grows → length (chain_at u.chains b.names) ≡ length (chain_at b.chains b.names) + 1
    → ((all more : Parts) → HoldParts b (live_at old) all → more b.names ≡ part ∷ all b.names → ((e : ℕ) → e ≢ b.names → more e ≡ all e) → HoldParts u (live_at s) more)
    → live_total s ≡ live_total old + object_size (length part) → 1 ≤ free_count s → HoldsSegments old s → IsWriting before u old s name bytes left
writes_last before b u old s name bytes part left were entries none begin is part_is are names grows longer more_parts total free segments =
    let n_is : b.names ≡ before.names = ap (λ (x : TableState). x.names) begin in
    let chain_is : length (chain_at b.chains b.names) ≡ 0 = ap (λ (x : TableState). length (chain_at x.chains x.names)) begin ∙ ap (λ (ps : List Place). length ps) none in
    let one = ap (λ n. length (chain_at u.chains n)) n_is in
    let now : length (chain_at u.chains before.names) ≡ 1 = omega (arith, one, longer, chain_is) in
    record {
      chains = are;
      names = names ∙ n_is;
      grows = grows ∙ ap (λ (x : TableState). x.grows) begin;
      counted = omega (arith, now, is);
      some = omega (arith, now);
      parts_are = λ all more hold no_part given rest.
          more_parts all more (subst (λ (x : TableState). HoldParts x (live_at old) all) (sym begin) (parts_begun before name (live_at old) were entries none all hold))
          (ap more n_is ∙ (given ∙ (last_part bytes part left is part_is ∙ ap (λ (ps : List (List ℕ)). part ∷ ps) (sym (ap all n_is ∙ no_part)))))
          (λ e far. rest e (λ x. far (x ∙ sym n_is)));
      total =
          (let long = ap (λ (b : List ℕ). length b) part_is in let cut_off = length-drop (left * fragment_bytes) bytes in
          let last : length part ≡ last_of (length bytes) = omega (arith, long, cut_off, is) in
          let same = ap object_size last in omega (arith, total, same, is));
      free = free;
      segments = segments;
    }

-- a part more is written
pub writes_more : (before t u : TableState) (old r s : RegionState) (name : ℕ) (bytes part : List ℕ) (left less : ℕ) → IsWriting before t old r name bytes left → left ≡ suc less
    → part ≡ take fragment_bytes (drop (less * fragment_bytes) bytes) → length part ≡ fragment_bytes
    → AreChains u (live_at s) → u.names ≡ t.names → u.grows ≡ t.grows → length (chain_at u.chains t.names) ≡ length (chain_at t.chains t.names) + 1
    → ((all more : Parts) → HoldParts t (live_at r) all → more t.names ≡ part ∷ all t.names → ((e : ℕ) → e ≢ t.names → more e ≡ all e) → HoldParts u (live_at s) more)
    → live_total s ≡ live_total r + object_size (length part) → 1 ≤ free_count s → HoldsSegments r s → IsWriting before u old s name bytes less
writes_more before t u old r s name bytes part left less w is part_is full are names grows longer more_parts total free segments = record {
  chains = are;
  names = names ∙ w.names;
  grows = grows ∙ w.grows;
  counted =
      (let one = ap (λ n. length (chain_at u.chains n)) w.names in let two = ap (λ n. length (chain_at t.chains n)) w.names in
      let were = w.counted in omega (arith, one, two, were, longer, is));
  some = (let one = ap (λ n. length (chain_at u.chains n)) w.names in omega (arith, one, longer));
  parts_are = λ all more hold none now rest.
      (let n = before.names in
      let later = cut (count_of (length bytes) - left) (drop (left * fragment_bytes) bytes) in
      let between = w.parts_are all (with_parts n later all) hold none (parts_here n later all) (λ e far. parts_past n e later all far) in
      let inside : suc less < count_of (length bytes) = (let were = w.counted in let some = w.some in omega (arith, were, is, some)) in
      let split = one_part bytes part less inside part_is ∙ ap (λ k. part ∷ cut (count_of (length bytes) - k) (drop (k * fragment_bytes) bytes)) (sym is) in
      more_parts (with_parts n later all) more between
      (ap more w.names ∙ (now ∙ (split ∙ ap (λ (ps : List (List ℕ)). part ∷ ps) (sym (ap (with_parts n later all) w.names ∙ parts_here n later all)))))
      (λ e far. rest e (λ x. far (x ∙ sym w.names)) ∙ sym (parts_past n e later all (λ x. far (x ∙ sym w.names)))));
  total = (let were = w.total in let greatest = ap object_size full in omega (arith, were, total, greatest, is));
  free = free;
  segments = segments_again old r s w.segments segments;
}
