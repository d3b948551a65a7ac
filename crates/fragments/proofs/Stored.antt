-- What is read from the chains is what they hold.
use Rattle.std.proofs.Common.{◌≡◌, ◌≢◌, ℕ, zero, suc, ◌+◌, ◌-◌, ◌*◌, ◌<◌, ◌≤◌, inl, inr, cond, List, [], ◌∷◌, ◌++◌, length, take, drop, map, Option, Some, None, refl, sym, ap, subst, ◌∙◌, arith, length-drop}
use Rattle.std.specs.Prelude.{option_map, slice_get, slice_index_or, slice_set}
use Rattle.std.specs.List.{concat}
use Rattle.std.proofs.lemmas.Bool.Decides.{eqb_tells}
use Rattle.std.proofs.lemmas.List.{ext_get_or, get_or-take, get_or_past, length-map, length-take, take-append-drop}
use Rattle.std.proofs.lemmas.List.Sums.{sum_by-set}
use Rattle.std.proofs.lemmas.Option.{slice_get-map}
use Rattle.regions.specs.Segments.{RegionState}
use Rattle.regions.specs.Contents.{Item, live_at}
use Rattle.regions.specs.Stores.{Live, found}
use Rattle.regions.specs.declared.place.Place.{Place}
use Rattle.fragments.specs.Sizes.{count_of, fragment_bytes, most_fragments, object_size, size}
use Rattle.fragments.specs.Values.{Values, live, size_if, value_of}
use Rattle.regions.specs.Places.{led_to}
use Rattle.fragments.specs.Fragment.{bare, bare_fragment, bytes_in}
use Rattle.fragments.specs.Chains.{TableState, AreChains, HoldParts, Parts, all_parts, chain_at, cut, first_at, owner, parts, parts_if, place_at, place_before}
use Rattle.fragments.specs.Store.{bytes_at, content_of, follow, next_at, pieces_from, read}
use Rattle.fragments.specs.inside.Consistent.{AreEntries, IsConsistent, size_of_parts, values_in}
use Rattle.fragments.specs.inside.Paths.{IsPath, Leads}
use Rattle.place_lemmas.proofs.Places.{leads_on, some_is, some_none}
use Rattle.fragments.proofs.Positions.{lists_same, room_at}
use Rattle.fragments.proofs.Lives.{linked_holds, next_link_is}
use Rattle.fragments.proofs.Paths.{followed}
use Rattle.fragments.proofs.Read.{bytes_read}

-- ---- parts

pub concat_cut : (n : ℕ) (bytes : List ℕ) → length bytes ≤ n * fragment_bytes → concat (cut n bytes) ≡ bytes
concat_cut zero [] h = refl
concat_cut zero (b ∷ bytes) h = absurd (omega (arith, h))
concat_cut (suc n) bytes h =
    ap (λ (rest : List ℕ). take fragment_bytes bytes ++ rest) (concat_cut n (drop fragment_bytes bytes) (let l = length-drop fragment_bytes bytes in omega (arith, l, h)))
    ∙ take-append-drop fragment_bytes bytes

pub concat_parts : (bytes : List ℕ) → concat (parts bytes) ≡ bytes
concat_parts bytes = concat_cut (count_of (length bytes)) bytes (omega arith)

cut_short : (n : ℕ) (bytes : List ℕ) (i : ℕ) (part : List ℕ) → slice_get (cut n bytes) i ≡ Some part → length part ≤ fragment_bytes
cut_short zero bytes i part e = some_none e refl
cut_short (suc n) bytes zero part e = (let same = ap (λ (p : List ℕ). length p) (some_is e) in let l = length-take fragment_bytes bytes in omega (arith, same, l))
cut_short (suc n) bytes (suc i) part e = cut_short n (drop fragment_bytes bytes) i part e

-- the sizes of so many full fragments and a last one
sizes_cut : (n : ℕ) (bytes : List ℕ) → n * fragment_bytes ≤ length bytes → length bytes ≤ suc n * fragment_bytes
    → size_of_parts (cut (suc n) bytes) ≡ n * 12296 + object_size (length bytes - n * fragment_bytes)
sizes_cut zero bytes low high =
    let all : length (take fragment_bytes bytes) ≡ length bytes = (let l = length-take fragment_bytes bytes in omega (arith, l, high)) in
    let same = ap object_size all in
    let none : length bytes - 0 * fragment_bytes ≡ length bytes = omega arith in
    let whole = ap object_size none in
    omega (arith, same, whole)
sizes_cut (suc n) bytes low high =
    let full : length (take fragment_bytes bytes) ≡ fragment_bytes = (let l = length-take fragment_bytes bytes in omega (arith, l, low)) in
    let greatest = ap object_size full in
    let fewer = length-drop fragment_bytes bytes in
    let rest = sizes_cut n (drop fragment_bytes bytes) (omega (arith, fewer, low)) (omega (arith, fewer, high)) in
    let same : length (drop fragment_bytes bytes) - n * fragment_bytes ≡ length bytes - suc n * fragment_bytes = omega (arith, fewer) in
    let last = ap object_size same in
    omega (arith, greatest, rest, last)

pub size_is : (bytes : List ℕ) → size_of_parts (parts bytes) ≡ size (length bytes)
size_is bytes = at (count_of (length bytes) - 1) (omega arith)
  where
    at : (n : ℕ) → n ≡ count_of (length bytes) - 1 → size_of_parts (parts bytes) ≡ size (length bytes)
    at n is =
        let count : count_of (length bytes) ≡ suc n = omega (arith, is) in
        let low : n * fragment_bytes ≤ length bytes = omega (arith, is) in
        let high : length bytes ≤ suc n * fragment_bytes = omega (arith, is) in
        ap (λ k. size_of_parts (cut k bytes)) count
        ∙ (sizes_cut n bytes low high ∙ ap (λ k. k * 12296 + object_size (length bytes - k * fragment_bytes)) is)

pub size_if_is : (o : Option (List ℕ)) → size_of_parts (parts_if o) ≡ size_if o
size_if_is None = refl
size_if_is (Some bytes) = size_is bytes

-- ---- what each entry has

pub parts_named : (values : Values) (written : List (List ℕ)) (e : ℕ) → e ≢ length values → all_parts values written e ≡ parts_if (value_of values e)
parts_named values written e far = elim (eqb_tells e (length values)) [ inl h ↦ absurd (far h.1) | inr h ↦ ap (λ b. cond b written (parts_if (value_of values e))) h.0 ]

pub parts_written : (values : Values) (written : List (List ℕ)) → all_parts values written (length values) ≡ written
parts_written values written = elim (eqb_tells (length values) (length values)) [
  | inl h ↦ ap (λ b. cond b written (parts_if (value_of values (length values)))) h.0
  | inr h ↦ absurd (h.1 refl)
]

-- ---- chains

module _ (t : TableState) (live_now : Live) (are : AreChains t live_now) where
  along : (e : ℕ) (ps : List Place) (i : ℕ) → ((j : ℕ) → slice_get ps j ≡ place_at t.chains e (i + j)) → IsPath live_now (place_at t.chains e i) ps
  along e [] i h = sym (h 0 ∙ ap (λ k. place_at t.chains e k) (let z : i + 0 ≡ i = omega arith in z))
  along e (p ∷ ps) i h =
      let here : place_at t.chains e i ≡ Some p = sym (h 0 ∙ ap (λ k. place_at t.chains e k) (let z : i + 0 ≡ i = omega arith in z)) in
      let l = are.linked e i p here in
      let next : next_at live_now p ≡ place_at t.chains e (suc i) =
      ap led_to (next_link_is live_now p (place_before t.chains e i) (place_at t.chains e (suc i)) (owner t e) l) ∙ leads_on (place_at t.chains e (suc i)) (room_at t live_now e (suc i) are) in (
        here,
        linked_holds live_now p (place_before t.chains e i) (place_at t.chains e (suc i)) (owner t e) l,
        subst (λ o. IsPath live_now o ps) (sym next) (along e ps (suc i) (λ j. h (suc j) ∙ ap (λ k. place_at t.chains e k) (let z : i + suc j ≡ suc i + j = omega arith in z))),
      )

  pub path_of : (e : ℕ) → IsPath live_now (first_at t.firsts e) (chain_at t.chains e)
  path_of e = subst (λ o. IsPath live_now o (chain_at t.chains e)) (sym (are.firsts e)) (along e (chain_at t.chains e) 0 (λ j. ap (λ k. place_at t.chains e k) (let z : j ≡ 0 + j = omega arith in z)))

  pub followed_is : (e : ℕ) → follow most_fragments live_now (first_at t.firsts e) ≡ chain_at t.chains e
  followed_is e = followed most_fragments live_now (first_at t.firsts e) (chain_at t.chains e) (path_of e) (are.short e)

  module _ (few : t.names ≤ 4294967296) (all : Parts) (hold : HoldParts t live_now all) where
    -- where there is no part there is no fragment
    pub no_place : (e i : ℕ) → slice_get (all e) i ≡ None → place_at t.chains e i ≡ None
    no_place e i none = by (place_at t.chains e i) refl
      where
        by : (o : Option Place) → place_at t.chains e i ≡ o → place_at t.chains e i ≡ None
        by None h = h
        by (Some p) h =
            (let l = are.linked e i p h in
            some_none refl (sym (ap (option_map bare) l.is_live) ∙ (sym (ap (found bare live_now) h) ∙ (hold e i ∙ ap (option_map (bare_fragment (owner t e))) none))))

    -- and where there is one there is a fragment with its bytes
    pub part_at_place : (e i : ℕ) (p : Place) → place_at t.chains e i ≡ Some p → ((part : List ℕ) → slice_get (all e) i ≡ Some part → length part ≤ fragment_bytes)
        → Some (bytes_at live_now p) ≡ slice_get (all e) i
    part_at_place e i p h short = by (slice_get (all e) i) refl
      where
        by : (o : Option (List ℕ)) → slice_get (all e) i ≡ o → Some (bytes_at live_now p) ≡ slice_get (all e) i
        by None s = some_none h (no_place e i s)
        by (Some part) s =
            let l = are.linked e i p h in let small = are.owned e i p h in
            let same : bare l.item ≡ bare_fragment (owner t e) part =
            some_is (sym (ap (option_map bare) l.is_live) ∙ (sym (ap (found bare live_now) h) ∙ (hold e i ∙ ap (option_map (bare_fragment (owner t e))) s))) in
            ap (λ (o : Option Item). Some (bytes_in (content_of o))) l.is_live
            ∙ (ap (λ (b : List ℕ). Some b) (bytes_read l.item.content (owner t e) part (record {
              name_fits = omega (arith, small, few);
              short = short part s;
              body = ap (λ (x : Item). x.content) same;
            })) ∙ sym s)

    pub pieces_are : (e : ℕ) → ((i : ℕ) (part : List ℕ) → slice_get (all e) i ≡ Some part → length part ≤ fragment_bytes) → pieces_from live_now (first_at t.firsts e) ≡ all e
    pieces_are e short =
        ap (λ (ps : List Place). map (bytes_at live_now) ps) (followed_is e)
        ∙ lists_same (map (bytes_at live_now) (chain_at t.chains e)) (all e) (λ i. slice_get-map (bytes_at live_now) (chain_at t.chains e) i ∙ one i (place_at t.chains e i) refl)
      where
        one : (i : ℕ) (o : Option Place) → place_at t.chains e i ≡ o → option_map (bytes_at live_now) o ≡ slice_get (all e) i
        one i None h = by (slice_get (all e) i) refl
          where
            by : (q : Option (List ℕ)) → slice_get (all e) i ≡ q → None ≡ slice_get (all e) i
            by None s = sym s
            by (Some part) s = some_none refl (sym (ap (option_map (bare_fragment (owner t e))) s) ∙ (sym (hold e i) ∙ ap (found bare live_now) h))
        one i (Some p) h = part_at_place e i p h (short i)

  module _ (few : t.names ≤ 4294967296) (values : Values) (written : List (List ℕ)) (hold : HoldParts t live_now (all_parts values written)) where
    pub read_is : (e : ℕ) → e ≢ length values → read live_now (first_at t.firsts e) ≡ value_of values e
    read_is e far = by (value_of values e) refl
      where
        named : all_parts values written e ≡ parts_if (value_of values e)
        named = parts_named values written e far

        read_some : (o : Option Place) (bytes : List ℕ) → first_at t.firsts e ≡ o → value_of values e ≡ Some bytes → o ≢ None → concat (pieces_from live_now o) ≡ bytes → read live_now o ≡ Some bytes
        read_some None bytes h s some is = absurd (some refl)
        read_some (Some p) bytes h s some is = ap (λ (b : List ℕ). Some b) is

        by : (o : Option (List ℕ)) → value_of values e ≡ o → read live_now (first_at t.firsts e) ≡ value_of values e
        by None s =
            ap (read live_now) (are.firsts e ∙ no_place few (all_parts values written) hold e 0 (ap (λ (ps : List (List ℕ)). slice_get ps 0) (named ∙ ap parts_if s))) ∙ sym s
        by (Some bytes) s =
            let is : all_parts values written e ≡ parts bytes = named ∙ ap parts_if s in
            let pieces : pieces_from live_now (first_at t.firsts e) ≡ parts bytes =
            pieces_are few (all_parts values written) hold e (λ i part h. cut_short (count_of (length bytes)) bytes i part (sym (ap (λ (ps : List (List ℕ)). slice_get ps i) is) ∙ h)) ∙ is in
            read_some (first_at t.firsts e) bytes refl s (λ none. no_pieces bytes (sym pieces ∙ ap (pieces_from live_now) none)) (ap concat pieces ∙ concat_parts bytes) ∙ sym s
          where
            no_pieces : (bytes : List ℕ) → parts bytes ≡ [] → ⊥
            no_pieces bytes h = at (count_of (length bytes)) refl h
              where
                at : (n : ℕ) → count_of (length bytes) ≡ n → cut n bytes ≡ [] → ⊥
                at zero is e = absurd (omega (arith, is))
                at (suc n) is e = (let l = ap (λ (ps : List (List ℕ)). length ps) e in omega (arith, l))

-- ---- the values of all names

read_mapped : (live_now : Live) (os : List (Option Place)) (i : ℕ) → slice_index_or (map (read live_now) os) i None ≡ read live_now (first_at os i)
read_mapped live_now [] i = refl
read_mapped live_now (o ∷ os) zero = refl
read_mapped live_now (o ∷ os) (suc i) = read_mapped live_now os i

pub values_are : (t : TableState) (live_now : Live) (values : Values) (written : List (List ℕ)) → AreChains t live_now → t.names ≤ 4294967296 → t.names < length t.firsts
    → length values ≡ t.names → HoldParts t live_now (all_parts values written) → map (read live_now) (take t.names t.firsts) ≡ values
values_are t live_now values written are few more same hold =
    let firsts = take t.names t.firsts in
    let long = length-map firsts (read live_now) in let cut_to = length-take t.names t.firsts in
    ext_get_or None (map (read live_now) firsts) values (omega (arith, long, cut_to, same, more))
    (λ i inside. (let below : i < t.names = omega (arith, inside, long, cut_to, more) in
    read_mapped live_now firsts i
    ∙ (ap (read live_now) (get_or-take t.names t.firsts i None below) ∙ read_is t live_now are few values written hold i (λ e. (omega (arith, e, below, same))))))

-- ---- the sum of the sizes

pub live_set : (values : Values) (n : ℕ) (o : Option (List ℕ)) → n < length values → live (slice_set values n o) + size_if (value_of values n) ≡ live values + size_if o
live_set values n o h = sum_by-set size_if values n o None h

-- ---- one value

module _ (t : TableState) (r : RegionState) (entries : AreEntries t) where
  pub count_is : length (values_in t r) ≡ t.names
  count_is =
      let most = entries.firsts in let long = length-map (take t.names t.firsts) (read (live_at r)) in let cut_to = length-take t.names t.firsts in
      omega (arith, most, long, cut_to)

  pub value_at : (n : ℕ) → n < t.names → value_of (values_in t r) n ≡ read (live_at r) (first_at t.firsts n)
  value_at n h = read_mapped (live_at r) (take t.names t.firsts) n ∙ ap (read (live_at r)) (get_or-take t.names t.firsts n None h)

  pub value_past : (n : ℕ) → t.names ≤ n → value_of (values_in t r) n ≡ None
  value_past n h = get_or_past (values_in t r) n None (let count = count_is in omega (arith, count, h))

  pub value_none : (n : ℕ) → n < t.names → first_at t.firsts n ≡ None → value_of (values_in t r) n ≡ None
  value_none n h none = value_at n h ∙ ap (read (live_at r)) none

  pub value_some : (n : ℕ) (p : Place) → n < t.names → first_at t.firsts n ≡ Some p → value_of (values_in t r) n ≡ Some (concat (pieces_from (live_at r) (first_at t.firsts n)))
  value_some n p h some = value_at n h ∙ (ap (read (live_at r)) some ∙ ap (λ o. Some (concat (pieces_from (live_at r) o))) (sym some))

  pub leads_from : (lengths : List ℕ) (segments n : ℕ) (p : Place) → IsConsistent t r lengths segments → n < t.names → first_at t.firsts n ≡ Some p
      → Leads (live_at r) (first_at t.firsts n) (slice_index_or lengths n 0)
  leads_from lengths segments n p i h some = record {
    path = subst (λ ps. IsPath (live_at r) (first_at t.firsts n) ps) (sym (followed_is t (live_at r) i.chains n)) (path_of t (live_at r) i.chains n);
    left_is = i.lens n (concat (pieces_from (live_at r) (first_at t.firsts n))) (value_some n p h some);
  }
