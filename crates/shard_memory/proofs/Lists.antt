-- Which places a list has, and how many.
use Rattle.std.proofs.Common.{◌≡◌, ◌≢◌, ℕ, suc, ◌+◌, ◌*◌, ◌/◌, ◌%◌, ◌^◌, ◌<◌, ◌≤◌, ◌⊎◌, inl, inr, Bool, true, false, cond, not, ◌==◌, eq-eqb, List, [], ◌∷◌, length, refl, sym, ap, ap₂, subst, ◌∙◌, arith}
use Rattle.std.specs.Prelude.{All, AllPairs, Contains, filter, slice_index_or}
use Rattle.std.proofs.lemmas.List.{get_or_default, nil_from_length}
use Rattle.std.proofs.lemmas.List.Kept.{AllPairs-filter}
use Rattle.std.proofs.lemmas.Bool.{ne_eqb, cases_eq}
use Rattle.std.proofs.lemmas.Bool.Decides.{eqb_tells}
use Rattle.std.proofs.lemmas.List.Elements.{All-tail, All-head, All-weaker, All-filter, All-contains, All-contains_itself, filter_passes, Contains-append_left, Contains-append_right, Contains-append_cases, Contains-push, Contains-push_cases}
use Rattle.common_lemmas.proofs.Orders.{trichotomy}
use Rattle.common_lemmas.specs.Lists.{times}
use Rattle.common_lemmas.proofs.Counts.{times_here, times_there, length_below}
use Rattle.layout.specs.Extents.{Extent, Disjoint, IsWithin, AreDisjoint}
use Rattle.layout.specs.Sizes.{most_pages, most_pieces, most_segments}
use Rattle.raw_range.specs.Memory.{remove_extent}
use Rattle.shard_memory.specs.inside.Parts.{is_segment, is_block, segments_of, blocks_of}
use Rattle.shard_memory.specs.inside.Pieces.{most_out}

pub has_first : (p : Extent) (ps : List Extent) → Contains (p ∷ ps) p
has_first p ps = Contains-append_left (p ∷ []) ps p (Contains-push [] p)

pub has_later : (p q : Extent) (ps : List Extent) → Contains ps q → Contains (p ∷ ps) q
has_later p q ps h = Contains-append_right (p ∷ []) ps q h

pub has_cases : (p q : Extent) (ps : List Extent) → Contains (p ∷ ps) q → (p ≡ q) ⊎ Contains ps q
has_cases p q ps h = elim (Contains-append_cases (p ∷ []) ps q h) [
  | inl one ↦ elim (Contains-push_cases [] p q one) [ inl none ↦ absurd (let l = none.1 in omega (arith, l)) | inr e ↦ inl e ]
  | inr rest ↦ inr rest
]

pub all_of : (P : Extent → Type 0) (ps : List Extent) → ((q : Extent) → Contains ps q → P q) → All P ps
all_of P ps h = All-weaker (Contains ps) P h ps (All-contains_itself ps)

pub kept_by : (t : Extent → Bool) (q : Extent) (ps : List Extent) → Contains ps q → t q ≡ true → Contains (filter t ps) q
kept_by t q [] h e = absurd (let l = h.1 in omega (arith, l))
kept_by t q (p ∷ ps) h e = elim (has_cases p q ps h) [
  | inl same ↦ subst (λ b. Contains (cond b (p ∷ filter t ps) (filter t ps)) q) (sym (ap t same ∙ e)) (subst (λ z. Contains (z ∷ filter t ps) q) (sym same) (has_first q (filter t ps)))
  | inr later ↦ elim (t p) as (λ b. Contains (cond b (p ∷ filter t ps) (filter t ps)) q) [ true ↦ has_later p q (filter t ps) (kept_by t q ps later e) | false ↦ kept_by t q ps later e ]
]

-- the places that begin elsewhere are still there, and no others
pub kept : (p q : Extent) (ps : List Extent) → Contains ps q → q.start ≢ p.start → Contains (remove_extent p ps) q
kept p q ps h n = kept_by (λ z. not (z.start == p.start)) q ps h (ap not (ne_eqb q.start p.start n))

pub still_has : (p q : Extent) (ps : List Extent) → Contains (remove_extent p ps) q → Contains ps q × (q.start ≢ p.start)
still_has p q ps h =
    let t : Extent → Bool = λ z. not (z.start == p.start) in
    let passes : t q ≡ true = All-contains (λ x. t x ≡ true) (filter t ps) q (filter_passes t ps) h in (
      All-contains (Contains ps) (filter t ps) q (All-filter t (Contains ps) ps (All-contains_itself ps)) h,
      λ e. (let clash : false ≡ true = sym (ap not (eq-eqb q.start p.start e)) ∙ passes in cc),
    )

pub not_apart : (p q : Extent) → 0 < p.len → 0 < q.len → p.start ≡ q.start → ¬ Disjoint p q
not_apart p q some more e (inl a) = omega (arith, a, some, e)
not_apart p q some more e (inr a) = omega (arith, a, more, e)

-- two blocks that begin at one place are one
pub same_place : (size : ℕ) (allocated : List Extent) (p q : Extent) → AreDisjoint size allocated → Contains allocated p → Contains allocated q → p.start ≡ q.start → p ≡ q
same_place size allocated p q blocks hp hq e =
    let at_q : slice_index_or allocated hq.0 p ≡ q = get_or_default allocated hq.0 p q hq.1 ∙ hq.2 in
    let wp : IsWithin size p = All-contains (IsWithin size) allocated p blocks.0 hp in
    let wq : IsWithin size q = All-contains (IsWithin size) allocated q blocks.0 hq in
    elim (trichotomy hp.0 hq.0) [
      | inl s ↦ sym hp.2 ∙ ap (λ k. slice_index_or allocated k p) s ∙ at_q
      | inr (inl l) ↦ absurd (not_apart p q wp.0 wq.0 e (subst (λ z. Disjoint z q) hp.2 (subst (λ z. Disjoint (slice_index_or allocated hp.0 p) z) at_q (blocks.1 hp.0 hq.0 p l hq.1))))
      | inr (inr l) ↦ absurd (not_apart q p wq.0 wp.0 (sym e) (subst (λ z. Disjoint q z) hp.2 (subst (λ z. Disjoint z (slice_index_or allocated hp.0 p)) at_q (blocks.1 hq.0 hp.0 p l hp.1))))
    ]

-- ---- how many

fewer_left : (t u : Extent → Bool) (ps : List Extent) → length (filter t (filter u ps)) ≤ length (filter t ps)
fewer_left t u [] = omega arith
fewer_left t u (p ∷ ps) =
    let rest = fewer_left t u ps in
    let more : length (filter t ps) ≤ length (filter t (p ∷ ps)) = elim (t p) as (λ b. length (filter t ps) ≤ length (cond b (p ∷ filter t ps) (filter t ps))) [ true ↦ omega arith | false ↦ omega arith ] in
    elim (u p) as (λ b. length (filter t (cond b (p ∷ filter u ps) (filter u ps))) ≤ length (filter t (p ∷ ps))) [
      | true ↦ elim (t p) as (λ b. length (cond b (p ∷ filter t (filter u ps)) (filter t (filter u ps))) ≤ length (cond b (p ∷ filter t ps) (filter t ps))) [ true ↦ omega (arith, rest) | false ↦ rest ]
      | false ↦ omega (arith, rest, more)
    ]

pub fewer_blocks : (p : Extent) (ps : List Extent) → length (blocks_of (remove_extent p ps)) ≤ length (blocks_of ps)
fewer_blocks p ps = fewer_left is_block (λ z. not (z.start == p.start)) ps

pub both_kinds : (ps : List Extent) → length ps ≡ length (segments_of ps) + length (blocks_of ps)
both_kinds [] = refl
both_kinds (p ∷ ps) =
    let rest = both_kinds ps in
    elim (is_segment p) as (λ b. length (p ∷ ps) ≡ length (cond b (p ∷ filter is_segment ps) (filter is_segment ps)) + length (cond (not b) (p ∷ filter is_block ps) (filter is_block ps))) [
      | true ↦ omega (arith, rest)
      | false ↦ omega (arith, rest)
    ]

-- the numbers of the aligned runs of 131,072 bytes in which the segments begin
starts : List Extent → List ℕ
starts [] = []
starts (p ∷ ps) = cond (is_segment p) ((p.start / 131072) ∷ starts ps) (starts ps)

starts_len : (ps : List Extent) → length (starts ps) ≡ length (segments_of ps)
unfolding starts
starts_len [] = refl
starts_len (p ∷ ps) =
    let rest = starts_len ps in
    elim (is_segment p) as (λ b. length (cond b ((p.start / 131072) ∷ starts ps) (starts ps)) ≡ length (cond b (p ∷ filter is_segment ps) (filter is_segment ps))) [ true ↦ omega (arith, rest) | false ↦ rest ]

none_step : (z : ℕ) (p : Extent) (xs : List ℕ) (b : Bool) → is_segment p ≡ b → (is_segment p ≡ true → (p.start / 131072) ≢ z) → times z xs ≡ 0 → times z (cond b ((p.start / 131072) ∷ xs) xs) ≡ 0
none_step z p xs true e n rest = times_there z (p.start / 131072) xs (n e) ∙ rest
none_step z p xs false e n rest = rest

none_starts : (z : ℕ) (ps : List Extent) → All (λ q. is_segment q ≡ true → (q.start / 131072) ≢ z) ps → times z (starts ps) ≡ 0
unfolding starts
none_starts z [] h = refl
none_starts z (p ∷ ps) h =
    let P : Extent → Type 0 = λ q. is_segment q ≡ true → (q.start / 131072) ≢ z in
    none_step z p (starts ps) (is_segment p) refl (All-head P p ps h) (none_starts z ps (All-tail P p ps h))

pub len_of : (p : Extent) → is_segment p ≡ true → p.len ≡ 131072
len_of p e = elim (eqb_tells p.len 131072) [ inl h ↦ h.1 | inr h ↦ absurd (let clash : false ≡ true = sym h.0 ∙ e in cc) ]

quotient : (x : ℕ) → (131072 * (x / 131072) ≤ x) × (x < 131072 * (x / 131072) + 131072)
quotient x = (omega arith, omega arith)

two_starts : (p q : Extent) → Disjoint p q → p.len ≡ 131072 → q.len ≡ 131072 → (q.start / 131072) ≢ (p.start / 131072)
two_starts p q (inl a) lp lq e = (let x = quotient p.start in let y = quotient q.start in omega (arith, a, lp, lq, e, x.0, x.1, y.0, y.1))
two_starts p q (inr a) lp lq e = (let x = quotient p.start in let y = quotient q.start in omega (arith, a, lp, lq, e, x.0, x.1, y.0, y.1))

once_step : (z : ℕ) (p : Extent) (ps : List Extent) (b : Bool) → is_segment p ≡ b → All (Disjoint p) ps → times z (starts ps) ≤ 1 → times z (cond b ((p.start / 131072) ∷ starts ps) (starts ps)) ≤ 1
once_step z p ps false e apart rest = rest
once_step z p ps true e apart rest = elim (cases_eq (p.start / 131072) z) [
  | inl s ↦
      (let none : times z (starts ps) ≡ 0 = none_starts z ps (All-weaker (Disjoint p) (λ (q : Extent). is_segment q ≡ true → (q.start / 131072) ≢ z) (λ q a f g. two_starts p q a (len_of p e) (len_of q f) (g ∙ sym s)) ps apart) in
      let here : times z ((p.start / 131072) ∷ starts ps) ≡ 1 + times z (starts ps) = subst (λ w. times z (w ∷ starts ps) ≡ 1 + times z (starts ps)) (sym s) (times_here z (starts ps)) in
      omega (arith, none, here))
  | inr n ↦ (let there = times_there z (p.start / 131072) (starts ps) n in omega (arith, there, rest))
]

once_starts : (z : ℕ) (ps : List Extent) → AllPairs Disjoint ps → times z (starts ps) ≤ 1
unfolding starts
once_starts z [] h = omega arith
once_starts z (p ∷ ps) h =
    once_step z p ps (is_segment p) refl (λ k d w. h 0 (suc k) d (omega arith) (omega (arith, w)))
    (once_starts z ps (λ i j d l w. h (suc i) (suc j) d (omega (arith, l)) (omega (arith, w))))

-- disjoint segments inside the bytes are as many as fit, at most
pub few_segments : (n size : ℕ) (ps : List Extent) → AreDisjoint size ps → size ≤ 131072 * n → length (segments_of ps) ≤ n
few_segments n size ps blocks small =
    let low = length_below n (starts ps) (λ z. once_starts z ps blocks.1)
    (λ z g. none_starts z ps (All-weaker (IsWithin size) (λ (q : Extent). is_segment q ≡ true → (q.start / 131072) ≢ z) (λ q w e s. (let l = len_of q e in let x = quotient q.start in let w1 = w.1 in omega (arith, l, w1, s, g, x.0, x.1, small))) ps blocks.0)) in
    let len = starts_len ps in
    omega (arith, low, len)

-- with so few pages there is room for one more piece
pub few_pieces : (pages : ℕ) (allocated : List Extent) → pages ≤ most_pages → AreDisjoint (4096 * pages) allocated → length (blocks_of allocated) ≤ most_out → length allocated < most_pieces
few_pieces pages allocated most blocks few =
    let segs = few_segments most_segments (4096 * pages) allocated blocks (omega (arith, most)) in
    let both = both_kinds allocated in
    omega (arith, segs, both, few)

pub page_of_start : (first : ℕ) → 4096 * first / 4096 ≡ first
page_of_start first = omega arith

pub whole_start : (first : ℕ) → first % 2 ^ 5 ≡ 0 → 4096 * first % 131072 ≡ 0
whole_start first h = omega (arith, h)

pub filter_swap : (t u : Extent → Bool) (ps : List Extent) → filter t (filter u ps) ≡ filter u (filter t ps)
filter_swap t u [] = refl
filter_swap t u (p ∷ ps) = swap_step t u p ps (t p) (u p) refl refl (filter_swap t u ps)
  where
    swap_step : (t u : Extent → Bool) (p : Extent) (ps : List Extent) (a b : Bool) → t p ≡ a → u p ≡ b → filter t (filter u ps) ≡ filter u (filter t ps) → filter t (cond b (p ∷ filter u ps) (filter u ps)) ≡ filter u (cond a (p ∷ filter t ps) (filter t ps))
    swap_step t u p ps true true et eu rest = ap (λ b. cond b (p ∷ filter t (filter u ps)) (filter t (filter u ps))) et ∙ ap (λ xs. p ∷ xs) rest ∙ sym (ap (λ b. cond b (p ∷ filter u (filter t ps)) (filter u (filter t ps))) eu)
    swap_step t u p ps true false et eu rest = rest ∙ sym (ap (λ b. cond b (p ∷ filter u (filter t ps)) (filter u (filter t ps))) eu)
    swap_step t u p ps false true et eu rest = ap (λ b. cond b (p ∷ filter t (filter u ps)) (filter t (filter u ps))) et ∙ rest
    swap_step t u p ps false false et eu rest = rest

all_kept : (t : Extent → Bool) (ps : List Extent) → All (λ q. t q ≡ true) ps → filter t ps ≡ ps
all_kept t [] h = refl
all_kept t (p ∷ ps) h =
    ap (λ b. cond b (p ∷ filter t ps) (filter t ps)) (All-head (λ (q : Extent). t q ≡ true) p ps h) ∙ ap (λ xs. p ∷ xs) (all_kept t ps (All-tail (λ (q : Extent). t q ≡ true) p ps h))

pub segment_is : (p : Extent) → p.len ≡ 131072 → is_segment p ≡ true
segment_is p e = eq-eqb p.len 131072 e

pub block_is : (p : Extent) → p.len ≤ 16384 → is_block p ≡ true
block_is p l = ap not (ne_eqb p.len 131072 (λ e. omega (arith, e, l)))

-- what a test passes of pieces without one that it does not pass
others_stay : (t : Extent → Bool) (size : ℕ) (allocated : List Extent) (p : Extent) → AreDisjoint size allocated → Contains allocated p → t p ≡ false → filter t (remove_extent p allocated) ≡ filter t allocated
others_stay t size allocated p blocks has fails =
    let u : Extent → Bool = λ z. not (z.start == p.start) in
    let stays : (q : Extent) → Contains (filter t allocated) q → u q ≡ true = λ q h.
    (let in_allocated : Contains allocated q = All-contains (Contains allocated) (filter t allocated) q (All-filter t (Contains allocated) allocated (All-contains_itself allocated)) h in
    let is : t q ≡ true = All-contains (λ x. t x ≡ true) (filter t allocated) q (filter_passes t allocated) h in
    ap not (ne_eqb q.start p.start (λ e.
    (let one : p ≡ q = same_place size allocated p q blocks has in_allocated (sym e) in
    let clash : false ≡ true = sym fails ∙ ap t one ∙ is in cc)))) in
    filter_swap t u allocated ∙ all_kept u (filter t allocated) (all_of (λ q. u q ≡ true) (filter t allocated) stays)

pub same_blocks : (size : ℕ) (allocated : List Extent) (p : Extent) → AreDisjoint size allocated → Contains allocated p → p.len ≡ 131072 → blocks_of (remove_extent p allocated) ≡ blocks_of allocated
same_blocks size allocated p blocks has len = others_stay is_block size allocated p blocks has (ap not (segment_is p len))

pub same_segments : (size : ℕ) (allocated : List Extent) (p : Extent) → AreDisjoint size allocated → Contains allocated p → p.len ≤ 16384 → segments_of (remove_extent p allocated) ≡ segments_of allocated
same_segments size allocated p blocks has len = others_stay is_segment size allocated p blocks has (ne_eqb p.len 131072 (λ e. omega (arith, e, len)))

pub removed_block : (p : Extent) (allocated : List Extent) → blocks_of (remove_extent p allocated) ≡ remove_extent p (blocks_of allocated)
removed_block p allocated = filter_swap is_block (λ z. not (z.start == p.start)) allocated

pub removed_segment : (p : Extent) (allocated : List Extent) → segments_of (remove_extent p allocated) ≡ remove_extent p (segments_of allocated)
removed_segment p allocated = filter_swap is_segment (λ z. not (z.start == p.start)) allocated

-- of disjoint pieces one alone begins at a place
pub remove_one : (size : ℕ) (p : Extent) (ps : List Extent) → AreDisjoint size ps → Contains ps p → length (remove_extent p ps) + 1 ≡ length ps
remove_one size p [] h has = absurd (let l = has.1 in omega (arith, l))
remove_one size p (q ∷ ps) h has =
    let tail : AreDisjoint size ps = (All-tail (IsWithin size) q ps h.0, λ i j d l w. h.1 (suc i) (suc j) d (omega (arith, l)) (omega (arith, w))) in
    let inside : IsWithin size q = All-head (IsWithin size) q ps h.0 in
    let apart : All (Disjoint q) ps = (λ k d w. h.1 0 (suc k) d (omega arith) (omega (arith, w))) in
    let u : Extent → Bool = λ z. not (z.start == p.start) in
    elim (has_cases q p ps has) [
      | inl same ↦
          (let gone : u q ≡ false = ap not (eq-eqb q.start p.start (ap (λ (z : Extent). z.start) same)) in
          let start : q.start ≡ p.start = ap (λ (z : Extent). z.start) same in
          let stay : filter u ps ≡ ps = all_kept u ps (λ k d w. ap not (ne_eqb _ p.start (λ e. not_apart q _ inside.0 (tail.0 k d w).0 (start ∙ sym e) (apart k d w)))) in
          ap (λ b. length (cond b (q ∷ filter u ps) (filter u ps)) + 1) gone ∙ ap (λ xs. length xs + 1) stay ∙ omega arith)
      | inr later ↦
          (let other : q.start ≢ p.start = (λ e. not_apart q p inside.0 (All-contains (IsWithin size) ps p tail.0 later).0 e (All-contains (Disjoint q) ps p apart later)) in
          let kept_q : u q ≡ true = ap not (ne_eqb q.start p.start other) in
          let rest = remove_one size p ps tail later in
          ap (λ b. length (cond b (q ∷ filter u ps) (filter u ps)) + 1) kept_q ∙ omega (arith, rest))
    ]

pub disjoint_still : (t : Extent → Bool) (size : ℕ) (allocated : List Extent) → AreDisjoint size allocated → AreDisjoint size (filter t allocated)
disjoint_still t size allocated h = (All-filter t (IsWithin size) allocated h.0, AllPairs-filter Disjoint t allocated h.1)

pub passes : (t : Extent → Bool) (allocated : List Extent) (q : Extent) → Contains (filter t allocated) q → Contains allocated q × (t q ≡ true)
passes t allocated q h = (
  All-contains (Contains allocated) (filter t allocated) q (All-filter t (Contains allocated) allocated (All-contains_itself allocated)) h,
  All-contains (λ x. t x ≡ true) (filter t allocated) q (filter_passes t allocated) h,
)

pub two_apart : (size : ℕ) (allocated : List Extent) (p q : Extent) → AreDisjoint size allocated → Contains allocated p → Contains allocated q → (p ≡ q) ⊎ Disjoint p q
two_apart size allocated p q blocks hp hq =
    let at_q : slice_index_or allocated hq.0 p ≡ q = get_or_default allocated hq.0 p q hq.1 ∙ hq.2 in
    elim (trichotomy hp.0 hq.0) [
      | inl s ↦ inl (sym hp.2 ∙ ap (λ k. slice_index_or allocated k p) s ∙ at_q)
      | inr (inl l) ↦ inr (subst (λ z. Disjoint z q) hp.2 (subst (λ z. Disjoint (slice_index_or allocated hp.0 p) z) at_q (blocks.1 hp.0 hq.0 p l hq.1)))
      | inr (inr l) ↦ inr (turned q p (subst (λ z. Disjoint q z) hp.2 (subst (λ z. Disjoint z (slice_index_or allocated hp.0 p)) at_q (blocks.1 hq.0 hp.0 p l hp.1))))
    ]
  where
    turned : (a b : Extent) → Disjoint a b → Disjoint b a
    turned a b (inl l) = inr l
    turned a b (inr r) = inl r

pub block_segment_apart : (size : ℕ) (allocated : List Extent) (p q : Extent) → AreDisjoint size allocated → Contains (blocks_of allocated) p → Contains (segments_of allocated) q → Disjoint p q
block_segment_apart size allocated p q blocks hp hq =
    let a = passes is_block allocated p hp in
    let b = passes is_segment allocated q hq in
    elim (two_apart size allocated p q blocks a.0 b.0) [
      | inl same ↦ absurd (let clash : false ≡ true = sym (ap not (ap is_segment same ∙ b.1)) ∙ a.1 in cc)
      | inr apart ↦ apart
    ]

-- no piece is both
pub not_both : (size : ℕ) (allocated : List Extent) (p : Extent) → AreDisjoint size allocated → Contains (blocks_of allocated) p → ¬ Contains (segments_of allocated) p
not_both size allocated p blocks hp hq =
    let some = (All-contains (IsWithin size) allocated p blocks.0 (passes is_block allocated p hp).0).0 in
    not_apart p p some some refl (block_segment_apart size allocated p p blocks hp hq)

pub none_left : (allocated : List Extent) → blocks_of allocated ≡ [] → segments_of allocated ≡ [] → allocated ≡ []
none_left allocated blocks segments = nil_from_length allocated (both_kinds allocated ∙ ap₂ (λ xs ys. length xs + length ys) segments blocks)

pub segment_added : (allocated : List Extent) (p : Extent) → p.len ≡ 131072 → segments_of (p ∷ allocated) ≡ p ∷ segments_of allocated
segment_added allocated p len = ap (λ b. cond b (p ∷ filter is_segment allocated) (filter is_segment allocated)) (segment_is p len)

pub segment_leaves_blocks : (allocated : List Extent) (p : Extent) → p.len ≡ 131072 → blocks_of (p ∷ allocated) ≡ blocks_of allocated
segment_leaves_blocks allocated p len = ap (λ b. cond (not b) (p ∷ filter is_block allocated) (filter is_block allocated)) (segment_is p len)

pub block_added : (allocated : List Extent) (p : Extent) → p.len ≤ 16384 → blocks_of (p ∷ allocated) ≡ p ∷ blocks_of allocated
block_added allocated p len = ap (λ b. cond b (p ∷ filter is_block allocated) (filter is_block allocated)) (block_is p len)

pub block_leaves_segments : (allocated : List Extent) (p : Extent) → p.len ≤ 16384 → segments_of (p ∷ allocated) ≡ segments_of allocated
block_leaves_segments allocated p len = ap (λ b. cond b (p ∷ filter is_segment allocated) (filter is_segment allocated)) (ne_eqb p.len 131072 (λ e. omega (arith, e, len)))
