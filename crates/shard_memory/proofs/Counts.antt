-- How many pieces are allocated where no segment is left.
use Rattle.std.proofs.Common.{◌≡◌, ℕ, zero, suc, ◌+◌, ◌*◌, ◌/◌, ◌%◌, ◌^◌, ◌<◌, ◌≤◌, inl, inr, List, [], ◌∷◌, length, refl, sym, subst, ◌∙◌, arith}
use Rattle.std.specs.Prelude.{Contains}
use Rattle.std.proofs.Math.Nat.{mul-le-mul_right}
use Rattle.layout.specs.Sizes.{page}
use Rattle.common_lemmas.proofs.Orders.{lt_or_ge}
use Rattle.common_lemmas.specs.Lists.{times, delete}
use Rattle.common_lemmas.proofs.Counts.{times_here, times_cons_le, times-delete_other, length-delete}
use Rattle.layout.specs.Extents.{Extent, extent}
use Rattle.span_lists.specs.Layout.{Layout, IsBlocked}
use Rattle.common_lemmas.proofs.Powers.{aligned_step, coarser, nested, start_is}
use Rattle.std.proofs.lemmas.Nat.{pow_pos}
use Rattle.small_pools.specs.Classes.{IsClass, capacity_of, order_of, size_of}
use Rattle.small_pools.specs.Objects.{Objects, AreUsed, slot_place}
use Rattle.shard_memory.specs.inside.Parts.{IsConsistent, segments_of, blocks_of}
use Rattle.shard_memory.proofs.Lists.{has_cases, both_kinds}

-- the aligned runs of 131,072 bytes in which the pieces begin
runs : List Extent → List ℕ
runs [] = []
runs (p ∷ ps) = (p.start / 131072) ∷ runs ps

runs_len : (ps : List Extent) → length (runs ps) ≡ length ps
unfolding runs
runs_len [] = refl
runs_len (p ∷ ps) = (let rest = runs_len ps in omega (arith, rest))

has_run : (p : Extent) (ps : List Extent) → Contains ps p → 1 ≤ times (p.start / 131072) (runs ps)
unfolding runs
has_run p [] h = absurd (let l = h.1 in omega (arith, l))
has_run p (q ∷ ps) h = elim (has_cases q p ps h) [
  | inl same ↦ (let here = times_here (p.start / 131072) (runs ps) in subst (λ (z : Extent). 1 ≤ times (p.start / 131072) ((z.start / 131072) ∷ runs ps)) (sym same) (omega (arith, here)))
  | inr later ↦ (let rest = has_run p ps later in let more = times_cons_le (p.start / 131072) (q.start / 131072) (runs ps) in omega (arith, rest, more))
]

-- a list that has each number below m has m numbers or more
all_there : (m : ℕ) (xs : List ℕ) → ((x : ℕ) → x < m → 1 ≤ times x xs) → m ≤ length xs
all_there zero xs h = omega arith
all_there (suc m) xs h =
    let one = h m (omega arith) in
    let less = length-delete m xs one in
    let rest = all_there m (delete m xs) (λ x l. subst (λ t. 1 ≤ t) (sym (times-delete_other x m xs (λ e. omega (arith, l, e)))) (h x (omega (arith, l)))) in
    omega (arith, less, rest)

in_run : (at b : ℕ) → 131072 * b ≤ at → at < 131072 * b + 131072 → at / 131072 ≡ b
in_run at b low high = omega (arith, low, high)

start_of_run : (b : ℕ) → (32 * b) % 2 ^ 5 ≡ 0
start_of_run b = omega arith

run_inside : (b n : ℕ) → b < n / 32 → 32 * b + 2 ^ 5 ≤ n
run_inside b n l = omega (arith, l)

-- a slot of a span lies in its pages
pub slot_within : (first class slot : ℕ) → IsClass class → slot < capacity_of class → (page * first ≤ slot_place first class slot) × (slot_place first class slot + size_of class ≤ page * (first + 2 ^ order_of class))
slot_within first class slot is within =
    let fits = is.fits in
    let more : (slot + 1) * size_of class ≤ capacity_of class * size_of class = mul-le-mul_right (size_of class) (omega arith) in
    (omega arith, omega (arith, more, fits))

-- a piece begins in each aligned run
in_each_run : (n : ℕ) (allocated : List Extent) (spans : Layout) (pools : Objects) (b : ℕ) → IsConsistent n allocated spans pools → IsBlocked spans 5 → AreUsed pools → b < n / 32
    → (p : Extent) × Contains allocated p × (p.start / 131072 ≡ b)
in_each_run n allocated spans pools b h blocked used small =
    let a = start_of_run b in
    let x = blocked (32 * b) a (subst (λ z. 32 * b + 2 ^ 5 ≤ z) (sym h.same) (run_inside b n small)) in
    let page = x.0 in let first = x.1 in let k = x.2 in
    let low : 32 * b ≤ page = x.3 in let high : page < 32 * b + 2 ^ 5 = x.4 in
    let from : first ≤ page = x.6 in let to : page < first + 2 ^ k = x.7 in
    let aligned : first % 2 ^ k ≡ 0 = (h.divided.spans first k (inr x.5)).1 in
    elim (h.spans_allocated first k x.5) [
      | inl s ↦
          (let same : first ≡ 32 * b =
          sym (start_is page first 5 (subst (λ j. first % 2 ^ j ≡ 0) s.0 aligned) from (subst (λ j. page < first + 2 ^ j) s.0 to)) ∙ start_is page (32 * b) 5 a low high in
          (extent (4096 * first) 131072, s.1, in_run (4096 * first) b (omega (arith, same)) (omega (arith, same))))
      | inr c ↦
          (let facts = (h.objects.spans first c.0 c.1).0 in
          let o = used first c.0 c.1 in
          let allocated_at = h.objects_allocated (slot_place first c.0 o.0) (size_of c.0) o.2 in
          let w = slot_within first c.0 o.0 facts o.1 in
          let few = facts.order_most in let some = facts.size_least in
          let k_is : k ≡ order_of c.0 = c.2 in
          let most : k ≤ 5 = omega (arith, few, k_is) in
          let ends = nested first (32 * b) k 5 most aligned a (omega (arith, from, high)) in
          let begins : 32 * b ≤ first = (elim (lt_or_ge first (32 * b)) [ inr g ↦ g | inl l ↦ absurd (let t = aligned_step first (32 * b) (2 ^ k) (pow_pos k) aligned (coarser (32 * b) k 5 most a) l in omega (arith, t, low, to)) ]) in
          let low_at = w.0 in
          let high_at : slot_place first c.0 o.0 + size_of c.0 ≤ 4096 * (first + 2 ^ k) = subst (λ j. slot_place first c.0 o.0 + size_of c.0 ≤ 4096 * (first + 2 ^ j)) (sym k_is) w.1 in
          (extent (slot_place first c.0 o.0) allocated_at.0, allocated_at.2, in_run (slot_place first c.0 o.0) b (omega (arith, low_at, begins)) (omega (arith, high_at, ends, some))))
    ]

pub pieces_enough : (n : ℕ) (allocated : List Extent) (spans : Layout) (pools : Objects) → IsConsistent n allocated spans pools → IsBlocked spans 5 → AreUsed pools
    → n / 32 ≤ length (segments_of allocated) + length (blocks_of allocated)
pieces_enough n allocated spans pools h blocked used =
    let all = all_there (n / 32) (runs allocated) (λ b l. (let p = in_each_run n allocated spans pools b h blocked used l in subst (λ z. 1 ≤ times z (runs allocated)) p.2 (has_run p.0 allocated p.1))) in
    let len = runs_len allocated in
    let both = both_kinds allocated in
    omega (arith, all, len, both)

-- a longer run is blocked where a shorter one is
blocked_above : (spans : Layout) (j k : ℕ) → j ≤ k → IsBlocked spans j → IsBlocked spans k
blocked_above spans j k less blocked start aligned within =
    let pos = pow_pos k in
    let shorter = coarser start j k less aligned in
    let inside = nested start start j k less shorter aligned (omega (arith, pos)) in
    let b = blocked start shorter (omega (arith, inside, within)) in
    let low = b.3 in let high = b.4 in
    (b.0, b.1, b.2, low, omega (arith, high, inside), b.5, b.6, b.7)

-- where runs of a small order are blocked, and each pool span has an allocated object
pub crowded : (n order : ℕ) (allocated : List Extent) (spans : Layout) (pools : Objects) → IsConsistent n allocated spans pools → order ≤ 4 → IsBlocked spans order
    → AreUsed pools → n / 32 ≤ length (segments_of allocated) + length (blocks_of allocated)
crowded n order allocated spans pools h small blocked used = pieces_enough n allocated spans pools h (blocked_above spans order 5 (omega (arith, small)) blocked) used
