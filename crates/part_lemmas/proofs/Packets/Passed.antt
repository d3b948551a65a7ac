-- How many packets went over links.
use Rattle.std.proofs.Common.{◌≡◌, ℕ, zero, suc, ◌+◌, ◌<◌, ◌≤◌, ◌↔◌, Bool, true, false, List, [], ◌∷◌, length, get_or, slice_get, slice_set}
use Rattle.std.proofs.Common.{Option, Some, None, IsSome, IsNone, IsTrue, ◌||◌, inl, inr, arith, refl, sym, ap, sum_by, true≢false}
use Rattle.std.proofs.lemmas.Bool.{cases_order}
use Rattle.std.proofs.lemmas.List.{length-append}
use Rattle.std.proofs.lemmas.List.Sums.{sum_by-cons, sum_by-set}
use Rattle.foreign_list.specs.Blocks.{Block}
use Rattle.shard_rings.specs.Lanes.{Lanes, adds, Traffic}
use Rattle.shard_rings.specs.declared.link.Lane.{Lane}
use Rattle.shard_rings.specs.declared.link.Lane.TheVariants.{Requests, Replies}
use Rattle.shard_rings.specs.declared.link.Packet.{Packet}
use Rattle.part_lemmas.specs.Exchange.{packets}
use Rattle.part_lemmas.specs.Sends.{SendsHeld, TriesBye}

-- over one link

pub packets_same : (old new : Traffic) → new.sent ≡ old.sent → new.received ≡ old.received → packets new ≡ packets old
packets_same old new sent received =
    let a = ap (λ (ps : Lanes (List Packet)). length ps.requests + length ps.replies) sent in
    let b = ap (λ (ps : Lanes (List Packet)). length ps.requests + length ps.replies) received in
    omega (arith, a, b)

one_more : (lane : Lane) (packet : Packet) (lists : Lanes (List Packet))
    → length (adds lane packet lists).requests + length (adds lane packet lists).replies ≡ length lists.requests + length lists.replies + 1
one_more Requests packet lists = let e = length-append lists.requests (packet ∷ []) in omega (arith, e)
one_more Replies packet lists = let e = length-append lists.replies (packet ∷ []) in omega (arith, e)

pub packets_sent : (lane : Lane) (packet : Packet) (old new : Traffic) → new.sent ≡ adds lane packet old.sent → new.received ≡ old.received → packets new ≡ packets old + 1
packets_sent lane packet old new sent received =
    let a = ap (λ (ps : Lanes (List Packet)). length ps.requests + length ps.replies) sent in
    let b = ap (λ (ps : Lanes (List Packet)). length ps.requests + length ps.replies) received in
    let c = one_more lane packet old.sent in
    omega (arith, a, b, c)

pub packets_came : (lane : Lane) (packet : Packet) (old new : Traffic) → new.received ≡ adds lane packet old.received → new.sent ≡ old.sent → packets new ≡ packets old + 1
packets_came lane packet old new received sent =
    let a = ap (λ (ps : Lanes (List Packet)). length ps.requests + length ps.replies) sent in
    let b = ap (λ (ps : Lanes (List Packet)). length ps.requests + length ps.replies) received in
    let c = one_more lane packet old.received in
    omega (arith, a, b, c)

some-none : (block : Block) → IsNone (Some block) → ⊥
some-none block none = true≢false none

-- a block that waits was sent exactly where a packet more went over the link
pub sends_more : (lane : Lane) (a b : Option Block) (old new : Traffic) → SendsHeld lane a b old new → (IsSome a × IsNone b) ↔ (packets old < packets new)
sends_more lane None b old new sends = (λ is. absurd (true≢false (sym is.0)), λ less. let e = ap packets sends.1 in absurd (omega (arith, e, less)))
sends_more lane (Some block) None old new sends = (
  λ is. let e = packets_sent lane _ old new sends.sent sends.received in omega (arith, e),
  λ less. (refl, refl),
)
sends_more lane (Some block) (Some later) old new sends =
    (λ is. absurd (some-none later is.1), λ less. let e = packets_same old new sends.1.sent sends.1.received in absurd (omega (arith, e, less)))

pub bye_more : (before after : Bool) (old new : Traffic) → TriesBye before after old new → (packets old < packets new) → (before ≡ false) × (after ≡ true)
bye_more true after old new tries less = let e = ap packets tries.1 in absurd (omega (arith, e, less))
bye_more false true old new tries less = (refl, refl)
bye_more false false old new tries less = let e = packets_same old new tries.sent tries.received in absurd (omega (arith, e, less))

pub sends_low : (lane : Lane) (a b : Option Block) (old new : Traffic) → SendsHeld lane a b old new → packets old ≤ packets new
sends_low lane None b old new sends = let e = ap packets sends.1 in omega (arith, e)
sends_low lane (Some block) None old new sends = let e = packets_sent lane _ old new sends.sent sends.received in omega (arith, e)
sends_low lane (Some block) (Some later) old new sends = let e = packets_same old new sends.1.sent sends.1.received in omega (arith, e)

pub bye_low : (before after : Bool) (old new : Traffic) → TriesBye before after old new → packets old ≤ packets new
bye_low true after old new tries = let e = ap packets tries.1 in omega (arith, e)
bye_low false true old new tries = let e = packets_sent Requests _ old new tries.sent tries.received in omega (arith, e)
bye_low false false old new tries = let e = packets_same old new tries.sent tries.received in omega (arith, e)

pub bye_sent : (old new : Traffic) → TriesBye false true old new → packets old < packets new
bye_sent old new tries = let e = packets_sent Requests _ old new tries.sent tries.received in omega (arith, e)

-- over all

pub sums_rise : {X : Type 0} (f : X → ℕ) (xs ys : List X) → length ys ≡ length xs
    → ((k : ℕ) (d : X) → k < length xs → f (get_or xs k d) ≤ f (get_or ys k d)) → sum_by f xs ≤ sum_by f ys
sums_rise f [] [] same each = omega arith
sums_rise f [] (y ∷ ys) same each = absurd (omega (arith, same))
sums_rise f (x ∷ xs) [] same each = absurd (omega (arith, same))
sums_rise f (x ∷ xs) (y ∷ ys) same each =
    let a = sum_by-cons f x xs in
    let b = sum_by-cons f y ys in
    let first : f x ≤ f y = each 0 x (omega arith) in
    let rest = sums_rise f xs ys (omega (arith, same)) (λ k d below. each (suc k) d (omega (arith, below))) in
    omega (arith, a, b, first, rest)

-- where the sum is no greater, none is
pub sums_still : {X : Type 0} (f : X → ℕ) (xs ys : List X) → length ys ≡ length xs
    → ((k : ℕ) (d : X) → k < length xs → f (get_or xs k d) ≤ f (get_or ys k d)) → sum_by f ys ≤ sum_by f xs
    → (k : ℕ) (d : X) → k < length xs → f (get_or ys k d) ≤ f (get_or xs k d)
sums_still f [] ys same each still k d below = absurd (omega (arith, below))
sums_still f (x ∷ xs) [] same each still k d below = absurd (omega (arith, same))
sums_still f (x ∷ xs) (y ∷ ys) same each still zero d below =
    let a = sum_by-cons f x xs in
    let b = sum_by-cons f y ys in
    let rest = sums_rise f xs ys (omega (arith, same)) (λ k d below. each (suc k) d (omega (arith, below))) in
    omega (arith, a, b, rest, still)
sums_still f (x ∷ xs) (y ∷ ys) same each still (suc k) d below =
    let a = sum_by-cons f x xs in
    let b = sum_by-cons f y ys in
    let first : f x ≤ f y = each 0 x (omega arith) in
    sums_still f xs ys (omega (arith, same)) (λ k d below. each (suc k) d (omega (arith, below))) (omega (arith, a, b, first, still)) k d (omega (arith, below))

-- where it is greater, one is
pub one_rose : {X : Type 0} (f : X → ℕ) (xs ys : List X) → length ys ≡ length xs → sum_by f xs < sum_by f ys
    → (k : ℕ) × (a b : X) × (slice_get xs k ≡ Some a) × (slice_get ys k ≡ Some b) × (f a < f b)
one_rose f [] [] same rose = absurd (omega (arith, rose))
one_rose f [] (y ∷ ys) same rose = absurd (omega (arith, same))
one_rose f (x ∷ xs) [] same rose = absurd (omega (arith, same))
one_rose {X} f (x ∷ xs) (y ∷ ys) same rose =
    let a = sum_by-cons f x xs in
    let b = sum_by-cons f y ys in
    let later : f y ≤ f x → (k : ℕ) × (a b : X) × (slice_get (x ∷ xs) k ≡ Some a) × (slice_get (y ∷ ys) k ≡ Some b) × (f a < f b) =
    λ less. (let rest = one_rose f xs ys (omega (arith, same)) (omega (arith, a, b, rose, less)) in (suc rest.0, rest.1, rest.2, rest.3, rest.4, rest.5)) in
    elim (cases_order (f x) (f y)) [
      | inl is ↦ later (omega (arith, is))
      | inr (inl less) ↦ (0, x, y, refl, refl, less)
      | inr (inr more) ↦ later (omega (arith, more))
    ]

-- one place changes
pub one_more_so : {X : Type 0} (f : X → ℕ) (xs : List X) (at : ℕ) (old new : X) → at < length xs → get_or xs at old ≡ old
    → (f old < f new) ↔ (sum_by f xs < sum_by f (slice_set xs at new))
one_more_so f xs at old new within here =
    let e = sum_by-set f xs at new old within in
    let is = ap f here in
    (λ less. omega (arith, e, is, less), λ less. omega (arith, e, is, less))

-- what moved so far, and now
pub or_rises : (a b : Bool) (x y z : ℕ) → (IsTrue a ↔ (x < y)) → (IsTrue b ↔ (y < z)) → x ≤ y → y ≤ z → (IsTrue (a || b) ↔ (x < z))
or_rises true b x y z first second low high = (λ is. let e = first.0 refl in omega (arith, e, high), λ less. refl)
or_rises false true x y z first second low high = (λ is. let e = second.0 refl in omega (arith, e, low), λ less. refl)
or_rises false false x y z first second low high = (
  λ is. absurd (false-true is),
  λ less. elim (cases_order x y) [
    | inl same ↦ second.1 (omega (arith, same, less))
    | inr (inl more) ↦ first.1 more
    | inr (inr fewer) ↦ absurd (omega (arith, fewer, low))
  ],
)
  where
    false-true : IsTrue false → ⊥
    false-true e = cc
