-- What a try of each block that waits to be released comes to.
use Rattle.std.proofs.Common.{◌≡◌, ℕ, ◌+◌, ◌≤◌, min, Option, Some, None, arith, refl}
use Rattle.foreign_list.specs.Blocks.{Block}
use Rattle.layout.specs.Counts.{counted, greatest_count}
use Rattle.shard_rings.specs.Lanes.{Lanes}
use Rattle.part_lemmas.specs.Exchange.{one_if}
use Rattle.part_lemmas.specs.Releases.{Releases, Tries, TriesBoth, held_count}

-- so many more, and then so many
pub counts_on : (a b x y z : ℕ) → (x ≤ greatest_count → y ≡ min (x + a) greatest_count) → (y ≤ greatest_count → z ≡ min (y + b) greatest_count)
    → x ≤ greatest_count → z ≡ min (x + (a + b)) greatest_count
counts_on a b x y z first second most =
    let e = first most in
    let f = second (omega (arith, e)) in
    omega (arith, e, f)

pub one_try : (old new : Option Block) (x y : ℕ) → Tries old new x y → Releases (one_if old) (one_if new) x y
one_try None (Some later) x y tries = absurd (let e = tries.0 in cc)
one_try None None x y tries = record { released = 0; all = refl; counts = λ most. let e = tries.1 in omega (arith, e, most) }
one_try (Some block) None x y tries = record { released = 1; all = refl; counts = λ most. let e : y ≡ counted x = tries in omega (arith, e, most) }
one_try (Some block) (Some later) x y tries = record { released = 0; all = refl; counts = λ most. let e = tries.1 in omega (arith, e, most) }

pub both : (a b c d x y z : ℕ) → Releases a b x y → Releases c d y z → Releases (a + c) (b + d) x z
both a b c d x y z first second = record {
  released = first.released + second.released;
  all = let e = first.all in let f = second.all in omega (arith, e, f);
  counts = counts_on first.released second.released x y z first.counts second.counts;
}

pub two_tries : (old new : Lanes (Option Block)) (x z : ℕ) → TriesBoth old new x z → Releases (held_count old) (held_count new) x z
two_tries old new x z tries = both (one_if old.requests) (one_if new.requests) (one_if old.replies) (one_if new.replies) x tries.between z
    (one_try old.requests new.requests x tries.between tries.requests) (one_try old.replies new.replies tries.between z tries.replies)
