use Rattle.std.proofs.Common.{arith}
use Rattle.key_table.proofs.Listed.{few_placed, placed_once, sorted_inside}
use Rattle.key_table.proofs.Both.{same_size}
use Rattle.key_table.proofs.late.Late.sort.Goals as goal

pub sort_all-requires-clause-small : goal.sort_all-requires-clause-small
sort_all-requires-clause-small g c =
    let few = few_placed c.self.inside.bound c.self.inside.numbers.items c.self.inside.places.items _ _ c.self.invariant.0 in
    omega (arith, few, c.self.ranges)

pub sort_all-requires-clause-room : goal.sort_all-requires-clause-room
sort_all-requires-clause-room g c =
    let few = few_placed c.self.inside.bound c.self.inside.numbers.items c.self.inside.places.items _ _ c.self.invariant.0 in
    omega (arith, few, c.self.invariant.1)

pub place_all-requires-clause-small : goal.place_all-requires-clause-small
place_all-requires-clause-small g c =
    let few = few_placed c.self.inside.bound c.self.inside.numbers.items c.self.inside.places.items _ _ c.self.invariant.0 in
    let size = same_size _ _ c.sort_all.ensures.numbers in
    omega (arith, few, size, c.self.ranges)

pub place_all-requires-clause-inside : goal.place_all-requires-clause-inside
place_all-requires-clause-inside g c = sorted_inside c.self.inside.bound c.self.inside.numbers.items c.sort_all.new.numbers.items c.self.inside.places.items _ _ c.self.invariant.0 c.sort_all.ensures.numbers

pub place_all-requires-clause-once : goal.place_all-requires-clause-once
place_all-requires-clause-once g c n =
    let once = placed_once c.self.inside.bound c.self.inside.numbers.items c.self.inside.places.items _ _ c.self.invariant.0 n in
    let same = c.sort_all.ensures.numbers n in
    omega (arith, once, same)

pub invariant_of-self : goal.invariant_of-self
invariant_of-self g c =
    let is = c.self.invariant.0 in
    let long = c.place_all.ensures.long in (
      record {
        placed = λ k h. (let i = sorted_inside c.self.inside.bound c.self.inside.numbers.items c.sort_all.new.numbers.items c.self.inside.places.items _ _ is c.sort_all.ensures.numbers k h in omega (arith, i, long));
        at = c.place_all.ensures.placed;
        few = omega (arith, is.few, long);
        numbers_fit = omega (arith, is.numbers_fit, c.sort_all.ensures.numbers_fit);
        places_fit = omega (arith, is.places_fit, c.place_all.ensures.capacity);
      },
      omega (arith, c.self.invariant.1, c.sort_all.ensures.waiting_fit),
    )
