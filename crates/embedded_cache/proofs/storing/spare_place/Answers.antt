use Rattle.std.proofs.Common.{◌≡◌, inr, [], ◌∷◌, length, refl, arith}
use Rattle.embedded_cache.proofs.Kept.{keeps_none, same_store}
use Rattle.embedded_cache.proofs.storing.spare_place.Goals as goal

pub evict_last-requires-clause-some : goal.evict_last-requires-clause-some
evict_last-requires-clause-some g c =
    let full = c.has_place.ensures.full c.if-has_place.false in let some = c.requires.room.1 in let many = full.1 in omega (arith, some, many)

pub evict_last-requires-clause-told : goal.evict_last-requires-clause-told
evict_last-requires-clause-told g c =
    let full = c.has_place.ensures.full c.if-has_place.false in let some = c.requires.room.1 in let many = full.1 in let told = c.requires.told in omega (arith, some, many, told)

pub returns-then-has_place-clause-spared : goal.returns-then-has_place-clause-spared
returns-then-has_place-clause-spared g c = record { tags = []; spares = (c.if-has_place.ensures.place refl, refl); told = refl }

pub returns-then-has_place-clause-few : goal.returns-then-has_place-clause-few
returns-then-has_place-clause-few g c = let few = c.facts.ensures.rows in let room = c.requires.room.0 in omega (arith, few, room)

pub returns-then-has_place-clause-same : goal.returns-then-has_place-clause-same
returns-then-has_place-clause-same g c = same_store c.args.store.now

pub returns-then-has_place-clause-tickets : goal.returns-then-has_place-clause-tickets
returns-then-has_place-clause-tickets g c = keeps_none c.args.store.now

pub returns-clause-spared : goal.returns-clause-spared
returns-clause-spared g c =
    let e = c.evict_last.ensures in let one = e.evicted in let full = c.has_place.ensures.full c.if-has_place.false in
    let few = c.facts.ensures.rows in let room = c.requires.room.0 in let many = full.1 in
    let all : length c.args.store.now.rows ≡ c.args.room = omega (arith, few, room, many) in
    record { tags = one.0 ∷ []; spares = (full.0, all, one.1, e.rows); told = (c.evict_last.new.evictions, one.2, refl) }

pub returns-clause-place : goal.returns-clause-place
returns-clause-place g c =
    let less = c.evict_last.ensures.one_less in let few = c.facts.ensures.rows in let room = c.requires.room.0 in inr (omega (arith, less, few, room))

pub returns-clause-few : goal.returns-clause-few
returns-clause-few g c = let less = c.evict_last.ensures.one_less in let few = c.facts.ensures.rows in let room = c.requires.room.0 in omega (arith, less, few, room)

pub returns-clause-told : goal.returns-clause-told
returns-clause-told g c = let less = c.evict_last.ensures.one_less in let spare = c.evict_last.ensures.spare in let told = c.requires.told in omega (arith, less, spare, told)
