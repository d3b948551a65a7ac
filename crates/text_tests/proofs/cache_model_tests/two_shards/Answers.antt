-- The definitions compute on the example.
use Rattle.std.proofs.Common.{zero, suc, arith, refl}
use Rattle.cache_model.specs.Legal.{IsComplete}
use Rattle.cache_model.specs.Examples.{two_shards, first, second, second_merged, swapped, shortened, doubled}
use Rattle.text_tests.proofs.cache_model_tests.two_shards.Goals as goal

complete-first : IsComplete two_shards 2 0 first
complete-first zero below = refl
complete-first (suc zero) below = refl
complete-first (suc (suc o)) below = absurd (omega arith)

complete-second : IsComplete two_shards 2 1 second
complete-second zero below = refl
complete-second (suc zero) below = refl
complete-second (suc (suc o)) below = absurd (omega arith)

complete-merged : IsComplete two_shards 2 1 second_merged
complete-merged zero below = refl
complete-merged (suc zero) below = refl
complete-merged (suc (suc o)) below = absurd (omega arith)

wrong-shard : IsComplete two_shards 2 1 first → ⊥
wrong-shard is = let e = is 0 (omega arith) in cc

wrong-order : IsComplete two_shards 2 1 swapped → ⊥
wrong-order is = let e = is 1 (omega arith) in cc

left-out : IsComplete two_shards 2 1 shortened → ⊥
left-out is = let e = is 1 (omega arith) in cc

twice : IsComplete two_shards 2 1 doubled → ⊥
twice is = let e = is 0 (omega arith) in cc

pub returns : goal.returns
returns c = record {
  legal_first = refl;
  legal_second = refl;
  legal_merged = refl;
  complete_first = complete-first;
  complete_second = complete-second;
  complete_merged = complete-merged;
  wrong_shard = wrong-shard;
  wrong_order = wrong-order;
  left_out = left-out;
  twice = twice;
  below_floor = λ legal. cc;
  counted = refl;
  issued = refl;
  missing = refl;
  joined = refl;
  owner_stored = refl;
  owner_alone = refl;
}
