use Rattle.std.proofs.Common.{ap, ◌∙◌}
use Rattle.regions.specs.Shapes.{guards_of}
use Rattle.shard_store.specs.Stores.{StoreState}
use Rattle.shard_tests.proofs.shard_store_tests.used.a_store_is_opened_and_used.Goals as goal

pub erase-requires-clause-unguarded : goal.erase-requires-clause-unguarded
erase-requires-clause-unguarded g c = λ k.
    ap (λ (s : StoreState). guards_of s.region k) c.take_back.ensures.same ∙ c.lend_value-block.ensures.found.same.guards k
    ∙ c.holds-is_red.ensures.unguarded k

pub finish-seat-requires-clause-unguarded : goal.finish-seat-requires-clause-unguarded
finish-seat-requires-clause-unguarded g c = λ k.
    c.erase.ensures.same.guards k ∙ ap (λ (s : StoreState). guards_of s.region k) c.take_back.ensures.same
    ∙ c.lend_value-block.ensures.found.same.guards k ∙ c.holds-is_red.ensures.unguarded k
