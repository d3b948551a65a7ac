use Rattle.std.proofs.Common.{◌∙◌}
use Rattle.shard_store.specs.Stores.{IsSameStore, RowsStay, StoreState}
use Rattle.shard_tests.proofs.shard_store_tests.lent.lend_often.Goals as goal

stay-both : (a b c : StoreState) → RowsStay a b → RowsStay b c → RowsStay a c
stay-both a b c first second = record {
  each = λ p row stands. second.each p row (first.each p row stands);
  guarded = λ p row stands. second.guarded p row (first.each p row stands) ∙ first.guarded p row stands;
}

same-both : (a b c : StoreState) → IsSameStore a b → IsSameStore b c → IsSameStore a c
same-both a b c first second = record {
  shard = second.shard ∙ first.shard;
  pages = second.pages ∙ first.pages;
  regions = second.regions ∙ first.regions;
  room = second.room ∙ first.room;
  list = second.list ∙ first.list;
  guards = λ g. second.guards g ∙ first.guards g;
}

pub returns-then-not-lend_once-clause-stay : goal.returns-then-not-lend_once-clause-stay
returns-then-not-lend_once-clause-stay c = stay-both c.args.store.now c.loop.store c.lend_once.new.store c.loop.invariant.0 c.lend_once.ensures.stay

pub returns-then-not-lend_once-clause-same : goal.returns-then-not-lend_once-clause-same
returns-then-not-lend_once-clause-same c = same-both c.args.store.now c.loop.store c.lend_once.new.store c.loop.invariant.1 c.lend_once.ensures.same

pub loop-preserved : goal.loop-preserved
loop-preserved c = (
  stay-both c.args.store.now c.loop.store c.lend_once.new.store c.loop.invariant.0 c.lend_once.ensures.stay,
  same-both c.args.store.now c.loop.store c.lend_once.new.store c.loop.invariant.1 c.lend_once.ensures.same,
)
