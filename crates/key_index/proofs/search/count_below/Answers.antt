use Rattle.std.proofs.Common.{sym, ◌∙◌, ap, arith, is_lt}
use Rattle.rows.specs.Key.{key_shown}
use Rattle.key_index.proofs.KeyOrder.{is_less}
use Rattle.key_index.proofs.RowOrder.{below_entry, least_entry}
use Rattle.key_index.proofs.search.count_below.Goals as goal

pub loop-low-preserved-then-is_lt : goal.loop-low-preserved-then-is_lt
loop-low-preserved-then-is_lt g c = record {
  ordered = omega arith;
  within = c.loop-low.invariant.within;
  below = below_entry (g.K.Keys.key_of c.args.keys.now) (key_shown c.args.key.now) c.args.entries.now _ _ c.requires.entries.rising (omega arith) (sym c.compare-compared.ensures.order ∙ is_less c.compare-compared.result.order (sym c.is_lt.ensures ∙ c.if-is_lt.true));
  at_least = c.loop-low.invariant.at_least;
}

pub loop-low-preserved : goal.loop-low-preserved
loop-low-preserved g c = record {
  ordered = omega arith;
  within = omega arith;
  below = c.loop-low.invariant.below;
  at_least = least_entry (g.K.Keys.key_of c.args.keys.now) (key_shown c.args.key.now) c.args.entries.now _ _ c.requires.entries.rising (omega arith) (ap is_lt (sym c.compare-compared.ensures.order) ∙ sym c.is_lt.ensures ∙ c.if-is_lt.false);
}
