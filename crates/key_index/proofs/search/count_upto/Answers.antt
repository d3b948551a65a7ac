use Rattle.std.proofs.Common.{◌≡◌, ℕ, ◌+◌, ◌-◌, take, drop, inr, false, sym, ap, subst, ◌∙◌, arith, Less}
use Rattle.std.specs.Ordering.{is_gt}
use Rattle.rows.specs.Key.{key_shown}
use Rattle.key_index.specs.declared.entries.Entry.{Entry}
use Rattle.key_index.specs.Order.{key_cmp, AreBelow}
use Rattle.key_index.specs.Lead.{rows_of, AreBytes, IsLed}
use Rattle.key_index.specs.inside.Blocks.{entries_of, entries_at}
use Rattle.key_index.specs.inside.Shared.{Share, AreAtMost, AreNotBelow}
use Rattle.key_index.proofs.KeyOrder.{less, less_most, is_greater}
use Rattle.key_index.proofs.InBlocks.{all_first, above_from, below_first, some_at}
use Rattle.key_index.proofs.Bounds.{first_from, first_upto, share_in, most_less}
use Rattle.std.proofs.lemmas.List.Elements.{All-get_or}
use Rattle.key_index.proofs.search.count_upto.Goals as goal

pub first-first-requires-clause-some : goal.first-first-requires-clause-some
first-first-requires-clause-some g c = some_at c.args.blocks.now.contents c.probe-middle.result c.requires.full (omega arith)

pub compare-compared-requires-clause-readable : goal.compare-compared-requires-clause-readable
compare-compared-requires-clause-readable g c =
    let read = c.first-first.ensures in
    all_first (λ (e : Entry). g.K.Keys.has_row c.args.keys.now e.row) c.args.blocks.now.contents _ c.first-first.result c.requires.entries.readable c.requires.full (omega arith) read

pub compare-compared-requires-clause-bytes : goal.compare-compared-requires-clause-bytes
compare-compared-requires-clause-bytes g c =
    let read = c.first-first.ensures in
    all_first (λ (e : Entry). AreBytes (g.K.Keys.key_of c.args.keys.now e.row).bytes) c.args.blocks.now.contents _ c.first-first.result c.requires.entries.bytes c.requires.full (omega arith) read

pub compare-compared-requires-clause-led : goal.compare-compared-requires-clause-led
compare-compared-requires-clause-led g c =
    let read = c.first-first.ensures in
    all_first (IsLed (g.K.Keys.key_of c.args.keys.now)) c.args.blocks.now.contents _ c.first-first.result c.requires.entries.leads c.requires.full (omega arith) read

pub compare-compared-requires-clause-shared : goal.compare-compared-requires-clause-shared
compare-compared-requires-clause-shared g c =
    let key_of = g.K.Keys.key_of c.args.keys.now in
    let middle : ℕ = c.probe-middle.result in
    let read = c.first-first.ensures in
    let all = share_in key_of (key_shown c.args.key.now) c.args.blocks.now.contents (c.loop-low.low - 1) c.loop-low.high middle c.loop-low.low_shared c.loop-low.high_shared c.fewer-shared.result (omega arith)
    (omega arith) c.fewer-shared.ensures.first c.fewer-shared.ensures.second c.loop-low.invariant.low_bound c.loop-low.invariant.high_bound in
    subst (λ (e : Entry). Share c.fewer-shared.result (key_of e.row) (key_shown c.args.key.now)) (sym read)
    (All-get_or (λ (e : Entry). Share c.fewer-shared.result (key_of e.row) (key_shown c.args.key.now)) (entries_at c.args.blocks.now.contents middle) 0 c.first-first.result (some_at c.args.blocks.now.contents middle c.requires.full (omega arith)) all)

pub loop-low-preserved-then-is_gt : goal.loop-low-preserved-then-is_gt
loop-low-preserved-then-is_gt g c =
    let key_of = g.K.Keys.key_of c.args.keys.now in
    let middle : ℕ = c.probe-middle.result in
    let first = c.first-first.result in
    let read = c.first-first.ensures in
    let above : key_cmp (key_shown c.args.key.now) (key_of first.row) ≡ Less = less (key_shown c.args.key.now) (key_of first.row) (sym c.compare-compared.ensures.order ∙ is_greater c.compare-compared.result.order (sym c.is_gt.ensures ∙ c.if-is_gt.true)) in
    record {
      sought = c.sought_as-sought.ensures;
      ordered = omega arith;
      within = omega arith;
      below = c.loop-low.invariant.below;
      above = above_from key_of (key_shown c.args.key.now) c.args.blocks.now.contents middle first c.requires.entries.rising c.requires.full (omega arith)
          (subst (λ (e : Entry). key_cmp (key_shown c.args.key.now) (key_of e.row) ≡ Less) read above);
      low_bound = c.loop-low.invariant.low_bound;
      high_bound = inr (
        first.row,
        subst (λ (e : Entry). AreAtMost key_of (key_of e.row) (rows_of (entries_of (take middle c.args.blocks.now.contents)))) (sym read)
            (first_upto key_of c.args.blocks.now.contents middle first c.requires.entries.rising c.requires.full (omega arith)),
        most_less (key_shown c.args.key.now) (key_of first.row) above,
        c.compare-compared.ensures.shared,
      );
    }

pub loop-low-preserved : goal.loop-low-preserved
loop-low-preserved g c =
    let key_of = g.K.Keys.key_of c.args.keys.now in
    let middle : ℕ = c.probe-middle.result in
    let first = c.first-first.result in
    let read = c.first-first.ensures in
    let same : middle + 1 - 1 ≡ middle = omega arith in
    let most : is_gt (key_cmp (key_of first.row) (key_shown c.args.key.now)) ≡ false = ap is_gt (sym c.compare-compared.ensures.order) ∙ sym c.is_gt.ensures ∙ c.if-is_gt.false in
    record {
      sought = c.sought_as-sought.ensures;
      ordered = omega arith;
      within = c.loop-low.invariant.within;
      below = subst (λ k. AreBelow key_of (key_shown c.args.key.now) (rows_of (entries_of (take k c.args.blocks.now.contents)))) (sym same)
          (below_first key_of (key_shown c.args.key.now) c.args.blocks.now.contents middle first c.requires.entries.rising c.requires.full (omega arith)
          (λ low e. less_most low _ _ most (subst (λ (x : Entry). key_cmp low (key_of x.row) ≡ Less) (sym read) e)));
      above = c.loop-low.invariant.above;
      low_bound = inr (
        first.row,
        subst (λ k. AreNotBelow key_of (key_of first.row) (rows_of (entries_of (drop k c.args.blocks.now.contents)))) (sym same)
            (subst (λ (e : Entry). AreNotBelow key_of (key_of e.row) (rows_of (entries_of (drop middle c.args.blocks.now.contents)))) (sym read)
            (first_from key_of c.args.blocks.now.contents middle first c.requires.entries.rising c.requires.full (omega arith))),
        most,
        c.compare-compared.ensures.shared,
      );
      high_bound = c.loop-low.invariant.high_bound;
    }

pub returns-clause-shared : goal.returns-clause-shared
returns-clause-shared g c = λ some.
    share_in (g.K.Keys.key_of c.args.keys.now) (key_shown c.args.key.now) c.args.blocks.now.contents (c.loop-low.low - 1) c.loop-low.high (c.loop-low.low - 1) c.loop-low.low_shared c.loop-low.high_shared c.fewer-shared-2.result (omega arith)
    (omega (arith, some)) c.fewer-shared-2.ensures.first c.fewer-shared-2.ensures.second c.loop-low.invariant.low_bound c.loop-low.invariant.high_bound
