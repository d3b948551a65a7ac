use Rattle.std.proofs.Common.{◌≡◌, ◌-◌, ◌<◌, ◌≤◌, List, length, take, drop, inr, sym, ap, subst, ◌∙◌, arith, Less}
use Rattle.std.specs.Prelude.{All}
use Rattle.std.specs.Ordering.{is_gt}
use Rattle.rows.specs.Key.{key_shown}
use Rattle.key_index.specs.declared.entries.Entry.{Entry}
use Rattle.key_index.specs.Order.{key_cmp, AreBelow}
use Rattle.key_index.specs.Lead.{rows_of}
use Rattle.key_index.specs.inside.Blocks.{entries_of, AreAtLeast, AreEntriesOf}
use Rattle.key_index.specs.inside.Shared.{Share, AreAtMost, AreNotBelow}
use Rattle.key_index.proofs.KeyOrder.{less, is_greater}
use Rattle.key_index.proofs.InBlocks.{some_at}
use Rattle.key_index.proofs.Inside.{place_inside}
use Rattle.key_index.proofs.Bounds.{first_from, first_upto, keyed_at, share_in, most_less}
use Rattle.key_index.proofs.search.seek_in.Goals as goal

pub count_in-inside-requires-clause-some : goal.count_in-inside-requires-clause-some
count_in-inside-requires-clause-some g c =
    subst (λ (es : List Entry). 0 < length es) (sym c.entries-entries.ensures.is) (some_at c.args.blocks.now.contents c.args.block c.requires.full (omega arith))

pub count_in-inside-requires-clause-entries : goal.count_in-inside-requires-clause-entries
count_in-inside-requires-clause-entries g c =
    let slice = c.entries-entries.ensures.is in
    subst (AreEntriesOf (g.K.Keys.has_row c.args.keys.now) (g.K.Keys.key_of c.args.keys.now)) (sym slice)
    (keyed_at (g.K.Keys.has_row c.args.keys.now) (g.K.Keys.key_of c.args.keys.now) c.args.blocks.now.contents c.args.block c.requires.entries)

pub count_in-inside-requires-clause-shared : goal.count_in-inside-requires-clause-shared
count_in-inside-requires-clause-shared g c =
    let key_of = g.K.Keys.key_of c.args.keys.now in
    let key = key_shown c.args.key.now in
    let blocks = c.args.blocks.now.contents in
    let n = c.len.result - 1 in
    let first = c.first_of.result in
    let last = c.first_of-2.result in
    let slice = c.entries-entries.ensures.is in
    let above : key_cmp key (key_of last.row) ≡ Less = less key (key_of last.row) (sym c.compare_keys-last.ensures.order ∙ is_greater c.compare_keys-last.result.order (sym c.is_gt-before_last.ensures ∙ c.if-not-before_last.false)) in
    subst (All (λ (e : Entry). Share c.fewer-shared.result (key_of e.row) key)) (sym slice)
    (share_in key_of key blocks 0 n c.args.block c.compare_keys-first.result.shared c.compare_keys-last.result.shared c.fewer-shared.result (omega arith) (omega arith) c.fewer-shared.ensures.first c.fewer-shared.ensures.second
    (inr (
      first.row,
      subst (λ (e : Entry). AreNotBelow key_of (key_of e.row) (rows_of (entries_of (drop 0 blocks)))) (sym c.first_of.ensures.first) (first_from key_of blocks 0 first c.requires.entries.rising c.requires.full (omega arith)),
      ap is_gt (sym c.compare_keys-first.ensures.order) ∙ sym c.is_gt.ensures ∙ c.if-is_gt.false,
      c.compare_keys-first.ensures.shared,
    ))
    (inr (
      last.row,
      subst (λ (e : Entry). AreAtMost key_of (key_of e.row) (rows_of (entries_of (take n blocks)))) (sym c.first_of-2.ensures.first) (first_upto key_of blocks n last c.requires.entries.rising c.requires.full (omega arith)),
      most_less key (key_of last.row) above,
      c.compare_keys-last.ensures.shared,
    )))

pub returns-clause-at : goal.returns-clause-at
returns-clause-at g c =
    let slice = c.entries-entries.ensures.is in
    subst (λ (es : List Entry). c.count_in-inside.result.count ≤ length es) slice c.count_in-inside.ensures.within

pub returns-clause-place : goal.returns-clause-place
returns-clause-place g c =
    let key_of = g.K.Keys.key_of c.args.keys.now in
    let key = key_shown c.args.key.now in
    let count = c.count_in-inside.result.count in
    let slice = c.entries-entries.ensures.is in
    let len = ap (λ (es : List Entry). length es) slice in
    place_inside key_of key c.args.blocks.now.contents c.args.block count c.first_of.result c.requires.entries.rising c.requires.full (omega arith) (omega arith) (omega (arith, len))
    (subst (λ (es : List Entry). AreBelow key_of key (take count (rows_of es))) slice c.count_in-inside.ensures.below)
    (subst (λ (es : List Entry). AreAtLeast key_of key (drop count (rows_of es))) slice c.count_in-inside.ensures.at_least)
