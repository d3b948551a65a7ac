use Rattle.std.proofs.Common.{ℕ, ◌-◌, ◌<◌, ◌≤◌, List, length, take, drop, sym, subst, arith}
use Rattle.std.specs.Prelude.{All}
use Rattle.rows.specs.Key.{key_shown}
use Rattle.key_index.specs.declared.entries.Entry.{Entry}
use Rattle.key_index.specs.Order.{AreAbove, AreBelow}
use Rattle.key_index.specs.Lead.{rows_of}
use Rattle.key_index.specs.inside.Blocks.{AreEntriesOf}
use Rattle.key_index.specs.inside.Blocks.{entries_of, AreAtLeast}
use Rattle.key_index.specs.inside.Shared.{Share}
use Rattle.key_index.proofs.InBlocks.{above_after, some_at}
use Rattle.key_index.proofs.Bounds.{keyed_at, place_first}
use Rattle.key_index.proofs.search.seek_all.Goals as goal

pub returns-then-upto-eq0-clause-place : goal.returns-then-upto-eq0-clause-place
returns-then-upto-eq0-clause-place g c = place_first (g.K.Keys.key_of c.args.keys.now) (key_shown c.args.key.now) c.args.blocks.now.contents (subst (λ (k : ℕ). AreAbove (g.K.Keys.key_of c.args.keys.now) (key_shown c.args.key.now) (rows_of (entries_of
    (drop k c.args.blocks.now.contents)))) c.if-upto-eq0.true c.count_upto-upto.ensures.above)

pub count_in-inside-requires-clause-some : goal.count_in-inside-requires-clause-some
count_in-inside-requires-clause-some g c =
    subst (λ (es : List Entry). 0 < length es) (sym c.entries-entries.ensures.is) (some_at c.args.blocks.now.contents (c.count_upto-upto.result.count - 1) c.requires.full (omega (arith, c.count_upto-upto.ensures.within, c.if-upto-eq0.false)))

pub skip_among-skip-requires : goal.skip_among-skip-requires
skip_among-skip-requires g c =
    subst (λ (es : List Entry). 0 < length es) (sym c.entries-entries.ensures.is) (some_at c.args.blocks.now.contents (c.count_upto-upto.result.count - 1) c.requires.full (omega (arith, c.count_upto-upto.ensures.within, c.if-upto-eq0.false)))

pub count_in-inside-requires-clause-entries : goal.count_in-inside-requires-clause-entries
count_in-inside-requires-clause-entries g c =
    let slice = c.entries-entries.ensures.is in
    subst (AreEntriesOf (g.K.Keys.has_row c.args.keys.now) (g.K.Keys.key_of c.args.keys.now)) (sym slice)
    (keyed_at (g.K.Keys.has_row c.args.keys.now) (g.K.Keys.key_of c.args.keys.now) c.args.blocks.now.contents (c.count_upto-upto.result.count - 1) c.requires.entries)

pub count_in-inside-requires-clause-shared : goal.count_in-inside-requires-clause-shared
count_in-inside-requires-clause-shared g c =
    let slice = c.entries-entries.ensures.is in
    subst (All (λ (e : Entry). Share c.count_upto-upto.result.shared (g.K.Keys.key_of c.args.keys.now e.row) (key_shown c.args.key.now))) (sym slice) (c.count_upto-upto.ensures.shared (omega arith))

pub returns-clause-at : goal.returns-clause-at
returns-clause-at g c =
    let slice = c.entries-entries.ensures.is in
    subst (λ (es : List Entry). c.count_in-inside.result.count ≤ length es) slice c.count_in-inside.ensures.within

pub returns-clause-place : goal.returns-clause-place
returns-clause-place g c =
    let slice = c.entries-entries.ensures.is in
    record {
      before = c.count_upto-upto.ensures.below;
      below = subst (λ (es : List Entry). AreBelow (g.K.Keys.key_of c.args.keys.now) (key_shown c.args.key.now) (take c.count_in-inside.result.count (rows_of es))) slice c.count_in-inside.ensures.below;
      at_least = subst (λ (es : List Entry). AreAtLeast (g.K.Keys.key_of c.args.keys.now) (key_shown c.args.key.now) (drop c.count_in-inside.result.count (rows_of es))) slice c.count_in-inside.ensures.at_least;
      after = above_after (g.K.Keys.key_of c.args.keys.now) (key_shown c.args.key.now) c.args.blocks.now.contents c.count_upto-upto.result.count c.count_upto-upto.ensures.above;
    }
