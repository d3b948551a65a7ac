use Rattle.std.proofs.Common.{◌≡◌, ℕ, ◌+◌, ◌++◌, ◌∷◌, List, length, take, drop, set, length-drop, sym, ap, subst, ◌∙◌, arith}
use Rattle.std.specs.Prelude.{All}
use Rattle.std.specs.List.{insert}
use Rattle.std.proofs.lemmas.List.{length-take-le, take-append-drop}
use Rattle.std.proofs.lemmas.List.Elements.{All-set}
use Rattle.key_index.specs.declared.entries.Entry.{Entry}
use Rattle.key_index.specs.inside.Blocks.{entries_of, entries_at, lens_of, IsBlock}
use Rattle.key_index.proofs.Edits.{all_insert, entries_two, lens_two, entries_same, take_two, low_two, high_two, upto_two}
use Rattle.key_index.proofs.Divided.{opened_len, opened_none, moved_len, cut_is}
use Rattle.key_index.proofs.settling.cut.Goals as goal
use Rattle.key_index.proofs.settling.cut.Goals.{After-shorten}

pub append-requires-clause-from : goal.append-requires-clause-from
append-requires-clause-from c =
    let o = c.open_behind-behind.ensures in
    let low = opened_len c.args.blocks.now.contents c.open_behind-behind.new.self.contents c.args.at c.requires.block o.contents in
    omega (arith, low, c.requires.full)

pub append-requires-clause-few : goal.append-requires-clause-few
append-requires-clause-few c =
    let o = c.open_behind-behind.ensures in
    let low = opened_len c.args.blocks.now.contents c.open_behind-behind.new.self.contents c.args.at c.requires.block o.contents in
    omega (arith, low, c.requires.full)

pub append-requires-clause-room : goal.append-requires-clause-room
append-requires-clause-room c =
    let o = c.open_behind-behind.ensures in
    let low = opened_len c.args.blocks.now.contents c.open_behind-behind.new.self.contents c.args.at c.requires.block o.contents in
    let high = opened_none c.args.blocks.now.contents c.open_behind-behind.new.self.contents c.args.at c.open_behind-behind.result c.requires.block o.is o.contents in
    omega (arith, low, high, c.requires.full)

pub shorten-requires-clause-len : goal.shorten-requires-clause-len
shorten-requires-clause-len c =
    let o = c.open_behind-behind.ensures in
    let low = opened_len c.args.blocks.now.contents c.open_behind-behind.new.self.contents c.args.at c.requires.block o.contents in
    let same = moved_len c.open_behind-behind.new.self.contents c.append.new.self.contents c.args.at c.open_behind-behind.result _ o.is c.append.ensures.contents in
    omega (arith, low, same, c.requires.full)

blocks_are : (c : After-shorten) → c.shorten.new.self.contents
    ≡ insert (set c.args.blocks.now.contents c.args.at (take 128 (entries_at c.args.blocks.now.contents c.args.at))) (c.args.at + 1) (drop 128 (entries_at c.args.blocks.now.contents c.args.at))
blocks_are c =
    cut_is c.args.blocks.now.contents c.open_behind-behind.new.self.contents c.append.new.self.contents c.shorten.new.self.contents c.args.at c.open_behind-behind.result
    c.requires.block c.open_behind-behind.ensures.is c.open_behind-behind.ensures.contents c.append.ensures.contents c.shorten.ensures.contents

low_len : (c : After-shorten) → length (take 128 (entries_at c.args.blocks.now.contents c.args.at)) ≡ 128
low_len c = length-take-le 128 (entries_at c.args.blocks.now.contents c.args.at) (omega (arith, c.requires.full))

high_len : (c : After-shorten) → length (drop 128 (entries_at c.args.blocks.now.contents c.args.at)) ≡ 128
high_len c = let l = length-drop 128 (entries_at c.args.blocks.now.contents c.args.at) in omega (arith, l, c.requires.full)

pub returns-clause-before : goal.returns-clause-before
returns-clause-before c =
    let bs = c.args.blocks.now.contents in
    let es = entries_at bs c.args.at in
    ap (λ (xs : List (List Entry)). entries_of (take c.args.at xs)) (blocks_are c) ∙ ap entries_of (take_two bs c.args.at (take 128 es) (drop 128 es) c.requires.block)

pub returns-clause-upto : goal.returns-clause-upto
returns-clause-upto c =
    let bs = c.args.blocks.now.contents in
    let es = entries_at bs c.args.at in
    ap (λ (xs : List (List Entry)). entries_of (take (c.args.at + 1) xs)) (blocks_are c) ∙ upto_two bs c.args.at (take 128 es) (drop 128 es) c.requires.block

pub returns-clause-low : goal.returns-clause-low
returns-clause-low c =
    let bs = c.args.blocks.now.contents in
    let es = entries_at bs c.args.at in
    ap (λ (xs : List (List Entry)). entries_at xs c.args.at) (blocks_are c) ∙ low_two bs c.args.at (take 128 es) (drop 128 es) c.requires.block

pub returns-clause-high : goal.returns-clause-high
returns-clause-high c =
    let bs = c.args.blocks.now.contents in
    let es = entries_at bs c.args.at in
    ap (λ (xs : List (List Entry)). entries_at xs (c.args.at + 1)) (blocks_are c) ∙ high_two bs c.args.at (take 128 es) (drop 128 es) c.requires.block

pub returns-clause-entries : goal.returns-clause-entries
returns-clause-entries c =
    let bs = c.args.blocks.now.contents in
    let es = entries_at bs c.args.at in
    ap entries_of (blocks_are c) ∙ entries_two bs c.args.at (take 128 es) (drop 128 es) c.requires.block
    ∙ ap (λ (xs : List Entry). entries_of (take c.args.at bs) ++ (xs ++ entries_of (drop (c.args.at + 1) bs))) (take-append-drop 128 es) ∙ entries_same bs c.args.at c.requires.block

pub returns-clause-lens : goal.returns-clause-lens
returns-clause-lens c =
    let bs = c.args.blocks.now.contents in
    let es = entries_at bs c.args.at in
    ap lens_of (blocks_are c) ∙ lens_two bs c.args.at (take 128 es) (drop 128 es) c.requires.block
    ∙ ap (λ (n : ℕ). take c.args.at (lens_of bs) ++ n ∷ length (drop 128 es) ∷ drop (c.args.at + 1) (lens_of bs)) (low_len c)
    ∙ ap (λ (n : ℕ). take c.args.at (lens_of bs) ++ 128 ∷ n ∷ drop (c.args.at + 1) (lens_of bs)) (high_len c)

pub returns-clause-are_blocks : goal.returns-clause-are_blocks
returns-clause-are_blocks c =
    let bs = c.args.blocks.now.contents in
    let es = entries_at bs c.args.at in
    let low = low_len c in
    let high = high_len c in
    subst (All IsBlock) (sym (blocks_are c))
    (all_insert IsBlock (set bs c.args.at (take 128 es)) (c.args.at + 1) (drop 128 es)
    (All-set IsBlock bs c.args.at (take 128 es) (omega (arith, low), omega (arith, low)) c.requires.are_blocks)
    (omega (arith, high), omega (arith, high)))
