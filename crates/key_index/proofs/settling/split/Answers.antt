use Rattle.std.proofs.Common.{◌≡◌, ℕ, ◌+◌, ◌-◌, ◌≤◌, ◌++◌, List, length, take, drop, sym, ap, ◌∙◌, arith, length-drop, append_assoc}
use Rattle.std.proofs.lemmas.List.{length-take-le, take-map, drop-map, take-take}
use Rattle.key_index.specs.declared.entries.Entry.{Entry}
use Rattle.key_index.specs.Lead.{rows_of}
use Rattle.key_index.specs.inside.Blocks.{entries_of, entries_at, front}
use Rattle.key_index.proofs.InBlocks.{rows_append}
use Rattle.key_index.proofs.Edits.{take_beyond}
use Rattle.key_index.proofs.settling.split.Goals as goal

pub returns-then-place-le-HALF-clause-half : goal.returns-then-place-le-HALF-clause-half
returns-then-place-le-HALF-clause-half c = ap length c.cut-behind.ensures.low ∙ length-take-le 128 (entries_at c.args.blocks.now.contents c.args.place.block) (omega (arith, c.requires.full))

pub returns-clause-half : goal.returns-clause-half
returns-clause-half c = ap (λ (n : ℕ). length (entries_at c.cut-behind.new.blocks.contents n)) c.cut-behind.ensures.behind ∙ ap length c.cut-behind.ensures.high ∙ (let l = length-drop 128 (entries_at c.args.blocks.now.contents c.args.place.block) in omega (arith, l, c.requires.full))

take_short : (n at : ℕ) (es : List Entry) → at ≤ n → take at (rows_of (take n es)) ≡ take at (rows_of es)
take_short n at es h = ap (λ (xs : List ℕ). take at xs) (sym (take-map (λ (e : Entry). e.row) n es)) ∙ take-take at n (rows_of es) h

take_long : (n at : ℕ) (es : List Entry) → n ≤ at → rows_of (take n es) ++ take (at - n) (rows_of (drop n es)) ≡ take at (rows_of es)
take_long n at es h =
    ap (λ (xs : List ℕ). xs ++ take (at - n) (rows_of (drop n es))) (sym (take-map (λ (e : Entry). e.row) n es))
    ∙ ap (λ (xs : List ℕ). take n (rows_of es) ++ take (at - n) xs) (sym (drop-map (λ (e : Entry). e.row) n es))
    ∙ take_beyond n at (rows_of es) h

pub returns-then-place-le-HALF-clause-front : goal.returns-then-place-le-HALF-clause-front
returns-then-place-le-HALF-clause-front c =
    ap (λ (es : List Entry). rows_of es ++ take c.args.place.at (rows_of (entries_at c.cut-behind.new.blocks.contents c.args.place.block))) c.cut-behind.ensures.before
    ∙ ap (λ (es : List Entry). rows_of (entries_of (take c.args.place.block c.args.blocks.now.contents)) ++ take c.args.place.at (rows_of es)) c.cut-behind.ensures.low
    ∙ ap (λ (xs : List ℕ). rows_of (entries_of (take c.args.place.block c.args.blocks.now.contents)) ++ xs) (take_short 128 c.args.place.at (entries_at c.args.blocks.now.contents c.args.place.block) c.if-place-le-HALF.true)

pub returns-clause-front : goal.returns-clause-front
returns-clause-front c =
    let e = entries_at c.args.blocks.now.contents c.args.place.block in
    let before = entries_of (take c.args.place.block c.args.blocks.now.contents) in
    ap (λ (n : ℕ). front c.cut-behind.new.blocks.contents n (c.args.place.at - 128)) c.cut-behind.ensures.behind
    ∙ ap (λ (es : List Entry). rows_of es ++ take (c.args.place.at - 128) (rows_of (entries_at c.cut-behind.new.blocks.contents (c.args.place.block + 1)))) c.cut-behind.ensures.upto
    ∙ ap (λ (es : List Entry). rows_of (before ++ take 128 e) ++ take (c.args.place.at - 128) (rows_of es)) c.cut-behind.ensures.high
    ∙ ap (λ (xs : List ℕ). xs ++ take (c.args.place.at - 128) (rows_of (drop 128 e))) (rows_append before (take 128 e))
    ∙ append_assoc (rows_of before) (rows_of (take 128 e)) (take (c.args.place.at - 128) (rows_of (drop 128 e)))
    ∙ ap (λ (xs : List ℕ). rows_of before ++ xs) (take_long 128 c.args.place.at e (omega arith))
