use Rattle.std.proofs.Common.{◌≡◌, ◌+◌, ◌≤◌, ℕ, List, length, Option, Some, None, rules, ◌∙◌, arith}
use Rattle.std.specs.Prelude.{IfSome}
use Rattle.layout.specs.Counts.{greatest_count, raised}
use Rattle.layout.specs.Sizes.{greatest_value}
use Rattle.row_lemmas.proofs.Laws.{evictions_are_counted-count}
use Rattle.shard_store.specs.Works.{floor_of}
use Rattle.embedded_cache.proofs.Telling.{all_counted, given_back}
use Rattle.embedded_cache.proofs.lending.lend_written.Goals as goal

-- a head in front
behind : (o : Option ℕ) (head : ℕ) (bytes : List ℕ) → IfSome o (λ n. head + n ≤ length bytes) → IfSome o (λ n. n ≤ greatest_value)
    → IfSome o (λ n. (head + n ≤ length bytes) × (n ≤ greatest_value))
behind None head bytes a b = tt
behind (Some n) head bytes a b = (a, b)

pub lend_value-block-requires-clause-told : goal.lend_value-block-requires-clause-told
lend_value-block-requires-clause-told c = let few = c.facts.ensures.rows in let small = c.requires.room in omega (arith, few, small)

pub returns : goal.returns
returns c =
    let e = c.lend_value-block.ensures in let d = e.found in let begun = c.new-evictions.ensures in let first = c.new-evictions.result in let last = c.lend_value-block.new.evictions in
    let s = c.args.store.now in let block = c.lend_value-block.result.0 in let len = c.lend_value-block.result.1 in
    let went = evictions_are_counted-count (floor_of s.pages s.lent s.regions) s.rows d.rest d.evicted d.evicts in
    let held = c.facts.ensures.rows in let small = c.requires.room in let told = begun.told in let missed = begun.missed in
    let all = all_counted first last d.evicted d.told (omega (arith, went, held, small, missed)) in
    let exact : last.told + last.missed ≡ length d.evicted = omega (arith, all, told, missed) in
    let fits : length d.evicted ≤ greatest_count = omega (arith, went, held, small) in
    let counted : raised last.told last.missed ≡ length d.evicted = grind (arith, exact, fits) in
    record {
      tags = d.evicted;
      rest = d.rest;
      evicts = d.evicts;
      told = given_back _ _ _ first last d.evicted d.told told begun.same_reference begun.tags (search rules);
      count_is = c.saturating_add-count.ensures ∙ counted;
      rows = d.rows;
      found = d.reply;
      size = e.size;
      within = behind len c.args.head block.piece.bytes e.within e.short;
      lends = e.lends;
      same = d.same;
    }
