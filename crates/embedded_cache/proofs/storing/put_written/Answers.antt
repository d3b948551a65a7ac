use Rattle.std.proofs.Common.{◌≡◌, ◌+◌, ◌≤◌, length, rules, ◌∙◌, arith}
use Rattle.layout.specs.Counts.{greatest_count, raised}
use Rattle.rows.specs.Key.{in_table}
use Rattle.embedded_cache.proofs.Gone.{few_gone}
use Rattle.embedded_cache.proofs.Telling.{all_counted, given_back}
use Rattle.embedded_cache.proofs.storing.put_written.Goals as goal

pub put_told-put-requires-clause-told : goal.put_told-put-requires-clause-told
put_told-put-requires-clause-told c = let few = c.facts.ensures.rows in let room = c.requires.limits.0 in let small = c.requires.limits.2 in omega (arith, few, room, small)

pub returns-clause-put : goal.returns-clause-put
returns-clause-put c =
    let h = c.put_told-put.ensures.put in let begun = c.new-evictions.ensures in let old = c.new-evictions.result in let new = c.put_told-put.new.evictions in
    let rows = c.args.store.now.rows in
    let few = few_gone c.args.limits.room _ (in_table c.args.table c.args.key.now) rows h.rest h.tags h.goes in
    let held = c.facts.ensures.rows in let room = c.requires.limits.0 in let small = c.requires.limits.2 in let told = begun.told in let missed = begun.missed in
    let all = all_counted old new h.tags h.told (omega (arith, few, held, room, small, missed)) in
    let exact : new.told + new.missed ≡ length h.tags = omega (arith, all, told, missed) in
    let fits : length h.tags ≤ greatest_count = omega (arith, few, held, room, small) in
    let counted : raised new.told new.missed ≡ length h.tags = grind (arith, exact, fits) in
    record {
      tags = h.tags;
      rest = h.rest;
      goes = h.goes;
      told = given_back _ _ _ old new h.tags h.told told begun.same_reference begun.tags (search rules);
      count_is = c.saturating_add-count.ensures ∙ counted;
      done = h.done;
      reply = h.reply;
    }
