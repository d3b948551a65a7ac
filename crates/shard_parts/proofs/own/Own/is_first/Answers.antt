use Rattle.std.proofs.Common.{refl, sym, ◌∙◌}
use Rattle.shard_parts.proofs.OwnNext.{first-of-other, first-of-scan, none-behind}
use Rattle.part_lemmas.proofs.Cursors.Places.{no_operation}
use Rattle.cache_lemmas.proofs.Laws.{issued_parts_are_counted-count}
use Rattle.shard_parts.proofs.own.Own.is_first.Goals as goal
use Rattle.shard_parts.proofs.own.Own.is_first.Goals.{else-self-commands-via-then-self-commands+else-is_scan, else-self-commands-via-else-self-commands}

pub returns-then-is_scan : goal.returns-then-is_scan
returns-then-is_scan c =
    let value = c.commands-commands.ensures.value in
    let within = rw value at c.if-self-commands.true in
    let scan = sym (c.is_scan.ensures no_operation) ∙ c.if-is_scan.true in
    rw (← c.self.view_is)
    (first-of-scan issued_parts_are_counted-count _ _ _ _ _ _ (rw value at c.commands-commands.ensures.numbered) c.self.invariant within scan)

pub returns-else-self-commands : goal.returns-else-self-commands
returns-else-self-commands c part next =
    let value = c.commands-commands.ensures.value in
    let counted = issued_parts_are_counted-count in
    let there = rw (← c.self.view_is) at next in
    let stands = c.self.invariant in
    rw (← c.self.view_is)
    (elim c.else-self-commands.branch [
      | else-self-commands-via-then-self-commands+else-is_scan w ↦
          let within = rw value at w.if-self-commands.true in
          let other = sym (w.is_scan.ensures no_operation) ∙ w.if-is_scan.false in
          (λ _. first-of-other counted _ _ _ _ _ _ (rw value at c.commands-commands.ensures.numbered) stands within other part there, λ _. refl)
      | else-self-commands-via-else-self-commands w ↦ absurd (none-behind counted _ _ _ _ _ _ stands (rw value at w.if-self-commands.false) part there)
    ])
