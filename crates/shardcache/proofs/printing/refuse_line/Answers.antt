-- The text of a refusal.
use Rattle.std.proofs.Common.{append_assoc, ◌∙◌}
use Rattle.shardcache.proofs.printing.refuse_line.Goals as goal

pub returns-clause-written : goal.returns-clause-written
returns-clause-written g c =
    let text = c.as_bytes.ensures.value ∙ c.in-Ok.ensures.ok in
    rw (append_assoc, append_assoc) (rw text at c.write_line.ensures.written)
