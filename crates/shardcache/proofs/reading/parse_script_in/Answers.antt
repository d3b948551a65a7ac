-- The bytes are a script, or a line is refused.
use Rattle.std.proofs.Common.{inl, inr, refl}
use Rattle.shardcache.proofs.TableRows.{appends_none}
use Rattle.shardcache.proofs.reading.parse_script_in.Goals as goal

pub returns-in-Err-Script-clause-refused : goal.returns-in-Err-Script-clause-refused
returns-in-Err-Script-clause-refused g c =
    let refused = rw c.in-Err-Script.field-0-is at c.in-Err-Script.ensures.refused in
    inl (c.in-Err-Script.line, c.in-Err-Script.cause, refused, c.refuse_script.ensures.written)

pub returns-in-Err-Memory-clause-refused : goal.returns-in-Err-Memory-clause-refused
returns-in-Err-Memory-clause-refused g c = inr (refl, appends_none _)
