-- A trace and its report are read, or there is none.
use Rattle.std.proofs.Common.{refl}
use Rattle.std.proofs.lemmas.Result.{IfErr-weaker, IfOk-weaker}
use Rattle.shardcache.specs.Meanings.{audit_read}
use Rattle.shardcache.proofs.TableRows.{stops_audit, stops_fault, stops_long_audit, stops_memory, takes_audit}
use Rattle.shardcache.proofs.auditing.read_audit.Goals as goal

pub returns-in-Ok-clause-taken : goal.returns-in-Ok-clause-taken
returns-in-Ok-clause-taken g c =
    let bytes = c.as_slice.ensures.value in
    IfOk-weaker c.parse_audit.result _ _ (λ framed is. takes_audit _ _ _ _ _ c.in-Ok.ensures.taken c.in-Ok.ensures.at_end (rw bytes at is))
    c.parse_audit.ensures.read

pub returns-in-Ok-clause-stopped : goal.returns-in-Ok-clause-stopped
returns-in-Ok-clause-stopped g c =
    let bytes = c.as_slice.ensures.value in
    IfErr-weaker c.parse_audit.result _ _ (λ answered refused. stops_audit _ _ answered _ _ _ _ _ c.in-Ok.ensures.taken c.in-Ok.ensures.at_end (rw bytes at refused))
    c.parse_audit.ensures.refused

pub returns-in-Err-Fault-clause-stopped : goal.returns-in-Err-Fault-clause-stopped
returns-in-Err-Fault-clause-stopped g c =
    let taken = c.in-Err-Fault.ensures.no_more (rw c.in-Err-Fault.field-0-is (λ e. cc)) in
    stops_fault audit_read _ _ _ _ _ _ _ taken.0 refl (c.in-Err-Fault.ensures.fault (rw c.in-Err-Fault.field-0-is refl)) taken.2 c.write_line.ensures.written

pub returns-in-Err-TooLong-clause-stopped : goal.returns-in-Err-TooLong-clause-stopped
returns-in-Err-TooLong-clause-stopped g c =
    let taken = c.in-Err-TooLong.ensures.one_above (rw c.in-Err-TooLong.field-0-is refl) in
    stops_long_audit _ _ _ _ _ _ _ taken.0 taken.1 taken.2 c.too_long.ensures.written

pub returns-in-Err-Memory-clause-stopped : goal.returns-in-Err-Memory-clause-stopped
returns-in-Err-Memory-clause-stopped g c =
    let taken = c.in-Err-Memory.ensures.no_more (rw c.in-Err-Memory.field-0-is (λ e. cc)) in
    stops_memory audit_read _ _ _ _ _ _ taken.0 taken.2 refl
