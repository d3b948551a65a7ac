-- What stands behind the first line, where that says the version.
use Rattle.trace_text.proofs.Versions.{begins_end, begins_one, begins_rest}
use Rattle.trace_text.proofs.version.behind_version.Goals as goal

pub returns-then-version-eq1 : goal.returns-then-version-eq1
returns-then-version-eq1 c = begins_one c.args.bytes.now c.args.version c.requires c.if-version-eq1.true

pub returns-in-None : goal.returns-in-None
returns-in-None c =
    begins_end c.args.bytes.now _ c.args.version (rw c.in-None.is at c.cut_at_lf.ensures.parts) c.requires c.if-version-eq1.false

pub returns-in-Some : goal.returns-in-Some
returns-in-Some c =
    begins_rest c.args.bytes.now _ _ c.args.version (rw c.in-Some.is at c.cut_at_lf.ensures.parts) c.requires c.if-version-eq1.false
    (rw c.in-Some.is at c.cut_at_lf.ensures.rest)
