-- Each command lies in the bytes.
use Rattle.std.proofs.Common.{arith}
use Rattle.std.specs.List.{Contains}
use Rattle.std.proofs.lemmas.List.Elements.{All-contains}
use Rattle.trace_text.specs.Parsed.{LiesWithin}
use Rattle.trace_text.proofs.trace.Trace.key.Goals as goal

pub part-requires : goal.part-requires
part-requires c =
    let there : Contains c.self.inside.commands c.args.command.now = rw (← c.self.view_is) at c.requires in
    (All-contains (LiesWithin c.self.inside.bytes) c.self.inside.commands c.args.command.now c.self.invariant.consistent.spelled.within there).key

pub returns-clause-lies : goal.returns-clause-lies
returns-clause-lies c =
    let there : Contains c.self.inside.commands c.args.command.now = rw (← c.self.view_is) at c.requires in
    rw (← c.self.view_is) (All-contains (LiesWithin c.self.inside.bytes) c.self.inside.commands c.args.command.now c.self.invariant.consistent.spelled.within there)

pub returns-clause-some : goal.returns-clause-some
returns-clause-some c =
    let there : Contains c.self.inside.commands c.args.command.now = rw (← c.self.view_is) at c.requires in
    let lies = All-contains (LiesWithin c.self.inside.bytes) c.self.inside.commands c.args.command.now c.self.invariant.consistent.spelled.within there in
    let len = c.part.ensures.len in
    let bound = lies.key_some in
    omega (arith, len, bound)

pub returns-clause-most : goal.returns-clause-most
returns-clause-most c =
    let there : Contains c.self.inside.commands c.args.command.now = rw (← c.self.view_is) at c.requires in
    let lies = All-contains (LiesWithin c.self.inside.bytes) c.self.inside.commands c.args.command.now c.self.invariant.consistent.spelled.within there in
    let len = c.part.ensures.len in
    let bound = lies.key_most in
    omega (arith, len, bound)
