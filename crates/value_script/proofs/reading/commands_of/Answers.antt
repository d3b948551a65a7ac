-- One line more, and the end.
use Rattle.std.proofs.Common.{◌≡◌, ◌<◌, length, arith}
use Rattle.std.proofs.lemmas.Result.{err_from_is_err_and}
use Rattle.value_script.proofs.LinesRead.{reads_all, reads_more, reads_refused}
use Rattle.value_script.proofs.reading.commands_of.Goals as goal

pub loop-rest-preserved : goal.loop-rest-preserved
loop-rest-preserved c =
    let some : 0 < length c.loop-rest.rest.now = grind arith in
    reads_more c.args.bytes.now _ _ _ _ c.cut_line.result.0.now _ c.loop-rest.invariant (c.cut_line.ensures.lines c.loop-rest.line)
    c.cut_line.ensures.rest c.cut_line.ensures.front (c.cut_line.ensures.progress some) c.in_ok-add_line.ensures.added c.in_ok-add_line.ensures.few

pub returns-in_err-add_line-clause-refused : goal.returns-in_err-add_line-clause-refused
returns-in_err-add_line-clause-refused c =
    let p = err_from_is_err_and c.from_residual.result c.from_residual.ensures.1 in
    rw (p.1, p.2) (reads_refused c.args.bytes.now _ _ _ c.cut_line.result.0.now c.cut_line.result.1.now _ c.loop-rest.invariant
    (c.cut_line.ensures.lines c.loop-rest.line) c.in_err-add_line.ensures.refused)

pub returns-clause-read : goal.returns-clause-read
returns-clause-read c =
    let none : length c.loop-rest.rest.now ≡ 0 = grind arith in reads_all c.args.bytes.now _ _ _ none c.loop-rest.invariant
