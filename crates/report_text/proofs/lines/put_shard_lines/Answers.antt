use Rattle.std.proofs.Common.{get_or}
use Rattle.std.proofs.lemmas.List.{get_or_default}
use Rattle.report_text.specs.Views.{occupancy_in}
use Rattle.run_log.specs.declared.shard_line.ShardLine.{ShardLine}
use Rattle.text_lemmas.proofs.Written.{Writes-exit}
use Rattle.report_text.proofs.Outputs.{Writes-next-numbered, Writes-broken-numbered, Writes-all-numbered}
use Rattle.report_text.proofs.LineTexts.{occupancy_line}
use Rattle.report_text.proofs.lines.put_shard_lines.Goals as goal

abbrev none : ShardLine
none = record { rows = 0; live = 0; lent = 0; back = 0 }

pub loop-shard-preserved : goal.loop-shard-preserved
loop-shard-preserved g c =
    let line = get_or c.args.lines.now c.loop-shard.shard none in
    let is = get_or_default c.args.lines.now c.loop-shard.shard line none c.loop-shard-test.true in
    Writes-next-numbered occupancy_line occupancy_in c.args.lines.now c.loop-shard.shard line c.loop-shard-test.true is c.loop-shard.invariant c.in_ok-put_shard_line.ensures

pub returns-in_err-put_shard_line : goal.returns-in_err-put_shard_line
returns-in_err-put_shard_line g c =
    let line = get_or c.args.lines.now c.loop-shard.shard none in
    let is = get_or_default c.args.lines.now c.loop-shard.shard line none c.loop-shard-test.true in
    Writes-exit _ c.from_residual.ensures.1
    (Writes-broken-numbered occupancy_line occupancy_in c.args.lines.now c.loop-shard.shard line c.loop-shard-test.true is c.loop-shard.invariant c.in_err-put_shard_line.ensures)

pub returns : goal.returns
returns g c = Writes-all-numbered occupancy_line occupancy_in c.args.lines.now c.loop-shard.shard c.loop-shard-test.false c.loop-shard.invariant
