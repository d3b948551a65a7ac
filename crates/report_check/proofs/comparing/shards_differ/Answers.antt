-- Nothing is left, or a line that is surplus, or one differs.
use Rattle.std.proofs.Common.{◌≡◌, ℕ, List, arith, length, sym, ap, ◌∙◌}
use Rattle.std.specs.List.{enumerate_from, flat_map}
use Rattle.std.proofs.lemmas.List.{nil_from_length}
use Rattle.cache_model.specs.Report.{Occupancy, line, occupancy_text}
use Rattle.run_log.specs.Runs.{occupancies_in}
use Rattle.run_log.specs.declared.shard_line.ShardLine.{ShardLine}
use Rattle.report_check.proofs.ShardLines.{differs, ends, goes-on}
use Rattle.report_check.proofs.Written.{added, on-ok}
use Rattle.report_check.proofs.comparing.shards_differ.Goals as goal

abbrev text-of : List ShardLine → List ℕ
text-of lines = flat_map (λ (occupancy : ℕ × Occupancy). line (occupancy_text occupancy)) (enumerate_from 0 (occupancies_in lines))

pub returns-in-Ok : goal.returns-in-Ok
returns-in-Ok c =
    let text-is : c.bytes.result.now ≡ text-of c.args.lines.now =
    c.bytes.ensures ∙ added c.new-text.result.bytes.items c.write_shard_lines.new.sink.bytes.items (text-of c.args.lines.now) c.new-text.ensures
    (on-ok c.write_shard_lines.result (sym c.in_ok-map_err.ensures.variant) c.write_shard_lines.ensures.written) in
    ends c.args.left (enumerate_from 0 (occupancies_in c.args.lines.now)) c.bytes.result.now text-is c.in-Ok.behind c.in-Ok.ensures (nil_from_length c.in-Ok.behind.bytes.now (grind arith))

pub returns-in-Ok-2 : goal.returns-in-Ok-2
returns-in-Ok-2 c =
    let text-is : c.bytes.result.now ≡ text-of c.args.lines.now =
    c.bytes.ensures ∙ added c.new-text.result.bytes.items c.write_shard_lines.new.sink.bytes.items (text-of c.args.lines.now) c.new-text.ensures
    (on-ok c.write_shard_lines.result (sym c.in_ok-map_err.ensures.variant) c.write_shard_lines.ensures.written) in
    goes-on c.args.left (enumerate_from 0 (occupancies_in c.args.lines.now)) c.bytes.result.now text-is c.in-Ok.behind c.in-Ok.ensures (λ e. let none = ap length e in grind (arith, none))

pub returns : goal.returns
returns c =
    let text-is : c.bytes.result.now ≡ text-of c.args.lines.now =
    c.bytes.ensures ∙ added c.new-text.result.bytes.items c.write_shard_lines.new.sink.bytes.items (text-of c.args.lines.now) c.new-text.ensures
    (on-ok c.write_shard_lines.result (sym c.in_ok-map_err.ensures.variant) c.write_shard_lines.ensures.written) in
    differs c.args.left (enumerate_from 0 (occupancies_in c.args.lines.now)) c.bytes.result.now text-is c.in-Err.line c.in-Err.ensures
