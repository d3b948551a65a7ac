use Rattle.std.proofs.Common.{suc, ◌≤◌, arith}
use Rattle.rows.specs.Key.{key_shown}
use Rattle.key_index.proofs.Shares.{share_bytes, share_none, share_table}
use Rattle.key_index.proofs.shared.shared_from.Goals as goal

pub returns-then-a-b : goal.returns-then-a-b
returns-then-a-b c = share_none (key_shown c.args.a.now) (key_shown c.args.b.now)

pub bytes_shared-shared-requires : goal.bytes_shared-shared-requires
bytes_shared-shared-requires c =
    share_bytes c.args.from c.saturating_sub.result (key_shown c.args.a.now) (key_shown c.args.b.now) c.saturating_sub.ensures c.requires

pub returns : goal.returns
returns c =
    let few : c.saturating_add.result ≤ suc c.bytes_shared-shared.result = omega (arith, c.saturating_add.ensures) in
    share_table c.bytes_shared-shared.result c.saturating_add.result (key_shown c.args.a.now) (key_shown c.args.b.now) few c.if-a-b.false
    c.bytes_shared-shared.ensures
