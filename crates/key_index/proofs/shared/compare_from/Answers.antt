use Rattle.std.proofs.Common.{suc, ◌≤◌, ◌∙◌, arith}
use Rattle.rows.specs.Key.{key_shown}
use Rattle.key_index.proofs.Shares.{apart_cmp, same_cmp, share_bytes, share_none, share_table}
use Rattle.key_index.proofs.shared.compare_from.Goals as goal

pub returns-then-a-b-clause-order : goal.returns-then-a-b-clause-order
returns-then-a-b-clause-order c = c.cmp-order.ensures ∙ apart_cmp (key_shown c.args.a.now) (key_shown c.args.b.now) c.if-a-b.true

pub returns-then-a-b-clause-shared : goal.returns-then-a-b-clause-shared
returns-then-a-b-clause-shared c = share_none (key_shown c.args.a.now) (key_shown c.args.b.now)

pub compare_bytes-compared-requires : goal.compare_bytes-compared-requires
compare_bytes-compared-requires c =
    share_bytes c.args.from c.saturating_sub.result (key_shown c.args.a.now) (key_shown c.args.b.now) c.saturating_sub.ensures c.requires

pub returns-clause-order : goal.returns-clause-order
returns-clause-order c = c.compare_bytes-compared.ensures.order ∙ same_cmp (key_shown c.args.a.now) (key_shown c.args.b.now) c.if-a-b.false

pub returns-clause-shared : goal.returns-clause-shared
returns-clause-shared c =
    let few : c.saturating_add-shared.result ≤ suc c.compare_bytes-compared.result.shared = omega (arith, c.saturating_add-shared.ensures) in
    share_table c.compare_bytes-compared.result.shared c.saturating_add-shared.result (key_shown c.args.a.now) (key_shown c.args.b.now) few
    c.if-a-b.false c.compare_bytes-compared.ensures.shared
