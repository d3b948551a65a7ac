use Rattle.std.proofs.Common.{ℕ, sym, ap, subst, ◌∙◌, arith}
use Rattle.rows.specs.Key.{Key, key_shown}
use Rattle.key_index.specs.Lead.{lead_behind}
use Rattle.key_index.specs.Order.{key_cmp}
use Rattle.key_index.specs.inside.Shared.{Share}
use Rattle.key_index.proofs.KeyOrder.{greater}
use Rattle.key_index.proofs.Shares.{lead_tells, share_back}
use Rattle.key_index.proofs.entries.compare.Goals as goal

pub returns-then-entry-sought-2-clause-order : goal.returns-then-entry-sought-2-clause-order
returns-then-entry-sought-2-clause-order g c =
    let a = g.K.Keys.key_of c.args.keys.now c.args.entry.row in
    let key = key_shown c.args.key.now in
    let led = c.requires.led ∙ ap (λ (n : ℕ). lead_behind n a) c.if-entry-sought.true in
    sym (lead_tells c.args.sought.skip c.args.shared a key c.if-sought-shared.true c.requires.shared c.requires.bytes c.requires.sought.bytes (omega (arith, c.if-entry-sought-2.true, led, c.requires.sought.lead)))

pub returns-then-entry-sought-3-clause-order : goal.returns-then-entry-sought-3-clause-order
returns-then-entry-sought-3-clause-order g c =
    let a = g.K.Keys.key_of c.args.keys.now c.args.entry.row in
    let key = key_shown c.args.key.now in
    let led = c.requires.led ∙ ap (λ (n : ℕ). lead_behind n a) c.if-entry-sought.true in
    sym (greater a key (lead_tells c.args.sought.skip c.args.shared key a c.if-sought-shared.true (share_back c.args.shared a key c.requires.shared) c.requires.sought.bytes c.requires.bytes
    (omega (arith, c.if-entry-sought-3.true, led, c.requires.sought.lead))))

pub compare_from-requires : goal.compare_from-requires
compare_from-requires g c = subst (λ (k : Key). Share c.args.shared k (key_shown c.args.key.now)) (sym c.key-other.ensures.key) c.requires.shared

pub returns-clause-order : goal.returns-clause-order
returns-clause-order g c = c.compare_from.ensures.order ∙ ap (λ (k : Key). key_cmp k (key_shown c.args.key.now)) c.key-other.ensures.key

pub returns-clause-shared : goal.returns-clause-shared
returns-clause-shared g c = subst (λ (k : Key). Share c.compare_from.result.shared k (key_shown c.args.key.now)) c.key-other.ensures.key c.compare_from.ensures.shared
