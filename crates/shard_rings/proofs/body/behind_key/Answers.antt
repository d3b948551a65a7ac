use Rattle.std.proofs.Common.{arith, ◌-◌, length, length-drop, drop}
use Rattle.std.proofs.lemmas.List.{length-take, take_rest}
use Rattle.shard_rings.proofs.FirstKeys.{has_first, put_first}
use Rattle.shard_rings.proofs.body.behind_key.Goals as goal

pub returns-then-body-lt2-clause-none : goal.returns-then-body-lt2-clause-none
returns-then-body-lt2-clause-none c count h =
    let first = has_first c.args.body.now count h in
    omega (arith, c.if-body-lt2.true, first.0)

pub returns-then-len-eq0-clause-none : goal.returns-then-len-eq0-clause-none
returns-then-len-eq0-clause-none c count h =
    let body = c.args.body.now in
    let first = has_first body count h in
    omega (arith, c.then-len-eq0.either, c.read_u16-len.ensures, first.1.least, first.1.most, first.1.within, length-take (length body - 2) (drop 2 body), length-drop 2 body)

pub returns-clause-some : goal.returns-clause-some
returns-clause-some c count =
    let body = c.args.body.now in
    let len-is = c.read_u16-len.ensures in
    rw (take_rest body 2, take_rest (drop 2 body) c.read_u16-len.result, len-is) (
      λ h. (has_first body count h).1.others,
      λ h. put_first body count (λ i. omega (arith, c.type_inv.body i)) c.if-body-lt2.false (record {
        least = omega (arith, len-is, c.if-len-eq0.false);
        most = omega (arith, len-is, c.if-len-gt-GREATEST_KEY.false);
        within = omega (arith, len-is, c.if-behind-len.false, length-take (length body - 2) (drop 2 body), length-drop 2 body);
        others = h;
      }),
    )
