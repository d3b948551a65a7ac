use Rattle.std.proofs.Common.{◌≢◌, ◌≤◌, sym, ap, subst, ◌∙◌, arith}
use Rattle.common_lemmas.specs.Lists.{times}
use Rattle.rows.specs.Key.{key_shown}
use Rattle.dirty_region.proofs.PutRows.{contains_times, none_listed, all_at}
use Rattle.dirty_region.proofs.put_index.find_stray.Goals as goal

pub returns-then-len-eq0 : goal.returns-then-len-eq0
returns-then-len-eq0 g c =
    (c.requires.spot, λ n h. absurd (let none = none_listed n c.args.strays.now.rows (sym c.len.ensures.count ∙ c.if-len-eq0.true) in omega (arith, none, h)))

pub returns-in-Ok : goal.returns-in-Ok
returns-in-Ok g c =
    let key_of = g.K.Keys.key_of c.args.keys.now in let rows = c.args.strays.now.rows in let row = c.in-Ok.at.row in let told = c.in-Ok.ensures in (
      subst (λ n. 1 ≤ times n rows) (sym c.of.ensures.row) (contains_times rows row told.1),
      c.of.ensures.tag ∙ c.requires.spot,
      ap key_of c.of.ensures.row ∙ told.2,
    )

pub returns-in-Err : goal.returns-in-Err
returns-in-Err g c = (c.requires.spot, all_at (λ n. (g.K.Keys.key_of c.args.keys.now) n ≢ key_shown c.args.key.now) c.args.strays.now.rows c.in-Err.ensures.1)
