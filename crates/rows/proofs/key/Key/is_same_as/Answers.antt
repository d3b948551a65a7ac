-- Keys are equal where they mean the same.
use Rattle.std.proofs.Common.{◌≡◌, Bool, sym, subst}
use Rattle.std.specs.Bool.{Decides}
use Rattle.rows.specs.Key.{key_shown}
use Rattle.rows.proofs.Keys.{is_same_key-Decides}
use Rattle.rows.proofs.key.Key.is_same_as.Goals as goal

pub returns : goal.returns
returns c =
    subst (λ (r : Bool). Decides r (key_shown c.args.self.now ≡ key_shown c.args.other.now)) (sym c.eq.ensures)
    (is_same_key-Decides (key_shown c.args.self.now) (key_shown c.args.other.now))
