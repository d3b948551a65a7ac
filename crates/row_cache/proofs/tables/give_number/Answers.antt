use Rattle.std.proofs.Common.{length, None, sym, ap, ◌∙◌}
use Rattle.std.specs.List.{last_or}
use Rattle.row_cache.specs.inside.Tables as tables
use Rattle.row_cache.proofs.Numbers.{last_pushed}
use Rattle.row_cache.proofs.tables.give_number.Goals as goal

pub returns-clause-number : goal.returns-clause-number
returns-clause-number c =
    sym (ap (tables.number_or (length c.args.places.now.items)) (ap (λ ns. last_or None ns) c.in-Some.ensures.items ∙ last_pushed None c.pop.new.self.items c.in-Some.number))
