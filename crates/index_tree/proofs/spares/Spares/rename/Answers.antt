use Rattle.std.proofs.Common.{List, map, take, ap, ◌∙◌}
use Rattle.std.proofs.lemmas.List.{take-map}
use Rattle.regions.specs.Stores.{renamed}
use Rattle.regions.specs.declared.place.Place.{Place}
use Rattle.index_tree.proofs.spares.Spares.rename.Goals as goal

pub returns : goal.returns
returns c =
    let h = renamed c.args.from c.args.to in
    ap (λ (ps : List Place). take c.self.inside.count ps) c.rename_all.ensures ∙ (take-map h c.self.inside.count c.self.inside.places ∙ ap (λ (ps : List Place). map h ps) c.self.view_is)
