use Rattle.std.proofs.Common.{rules, sym, ap, ◌∙◌}
use Rattle.regions.specs.Segments.{GroupState}
use Rattle.regions.specs.Shapes.{guards_of}
use Rattle.regions.specs.inside.Consistent.{GroupFields}
use Rattle.regions.proofs.Groups.{states-at}
use Rattle.regions.proofs.Regions.{group-in, group-there}
use Rattle.regions.proofs.region.Region.guards.Goals as goal

pub index-requires : goal.index-requires
index-requires c = let i = c.self.inside in let w = group-in i.most i.groups.items i.slots.items c.args.self.now c.args.group c.self.view_is c.requires in search rules

pub returns : goal.returns
returns c =
    let i = c.self.inside in let g = c.args.group in let w = group-in i.most i.groups.items i.slots.items c.args.self.now g c.self.view_is c.requires in
    let there = group-there i.groups.items g c.index.result.now w c.index.ensures in
    c.guards.ensures ∙ ap (λ (f : GroupFields). f.state.guards) (sym there) ∙ sym (ap (λ (s : GroupState). s.guards) (states-at i.groups.items g)) ∙ ap (λ q. guards_of q g) c.self.view_is
