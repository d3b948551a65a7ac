use Rattle.std.proofs.Common.{rules, ◌≤◌, ℕ, sym, ap, ◌∙◌, subst}
use Rattle.std.specs.List.{count_by}
use Rattle.regions.specs.Shapes.{IsClosedIn}
use Rattle.regions.specs.Counts.{live_bytes_at}
use Rattle.regions.specs.inside.Consistent.{GroupFields, is_sparse}
use Rattle.layout.specs.Sizes.{dense}
use Rattle.regions.proofs.Regions.{group-in, group-there, sparse-closed}
use Rattle.regions.proofs.region.Region.sparse_segments.Goals as goal

pub index-requires : goal.index-requires
index-requires c = let i = c.self.inside in let w = group-in i.most i.groups.items i.slots.items c.args.self.now c.args.group c.self.view_is c.requires in search rules

pub returns-clause-some : goal.returns-clause-some
returns-clause-some c more =
    let i = c.self.inside in let slots = i.slots.items in let g = c.args.group in let w = group-in i.most i.groups.items slots c.args.self.now g c.self.view_is c.requires in
    let is = group-there i.groups.items g c.index.result.now w c.index.ensures in
    subst (λ q. (x : ℕ) × IsClosedIn q g x × (live_bytes_at q x ≤ dense)) c.self.view_is
    (sparse-closed i.most i.groups.items i.held i.free slots c.self.invariant.0 g w (λ e. more (c.sparse.ensures ∙ ap (λ (f : GroupFields). count_by is_sparse f.table) (sym is) ∙ e)))
