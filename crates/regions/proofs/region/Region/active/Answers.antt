use Rattle.std.proofs.Common.{rules, ◌≡◌, ℕ, refl, sym, ap, ◌∙◌, subst}
use Rattle.std.specs.Prelude.{Option, None, Some, IfSome, is_some}
use Rattle.regions.specs.Shapes.{slots_of, slot_at, active_in, active_of, group_of, IsHeld}
use Rattle.regions.specs.inside.Consistent.{states}
use Rattle.regions.proofs.Groups.{begun-held}
use Rattle.regions.proofs.Regions.{active-there, group-in, group-there}
use Rattle.regions.proofs.region.Region.active.Goals as goal

pub index-requires : goal.index-requires
index-requires c = let i = c.self.inside in let w = group-in i.most i.groups.items i.slots.items c.args.self.now c.args.group c.self.view_is c.requires in search rules

of-active : {P : ℕ → Type 0} (o : Option ℕ) → ((m : ℕ) → o ≡ Some m → P m) → IfSome o P
of-active None all = tt
of-active (Some m) all = all m refl

pub returns-clause-active : goal.returns-clause-active
returns-clause-active c =
    let i = c.self.inside in let slots = i.slots.items in let g = c.args.group in let v = c.self.invariant.0 in let w = group-in i.most i.groups.items slots c.args.self.now g c.self.view_is c.requires in
    let there = group-there i.groups.items g c.index.result.now w c.index.ensures in
    let now : active_in (states i.groups.items) g ≡ c.active.result = active-there i.groups.items g c.index.result.now c.active.result there c.active.ensures in
    sym now ∙ ap (λ q. active_of q g) c.self.view_is

pub returns-clause-held : goal.returns-clause-held
returns-clause-held c =
    let i = c.self.inside in let slots = i.slots.items in let g = c.args.group in let v = c.self.invariant.0 in let w = group-in i.most i.groups.items slots c.args.self.now g c.self.view_is c.requires in
    let there = group-there i.groups.items g c.index.result.now w c.index.ensures in
    let now : active_in (states i.groups.items) g ≡ c.active.result = active-there i.groups.items g c.index.result.now c.active.result there c.active.ensures in
    of-active c.active.result (λ m e. subst (λ q. IsHeld q m) c.self.view_is (begun-held (slot_at (slots_of slots) m) (ap is_some (v.active g m (now ∙ e)))))

pub returns-clause-group : goal.returns-clause-group
returns-clause-group c =
    let i = c.self.inside in let slots = i.slots.items in let g = c.args.group in let v = c.self.invariant.0 in let w = group-in i.most i.groups.items slots c.args.self.now g c.self.view_is c.requires in
    let there = group-there i.groups.items g c.index.result.now w c.index.ensures in
    let now : active_in (states i.groups.items) g ≡ c.active.result = active-there i.groups.items g c.index.result.now c.active.result there c.active.ensures in
    of-active c.active.result (λ m e. subst (λ q. group_of q m ≡ Some g) c.self.view_is (v.active g m (now ∙ e)))
