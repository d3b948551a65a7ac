use Rattle.std.proofs.Common.{rules, ◌≡◌, ◌<◌, ℕ, true, false, not, length, refl, sym, ap, ◌∙◌, subst, arith}
use Rattle.std.specs.Prelude.{Option, None, Some, IfSome, IsNone, option_map, is_some}
use Rattle.std.proofs.lemmas.List.{length-map}
use Rattle.regions.specs.Shapes.{Slot, slot_of, slots_of, slot_at, group_in, group_of, is_held, is_free, IsHeld, HasGroup}
use Rattle.regions.specs.Counts.{used_in_each, live_in_each}
use Rattle.regions.specs.inside.Consistent.{GroupFields}
use Rattle.regions.proofs.Tables as tables
use Rattle.regions.proofs.Updates.{slot-is}
use Rattle.regions.proofs.Groups.{held-within}
use Rattle.regions.proofs.Consistency.{of-within}
use Rattle.regions.proofs.region.Region.group_of.Goals as goal

-- a segment that is held is free where it has no group
without-of : (o : Option ℕ) → IsNone o → not (is_some o) ≡ true
without-of None h = refl
without-of (Some g) h = absurd (let clash : true ≡ false = h in cc)

of-without : (o : Option ℕ) → not (is_some o) ≡ true → IsNone o
of-without None h = refl
of-without (Some g) h = absurd (let clash : false ≡ true = h in cc)

free-without : (s : Option Slot) → is_held s ≡ true → IsNone (group_in s) → is_free s ≡ true
free-without None e none = absurd (let clash : false ≡ true = e in cc)
free-without (Some b) e none = without-of b.group none

without-free : (s : Option Slot) → is_free s ≡ true → IsNone (group_in s)
without-free None e = absurd (let clash : false ≡ true = e in cc)
without-free (Some b) e = of-without b.group e

of-some : {P : ℕ → Type 0} (o : Option ℕ) → ((g : ℕ) → o ≡ Some g → P g) → IfSome o P
of-some None all = tt
of-some (Some g) all = all g refl

pub index-requires : goal.index-requires
index-requires c =
    let i = c.self.inside in let slots = i.slots.items in let n = c.args.segment in
    let low = held-within (slots_of slots) n (subst (λ q. IsHeld q n) (sym c.self.view_is) c.requires) in let l = length-map slots (λ s. option_map slot_of s) in
    let inside : n < length slots = omega (arith, low, l) in search rules

pub returns-clause-group : goal.returns-clause-group
returns-clause-group c =
    let i = c.self.inside in let slots = i.slots.items in let n = c.args.segment in
    let low = held-within (slots_of slots) n (subst (λ q. IsHeld q n) (sym c.self.view_is) c.requires) in let l = length-map slots (λ s. option_map slot_of s) in
    let at = tables.slot-is slots n c.index.result.now None (omega (arith, low, l)) c.index.ensures in
    c.group_in.ensures ∙ ap (λ s. group_in (option_map slot_of s)) (sym at) ∙ ap group_in (sym (slot-is slots n)) ∙ ap (λ q. group_of q n) c.self.view_is

pub returns-clause-free : goal.returns-clause-free
returns-clause-free c =
    let n = c.args.segment in let is = returns-clause-group c in (
      λ none. free-without (slot_at (slots_of c.args.self.now.segments) n) c.requires (subst (λ o. IsNone o) is none),
      λ free. subst (λ o. IsNone o) (sym is) (without-free (slot_at (slots_of c.args.self.now.segments) n) free),
    )

pub returns-clause-held : goal.returns-clause-held
returns-clause-held c =
    let i = c.self.inside in let slots = i.slots.items in let n = c.args.segment in let is = returns-clause-group c in
    let l = length-map i.groups.items (λ (f : GroupFields). f.state) in
    of-some c.group_in.result (λ g e.
    (let of : group_in (slot_at (slots_of slots) n) ≡ Some g = ap (λ q. group_of q n) c.self.view_is ∙ sym is ∙ e in
    let w = of-within i.most i.groups.items i.held i.free (slots_of slots) (used_in_each slots) (live_in_each slots) c.self.invariant.0 g n of in
    subst (λ q. HasGroup q g) c.self.view_is (omega (arith, w, l))))
