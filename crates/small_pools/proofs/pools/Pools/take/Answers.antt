use Rattle.std.proofs.Common.{◌≡◌, ◌⊎◌, ℕ, Bool, List, Option, Some, None, sym, subst}
use Rattle.std.specs.Prelude.{IfSome, IfNone}
use Rattle.std.specs.FinMap as map
use Rattle.span_lists.specs.Layout.{Layout}
use Rattle.small_pools.specs.Classes.{size_of}
use Rattle.small_pools.specs.Objects.{Objects, IsHeld, HasObject, AreObjects}
use Rattle.small_pools.specs.inside.Marks.{AreMarked}
use Rattle.small_pools.proofs.Marked.{marked_more}
use Rattle.small_pools.proofs.pools.Pools.take.Goals as goal

marked : (old new : Objects) (before after : Layout) (marks : List Bool) (n : ℕ) (place : Option ℕ) → AreMarked old marks → new.pages ≡ old.pages → IfNone place ((new ≡ old) × (after ≡ before))
    → IfSome place (λ p. map.get old.allocated p ≡ None) → IfSome place (λ p. new.allocated ≡ map.insert old.allocated p n)
    → IfSome place (λ _. (f c : ℕ) → IsHeld new f c → IsHeld old f c ⊎ HasObject new f c) → AreObjects new → AreMarked new marks
marked old new before after marks n None h pages same free more come objects = subst (λ s. AreMarked s marks) (sym same.0) h
marked old new before after marks n (Some p) h pages same free more come objects = marked_more old new marks p n h pages free more come objects

pub invariant_of-self : goal.invariant_of-self
invariant_of-self c =
    let e = c.take.ensures in
    marked c.self.inside.held c.take.new.self c.args.spans.now c.take.new.spans c.self.inside.marks (size_of c.args.class) c.take.result c.self.invariant e.pages e.unchanged e.was_free e.allocated e.come e.objects
