use Rattle.std.proofs.Common.{◌≡◌, ℕ, Option, Some, None, IfSome, IfNone, slice_get, sym, subst, ◌∙◌}
use Rattle.index_lists.specs.Lists.{list_at}
use Rattle.small_pools.specs.Objects.{IsHeld, HasRoom, IsUsedUp, AreObjects}
use Rattle.small_pools.proofs.Tables.{get_held, are_objects}
use Rattle.small_pools.proofs.Found.{in_front, room_of, used_up}
use Rattle.small_pools.proofs.held_spans.HeldSpans.find.Goals as goal

pub returns-clause-none : goal.returns-clause-none
returns-clause-none c = go c.first_with_room.result c.first_with_room.ensures
  where
    go : (o : Option ℕ) → o ≡ slice_get (list_at c.self.inside.lists c.args.class) 0 → IfNone o (IsUsedUp c.args.self.now c.args.class)
    go None e = subst (λ s. IsUsedUp s c.args.class) c.self.view_is (used_up c.self.invariant.0 c.args.class c.requires (sym e))
    go (Some f) e = tt

pub returns-clause-held : goal.returns-clause-held
returns-clause-held c = go c.first_with_room.result c.first_with_room.ensures
  where
    go : (o : Option ℕ) → o ≡ slice_get (list_at c.self.inside.lists c.args.class) 0 → IfSome o (λ f. IsHeld c.args.self.now f c.args.class)
    go None e = tt
    go (Some f) e = subst (λ s. IsHeld s f c.args.class) c.self.view_is (get_held c.self.invariant.0 f ∙ (in_front c.self.invariant.0 f c.args.class c.requires (sym e)).0)

pub returns-clause-room : goal.returns-clause-room
returns-clause-room c = go c.first_with_room.result c.first_with_room.ensures
  where
    go : (o : Option ℕ) → o ≡ slice_get (list_at c.self.inside.lists c.args.class) 0 → IfSome o (λ f. HasRoom c.args.self.now f c.args.class)
    go None e = tt
    go (Some f) e =
        let at = in_front c.self.invariant.0 f c.args.class c.requires (sym e) in
        subst (λ s. HasRoom s f c.args.class) c.self.view_is (room_of c.self.invariant.0 f c.args.class at.0 at.1)

pub returns-clause-objects : goal.returns-clause-objects
returns-clause-objects c = subst AreObjects c.self.view_is (are_objects c.self.invariant.0)
