use Rattle.std.proofs.Common.{◌≡◌, ◌+◌, List, cond, Bool, sym, ap, subst, ◌∙◌, arith}
use Rattle.std.specs.Result.{is_ok}
use Rattle.std.specs.List.{insert}
use Rattle.key_index.specs.declared.blocks.Slot.{Slot}
use Rattle.key_index.specs.inside.Stock.{Stock, AreStocked, standing}
use Rattle.key_index.proofs.Stocked.{stocked_begin, block_begin}
use Rattle.key_index.proofs.blocks.Blocks.open_behind.Goals as goal
use Rattle.key_index.proofs.blocks.Blocks.open_behind.Goals.{After-unwrap}

before : (c : After-unwrap) → standing c.make_place.new.store.items c.self.inside.order.items ≡ c.args.self.now.contents
before c = ap (λ (ss : List Slot). standing c.make_place.new.store.items ss) (sym c.as_slice.ensures.value) ∙ c.make_place.ensures.same ∙ ap (λ (ss : List Slot). standing c.self.inside.store.items ss) c.as_slice.ensures.value ∙ ap (λ (s : Stock). s.contents) c.self.view_is

in_order : (c : After-unwrap) → c.insert.new.self.items ≡ insert c.self.inside.order.items (c.args.at + 1) (record { at = c.take_place-place.result; len = 0 })
in_order c =
    let order = c.self.inside.order.items in
    c.insert.ensures.items ∙ ap (λ (b : Bool). cond b (insert order (c.args.at + 1) (record { at = c.take_place-place.result; len = 0 })) order) (ap is_ok c.unwrap.ensures)

pub invariant_of-self : goal.invariant_of-self
invariant_of-self c =
    let stocked = subst (λ (ss : List Slot). AreStocked c.make_place.new.store.items ss c.make_place.new.free.items) c.as_slice.ensures.value c.make_place.ensures.stocked in
    record {
      stocked = stocked_begin c.take_place-place.result stocked (before c) (omega (arith, c.requires.at)) c.take_place-place.ensures.places (in_order c);
      within = c.make_place.ensures.within c.self.invariant.within;
      store_fits = c.make_place.ensures.store;
      order_fits = omega (arith, c.self.invariant.order_fits, c.insert.ensures.capacity);
      free_fits = omega (arith, c.make_place.ensures.free, c.take_place-place.ensures.capacity);
    }

pub returns-clause-contents : goal.returns-clause-contents
returns-clause-contents c = block_begin c.make_place.new.store.items c.self.inside.order.items (c.args.at + 1) c.take_place-place.result (before c) (in_order c)
