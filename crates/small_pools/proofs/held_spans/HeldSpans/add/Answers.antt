use Rattle.std.proofs.Common.{◌≡◌, ◌+◌, ◌^◌, ◌<◌, ◌≤◌, ◌⊎◌, inl, inr, ℕ, Option, Some, List, length, get_or, set, sym, subst, ap, ◌∙◌, arith}
use Rattle.std.proofs.lemmas.Nat.{pow_pos}
use Rattle.std.specs.FinMap as map
use Rattle.index_lists.specs.Table.{Table}
use Rattle.small_pools.specs.Classes.{order_of}
use Rattle.small_pools.specs.Objects.{Objects, IsHeld}
use Rattle.small_pools.proofs.Tables.{are_objects, IsOwned}
use Rattle.small_pools.proofs.Found.{not_listed, room_of}
use Rattle.small_pools.proofs.Steps.{same_fields, added, written_with}
use Rattle.small_pools.proofs.held_spans.HeldSpans.add.Goals as goal

-- the pages of the span are its own
owned_by : (old mid new : List ℕ) (f n o : ℕ) → n ≡ f + 2 ^ o → mid ≡ old → length new ≡ length mid → ((x : ℕ) → f ≤ x → x < n → get_or new x 0 ≡ f)
    → ((x : ℕ) → (x < f) ⊎ (n ≤ x) → get_or new x 0 ≡ get_or mid x 0) → IsOwned old new f (2 ^ o)
owned_by old mid new f n o e same len mine others = record {
  len = len ∙ ap length same;
  mine = λ x l u. mine x l (omega (arith, u, e));
  others = λ x p. others x (elim p [ inl a ↦ inl a | inr a ↦ inr (omega (arith, a, e)) ]) ∙ ap (λ l. get_or l x 0) same;
}

pub span_end-end-requires-clause-small : goal.span_end-end-requires-clause-small
span_end-end-requires-clause-small c =
    let inside = subst (λ (s : Objects). c.args.first + 2 ^ order_of c.args.class ≤ s.pages) (sym c.self.view_is) c.requires.inside in
    let small = c.self.invariant.0.small in omega (arith, inside, small)

pub reach-requires : goal.reach-requires
reach-requires c = (let inside = subst (λ (s : Objects). c.args.first + 2 ^ order_of c.args.class ≤ s.pages) (sym c.self.view_is) c.requires.inside in let len = c.self.invariant.0.classes_len in let end = c.span_end-end.ensures in omega (arith, inside, len, end))

pub reach-requires-2 : goal.reach-requires-2
reach-requires-2 c = (let inside = subst (λ (s : Objects). c.args.first + 2 ^ order_of c.args.class ≤ s.pages) (sym c.self.view_is) c.requires.inside in let len = c.self.invariant.0.firsts_len in let end = c.span_end-end.ensures in omega (arith, inside, len, end))

pub reach-requires-3 : goal.reach-requires-3
reach-requires-3 c = (let inside = subst (λ (s : Objects). c.args.first + 2 ^ order_of c.args.class ≤ s.pages) (sym c.self.view_is) c.requires.inside in let len = c.self.invariant.0.masks_len in let end = c.span_end-end.ensures in omega (arith, inside, len, end))

pub own-requires-clause-order : goal.own-requires-clause-order
own-requires-clause-order c = (let end = c.span_end-end.ensures in omega (arith, end))

pub own-requires-clause-within : goal.own-requires-clause-within
own-requires-clause-within c =
    let inside = subst (λ (s : Objects). c.args.first + 2 ^ order_of c.args.class ≤ s.pages) (sym c.self.view_is) c.requires.inside in
    let len = c.self.invariant.0.firsts_len in let end = c.span_end-end.ensures in let kept = ap (λ (t : Table ℕ). length t.entries) c.reach-2.ensures in
    omega (arith, inside, len, end, kept)

pub own-requires-clause-written : goal.own-requires-clause-written
own-requires-clause-written c = (let written = ap (λ (t : Table ℕ). t.written) c.reach-2.ensures in omega (arith, written))

pub set_written-requires : goal.set_written-requires
set_written-requires c = (let written = ap (λ (t : Table (Option ℕ)). t.written) c.reach.ensures in let end = c.span_end-end.ensures in let pos = pow_pos (order_of c.args.class) in omega (arith, written, end, pos))

pub set_written-requires-2 : goal.set_written-requires-2
set_written-requires-2 c = (let written = ap (λ (t : Table ℕ). t.written) c.reach-3.ensures in let end = c.span_end-end.ensures in let pos = pow_pos (order_of c.args.class) in omega (arith, written, end, pos))

pub relist-requires-clause-stands : goal.relist-requires-clause-stands
relist-requires-clause-stands c =
    not_listed c.self.invariant.0 c.args.first (order_of c.args.class)
    (subst (λ s. (g d : ℕ) → IsHeld s g d → (g + 2 ^ order_of d ≤ c.args.first) ⊎ (c.args.first + 2 ^ order_of c.args.class ≤ g)) (sym c.self.view_is) c.requires.clear)

pub invariant_of-self : goal.invariant_of-self
invariant_of-self c =
    let owned = owned_by c.self.inside.firsts.entries c.reach-2.new.self.entries c.own.new.firsts.entries c.args.first c.span_end-end.result (order_of c.args.class) c.span_end-end.ensures (ap (λ (t : Table ℕ). t.entries) c.reach-2.ensures)
    c.own.ensures.len c.own.ensures.mine c.own.ensures.others in
    let classes = ap (λ (t : Table (Option ℕ)). t.entries) c.set_written.ensures ∙ ap (λ (t : Table (Option ℕ)). set t.entries c.args.first (Some c.args.class)) c.reach.ensures in
    let masks = ap (λ (t : Table ℕ). t.entries) c.set_written-2.ensures ∙ ap (λ (t : Table ℕ). set t.entries c.args.first c.all_free.result) c.reach-3.ensures in
    let inside = subst (λ (s : Objects). c.args.first + 2 ^ order_of c.args.class ≤ s.pages) (sym c.self.view_is) c.requires.inside in
    let len = c.self.invariant.0.classes_len in let pos = pow_pos (order_of c.args.class) in
    let within : c.args.first < length c.self.inside.classes.entries = omega (arith, inside, len, pos) in (
      (added c.self.invariant.0 c.self.view_is c.args.first c.args.class c.all_free.result c.set_written.new.self.entries c.own.new.firsts.entries c.set_written-2.new.self.entries c.relist.new.lists
          c.requires.class c.requires.inside c.requires.clear owned c.class_capacity.result c.class_capacity.ensures.value c.all_free.ensures.free c.all_free.ensures.none classes masks
          (record { stands = c.relist.ensures.stands; others = c.relist.ensures.others; indices = c.relist.ensures.indices; lists = c.relist.ensures.lists })).step.consistent,
      written_with c.self.invariant.1 c.args.first c.args.class c.span_end-end.result c.span_end-end.ensures classes within
          (ap (λ (t : Table (Option ℕ)). t.written) c.set_written.ensures ∙ ap (λ (t : Table (Option ℕ)). t.written) c.reach.ensures)
          (c.own.ensures.written ∙ ap (λ (t : Table ℕ). t.written) c.reach-2.ensures)
          (ap (λ (t : Table ℕ). t.written) c.set_written-2.ensures ∙ ap (λ (t : Table ℕ). t.written) c.reach-3.ensures),
    )

pub returns : goal.returns
returns c =
    let owned = owned_by c.self.inside.firsts.entries c.reach-2.new.self.entries c.own.new.firsts.entries c.args.first c.span_end-end.result (order_of c.args.class) c.span_end-end.ensures (ap (λ (t : Table ℕ). t.entries) c.reach-2.ensures)
    c.own.ensures.len c.own.ensures.mine c.own.ensures.others in
    let classes = ap (λ (t : Table (Option ℕ)). t.entries) c.set_written.ensures ∙ ap (λ (t : Table (Option ℕ)). set t.entries c.args.first (Some c.args.class)) c.reach.ensures in
    let masks = ap (λ (t : Table ℕ). t.entries) c.set_written-2.ensures ∙ ap (λ (t : Table ℕ). set t.entries c.args.first c.all_free.result) c.reach-3.ensures in
    let new = added c.self.invariant.0 c.self.view_is c.args.first c.args.class c.all_free.result c.set_written.new.self.entries c.own.new.firsts.entries c.set_written-2.new.self.entries c.relist.new.lists
    c.requires.class c.requires.inside c.requires.clear owned c.class_capacity.result c.class_capacity.ensures.value c.all_free.ensures.free c.all_free.ensures.none classes masks
    (record { stands = c.relist.ensures.stands; others = c.relist.ensures.others; indices = c.relist.ensures.indices; lists = c.relist.ensures.lists }) in
    record {
      moves = same_fields _ _ (ap (λ (s : Objects). s.pages) c.self.view_is) (new.step.held ∙ ap (λ (s : Objects). map.insert s.held c.args.first c.args.class) c.self.view_is) (new.step.allocated ∙ ap (λ (s : Objects). s.allocated) c.self.view_is);
      room = room_of new.step.consistent c.args.first c.args.class new.at new.free;
      objects = are_objects (invariant_of-self c).0;
    }
