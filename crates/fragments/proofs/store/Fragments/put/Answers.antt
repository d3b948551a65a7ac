use Rattle.std.proofs.Common.{◌≡◌, ℕ, ◌<◌, ◌≤◌, inl, inr, length, take, refl, Some, sym, ap, subst, ◌∙◌, arith}
use Rattle.std.specs.Prelude.{slice_set}
use Rattle.std.proofs.lemmas.List.{length-take}
use Rattle.regions.specs.Shapes.{held_count}
use Rattle.segmented_store.specs.Room.{room}
use Rattle.fragments.specs.Values.{live}
use Rattle.fragments.specs.Chains.{TableState}
use Rattle.fragments.specs.Sizes.{greatest_value}
use Rattle.fragments.specs.Store.{IsSetBeside, StoreState, values_of}
use Rattle.fragments.specs.inside.Consistent.{AreEntries}
use Rattle.fragments.proofs.Putting.{no_more, none_begun, set_beside, value_put}
use Rattle.fragments.proofs.store.Fragments.put.Goals as goal

-- the name is one of the tables'
below_names : (t : TableState) (firsts n : ℕ) → AreEntries t → length (take t.names t.firsts) ≡ firsts → n < firsts → n < t.names
below_names t firsts n entries same h = (let most = entries.firsts in let cut = length-take t.names t.firsts in omega (arith, most, cut, same, h))

pub set_value-requires-clause-none : goal.set_value-requires-clause-none
set_value-requires-clause-none c = (let f = c.self.inside in none_begun f.tables f.region f.lengths.items f.segments c.self.invariant c.self.invariant.entries)

pub set_value-requires-clause-free : goal.set_value-requires-clause-free
set_value-requires-clause-free c =
    let f = c.self.inside in let i = c.self.invariant in
    let held : 3 ≤ held_count f.region = subst (λ (s : StoreState). 3 ≤ held_count s.region) (sym c.self.view_is) c.requires.held in
    elim i.free [
      | inl some ↦ some
      | inr few ↦ elim few [ inl none ↦ absurd (omega (arith, held, none)) | inr one ↦ (let at_most = one.0 in absurd (omega (arith, held, at_most))) ]
    ]

pub invariant_of-self : goal.invariant_of-self
invariant_of-self c =
    let f = c.self.inside in let n = c.args.name in let i = c.self.invariant in let w = c.set_value.ensures in
    let below = below_names f.tables (length c.args.self.now.firsts) n i.entries (ap (λ (s : StoreState). length s.firsts) c.self.view_is) c.requires.name in
    let own = c.value_size-size.ensures in
    let sizes = ap (λ (s : StoreState). live (values_of s)) (sym c.self.view_is) ∙ i.sizes in
    let room_is = ap (λ (s : StoreState). room (held_count s.region)) c.self.view_is in
    let enough = c.has_room.ensures.0 c.if-not-has_room.false in
    (value_put f.tables c.set_value.new.tables f.region c.set_value.new.region f.lengths.items f.segments n c.args.bytes.now i i.entries below w
    w.replaced.entries (no_more c.is_too_long.result greatest_value (length c.args.bytes.now) c.is_too_long.ensures c.if-is_too_long.false)
    (omega (arith, own, sizes, room_is, enough))).1

pub returns-clause-values : goal.returns-clause-values
returns-clause-values c =
    let f = c.self.inside in let n = c.args.name in let i = c.self.invariant in let w = c.set_value.ensures in
    let below = below_names f.tables (length c.args.self.now.firsts) n i.entries (ap (λ (s : StoreState). length s.firsts) c.self.view_is) c.requires.name in
    let own = c.value_size-size.ensures in
    let sizes = ap (λ (s : StoreState). live (values_of s)) (sym c.self.view_is) ∙ i.sizes in
    let room_is = ap (λ (s : StoreState). room (held_count s.region)) c.self.view_is in
    let enough = c.has_room.ensures.0 c.if-not-has_room.false in
    (value_put f.tables c.set_value.new.tables f.region c.set_value.new.region f.lengths.items f.segments n c.args.bytes.now i i.entries below w
    w.replaced.entries (no_more c.is_too_long.result greatest_value (length c.args.bytes.now) c.is_too_long.ensures c.if-is_too_long.false)
    (omega (arith, own, sizes, room_is, enough))).0
    ∙ ap (λ (s : StoreState). slice_set (values_of s) n (Some c.args.bytes.now)) c.self.view_is

pub returns-clause-beside : goal.returns-clause-beside
returns-clause-beside c =
    let f = c.self.inside in let n = c.args.name in
    let below = below_names f.tables (length c.args.self.now.firsts) n c.self.invariant.entries (ap (λ (s : StoreState). length s.firsts) c.self.view_is) c.requires.name in
    subst (λ (s : StoreState). IsSetBeside s (record { firsts = take c.set_value.new.tables.names c.set_value.new.tables.firsts; region = c.set_value.new.region }) c.args.bytes.now) c.self.view_is
    (set_beside f.tables c.set_value.new.tables f.region c.set_value.new.region f.lengths.items f.segments n c.args.bytes.now c.self.invariant c.self.invariant.entries below c.set_value.ensures _ refl)
