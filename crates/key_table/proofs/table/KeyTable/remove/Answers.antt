use Rattle.std.proofs.Common.{◌≡◌, ◌≢◌, sym, subst, arith}
use Rattle.std.specs.Prelude.{All}
use Rattle.key_table.specs.declared.entries.RowAt.{RowAt}
use Rattle.key_table.specs.Hash.{tag_of}
use Rattle.key_table.specs.Table.{Table, IsTagged, IsTagOf}
use Rattle.key_table.specs.inside.Slots.{held}
use Rattle.key_table.proofs.Copied.{one_more}
use Rattle.key_table.proofs.Told.{all_held, held_all, absent_listed, tagged_within}
use Rattle.key_table.proofs.table.KeyTable.remove.Goals as goal

pub locate-requires-clause-tag : goal.locate-requires-clause-tag
locate-requires-clause-tag c =
    let found = c.args.found in
    held_all (λ (s : RowAt). s.row ≡ found.row → s.tag ≡ found.tag) c.self.inside.slots.items (subst (λ (t : Table). IsTagOf t found) (sym c.self.view_is) c.requires)

pub returns-in_default-clause-absent : goal.returns-in_default-clause-absent
returns-in_default-clause-absent c none =
    let n = c.args.found.row in
    absent_listed c.args.self.now.kept n (subst (λ (t : Table). All (λ (s : RowAt). s.row ≢ n) t.kept) c.self.view_is (all_held (λ (s : RowAt). s.row ≢ n) c.self.inside.slots.items c.in_default.ensures))

pub overflow_sub-self : goal.overflow_sub-self
overflow_sub-self c =
    let more = one_more (held c.self.inside.slots.items) (held c.take_out.new.slots.items) _ c.take_out.ensures.rows in
    omega (arith, more, c.self.invariant.counted)

pub invariant_of-self : goal.invariant_of-self
invariant_of-self c =
    let kept = c.self.invariant in
    let more = one_more (held c.self.inside.slots.items) (held c.take_out.new.slots.items) _ c.take_out.ensures.rows in
    record {
      probed = c.take_out.ensures.probed;
      counted = omega (arith, more, kept.counted);
      within = omega (arith, kept.within);
      doubled = kept.doubled;
      upto = kept.upto;
      slots_fit = omega (arith, kept.slots_fit, c.take_out.ensures.capacity);
      spare_fit = kept.spare_fit;
      none_spare = kept.none_spare;
    }

pub returns-clause-tagged : goal.returns-clause-tagged
returns-clause-tagged c key_of tagged =
    let P : RowAt → Type 0 = λ s. s.tag ≡ tag_of (key_of s.row) in
    let old = held_all P c.self.inside.slots.items (subst (IsTagged key_of) (sym c.self.view_is) tagged) in
    all_held P c.take_out.new.slots.items (tagged_within key_of c.self.inside.slots.items c.take_out.new.slots.items c.take_out.ensures.within old)
