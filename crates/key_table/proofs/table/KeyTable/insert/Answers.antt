use Rattle.std.proofs.Common.{◌≡◌, ◌+◌, ◌<◌, ◌∷◌, List, length, sym, ap, subst, ◌∙◌, refl, arith}
use Rattle.key_table.specs.declared.entries.RowAt.{RowAt}
use Rattle.key_table.specs.Hash.{tag_of}
use Rattle.key_table.specs.Table.{Table, IsCrowdedAt, IsTagged, reach}
use Rattle.key_table.specs.inside.Slots.{held}
use Rattle.key_table.proofs.Copied.{same_length, one_more}
use Rattle.key_table.proofs.Gaps.{crowded_at}
use Rattle.key_table.proofs.Told.{all_held, held_all, tagged_within, tagged_more}
use Rattle.key_table.proofs.table.KeyTable.insert.Goals as goal

pub invariant_of-self : goal.invariant_of-self
invariant_of-self c =
    let kept = c.self.invariant in
    let wide = c.widen-self-inside.ensures in
    let fit = wide.capacity (c.self.inside.most + 1 + reach) kept.slots_fit kept.spare_fit in
    let same = same_length _ _ wide.rows in
    let unchanged = ap (λ slots. length (held slots)) (c.if-not-put.ensures.unchanged refl) in
    record {
      probed = c.put.ensures.probed;
      counted = omega (arith, same, unchanged, kept.counted);
      within = kept.within;
      doubled = wide.doubled kept.doubled.0 kept.doubled.1;
      upto = wide.upto;
      slots_fit = omega (arith, fit.0, wide.most, c.put.ensures.capacity);
      spare_fit = omega (arith, fit.1, wide.most);
      none_spare = wide.spare;
    }

pub returns-then-not-put-clause-full : goal.returns-then-not-put-clause-full
returns-then-not-put-clause-full c =
    let kept = c.self.invariant in
    let wide = c.widen-self-inside.ensures.doubled kept.doubled.0 kept.doubled.1 in
    subst (λ (slots : List RowAt). IsCrowdedAt (record { room = c.self.inside.room; kept = held slots }) c.args.spot)
    (sym (c.if-not-put.ensures.unchanged refl))
    (crowded_at c.widen-self-inside.result wide.0 c.of.result.tag c.self.inside.room c.widen-self-inside.new.slots.items c.args.spot wide.1
    c.of.ensures.tag (c.if-not-put.ensures.tight refl))

pub returns-then-not-put-clause-tagged : goal.returns-then-not-put-clause-tagged
returns-then-not-put-clause-tagged c key_of tagged here =
    let P : RowAt → Type 0 = λ s. s.tag ≡ tag_of (key_of s.row) in
    let old = held_all P c.self.inside.slots.items (subst (IsTagged key_of) (sym c.self.view_is) tagged) in
    let wide = tagged_within key_of c.self.inside.slots.items c.widen-self-inside.new.slots.items c.widen-self-inside.ensures.within old in
    let entry = c.of.result in
    let spot = c.of.ensures.tag ∙ (here ∙ ap (λ n. tag_of (key_of n)) (sym c.of.ensures.row)) in
    all_held P c.put.new.slots.items (tagged_within key_of (entry ∷ c.widen-self-inside.new.slots.items) c.put.new.slots.items c.put.ensures.within (tagged_more key_of entry c.widen-self-inside.new.slots.items spot wide))

pub invariant_of-self-2 : goal.invariant_of-self-2
invariant_of-self-2 c =
    let kept = c.self.invariant in
    let wide = c.widen-self-inside.ensures in
    let room : length (held c.self.inside.slots.items) < c.self.inside.room = subst (λ (t : Table). length t.kept < t.room) (sym c.self.view_is) c.requires.room in
    let fit = wide.capacity (c.self.inside.most + 1 + reach) kept.slots_fit kept.spare_fit in
    let same = same_length _ _ wide.rows in
    let more = one_more (held c.put.new.slots.items) (held c.widen-self-inside.new.slots.items) c.of.result.row (λ n. sym (c.if-not-put.ensures.rows refl n)) in
    record {
      probed = c.put.ensures.probed;
      counted = omega (arith, more, same, kept.counted);
      within = omega (arith, room, kept.counted);
      doubled = wide.doubled kept.doubled.0 kept.doubled.1;
      upto = wide.upto;
      slots_fit = omega (arith, fit.0, wide.most, c.put.ensures.capacity);
      spare_fit = omega (arith, fit.1, wide.most);
      none_spare = wide.spare;
    }

pub returns-clause-tagged : goal.returns-clause-tagged
returns-clause-tagged c key_of tagged here =
    let P : RowAt → Type 0 = λ s. s.tag ≡ tag_of (key_of s.row) in
    let old = held_all P c.self.inside.slots.items (subst (IsTagged key_of) (sym c.self.view_is) tagged) in
    let wide = tagged_within key_of c.self.inside.slots.items c.widen-self-inside.new.slots.items c.widen-self-inside.ensures.within old in
    let entry = c.of.result in
    let spot = c.of.ensures.tag ∙ (here ∙ ap (λ n. tag_of (key_of n)) (sym c.of.ensures.row)) in
    all_held P c.put.new.slots.items (tagged_within key_of (entry ∷ c.widen-self-inside.new.slots.items) c.put.new.slots.items c.put.ensures.within (tagged_more key_of entry c.widen-self-inside.new.slots.items spot wide))
