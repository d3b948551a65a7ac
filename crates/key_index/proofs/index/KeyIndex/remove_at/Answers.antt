use Rattle.std.proofs.Common.{ℕ, ◌∷◌, ◌++◌, refl, sym, ap, subst, ◌∙◌, arith}
use Rattle.std.specs.Prelude.{All}
use Rattle.key_index.specs.declared.entries.Entry.{Entry}
use Rattle.key_index.specs.Order.{AreRising}
use Rattle.key_index.specs.Lead.{rows_of, AreBytes, IsLed}
use Rattle.key_index.specs.Index.{Index, IsOrdered}
use Rattle.key_index.specs.inside.Blocks.{front}
use Rattle.key_index.proofs.RowOrder.{rising_remove}
use Rattle.key_index.proofs.Leads.{each_from_all, all_from_each}
use Rattle.key_index.proofs.Changed.{all_taken, rows_taken, cut_taken}
use Rattle.key_index.proofs.Places.{entry_told}
use Rattle.key_index.proofs.Taken.{rest, one_more}
use Rattle.key_index.proofs.Told.{meant}
use Rattle.key_index.proofs.index.KeyIndex.remove_at.Goals as goal

pub invariant_of-self : goal.invariant_of-self
invariant_of-self c =
    let entry = entry_told c.self.inside.room c.self.inside.blocks.contents c.args.self.now c.args.found.place c.args.found.row c.self.view_is c.requires in
    let kept = c.self.invariant in
    let more = one_more c.take_out-ended.new.blocks.contents c.self.inside.blocks.contents c.args.found.place.block c.args.found.place.at entry.0 entry.1 c.take_out-ended.ensures.entries in
    record {
      are_blocks = c.take_out-ended.ensures.are_blocks;
      dense = c.take_out-ended.ensures.dense;
      enough = omega (arith, kept.enough, c.take_out-ended.ensures.most);
      counted = omega (arith, more, kept.counted);
      within = omega (arith, kept.within);
    }

pub returns-clause-ordered : goal.returns-clause-ordered
returns-clause-ordered c = λ key_of is.
    let old = subst (IsOrdered key_of) (sym c.self.view_is) is in
    let entry = entry_told c.self.inside.room c.self.inside.blocks.contents c.args.self.now c.args.found.place c.args.found.row c.self.view_is c.requires in
    let blocks = c.self.inside.blocks.contents in
    let k = c.args.found.place.block in
    let at = c.args.found.place.at in
    let Q : Entry → Type 0 = λ e. AreBytes (key_of e.row).bytes in
    let blocks_after = c.take_out-ended.new.blocks.contents in
    let now : IsOrdered key_of (meant c.self.inside.room blocks_after) = record {
      beside = refl;
      rising = subst (AreRising key_of) (sym (ap rows_of c.take_out-ended.ensures.entries ∙ rows_taken blocks k at))
          (rising_remove key_of (front blocks k at) (rest blocks k at) entry.0.row (subst (AreRising key_of) (cut_taken blocks k at entry.0 entry.1) old.rising));
      bytes = each_from_all (λ row. AreBytes (key_of row).bytes) _
          (subst (All Q) (sym c.take_out-ended.ensures.entries) (all_taken Q blocks k at (all_from_each (λ row. AreBytes (key_of row).bytes) _ old.bytes)));
      kept = subst (All (IsLed key_of)) (sym c.take_out-ended.ensures.entries) (all_taken (IsLed key_of) blocks k at old.kept);
    } in
    now

pub returns-clause-rows : goal.returns-clause-rows
returns-clause-rows c =
    let entry = entry_told c.self.inside.room c.self.inside.blocks.contents c.args.self.now c.args.found.place c.args.found.row c.self.view_is c.requires in
    let blocks = c.self.inside.blocks.contents in
    let k = c.args.found.place.block in
    let at = c.args.found.place.at in
    record {
      front = front blocks k at;
      back = rest blocks k at;
      were = sym (ap (λ (i : Index). i.rows) c.self.view_is) ∙ cut_taken blocks k at entry.0 entry.1 ∙ ap (λ (r : ℕ). front blocks k at ++ r ∷ rest blocks k at) entry.2;
      are = ap rows_of c.take_out-ended.ensures.entries ∙ rows_taken blocks k at;
    }
