use Rattle.std.proofs.Common.{◌≡◌, ℕ, ◌+◌, ◌++◌, ◌∷◌, [], List, length, get_or, sym, ap, subst, ◌∙◌, arith}
use Rattle.std.specs.Prelude.{All}
use Rattle.std.proofs.lemmas.List.{length-map, nil_from_length}
use Rattle.key_index.specs.declared.entries.Entry.{Entry}
use Rattle.key_index.specs.Order.{AreRising}
use Rattle.key_index.specs.Lead.{rows_of, AreBytes, IsLed}
use Rattle.key_index.specs.Index.{Index}
use Rattle.key_index.specs.inside.Blocks.{entries_of, lens_of, front, back, AreEntriesOf}
use Rattle.key_index.proofs.Density.{dense_one}
use Rattle.key_index.proofs.Leads.{all_same_rows}
use Rattle.key_index.proofs.RowOrder.{rising_insert}
use Rattle.key_index.proofs.Found.{cut_at}
use Rattle.key_index.proofs.Edits.{all_put, rows_put, length_put, len_at, lens_count, blocks_same}
use Rattle.key_index.proofs.Relead.{same_len}
use Rattle.key_index.proofs.Changed.{has_room}
use Rattle.key_index.proofs.Places.{stands_at, stand_still}
use Rattle.key_index.proofs.Told.{entries_told, index_told}
use Rattle.std.proofs.lemmas.List.Elements.{All-cons, All-nil}
use Rattle.key_index.proofs.index.KeyIndex.insert_at.Goals as goal

pub invariant_of-self : goal.invariant_of-self
invariant_of-self g c =
    let kept = c.self.invariant in
    let none : length c.self.inside.blocks.contents ≡ 0 = omega (arith, c.if-len-eq0.true, c.len.ensures) in
    let len = ap (λ (i : Index). length i.rows) c.self.view_is in
    let room = ap (λ (i : Index). i.room) c.self.view_is in
    let less = c.requires.room in
    let before = length-map (entries_of c.self.inside.blocks.contents) (λ (e : Entry). e.row) in
    let blocks = nil_from_length c.self.inside.blocks.contents none in
    let empty : length (entries_of c.self.inside.blocks.contents) ≡ 0 = ap (λ (bs : List (List Entry)). length (entries_of bs)) blocks in
    let after : length (entries_of c.begin.new.blocks.contents) ≡ 1 = ap length c.begin.ensures.entries in
    record {
      are_blocks = c.begin.ensures.are_blocks;
      dense = dense_one (lens_of c.begin.new.blocks.contents) (let count = length-map c.begin.new.blocks.contents (λ (b : List Entry). length b) in omega (arith, count, c.begin.ensures.len));
      enough = omega (arith, kept.enough, c.begin.ensures.most);
      counted = omega (arith, kept.counted, empty, after);
      within = omega (arith, kept.counted, len, room, less, before);
    }

pub sharpen-requires-clause-readable : goal.sharpen-requires-clause-readable
sharpen-requires-clause-readable g c =
    (entries_told (g.K.Keys.has_row c.args.keys.now) (g.K.Keys.key_of c.args.keys.now) c.self.inside.room c.self.inside.blocks.contents c.args.self.now c.self.view_is c.requires.index).readable

pub sharpen-requires-clause-leads : goal.sharpen-requires-clause-leads
sharpen-requires-clause-leads g c =
    (entries_told (g.K.Keys.has_row c.args.keys.now) (g.K.Keys.key_of c.args.keys.now) c.self.inside.room c.self.inside.blocks.contents c.args.self.now c.self.view_is c.requires.index).leads

pub make_room-place-requires-clause-at : goal.make_room-place-requires-clause-at
make_room-place-requires-clause-at g c =
    let s = stands_at (g.K.Keys.key_of c.args.keys.now) (g.K.Keys.key_of c.args.keys.now c.args.row) c.self.inside.room c.self.inside.blocks.contents c.args.self.now c.args.place c.self.view_is c.requires.place in
    let k = c.args.place.block in
    let new = len_at c.sharpen.new.self.contents k in
    let old = len_at c.self.inside.blocks.contents k in
    let same = ap (λ (ns : List ℕ). get_or ns k 0) c.sharpen.ensures.lens in
    let within = s.within in
    omega (arith, new, old, same, within)

pub make_room-place-requires-clause-are_blocks : goal.make_room-place-requires-clause-are_blocks
make_room-place-requires-clause-are_blocks g c = blocks_same c.sharpen.new.self.contents c.self.inside.blocks.contents c.sharpen.ensures.lens c.self.invariant.are_blocks

pub make_room-place-requires-clause-room : goal.make_room-place-requires-clause-room
make_room-place-requires-clause-room g c =
    let len = ap (λ (i : Index). length i.rows) c.self.view_is in
    let room = ap (λ (i : Index). i.room) c.self.view_is in
    let count = length-map (entries_of c.self.inside.blocks.contents) (λ (e : Entry). e.row) in
    let has = has_room c.self.inside.room c.self.inside.count c.self.inside.blocks c.self.invariant (omega (arith, len, room, count, c.requires.room)) in
    let same = lens_count c.sharpen.new.self.contents c.self.inside.blocks.contents c.sharpen.ensures.lens in omega (arith, has, same, c.sharpen.ensures.most)

pub invariant_of-self-2 : goal.invariant_of-self-2
invariant_of-self-2 g c =
    let kept = c.self.invariant in
    let len = ap (λ (i : Index). length i.rows) c.self.view_is in
    let room = ap (λ (i : Index). i.room) c.self.view_is in
    let less = c.requires.room in
    let before = length-map (entries_of c.self.inside.blocks.contents) (λ (e : Entry). e.row) in
    let more = ap length c.put.ensures.entries ∙ length_put c.make_room-place.new.blocks.contents c.make_room-place.result.block c.make_room-place.result.at c.entry_of-entry.result
    ∙ ap (λ (n : ℕ). n + 1) (ap length c.make_room-place.ensures.entries ∙ same_len (entries_of c.sharpen.new.self.contents) (entries_of c.self.inside.blocks.contents) c.sharpen.ensures.rows) in
    record {
      are_blocks = c.put.ensures.are_blocks;
      dense = c.put.ensures.dense c.make_room-place.ensures.dense;
      enough = omega (arith, kept.enough, c.make_room-place.ensures.most, c.put.ensures.most, c.sharpen.ensures.most);
      counted = omega (arith, more, kept.counted);
      within = omega (arith, kept.counted, len, room, less, before);
    }

pub returns-then-len-eq0-clause-index : goal.returns-then-len-eq0-clause-index
returns-then-len-eq0-clause-index g c =
    let has_row = g.K.Keys.has_row c.args.keys.now in
    let key_of = g.K.Keys.key_of c.args.keys.now in
    let entry = c.entry_of-entry.result in
    let P : Entry → Type 0 = λ e. has_row e.row in
    let Q : Entry → Type 0 = λ e. AreBytes (key_of e.row).bytes in
    index_told has_row key_of c.self.inside.room c.begin.new.blocks.contents (subst (AreEntriesOf has_row key_of) (sym c.begin.ensures.entries) (
    record {
      readable = All-cons P entry [] (subst has_row (sym c.entry_of-entry.ensures.row) c.requires.readable) (All-nil P);
      bytes = All-cons Q entry [] (subst (λ r. AreBytes (key_of r).bytes) (sym c.entry_of-entry.ensures.row) c.entry_of-entry.ensures.bytes) (All-nil Q);
      leads = All-cons (IsLed key_of) entry [] c.entry_of-entry.ensures.led (All-nil (IsLed key_of));
      rising = (tt, tt);
    }
    ))

pub returns-then-len-eq0-clause-rows : goal.returns-then-len-eq0-clause-rows
returns-then-len-eq0-clause-rows g c =
    let none : length c.self.inside.blocks.contents ≡ 0 = omega (arith, c.if-len-eq0.true, c.len.ensures) in
    let blocks = nil_from_length c.self.inside.blocks.contents none in
    record {
      front = [];
      back = [];
      were = sym (ap (λ (i : Index). i.rows) c.self.view_is) ∙ ap (λ (bs : List (List Entry)). rows_of (entries_of bs)) blocks;
      are = ap rows_of c.begin.ensures.entries ∙ ap (λ (r : ℕ). r ∷ []) c.entry_of-entry.ensures.row;
      below = tt;
      above = tt;
    }

pub returns-clause-index : goal.returns-clause-index
returns-clause-index g c =
    let has_row = g.K.Keys.has_row c.args.keys.now in
    let key_of = g.K.Keys.key_of c.args.keys.now in
    let key = key_of c.args.row in
    let told = entries_told has_row key_of c.self.inside.room c.self.inside.blocks.contents c.args.self.now c.self.view_is c.requires.index in
    let blocks = c.make_room-place.new.blocks.contents in
    let k = c.make_room-place.result.block in
    let at = c.make_room-place.result.at in
    let entry = c.entry_of-entry.result in
    let P : Entry → Type 0 = λ e. has_row e.row in
    let Q : Entry → Type 0 = λ e. AreBytes (key_of e.row).bytes in
    let R : Entry → Type 0 = IsLed key_of in
    let s = stands_at key_of key c.self.inside.room c.self.inside.blocks.contents c.args.self.now c.args.place c.self.view_is c.requires.place in
    let parts = stand_still key_of key c.self.inside.blocks.contents blocks c.args.place.block c.args.place.at k at s (ap rows_of c.make_room-place.ensures.entries ∙ c.sharpen.ensures.rows)
    (c.make_room-place.ensures.front ∙ c.sharpen.ensures.front c.args.place.at) in
    index_told has_row key_of c.self.inside.room c.put.new.blocks.contents (
    record {
      readable = subst (All P) (sym c.put.ensures.entries) (all_put P blocks k at entry (subst (All P) (sym c.make_room-place.ensures.entries)
          (all_same_rows has_row (entries_of c.sharpen.new.self.contents) (entries_of c.self.inside.blocks.contents) c.sharpen.ensures.rows told.readable))
          (subst has_row (sym c.entry_of-entry.ensures.row) c.requires.readable));
      bytes = subst (All Q) (sym c.put.ensures.entries) (all_put Q blocks k at entry (subst (All Q) (sym c.make_room-place.ensures.entries)
          (all_same_rows (λ r. AreBytes (key_of r).bytes) (entries_of c.sharpen.new.self.contents) (entries_of c.self.inside.blocks.contents) c.sharpen.ensures.rows told.bytes))
          (subst (λ r. AreBytes (key_of r).bytes) (sym c.entry_of-entry.ensures.row) c.entry_of-entry.ensures.bytes));
      leads = subst (All R) (sym c.put.ensures.entries) (all_put R blocks k at entry (subst (All R) (sym c.make_room-place.ensures.entries) c.sharpen.ensures.leads) c.entry_of-entry.ensures.led);
      rising = subst (AreRising key_of) (sym (ap rows_of c.put.ensures.entries ∙ rows_put blocks k at entry ∙ ap (λ (r : ℕ). front blocks k at ++ r ∷ back blocks k at) c.entry_of-entry.ensures.row))
          (rising_insert key_of (front blocks k at) (back blocks k at) c.args.row
          (subst (AreRising key_of) (sym c.sharpen.ensures.rows ∙ sym (ap rows_of c.make_room-place.ensures.entries) ∙ cut_at blocks k at) told.rising) parts.0 parts.1);
    }
    )

pub returns-clause-rows : goal.returns-clause-rows
returns-clause-rows g c =
    let key_of = g.K.Keys.key_of c.args.keys.now in
    let key = key_of c.args.row in
    let blocks = c.make_room-place.new.blocks.contents in
    let k = c.make_room-place.result.block in
    let at = c.make_room-place.result.at in
    let s = stands_at key_of key c.self.inside.room c.self.inside.blocks.contents c.args.self.now c.args.place c.self.view_is c.requires.place in
    let parts = stand_still key_of key c.self.inside.blocks.contents blocks c.args.place.block c.args.place.at k at s (ap rows_of c.make_room-place.ensures.entries ∙ c.sharpen.ensures.rows)
    (c.make_room-place.ensures.front ∙ c.sharpen.ensures.front c.args.place.at) in
    record {
      front = front blocks k at;
      back = back blocks k at;
      were = sym (ap (λ (i : Index). i.rows) c.self.view_is) ∙ sym c.sharpen.ensures.rows ∙ sym (ap rows_of c.make_room-place.ensures.entries) ∙ cut_at blocks k at;
      are = ap rows_of c.put.ensures.entries ∙ rows_put blocks k at c.entry_of-entry.result ∙ ap (λ (r : ℕ). front blocks k at ++ r ∷ back blocks k at) c.entry_of-entry.ensures.row;
      below = parts.0;
      above = parts.1;
    }

pub keep-requires-clause-readable : goal.keep-requires-clause-readable
keep-requires-clause-readable g c =
    let has_row = g.K.Keys.has_row c.args.keys.now in
    let told = entries_told has_row (g.K.Keys.key_of c.args.keys.now) c.self.inside.room c.self.inside.blocks.contents c.args.self.now c.self.view_is c.requires.index in
    let blocks = c.make_room-place.new.blocks.contents in
    let P : Entry → Type 0 = λ e. has_row e.row in
    subst (All P) (sym c.put.ensures.entries)
    (all_put P blocks c.make_room-place.result.block c.make_room-place.result.at c.entry_of-entry.result (subst (All P) (sym c.make_room-place.ensures.entries)
    (all_same_rows has_row (entries_of c.sharpen.new.self.contents) (entries_of c.self.inside.blocks.contents) c.sharpen.ensures.rows told.readable))
    (subst has_row (sym c.entry_of-entry.ensures.row) c.requires.readable))
