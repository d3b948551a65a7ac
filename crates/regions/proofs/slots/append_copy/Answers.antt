use Rattle.std.proofs.Common.{length, get_or, sym, ap, ◌∙◌, subst, arith}
use Rattle.std.specs.Prelude.{None, Some, IsSome, IfSome, option_map}
use Rattle.std.proofs.lemmas.List.{get_or-set_other, length-set}
use Rattle.regions.specs.Contents.{standing_in, item_if_live, size_of, holding, ChangesIn}
use Rattle.regions.proofs.Tables as tables
use Rattle.regions.proofs.Regions.{set-set}
use Rattle.regions.proofs.CopiedWhole.{if-there, room-told}
use Rattle.regions.proofs.slots.append_copy.Goals as goal

pub copy_onto-at-requires-clause-inside : goal.copy_onto-at-requires-clause-inside
copy_onto-at-requires-clause-inside c =
    let slots = c.args.slots.now.items in let n = c.args.number in
    let long = ap length c.as_slice.ensures.value ∙ length-set slots n c.replace-target.new.dest in omega (arith, long, c.requires.inside.1)

pub copy_onto-at-requires-clause-live : goal.copy_onto-at-requires-clause-live
copy_onto-at-requires-clause-live c =
    let slots = c.args.slots.now.items in let n = c.args.number in let from = c.args.from in
    let others = ap (λ s. get_or s from.segment None) c.as_slice.ensures.value ∙ get_or-set_other slots n from.segment c.replace-target.new.dest None c.requires.apart in
    subst (λ s. IsSome (item_if_live (standing_in s from.at))) (sym others) c.requires.live

pub copy_onto-at-requires-clause-whole : goal.copy_onto-at-requires-clause-whole
copy_onto-at-requires-clause-whole c =
    let slots = c.args.slots.now.items in let n = c.args.number in let from = c.args.from in
    let others = ap (λ s. get_or s from.segment None) c.as_slice.ensures.value ∙ get_or-set_other slots n from.segment c.replace-target.new.dest None c.requires.apart in
    ap (λ s. option_map size_of (item_if_live (standing_in s from.at))) others ∙ c.requires.whole

pub copy_onto-at-requires-clause-begun : goal.copy_onto-at-requires-clause-begun
copy_onto-at-requires-clause-begun c =
    let slots = c.args.slots.now.items in let n = c.args.number in
    let is = tables.slot-is slots n c.index_mut.result.now None c.requires.inside.0 c.index_mut.ensures.value ∙ sym c.replace-target.ensures.value ∙ c.segment_mut.ensures.value in
    (room-told (get_or slots n None) c.segment_mut.result.now c.args.size is c.requires.room).0

pub copy_onto-at-requires-clause-fits : goal.copy_onto-at-requires-clause-fits
copy_onto-at-requires-clause-fits c =
    let slots = c.args.slots.now.items in let n = c.args.number in
    let is = tables.slot-is slots n c.index_mut.result.now None c.requires.inside.0 c.index_mut.ensures.value ∙ sym c.replace-target.ensures.value ∙ c.segment_mut.ensures.value in
    (room-told (get_or slots n None) c.segment_mut.result.now c.args.size is c.requires.room).1

pub returns : goal.returns
returns c =
    let slots = c.args.slots.now.items in let n = c.args.number in let from = c.args.from in let e = c.copy_onto-at.ensures in
    let was = c.segment_mut.result.now in let now = c.copy_onto-at.new.target in let at = c.copy_onto-at.result in
    let others = ap (λ s. get_or s from.segment None) c.as_slice.ensures.value ∙ get_or-set_other slots n from.segment c.replace-target.new.dest None c.requires.apart in
    let source = item_if_live (standing_in (get_or slots from.segment None) from.at) in
    let added = subst (λ s. IfSome (item_if_live (standing_in s from.at)) (λ i. ChangesIn at (Some (holding was.group c.args.kind i.content)) (Some was) (Some now))) others e.added in
    let there = if-there source (λ i. ChangesIn at (Some (holding was.group c.args.kind i.content)) (Some was) (Some now)) c.requires.live added in
    record {
      item = there.0;
      is_source = there.1;
      was = was;
      now = now;
      there = tables.slot-is slots n c.index_mut.result.now None c.requires.inside.0 c.index_mut.ensures.value ∙ sym c.replace-target.ensures.value ∙ c.segment_mut.ensures.value;
      set = set-set slots n c.replace-target.new.dest (Some now);
      at_end = e.at;
      slot = e.slot;
      used = e.used;
      live = e.live;
      inside = e.inside;
      unused = e.unused;
      added = there.2;
    }
