use Rattle.std.proofs.Common.{ℕ, ◌+◌, ap, ◌∙◌, arith}
use Rattle.index_tree.proofs.Filled.{free_kept, same_shape, segments_again, segments_kept, segments_same, spare_more}
use Rattle.index_tree.proofs.filling.add_spare.Goals as goal

pub place_spare-requires-clause-one : goal.place_spare-requires-clause-one
place_spare-requires-clause-one c = c.make_room.ensures.holds.groups ∙ c.requires.one

pub place_spare-requires-clause-few : goal.place_spare-requires-clause-few
place_spare-requires-clause-few c =
    let same = (same_shape c.args.roots.now c.make_room.new.movers c.make_room.ensures.rest).2 in let few = c.requires.few in omega (arith, same, few)

pub returns-clause-index : goal.returns-clause-index
returns-clause-index c =
    let r = c.args.roots.now in let m = c.make_room.new.movers in let u = c.place_spare.new.self in let e = c.make_room.ensures in let more = c.place_spare.ensures.more in
    let same = same_shape r m e.rest in let longer = spare_more m u more.0 more.1 in
    longer.3 ∙ same.3

pub returns-clause-level : goal.returns-clause-level
returns-clause-level c =
    let r = c.args.roots.now in let m = c.make_room.new.movers in let u = c.place_spare.new.self in let e = c.make_room.ensures in let more = c.place_spare.ensures.more in
    let same = same_shape r m e.rest in let longer = spare_more m u more.0 more.1 in
    longer.0 ∙ same.0

pub returns-clause-rooted : goal.returns-clause-rooted
returns-clause-rooted c =
    let r = c.args.roots.now in let m = c.make_room.new.movers in let u = c.place_spare.new.self in let e = c.make_room.ensures in let more = c.place_spare.ensures.more in
    let same = same_shape r m e.rest in let longer = spare_more m u more.0 more.1 in
    longer.4 ∙ same.4

pub returns-clause-spares : goal.returns-clause-spares
returns-clause-spares c =
    let r = c.args.roots.now in let m = c.make_room.new.movers in let u = c.place_spare.new.self in let e = c.make_room.ensures in let more = c.place_spare.ensures.more in
    let same = same_shape r m e.rest in let longer = spare_more m u more.0 more.1 in
    longer.2 ∙ ap (λ (n : ℕ). n + 1) same.2

pub returns-clause-nodes : goal.returns-clause-nodes
returns-clause-nodes c =
    let r = c.args.roots.now in let m = c.make_room.new.movers in let u = c.place_spare.new.self in let e = c.make_room.ensures in let more = c.place_spare.ensures.more in
    let same = same_shape r m e.rest in let longer = spare_more m u more.0 more.1 in
    longer.1 ∙ ap (λ (n : ℕ). n + 1) same.1

pub returns-clause-live_total : goal.returns-clause-live_total
returns-clause-live_total c = let a = c.make_room.ensures.holds.live_total in let b = c.place_spare.ensures.live_total in omega (arith, a, b)

pub returns-clause-free : goal.returns-clause-free
returns-clause-free c =
    let a = c.make_room.ensures.free in let b = free_kept c.make_room.new.region c.place_spare.new.region c.place_spare.ensures.shape in omega (arith, a, b)

pub returns-clause-segments : goal.returns-clause-segments
returns-clause-segments c =
    segments_again c.args.region.now c.make_room.new.region c.place_spare.new.region (segments_same c.args.region.now c.make_room.new.region c.make_room.ensures.holds)
    (segments_kept c.make_room.new.region c.place_spare.new.region c.place_spare.ensures.shape)
