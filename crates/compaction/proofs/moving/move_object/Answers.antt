use Rattle.std.proofs.Common.{◌≢◌, sym, ap, ◌∙◌, subst}
use Rattle.std.specs.Prelude.{option_map}
use Rattle.regions.specs.Contents.{item_if_live, standing_at, live_at, dead}
use Rattle.compaction.proofs.Shut.{closed-in}
use Rattle.compaction.proofs.Moves.{copied-live, killed-live, same-live, same-store}
use Rattle.compaction.proofs.Drains.{same-at, closed-elsewhere, drained-moved, live-here}
use Rattle.compaction.proofs.moving.move_object.Goals as goal

pub tell-requires-clause-fits : goal.tell-requires-clause-fits
tell-requires-clause-fits g c =
    let a = c.append_copy-to in
    subst (g.M.Movers.fits c.args.movers.now) (copied-live c.args.region.now a.new.region c.args.from a.result a.ensures.copied a.ensures.unused) c.requires.fits

pub returns-clause-fits : goal.returns-clause-fits
returns-clause-fits g c = subst (g.M.Movers.fits c.tell.new.movers) (killed-live c.tell.new.region c.kill.new.self c.args.from c.kill.ensures.killed) c.tell.ensures.fits

pub returns-clause-store : goal.returns-clause-store
returns-clause-store g c =
    let a = c.append_copy-to in let e = a.ensures in let bare = g.M.Movers.bare in let from = c.args.from in let to = a.result in let group = c.args.group in let size = c.args.size in
    let old = c.args.region.now in let copied = a.new.region in let told = c.tell.new.region in let new = c.kill.new.self in
    let dies = option_map dead (standing_at told from) in let shut = closed-in old group from.segment c.requires.closed in
    let same = same-at bare from to size group old copied told new shut e.segment e.of e.copied e.unused c.tell.ensures.store dies c.kill.ensures.killed in
    let apart : to ≢ from =
    λ h. closed-elsewhere bare from to size group old copied told new shut e.segment e.of e.copied e.unused c.tell.ensures.store dies c.kill.ensures.killed from shut (sym h)
    in
    same-store bare (g.M.Movers.place_of c.args.movers.now) (g.M.Movers.place_of c.tell.new.movers) (live_at old) (live_at new) from to (ap item_if_live e.unused)
    (ap (λ s. option_map bare (item_if_live s)) (c.kill.ensures.killed.others to apart) ∙ same-live bare copied told to (c.tell.ensures.store.objects to)
    ∙ ap (λ s. option_map bare (item_if_live s)) e.copied.here)
    (λ p far away. same-live bare old new p (same p far away)) (c.tell.ensures.stands c.args.movers.now (live_at old) c.requires.fits) c.tell.ensures.names

pub returns-clause-drained : goal.returns-clause-drained
returns-clause-drained g c =
    let a = c.append_copy-to in let e = a.ensures in let from = c.args.from in let group = c.args.group in let old = c.args.region.now in let told = c.tell.new.region in let k = c.kill.ensures in
    drained-moved g.M.Movers.bare from a.result c.args.size group old a.new.region told c.kill.new.self (closed-in old group from.segment c.requires.closed) e.segment e.of e.copied e.unused
    c.tell.ensures.store (option_map dead (standing_at told from)) k.killed (e.shape, k.shape) e.used k.used e.live k.live e.used_total e.live_total k.live_total c.args.kind c.requires.live

pub returns-clause-live : goal.returns-clause-live
returns-clause-live g c =
    let a = c.append_copy-to in let e = a.ensures in let from = c.args.from in let group = c.args.group in let old = c.args.region.now in let told = c.tell.new.region in let k = c.kill.ensures in
    live-here g.M.Movers.bare from a.result c.args.size group old a.new.region told c.kill.new.self (closed-in old group from.segment c.requires.closed) e.segment e.of e.copied e.unused
    c.tell.ensures.store (option_map dead (standing_at told from)) k.killed (e.shape, k.shape) e.used k.used e.live k.live e.used_total e.live_total k.live_total c.args.kind c.requires.live
