use Rattle.std.proofs.Common.{List, Some, sym, ap, ◌∙◌}
use Rattle.rows.specs.Row.{Row}
use Rattle.regions.specs.Contents.{live_at}
use Rattle.regions.specs.declared.place.Place.{Place}
use Rattle.dirty_region.specs.Queues.{newest}
use Rattle.dirty_region.specs.State.{DirtyState}
use Rattle.dirty_region.specs.inside.Rings.{put_at}
use Rattle.dirty_region.proofs.Sought.{none_found, one_found}
use Rattle.dirty_region.proofs.dirty.Dirty.newest.Goals as goal

pub returns-in_default : goal.returns-in_default
returns-in_default c =
    let s = c.self.inside in
    sym (ap (λ (x : DirtyState). newest c.args.key.now x.queue.puts) c.self.view_is)
    ∙ none_found s.ring (live_at s.region) s.index c.args.key.now c.self.invariant.0.stored.index_of c.in_default.ensures.1

pub returns : goal.returns
returns c =
    let s = c.self.inside in let live = live_at s.region in let n = c.in-Ok.found.row in
    let value = c.value_in.ensures ∙ (ap (λ (x : Row). x.value) c.content_of.ensures.read ∙ ap (λ (ps : List Place). (put_at live ps n).value) c.places.ensures) in
    sym (ap (λ (x : DirtyState). newest c.args.key.now x.queue.puts) c.self.view_is)
    ∙ (one_found s.ring live s.index c.args.key.now n c.self.invariant.0.stored.index_of c.in-Ok.ensures.0.has c.in-Ok.ensures.1 ∙ ap (λ v. Some v) (sym value))
