use Rattle.std.proofs.Common.{length, sym, ap, ◌∙◌}
use Rattle.regions.specs.Contents.{live_at}
use Rattle.dirty_region.specs.State.{DirtyState}
use Rattle.dirty_region.specs.inside.Rings.{nth}
use Rattle.dirty_region.proofs.Listed.{length-listed}
use Rattle.dirty_region.proofs.dirty.Dirty.len.Goals as goal

pub returns : goal.returns
returns c =
    let r = c.self.inside.ring in
    c.len.ensures.count ∙ (sym (length-listed (nth r (live_at c.self.inside.region)) r.count) ∙ ap (λ (x : DirtyState). length x.queue.puts) c.self.view_is)
