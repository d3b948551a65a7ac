use Rattle.std.proofs.Common.{ℕ, ap, ◌∙◌}
use Rattle.dirty_region.specs.Queues.{Queue}
use Rattle.dirty_region.proofs.dirty.DirtySegmented.take_piece.Goals as goal

pub returns-clause-content : goal.returns-clause-content
returns-clause-content c =
    let e = c.add_segment.ensures in ap (λ (q : Queue). (q, c.add_segment.new.self.room)) e.queue ∙ ap (λ (n : ℕ). (c.args.self.now.queue, n)) e.room
