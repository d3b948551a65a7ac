use Rattle.std.proofs.Common.{ℕ, ap, ◌∙◌}
use Rattle.dirty_region.specs.Queues.{Queue}
use Rattle.dirty_mode.proofs.store.open_dirty.Goals as goal

pub returns-clause-room : goal.returns-clause-room
returns-clause-room c = ap (λ (x : Queue × ℕ). x.1) c.in_ok-ranged.ensures.content ∙ (c.in_ok-dirty.ensures.room ∙ c.put_count.ensures)

pub returns-clause-empty : goal.returns-clause-empty
returns-clause-empty c = record { queue = ap (λ (x : Queue × ℕ). x.0) c.in_ok-ranged.ensures.content ∙ c.in_ok-dirty.ensures.empty }

pub returns-clause-held : goal.returns-clause-held
returns-clause-held c = c.in_ok-ranged.ensures.held
