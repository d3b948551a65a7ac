use Rattle.segmented_store.proofs.ranged.Ranged.facts.Goals as goal

pub returns : goal.returns
returns g c = rw (← c.self.view_is) (record { pages = c.self.invariant.are; held = c.self.invariant.first.held; unguarded = c.self.invariant.unguarded })
