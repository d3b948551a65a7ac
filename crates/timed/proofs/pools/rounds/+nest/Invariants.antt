-- Each object stands one deeper.
use Rattle.timed.proofs.pools.rounds.+nest.Given as goal

abbrev pub decreases-nest : goal.decreases-nest
decreases-nest l = l.depth
