-- The trace is run, or a misfit was written.
use Rattle.std.proofs.Common.{refl, sym, ◌∙◌}
use Rattle.shardcache.proofs.reading.keep_fit.Goals as goal

pub returns-in-None-clause-kept : goal.returns-in-None-clause-kept
returns-in-None-clause-kept g c = (refl, sym c.misfit_of.ensures ∙ c.in-None.is)

pub returns-in-Some-clause-refused : goal.returns-in-Some-clause-refused
returns-in-Some-clause-refused g c =
    let is = sym c.misfit_of.ensures ∙ c.in-Some.is in (c.in-Some.misfit, is, c.refuse_unfit.ensures.written)
