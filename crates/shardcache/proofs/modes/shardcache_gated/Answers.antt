-- The table of the top call.
use Rattle.std.proofs.Common.{refl, sym, ◌∙◌}
use Rattle.shardcache.specs.declared.status.Status.TheVariants as status
use Rattle.shardcache.proofs.Causes.{accepted, refused}
use Rattle.shardcache.proofs.TableRows.{ends_as, follows_call, follows_ending, follows_nothing, read_failed, takes_none}
use Rattle.shardcache.proofs.modes.shardcache_gated.Goals as goal

pub returns-in_default-clause-headline : goal.returns-in_default-clause-headline
returns-in_default-clause-headline g c =
    follows_nothing _ _ _ _ _ _ c.without_run.ensures.status c.without_run.ensures.ran

pub returns-in_default-found-clause-headline : goal.returns-in_default-found-clause-headline
returns-in_default-found-clause-headline g c =
    let none = rw c.in_default-found.is at (sym c.in-Ok.ensures.settings) in
    follows_ending _ _ status.Usage _ _ _ _ _ _ _ _ c.without_run-in_default-found.ensures.ran (takes_none _) (c.without_run-in_default-found.ensures.ran, none, refl, refl)
    (ends_as _ _ _ _ _ _ c.without_run-in_default-found.ensures.status c.write_line.ensures.written)

pub returns : goal.returns
returns g c =
    let asked = rw c.in-Some.is at (sym c.in-Ok.ensures.settings) in
    let table = follows_call _ _ _ _ _ _ _ _ _ asked c.run_mode.ensures.ending in
    let failed = read_failed _ _ _ _ _ _ _ _ table in
    record {
      headline = table;
      read_fault = failed;
      write_fault = c.run_mode.ensures.fault;
      usage = λ none. absurd (let e = sym none ∙ asked in cc);
      accepted = λ bytes wanted is words ok read write.
          accepted _ _ _ _ _ _ _ _ bytes wanted table is words ok (λ f. read (failed f)) (λ f. write (c.run_mode.ensures.fault f));
      refused = λ bytes wanted is words err read write.
          refused _ _ _ _ _ _ _ _ bytes wanted table is words err (λ f. read (failed f)) (λ f. write (c.run_mode.ensures.fault f));
    }
