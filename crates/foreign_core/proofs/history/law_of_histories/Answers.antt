-- The laws, each by its lemma.
use Rattle.foreign_core.proofs.RunLemmas.{each_in_one_state}
use Rattle.foreign_core.proofs.Courses.{each_returns_once}
use Rattle.foreign_core.proofs.ReturnOrder.{newest_returns_first, each_taken_returns}
use Rattle.foreign_core.proofs.history.law_of_histories.Goals as goal

pub returns-clause-one_state : goal.returns-clause-one_state
returns-clause-one_state c = each_in_one_state

pub returns-clause-once : goal.returns-clause-once
returns-clause-once c = each_returns_once

pub returns-clause-newest_first : goal.returns-clause-newest_first
returns-clause-newest_first c = newest_returns_first

pub returns-clause-all_return : goal.returns-clause-all_return
returns-clause-all_return c = each_taken_returns
