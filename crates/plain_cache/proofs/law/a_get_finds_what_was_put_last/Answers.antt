use Rattle.plain_cache.proofs.Kept.{finds, none_goes}
use Rattle.cache_lemmas.proofs.Laws.{a_journal_goes_on-replied, a_journal_goes_on-kept}
use Rattle.plain_cache.proofs.law.a_get_finds_what_was_put_last.Goals as goal

pub returns-clause-none_goes : goal.returns-clause-none_goes
returns-clause-none_goes c trace pages journal legal stays = none_goes trace pages journal legal stays

pub returns-clause-found : goal.returns-clause-found
returns-clause-found c trace pages i before later operation legal stays once command kind =
    finds a_journal_goes_on-replied a_journal_goes_on-kept trace pages i before later operation legal stays once command kind
