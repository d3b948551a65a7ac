use Rattle.std.proofs.Common.{◌≡◌, ◌<◌, IfSome, length, subst}
use Rattle.index_lists.specs.Lists.{list_at}
use Rattle.common_lemmas.specs.Lists.{times}
use Rattle.small_pools.specs.inside.Tables.{stands_on}
use Rattle.small_pools.proofs.Lists.{removed_gone, removed_others}
use Rattle.small_pools.proofs.listing.unlist.Goals as goal

pub returns-in-Some-clause-gone : goal.returns-in-Some-clause-gone
returns-in-Some-clause-gone c = removed_gone c.args.lists.now c.remove.new.self c.in-Some.list c.args.index c.remove.ensures
    (λ k h. subst (λ o. times c.args.index (list_at c.args.lists.now k) ≡ stands_on o k) c.in-Some.is (c.requires.stands k h)) (subst (λ o. IfSome o (λ list. list < length c.args.lists.now.lists)) c.in-Some.is c.requires.from)

pub returns-in-Some-clause-others : goal.returns-in-Some-clause-others
returns-in-Some-clause-others c = removed_others c.args.lists.now c.remove.new.self c.in-Some.list c.args.index c.remove.ensures
