-- The row that was found is in front, and nothing in the segments changed but links.
use Rattle.rows.specs.Apply.{row_of}
use Rattle.rows.specs.Key.{key_shown}
use Rattle.row_cache.specs.Rows.{rows_of}
use Rattle.indexed_cache.proofs.Kept.{keeps-shape}
use Rattle.indexed_cache.proofs.Replied.{got-none, got-some}
use Rattle.indexed_cache.proofs.doing.get.Goals as goal

pub returns-in-Some-clause-reply : goal.returns-in-Some-clause-reply
returns-in-Some-clause-reply c =
    let key = key_shown c.args.key.now in let rows = rows_of c.args.cache.now in let found = c.in-Some.ensures.value in
    got-some key rows (row_of key rows) found.0 c.in-Some.value.now c.args.body.now.items c.append_body.new.body.items c.append_body.result found.1 found.2 c.append_body.ensures

pub returns-in-None-clause-reply : goal.returns-in-None-clause-reply
returns-in-None-clause-reply c =
    let key = key_shown c.args.key.now in let rows = rows_of c.args.cache.now in
    got-none key rows (row_of key rows) c.args.body.now.items c.in-None.ensures.value

pub returns-in-Some-clause-rows : goal.returns-in-Some-clause-rows
returns-in-Some-clause-rows c = c.get.follows.holds-at-none.0

pub returns-in-None-clause-rows : goal.returns-in-None-clause-rows
returns-in-None-clause-rows c = c.get.follows.holds-at-none.0

pub returns-in-Some-clause-kept : goal.returns-in-Some-clause-kept
returns-in-Some-clause-kept c = let after = c.get.follows.holds-at-none in keeps-shape c.args.cache.now _ after.1 after.2.shape

pub returns-in-None-clause-kept : goal.returns-in-None-clause-kept
returns-in-None-clause-kept c = let after = c.get.follows.holds-at-none in keeps-shape c.args.cache.now _ after.1 after.2.shape
