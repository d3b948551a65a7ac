-- The keys that were written are those of the scan.
use Rattle.rows.specs.Apply.{scanned}
use Rattle.rows.specs.Key.{key_shown}
use Rattle.row_cache.specs.Rows.{rows_of}
use Rattle.indexed_cache.proofs.Replied.{found-keys}
use Rattle.indexed_cache.proofs.doing.scan.Goals as goal

pub returns-clause-reply : goal.returns-clause-reply
returns-clause-reply c =
    found-keys (scanned (key_shown c.args.key.now) c.args.count (rows_of c.args.cache.now)) _ c.args.body.now.items c.append_body.new.body.items c.append_body.result c.scan-scanned.ensures.keys.spelled c.append_body.ensures
