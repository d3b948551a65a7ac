-- Whichever part it is.
use Rattle.row_cache.specs.Rows.{rows_of}
use Rattle.indexed_cache.proofs.Replied.{erase-replied, put-replied}
use Rattle.indexed_cache.proofs.doing.do_part.Goals as goal

pub returns-in-Put-clause-replied : goal.returns-in-Put-clause-replied
returns-in-Put-clause-replied c =
    put-replied c.args.body.now.items c.args.trace.now.bytes c.args.command.now (rows_of c.args.cache.now) c.key.result.now c.key.ensures.value c.value.result.now c.put.result c.in-Put.is c.value.ensures.value
    c.put.ensures.reply

pub returns-in-Erase-clause-replied : goal.returns-in-Erase-clause-replied
returns-in-Erase-clause-replied c =
    erase-replied c.args.body.now.items c.args.trace.now.bytes c.args.command.now (rows_of c.args.cache.now) c.key.result.now c.key.ensures.value c.erase.result c.in-Erase.is c.erase.ensures.reply
