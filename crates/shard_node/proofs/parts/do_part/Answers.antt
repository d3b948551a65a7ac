-- What is done for the operation's variant is done for the operation.
use Rattle.std.proofs.Common.{◌≡◌, ◌⊎◌, ◌<◌, ◌≤◌, true, length, refl, sym, subst, arith}
use Rattle.layout.specs.Sizes.{most_keys}
use Rattle.rows.specs.declared.kind.Kind.TheVariants as kinds
use Rattle.rows.specs.Apply.{apply, has}
use Rattle.rows.specs.Spelled.{spelled}
use Rattle.rows.specs.declared.operation.Operation.{Operation as Operations}
use Rattle.rows.specs.Askable.{IsAskable}
use Rattle.rows.specs.Operations.{key_of, kind_of, numbered}
use Rattle.shard_node.specs.inside.Parts.{DoesPart}
use Rattle.shard_node.proofs.parts.do_part.Goals as goal

pub do_put-requires-clause-askable : goal.do_put-requires-clause-askable
do_put-requires-clause-askable c = subst (λ (o : Operations). IsAskable (numbered c.args.number o)) c.in-Put.is c.requires.askable

pub do_put-requires-clause-tables : goal.do_put-requires-clause-tables
do_put-requires-clause-tables c =
    let store = c.args.store.now in
    subst (λ (o : Operations). kind_of o ≡ kinds.Put → (has (key_of o) store.rows ≡ true) ⊎ (length store.rows < store.room)) c.in-Put.is c.requires.tables refl

pub do_get-requires-clause-table : goal.do_get-requires-clause-table
do_get-requires-clause-table c = (subst (λ (o : Operations). IsAskable (numbered c.args.number o)) c.in-Get.is c.requires.askable).table

pub do_erase-requires-clause-table : goal.do_erase-requires-clause-table
do_erase-requires-clause-table c = (subst (λ (o : Operations). IsAskable (numbered c.args.number o)) c.in-Erase.is c.requires.askable).table

pub do_get-requires-clause-fits : goal.do_get-requires-clause-fits
do_get-requires-clause-fits c =
    subst (λ (o : Operations). length (spelled (apply (numbered c.args.number o) c.args.store.now.rows).1).1 ≤ c.args.log.now.room) c.in-Get.is c.requires.fits

pub do_scan-requires-clause-askable : goal.do_scan-requires-clause-askable
do_scan-requires-clause-askable c = subst (λ (o : Operations). IsAskable (numbered c.args.number o)) c.in-Scan.is c.requires.askable

pub do_scan-requires-clause-buffer : goal.do_scan-requires-clause-buffer
do_scan-requires-clause-buffer c =
    let few : c.in-Scan.count ≤ most_keys = (subst (λ (o : Operations). IsAskable (numbered c.args.number o)) c.in-Scan.is c.requires.askable).fields.2 in
    let room = c.requires.buffer in
    omega (arith, few, room)

pub do_scan-requires-clause-fits : goal.do_scan-requires-clause-fits
do_scan-requires-clause-fits c =
    subst (λ (o : Operations). length (spelled (apply (numbered c.args.number o) c.args.store.now.rows).1).1 ≤ c.args.log.now.room) c.in-Scan.is c.requires.fits

pub returns-in-Put : goal.returns-in-Put
returns-in-Put c =
    subst (λ (o : Operations). DoesPart c.args.part (numbered c.args.number o) c.args.store.now c.do_put.new.store c.args.journal.now c.do_put.new.journal c.args.log.now c.do_put.new.log)
    (sym c.in-Put.is) c.do_put.ensures

pub returns-in-Get : goal.returns-in-Get
returns-in-Get c =
    subst (λ (o : Operations). DoesPart c.args.part (numbered c.args.number o) c.args.store.now c.do_get.new.store c.args.journal.now c.do_get.new.journal c.args.log.now c.do_get.new.log)
    (sym c.in-Get.is) c.do_get.ensures

pub returns-in-Erase : goal.returns-in-Erase
returns-in-Erase c =
    subst (λ (o : Operations). DoesPart c.args.part (numbered c.args.number o) c.args.store.now c.do_erase.new.store c.args.journal.now c.do_erase.new.journal c.args.log.now c.do_erase.new.log)
    (sym c.in-Erase.is) c.do_erase.ensures

pub returns-in-Scan : goal.returns-in-Scan
returns-in-Scan c =
    subst (λ (o : Operations). DoesPart c.args.part (numbered c.args.number o) c.args.store.now c.do_scan.new.store c.args.journal.now c.do_scan.new.journal c.args.log.now c.do_scan.new.log)
    (sym c.in-Scan.is) c.do_scan.ensures
