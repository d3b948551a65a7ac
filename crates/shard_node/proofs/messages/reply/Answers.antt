-- What is replied for the operation's variant is replied for the operation.
use Rattle.std.proofs.Common.{◌≡◌, ◌+◌, ℕ, List, length, refl, sym, subst}
use Rattle.layout.specs.Sizes.{message_header}
use Rattle.rows.specs.declared.kind.Kind.TheVariants as kinds
use Rattle.rows.specs.Apply.{Reply, row_of}
use Rattle.rows.specs.Row.{Row}
use Rattle.run_log.specs.JournalState.{JournalState}
use Rattle.rows.specs.declared.operation.Operation.{Operation as Operations}
use Rattle.rows.specs.Askable.{IsAskable}
use Rattle.rows.specs.Operations.{count_of, key_of, kind_of, numbered}
use Rattle.shard_rings.specs.Reply.{HoldsReply}
use Rattle.shard_store.specs.Stores.{StoreState}
use Rattle.shard_store.specs.Works.{floor_of}
use Rattle.shard_node.specs.inside.Did.{body_size, DoesAbove, HasPlace}
use Rattle.shard_node.proofs.messages.reply.Goals as goal

-- the bytes begin with the reply to the operation, which was done
abbrev Replies : ℕ → List ℕ → StoreState → StoreState → JournalState → JournalState → Operations → Type 0
Replies number bytes old new before after operation =
    (answer : Reply) × HoldsReply bytes number answer × DoesAbove (floor_of old.pages old.lent old.regions) (numbered number operation) answer old new before after

-- they have the size of its block
abbrev HasSize : List ℕ → List Row → Operations → Type 0
HasSize bytes rows operation = length bytes ≡ message_header + body_size (kind_of operation) (count_of operation) (row_of (key_of operation) rows)

pub reply_put-requires-clause-askable : goal.reply_put-requires-clause-askable
reply_put-requires-clause-askable c = subst (λ (o : Operations). IsAskable (numbered c.args.number o)) c.in-Put.is c.requires.askable

pub reply_put-requires-clause-room : goal.reply_put-requires-clause-room
reply_put-requires-clause-room c = subst (λ (o : Operations). kind_of o ≡ kinds.Put → HasPlace (key_of o) c.args.store.now) c.in-Put.is c.requires.room refl

pub reply_get-requires-clause-table : goal.reply_get-requires-clause-table
reply_get-requires-clause-table c = (subst (λ (o : Operations). IsAskable (numbered c.args.number o)) c.in-Get.is c.requires.askable).table

pub reply_erase-requires-clause-table : goal.reply_erase-requires-clause-table
reply_erase-requires-clause-table c = (subst (λ (o : Operations). IsAskable (numbered c.args.number o)) c.in-Erase.is c.requires.askable).table

pub reply_scan-requires-clause-askable : goal.reply_scan-requires-clause-askable
reply_scan-requires-clause-askable c = subst (λ (o : Operations). IsAskable (numbered c.args.number o)) c.in-Scan.is c.requires.askable

pub returns-in-Put-clause-replied : goal.returns-in-Put-clause-replied
returns-in-Put-clause-replied c =
    subst (Replies c.args.number c.reply_put.result.piece.bytes c.args.store.now c.reply_put.new.store c.args.journal.now c.reply_put.new.journal) (sym c.in-Put.is) c.reply_put.ensures.replied

pub returns-in-Put-clause-size : goal.returns-in-Put-clause-size
returns-in-Put-clause-size c = subst (HasSize c.reply_put.result.piece.bytes c.args.store.now.rows) (sym c.in-Put.is) c.reply_put.ensures.size

pub returns-in-Get-clause-replied : goal.returns-in-Get-clause-replied
returns-in-Get-clause-replied c =
    subst (Replies c.args.number c.reply_get.result.piece.bytes c.args.store.now c.reply_get.new.store c.args.journal.now c.reply_get.new.journal) (sym c.in-Get.is) c.reply_get.ensures.replied

pub returns-in-Get-clause-size : goal.returns-in-Get-clause-size
returns-in-Get-clause-size c = subst (HasSize c.reply_get.result.piece.bytes c.args.store.now.rows) (sym c.in-Get.is) c.reply_get.ensures.size

pub returns-in-Erase-clause-replied : goal.returns-in-Erase-clause-replied
returns-in-Erase-clause-replied c =
    subst (Replies c.args.number c.reply_erase.result.piece.bytes c.args.store.now c.reply_erase.new.store c.args.journal.now c.reply_erase.new.journal) (sym c.in-Erase.is) c.reply_erase.ensures.replied

pub returns-in-Erase-clause-size : goal.returns-in-Erase-clause-size
returns-in-Erase-clause-size c = subst (HasSize c.reply_erase.result.piece.bytes c.args.store.now.rows) (sym c.in-Erase.is) c.reply_erase.ensures.size

pub returns-in-Scan-clause-replied : goal.returns-in-Scan-clause-replied
returns-in-Scan-clause-replied c =
    subst (Replies c.args.number c.reply_scan.result.piece.bytes c.args.store.now c.reply_scan.new.store c.args.journal.now c.reply_scan.new.journal) (sym c.in-Scan.is) c.reply_scan.ensures.replied

pub returns-in-Scan-clause-size : goal.returns-in-Scan-clause-size
returns-in-Scan-clause-size c = subst (HasSize c.reply_scan.result.piece.bytes c.args.store.now.rows) (sym c.in-Scan.is) c.reply_scan.ensures.size
