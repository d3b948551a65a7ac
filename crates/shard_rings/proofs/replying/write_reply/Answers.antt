-- What is written is the reply.
use Rattle.std.proofs.Common.{◌+◌, length, drop}
use Rattle.rows.specs.Shown.{body_shown}
use Rattle.shard_rings.proofs.Bodies.{view_fits}
use Rattle.shard_rings.proofs.Messages.{holds_written}
use Rattle.shard_rings.proofs.replying.write_reply.Goals as goal

pub write_parts-requires-clause-keys : goal.write_parts-requires-clause-keys
write_parts-requires-clause-keys c = let meaning = c.requires.sendable in rw c.keys.ensures (view_fits c.args.reply.now meaning.0 meaning.1 meaning.2).0

pub write_parts-requires-clause-short : goal.write_parts-requires-clause-short
write_parts-requires-clause-short c = let meaning = c.requires.sendable in rw c.body.ensures (view_fits c.args.reply.now meaning.0 meaning.1 meaning.2).1

pub write_parts-requires-clause-room : goal.write_parts-requires-clause-room
write_parts-requires-clause-room c = rw c.body.ensures c.requires.room

pub returns-clause-bytes : goal.returns-clause-bytes
returns-clause-bytes c = rw (c.kind.ensures, c.keys.ensures, c.body.ensures) at c.write_parts.ensures

pub returns-clause-holds : goal.returns-clause-holds
returns-clause-holds c meaning can is =
    let reply = c.args.reply.now in
    holds_written c.write_parts.new.into (drop (16 + length (body_shown reply)) c.args.into.now) c.args.number reply meaning c.ranges.number.fits can is (returns-clause-bytes c)
