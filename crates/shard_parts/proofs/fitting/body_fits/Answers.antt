-- The bytes of keys are keys.
use Rattle.std.proofs.Common.{◌<◌, ◌^◌, length, subst}
use Rattle.rows.specs.Apply.{Reply}
use Rattle.rows.specs.declared.reply.Reply.{Reply as Shown}
use Rattle.rows.specs.Shown.{body_shown, IsViewOf}
use Rattle.shard_rings.specs.Reply.{IsSendable}
use Rattle.shard_parts.proofs.FitsByBody.{view_keys}
use Rattle.shard_parts.proofs.fitting.body_fits.Goals as goal

pub rise-requires-clause-keys : goal.rise-requires-clause-keys
rise-requires-clause-keys c =
    let meaning = subst (λ (r : Shown). (m : Reply) × IsSendable m × IsViewOf r m) c.in-Keys.is c.requires.sendable in
    view_keys c.in-Keys.bytes.now meaning.0 meaning.1 meaning.2.spelled

pub rise-requires-clause-short : goal.rise-requires-clause-short
rise-requires-clause-short c = subst (λ (r : Shown). length (body_shown r) < 2 ^ 32) c.in-Keys.is c.requires.short
