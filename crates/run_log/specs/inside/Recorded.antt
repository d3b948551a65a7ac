-- What a log keeps of a reply.
use Rattle.std.specs.Prelude.{◌≡◌, ℕ, ◌+◌, ◌≤◌, List, length, take, drop, Option}
use Rattle.std.specs.Option.{option_map, ForSome}
use Rattle.rows.specs.declared.reply_kind.ReplyKind.{ReplyKind}
use Rattle.run_log.specs.declared.bodies.Holder.{Holder}
use Rattle.run_log.specs.declared.bodies.Holder.TheVariants as holders
use Rattle.run_log.specs.declared.reply_log.Recorded.{Recorded}

-- the bytes of bodies that were copied, those of the trace, and how many more may be asked for
pub record BodiesState : Type 0 where
  pub bytes : List ℕ
  pub trace : List ℕ
  pub room : ℕ

-- the bytes in which a body is
abbrev pub bytes_of : Holder → BodiesState → List ℕ
bytes_of holders.Log bodies = bodies.bytes
bytes_of holders.Trace bodies = bodies.trace

-- a recorded reply with its body
abbrev pub reply_in : BodiesState → Option Recorded → Option (ReplyKind × List ℕ)
reply_in bodies recorded = option_map (λ r. (r.kind, take r.len (drop r.start (bytes_of r.holder bodies)))) recorded

-- its body lies there
abbrev pub LiesIn : BodiesState → Option Recorded → Type 0
LiesIn bodies recorded = ForSome recorded (λ r. r.start + r.len ≤ length (bytes_of r.holder bodies))

-- the body stands in the bytes from there on
abbrev pub StandsAt : List ℕ → List ℕ → ℕ → Type 0
StandsAt bytes body start = (start + length body ≤ length bytes) × (take (length body) (drop start bytes) ≡ body)
