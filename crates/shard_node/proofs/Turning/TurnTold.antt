-- What a turn answers, from what its steps have seen.
use Rattle.std.proofs.Common.{◌≡◌, ℕ, Bool, true, false, Option, Some, None, inl, inr, refl}
use Rattle.shard_rings.specs.declared.link.Lane.{Lane}
use Rattle.shard_rings.specs.declared.link.Lane.TheVariants.{Requests, Replies}
use Rattle.shard_rings.specs.Lanes.{Traffic}
use Rattle.shard_parts.specs.declared.stray_packet.StrayPacket.{StrayPacket}
use Rattle.shard_node.specs.declared.turn.Turn.TheVariants.{Done}
use Rattle.shard_node.specs.Nodes.{NodeState}
use Rattle.shard_node.specs.Turns.{HasStray, HasCause, IsAnswer, IsDone, IsFirstOf, IsIdle, NoneOf}
use Rattle.shard_node.specs.inside.Moves.{TellsFirst}
use Rattle.shard_node.specs.inside.Seen.{answer_of}

pub never_done : (stray : Option StrayPacket) (moved : Bool) → answer_of stray moved ≡ Done → ⊥
never_done (Some stray) moved e = cc
never_done None true e = cc
never_done None false e = cc

module _ {L G : Type 0} (traffic : L → Traffic) (holds : G → ℕ) where
  -- the count of turns is not read
  between : (lane : Lane) (old : NodeState L G) (turns : ℕ) (new : NodeState L G) (k m : ℕ) (stray : StrayPacket)
      → HasStray traffic holds lane (record old { turns = turns }) new k m stray → HasStray traffic holds lane old new k m stray
  between Replies old turns new k m stray has = has
  between Requests old turns new k m stray has = has

  between-back : (lane : Lane) (old : NodeState L G) (turns : ℕ) (new : NodeState L G) (k m : ℕ) (stray : StrayPacket)
      → HasStray traffic holds lane old new k m stray → HasStray traffic holds lane (record old { turns = turns }) new k m stray
  between-back Replies old turns new k m stray has = has
  between-back Requests old turns new k m stray has = has

  none_so : (lane : Lane) (old : NodeState L G) (turns : ℕ) (new : NodeState L G) → NoneOf traffic holds lane (record old { turns = turns }) new → NoneOf traffic holds lane old new
  none_so lane old turns new none = λ k m stray has. none k m stray (between-back lane old turns new k m stray has)

  first_so : (lane : Lane) (stray : StrayPacket) (old : NodeState L G) (turns : ℕ) (new : NodeState L G)
      → IsFirstOf traffic holds lane (record old { turns = turns }) new stray → IsFirstOf traffic holds lane old new stray
  first_so lane stray old turns new first = (
    first.0,
    first.1,
    between lane old turns new first.0 first.1 stray first.2,
    λ j i before other has. first.3 j i before other (between-back lane old turns new j i other has),
  )

  turns_stray : (stray : Option StrayPacket) (old : NodeState L G) (turns : ℕ) (new : NodeState L G) → TellsFirst traffic holds stray (record old { turns = turns }) new → TellsFirst traffic holds stray old new
  turns_stray None old turns new none = λ lane. none_so lane old turns new (none lane)
  turns_stray (Some stray) old turns new (inl first) = inl (first_so Replies stray old turns new first)
  turns_stray (Some stray) old turns new (inr first) = inr (first_so Requests stray old turns new first.0, none_so Replies old turns new first.1)

  held_so : (old : NodeState L G) (turns : ℕ) (new : NodeState L G) → IsIdle traffic holds (record old { turns = turns }) new → IsIdle traffic holds old new
  held_so old turns new idle = record {
    nothing = idle.nothing;
    peers = λ k a b here there. let h = idle.peers k a b here there in record {
      requests_raced = h.requests_raced;
      replies_raced = h.replies_raced;
      reply = h.reply;
      bye = h.bye;
      no_reply = h.no_reply;
      no_request = h.no_request;
    };
    request = idle.request;
    own = idle.own;
    looked = idle.looked;
    looked_once = idle.looked_once;
  }

  -- the answer, where the node is not done
  pub answers : (stray : Option StrayPacket) (moved : Bool) (old : NodeState L G) (turns : ℕ) (new : NodeState L G) → (IsDone traffic holds new → ⊥)
      → TellsFirst traffic holds stray (record old { turns = turns }) new → (moved ≡ true → HasCause traffic holds (record old { turns = turns }) new)
      → (moved ≡ false → IsIdle traffic holds (record old { turns = turns }) new) → IsAnswer traffic holds (answer_of stray moved) old new
  answers (Some stray) moved old turns new undone told caused held = (undone, turns_stray (Some stray) old turns new told)
  answers None true old turns new undone told caused held = (undone, turns_stray None old turns new told, caused refl)
  answers None false old turns new undone told caused held = (undone, turns_stray None old turns new told, held_so old turns new (held refl))
