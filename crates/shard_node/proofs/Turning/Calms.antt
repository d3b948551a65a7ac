-- A node where nothing waits.
use Rattle.std.specs.Prelude.{is_some}
use Rattle.std.proofs.Common.{◌≡◌, ℕ, ◌<◌, ◌≤◌, Bool, List, zero, suc, [], ◌∷◌, All, length, map, get_or, Option, None, Some, IsSome}
use Rattle.std.proofs.Common.{inl, inr, true≢false, arith, refl, sym, ap, subst, ◌∙◌}
use Rattle.foreign_list.specs.Blocks.{Block}
use Rattle.shard_rings.specs.Lanes.{Traffic}
use Rattle.shard_rings.specs.declared.link.Lane.TheVariants.{Replies, Requests}
use Rattle.shard_node.specs.Nodes.{NodeState}
use Rattle.shard_node.specs.Turns.{IsEmpty, Raced}
use Rattle.shard_node.specs.inside.Calm.{IsCalm, WaitsNone}
use Rattle.shard_node.specs.inside.Moves.{Goes, NonePassed, Pairs, ReplyWaits, SameWith, packets_with}
use Rattle.part_lemmas.proofs.Packets.Passed.{sums_still}

-- so it is of what is seen of them
pub seen_so : {X Y : Type 0} (f : X → Y) (P : Y → Type 0) (xs : List X) → All (λ x. P (f x)) xs → All P (map f xs)
seen_so f P [] each k d below = absurd (omega (arith, below))
seen_so f P (x ∷ xs) each zero d below = each 0 x (omega arith)
seen_so f P (x ∷ xs) each (suc k) d below = seen_so f P xs (λ j e inside. each (suc j) e (omega (arith, inside))) k d (omega (arith, below))

module _ {L G : Type 0} (traffic : L → Traffic) where
  -- where nothing passes over a link, nothing waits that did not before
  pub stays_calm : (calm : Bool) (a b : NodeState L G) → Goes traffic a b → NonePassed traffic a b → IsCalm calm a → IsCalm calm b
  stays_calm calm a b goes quiet was is k d below =
      let long = goes.peers.long in
      let within : k < length a.peers = omega (arith, long, below) in
      let none = was is k d within in
      let on = goes.peers.each k d within in
      let still : packets_with traffic (get_or b.peers k d) ≤ packets_with traffic (get_or a.peers k d) =
      sums_still (packets_with traffic) a.peers b.peers long (λ j e inside. (goes.peers.each j e inside).more) quiet k d within in
      record {
        released_request = elim (on.held Requests none.released_request) [
          | inl empty ↦ empty
          | inr rose ↦ absurd (omega (arith, rose, still))
        ];
        released_reply = elim (on.held Replies none.released_reply) [
          | inl empty ↦ empty
          | inr rose ↦ absurd (omega (arith, rose, still))
        ];
        replied = (on.same still).reply ∙ none.replied;
      }

  -- no reply waits
  pub none_to_send : (node : NodeState L G) → All WaitsNone node.peers
      → Pairs (λ k a b. (b.held ≡ a.held) × ReplyWaits traffic a b) node.peers node.peers
  none_to_send node none = record {
    long = refl;
    each = λ k d below. (refl, λ some. absurd (true≢false (sym (subst IsSome (none k d below).replied some))));
  }

  module _ (holds : G → ℕ) where
    none_raced : (held : Option Block) → IsEmpty held → Raced traffic holds held held
    none_raced None empty = tt
    none_raced (Some block) empty = absurd (true≢false (ap is_some empty))

    -- no block waits to be released
    pub none_to_release : (node : NodeState L G) → All WaitsNone node.peers
        → Pairs (λ k a b. SameWith traffic a b × Raced traffic holds a.held.requests b.held.requests × Raced traffic holds a.held.replies b.held.replies)
        node.peers node.peers
    none_to_release node none = record {
      long = refl;
      each = λ k d below. let e = none k d below in (
        record { sent = refl; received = refl; reply = refl; keeps = refl },
        none_raced _ e.released_request,
        none_raced _ e.released_reply,
      );
    }
