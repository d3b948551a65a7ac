-- The definitions compute on the example.
use Rattle.rows.specs.declared.reply_kind.ReplyKind.{ReplyKind}
use Rattle.std.proofs.Common.{Option, IsSome, ℕ, ◌≡◌, List, [], ◌∷◌, refl, arith}
use Rattle.std.specs.List.{All}
use Rattle.std.proofs.lemmas.List.Elements.{All-cons, All-head, All-nil}
use Rattle.cache_model.specs.declared.entry.Entry.TheVariants.{Done}
use Rattle.rows.specs.Apply.{Stored}
use Rattle.foreign_list.specs.Blocks.{Block}
use Rattle.shard_rings.specs.Lanes.{Traffic}
use Rattle.shard_store.specs.Stores.{StoreState}
use Rattle.shard_rings.specs.Reply.{HoldsReply}
use Rattle.shard_rings.specs.declared.link.Packet.TheVariants.{Bye}
use Rattle.shard_node.specs.Nodes.{NodeState}
use Rattle.shard_node_tests.specs.Examples.{at_owner, packet, put_reply, put_request, of_number_3}
use Rattle.shard_node.specs.Standing.{InStanding, AsksInOrder, ServesInOrder, RepliesInOrder, LogsWhatCame, SendsEachRequest, SendsEachReply, KnowsItsPlace}
use Rattle.shard_node.specs.Turns.{HasParted}
use Rattle.shard_node_tests.proofs.examples.standing.Goals as goal

one : {X : Type 0} (P : X → Type 0) (x : X) → P x → All P (x ∷ [])
one P x p = All-cons P x [] p (All-nil P)

two-one : ◌≡◌ {A = List ℕ} (1 ∷ 1 ∷ []) (1 ∷ []) → ⊥
two-one e = cc

one-none : ◌≡◌ {A = List ℕ} (1 ∷ []) [] → ⊥
one-none e = cc

holds : HoldsReply put_reply 1 Stored
holds = record { numbered = omega arith; sendable = tt; begins = refl }

abbrev ended : Block → StoreState → NodeState Traffic (Unit {0})
ended block store = at_owner block store (packet block put_request ∷ Bye ∷ []) (Done 1 ∷ [])

stands : (block : Block) (store : StoreState) → InStanding (λ link. link) (ended block store)
stands block store = record {
  journal = record { legal = refl; pressure = λ one. cc };
  asked = one (AsksInOrder (λ link. link) (ended block store)) _ ([], refl);
  served = one (ServesInOrder (λ link. link) (ended block store)) _ refl;
  own = refl;
  replied = one (RepliesInOrder (λ link. link) (ended block store)) _ ((Stored, refl, holds), tt);
  logged = record { one_each = refl; own = refl; others = one (LogsWhatCame (λ link. link) (ended block store)) _ (record { replies = []; taken = refl; logged = refl; answers = refl; owed = refl }) };
  lent = record { lends = refl; out = refl };
  kept = record {
    received = record { released = 1; all = refl; counted = refl };
    requests = one (SendsEachRequest (λ link. link) (ended block store)) _ (record { count = refl; next = ([], refl) });
    replies = one (SendsEachReply (λ link. link) (ended block store)) _ (record { count = refl; next = ((Stored, refl, holds), tt) });
  };
  placed = one (KnowsItsPlace (λ link. link) (ended block store)) _ (record { asks = refl; heard = (λ e. refl, λ e. refl); told = (λ e. refl, λ e. refl) });
}

pub returns : goal.returns
returns c block store = record {
  stands = stands block store;
  is_done = record {
    answered = All-nil (λ (reply : Option (ReplyKind × List ℕ)). IsSome reply);
    parted = one (HasParted (λ link. link) (λ gate. 0) (ended block store)) _ (record { heard = refl; told = refl; released_requests = refl; released_replies = refl; replied = refl });
    asked = refl;
    idle = refl;
  };
  twice = λ s. let e : ◌≡◌ {A = List ℕ} (1 ∷ 1 ∷ []) (1 ∷ []) = All-head (ServesInOrder (λ link. link) (at_owner block store (packet block put_request ∷ Bye ∷ []) (Done 1 ∷ Done 1 ∷ []))) _ [] s.served in two-one e;
  unasked = λ s. let e : ◌≡◌ {A = List ℕ} (1 ∷ []) [] = All-head (ServesInOrder (λ link. link) (at_owner block store (packet block of_number_3 ∷ Bye ∷ []) (Done 1 ∷ []))) _ [] s.served in one-none e;
  not_heard = λ d. let e = (All-head (HasParted (λ link. link) (λ gate. 0) (at_owner block store (packet block put_request ∷ []) (Done 1 ∷ []))) _ [] d.parted).heard in cc;
}
