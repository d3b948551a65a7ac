-- The nodes of a run, before and after they were driven.
use Rattle.std.proofs.Common.{◌≡◌, ℕ, ◌<◌, List, [], ◌∷◌, ◌++◌, length, take, drop, get_or, Some, arith, refl, sym, ap, subst, ◌∙◌}
use Rattle.std.specs.List.{All, slice_get}
use Rattle.std.proofs.lemmas.Option.{get_or_from_slice_get, slice_get-get_or, slice_get_within}
use Rattle.trace_text.specs.Trace.{Trace}
use Rattle.foreign_list.specs.Lists.{OwnedList}
use Rattle.shard_rings.specs.Links.{LinkState, end_of, traffic_of}
use Rattle.shard_node.specs.Nodes.{NodeState}
use Rattle.shard_node.specs.Standing.{InStanding}
use Rattle.shard_node.specs.Turns.{IsDone, IsSameNode}
use Rattle.shard_drive.specs.Drives.{AtEach}
use Rattle.shard_run.specs.Opening.{AreOpened}
use Rattle.shard_run.specs.Running.{WereDriven}

something_at : {X : Type 0} (xs : List X) (i : ℕ) → i < length xs → (x : X) × (slice_get xs i ≡ Some x)
something_at [] i within = absurd (omega (arith, within))
something_at (x ∷ xs) i within = (get_or (x ∷ xs) i x, slice_get-get_or (x ∷ xs) i x within)

module _ {G : Type 0} (trace : Trace) (n pages : ℕ) (homes : List OwnedList) (opened : List (NodeState LinkState G)) (are : AreOpened trace n pages homes opened) where
  pub all-standing : All (InStanding traffic_of) opened
  all-standing i d within =
      let count = are.count in
      let lists = are.lists.count in
      let home = something_at homes i (omega (arith, within, count, lists)) in
      (are.each i home.0 (get_or opened i d) home.1 (slice_get-get_or opened i d within)).standing

  were-driven : (holds : G → ℕ) (nodes : List (NodeState LinkState G)) → length nodes ≡ length opened → AtEach (λ k. IsSameNode end_of) opened nodes
      → All (InStanding traffic_of) nodes → All (IsDone traffic_of holds) nodes → WereDriven holds trace n pages homes nodes
  were-driven holds nodes count same standing done = record {
    opened = opened;
    are_opened = are;
    count = count;
    same = λ s old new at there.
        let was = get_or_from_slice_get opened s old old at in
        let is = get_or_from_slice_get nodes s new old there in
        subst (λ x. IsSameNode end_of x new) was (subst (IsSameNode end_of (get_or opened s old)) is (same s old (slice_get_within opened s old at)));
    standing = standing;
    done = done;
  }

take-front : {X : Type 0} (xs ys : List X) → take (length xs) (xs ++ ys) ≡ xs
take-front [] ys = refl
take-front (x ∷ xs) ys = ap (λ front. x ∷ front) (take-front xs ys)

-- a vector of nodes, after its slice was driven
pub driven-after : {G : Type 0} (holds : G → ℕ) (trace : Trace) (n pages : ℕ) (homes : List OwnedList) (items now new : List (NodeState LinkState G)) (len : ℕ)
    → AreOpened trace n pages homes items → now ≡ items → len ≡ length items → length new ≡ length now → AtEach (λ k. IsSameNode end_of) now new
    → All (InStanding traffic_of) new → All (IsDone traffic_of holds) new → WereDriven holds trace n pages homes (take len (new ++ drop (length new) items))
driven-after holds trace n pages homes items now new len opened is size count same standing done =
    let as_many : length new ≡ length items = count ∙ ap length is in
    let fits : take len (new ++ drop (length new) items) ≡ new = ap (λ k. take k (new ++ drop (length new) items)) (size ∙ sym as_many) ∙ take-front new (drop (length new) items) in
    subst (WereDriven holds trace n pages homes) (sym fits)
    (were-driven trace n pages homes items opened holds new as_many (subst (λ old. AtEach (λ k. IsSameNode end_of) old new) is same) standing done)
