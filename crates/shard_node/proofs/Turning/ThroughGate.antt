-- Own parts go through the gate: what the steps of a turn come to.
use Rattle.std.proofs.Common.{arith, ◌≡◌, ℕ, List, slice_get, Some, sym, ap, subst, ◌∙◌}
use Rattle.cache_model.specs.OwnParts.{issued_parts}
use Rattle.shard_parts.specs.Own.{IsFirstPart, own_log}
use Rattle.shard_node.specs.declared.shard.Shard.{Shard}
use Rattle.shard_node.specs.Nodes.{NodeState}
use Rattle.shard_node.specs.Turns.{GoesThroughGate, IsNextFirst, IsSameNode}
use Rattle.shard_node.specs.inside.Moves.{BeginsNone, BeginsOne}
use Rattle.shard_node.specs.inside.Shards.{node_state, IsConsistent}
use Rattle.shard_node.proofs.OwnParts.OwnLog.{own-log-is}

-- part k of a log is this one, and the first of its command
abbrev IsFirstAt : List (ℕ × ℕ) → ℕ → ℕ × ℕ → Type 0
IsFirstAt log k part = (slice_get log k ≡ Some part) × IsFirstPart log k part

module _ {L G : Type 0} where
  pub none_then_none : (a b c : NodeState L G) → BeginsNone a b → BeginsNone b c → BeginsNone a c
  none_then_none a b c first second = (second.0 ∙ first.0, second.1 ∙ first.1)

  pub one_then_none : (a b c : NodeState L G) → BeginsOne a b → BeginsNone b c → BeginsOne a c
  one_then_none a b c first second =
      let low = first.0 in
      let high = first.1 in
      let same = second.0 in
      (omega (arith, low, same), omega (arith, high, same), second.1 ∙ first.2)

  -- the parts that the shard issues are the same, and so is the one that comes next
  issued_same : {E : Type 0} (end : L → E) (a b : NodeState L G) → IsSameNode end a b → issued_parts b.trace b.shards b.shard ≡ issued_parts a.trace a.shards a.shard
  issued_same end a b same =
      ap (λ trace. issued_parts trace b.shards b.shard) same.trace
      ∙ ap (λ n. issued_parts a.trace n b.shard) same.shards
      ∙ ap (issued_parts a.trace a.shards) same.shard

  next_later : {E : Type 0} (end : L → E) (a b : NodeState L G) (part : ℕ × ℕ) → IsSameNode end a b → b.begun ≡ a.begun → IsNextFirst a part → IsNextFirst b part
  next_later end a b part same begun is =
      subst (λ log. IsFirstAt log b.begun part) (sym (issued_same end a b same))
      (subst (λ k. IsFirstAt (issued_parts a.trace a.shards a.shard) k part) (sym begun) is)

  next_before : {E : Type 0} (end : L → E) (a b : NodeState L G) (part : ℕ × ℕ) → IsSameNode end a b → b.begun ≡ a.begun → IsNextFirst b part → IsNextFirst a part
  next_before end a b part same begun is =
      subst (λ k. IsFirstAt (issued_parts a.trace a.shards a.shard) k part) begun
      (subst (λ log. IsFirstAt log b.begun part) (issued_same end a b same) is)

module _ {L G : Type 0} (lets : G → ℕ → ℕ → G → Type 0) where
  pub none_through : (a b : NodeState L G) → BeginsNone a b → GoesThroughGate lets a b
  none_through a b none =
      let same = none.0 in
      record {
        never_falls = omega (arith, same);
        one = omega (arith, same);
        let_through = λ part is more. absurd (omega (arith, same, more));
        left_alone = λ never. none.1;
      }

  -- nothing is begun before, and nothing behind
  pub through_between : {E : Type 0} (end : L → E) (a b c d : NodeState L G) → IsSameNode end a b → BeginsNone a b → GoesThroughGate lets b c → BeginsNone c d → GoesThroughGate lets a d
  through_between end a b c d same before through behind =
      let begun = before.0 in
      let later = behind.0 in
      let low = through.never_falls in
      let high = through.one in
      record {
        never_falls = omega (arith, begun, later, low);
        one = omega (arith, begun, later, high);
        let_through = λ part is more.
            subst (λ (after : G). lets a.gate a.shard part.0 after) (sym behind.1)
            (subst (λ s. lets a.gate s part.0 c.gate) same.shard
            (subst (λ (was : G). lets was b.shard part.0 c.gate) before.1
            (through.let_through part (next_later end a b part same begun is) (omega (arith, begun, later, more)))));
        left_alone = λ never. behind.1 ∙ through.left_alone (λ part is. never part (next_before end a b part same begun is)) ∙ before.1;
      }

  -- the count of turns is not read
  pub turns_through : (old : NodeState L G) (turns : ℕ) (new : NodeState L G) → GoesThroughGate lets (record old { turns = turns }) new → GoesThroughGate lets old new
  turns_through old turns new through = record {
    never_falls = through.never_falls;
    one = through.one;
    let_through = through.let_through;
    left_alone = through.left_alone;
  }

-- The next own part is of the command of this number, and the gate was asked, or left alone.
module _ {L G : Type 0} (lets : G → ℕ → ℕ → G → Type 0) (shard now : Shard L G) (x : IsConsistent shard) (same : now ≡ record shard { gate = now.gate }) (number doer : ℕ)
    (next : slice_get (own_log shard.own) shard.own.begun ≡ Some (number, doer))
    (alone : (part : ℕ × ℕ) → slice_get (own_log shard.own) shard.own.begun ≡ Some part → (IsFirstPart (own_log shard.own) shard.own.begun part → ⊥) → now.gate ≡ shard.gate) where
  begun_same : now.own.begun ≡ shard.own.begun
  begun_same = ap (λ (s : Shard L G). s.own.begun) same

  own_next : (part : ℕ × ℕ) → IsNextFirst (node_state shard) part → IsFirstAt (own_log shard.own) shard.own.begun part
  own_next part is = subst (λ log. IsFirstAt log shard.own.begun part) (sym (own-log-is shard x)) is

  next_own : (part : ℕ × ℕ) → IsFirstAt (own_log shard.own) shard.own.begun part → IsNextFirst (node_state shard) part
  next_own part is = subst (λ log. IsFirstAt log shard.own.begun part) (own-log-is shard x) is

  left : ((part : ℕ × ℕ) → IsNextFirst (node_state shard) part → ⊥) → now.gate ≡ shard.gate
  left never = alone (number, doer) next (λ first. never (number, doer) (next_own (number, doer) (next, first)))

  -- it held
  pub held_through : GoesThroughGate lets (node_state shard) (node_state now)
  held_through = let begun = begun_same in record {
    never_falls = omega (arith, begun);
    one = omega (arith, begun);
    let_through = λ part is more. absurd (omega (arith, begun, more));
    left_alone = left;
  }

  -- it did not, and at most one part was begun
  pub passed_through : (after : Shard L G)
      → ((part : ℕ × ℕ) → slice_get (own_log shard.own) shard.own.begun ≡ Some part → IsFirstPart (own_log shard.own) shard.own.begun part → lets shard.gate shard.shard number now.gate)
      → BeginsOne (node_state now) (node_state after) → GoesThroughGate lets (node_state shard) (node_state after)
  passed_through after through begins =
      let begun = begun_same in
      let low = begins.0 in
      let high = begins.1 in
      record {
        never_falls = omega (arith, begun, low);
        one = omega (arith, begun, high);
        let_through = λ part is more.
            let own = own_next part is in
            let twice : Some part ≡ Some (number, doer) = sym own.0 ∙ next in
            let one : part ≡ (number, doer) = cc in
            subst (λ (later : G). lets shard.gate shard.shard part.0 later) (sym begins.2)
            (subst (λ (p : ℕ × ℕ). lets shard.gate shard.shard p.0 now.gate) (sym one) (through part own.0 own.1));
        left_alone = λ never. begins.2 ∙ left never;
      }
