use Rattle.std.proofs.Common.{true≢false, not, All, sym, ap, subst, ◌∙◌}
use Rattle.std.proofs.lemmas.Bool.{eqb-true}
use Rattle.shard_node.specs.inside.Endings.{HasEnded}
use Rattle.shard_node.proofs.Standing.Byes.{is_none_so}
use Rattle.shard_node.proofs.shard.Shard.is_at_end.Goals as goal
use Rattle.shard_node.proofs.shard.Shard.is_at_end.Goals.{then-is_none, else-is_none, then-are_all_begun, else-are_all_begun}

pub returns-then-tickets_out-eq0 : goal.returns-then-tickets_out-eq0
returns-then-tickets_out-eq0 g c =
    let peers = c.as_slice.ensures.value in
    elim c.if-are_all_begun.branch [
      | then-are_all_begun w ↦ elim c.if-is_none.branch [
        | then-is_none v ↦ (
          λ is. record {
            asked = is_none_so c.args.self.now.request (c.is_none.ensures ∙ ap not v.if-is_none.true);
            begun = v.are_all_begun.ensures.0 (sym v.value-is ∙ w.if-are_all_begun.true);
            idle = sym w.tickets_out.ensures ∙ eqb-true w.tickets_out.result 0 (sym w.value-is ∙ c.if-tickets_out-eq0.true);
            peers = subst (All HasEnded) peers (c.all_ended.ensures.0 is);
          },
          λ end. c.all_ended.ensures.1 (subst (All HasEnded) (sym peers) end.peers),
        )
        | else-is_none v ↦ absurd (true≢false (sym w.if-are_all_begun.true ∙ (v.value-is ∙ v.if-is_none.false)))
      ]
      | else-are_all_begun w ↦ absurd (true≢false (sym c.if-tickets_out-eq0.true ∙ (w.value-is ∙ w.if-are_all_begun.false)))
    ]
