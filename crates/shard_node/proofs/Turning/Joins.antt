-- Steps, one after the other.
use Rattle.std.proofs.Common.{refl, ◌∙◌}
use Rattle.shard_rings.specs.Lanes.{LinkEnd, Traffic}
use Rattle.shard_node.specs.declared.shard.Shard.{Shard}
use Rattle.shard_node.specs.inside.Shards.{IsConsistent}
use Rattle.shard_node.specs.inside.Steps.{IsStep}

module _ {L G : Type 0} (traffic : L → Traffic) (end : L → LinkEnd) where
  -- a shard stays where it is
  pub no_step : (shard : Shard L G) → IsConsistent shard → IsStep traffic end shard shard
  no_step shard consistent = record {
    consistent = consistent;
    standing = λ stands. stands;
    same = record { shard = refl; shards = refl; pages = refl; trace = refl; home = refl; ends = refl };
    turns = refl;
  }

  pub steps_join : (a b c : Shard L G) → IsStep traffic end a b → IsStep traffic end b c → IsStep traffic end a c
  steps_join a b c first second = record {
    consistent = second.consistent;
    standing = λ stands. second.standing (first.standing stands);
    same = let one = first.same in let two = second.same in record {
      shard = two.shard ∙ one.shard;
      shards = two.shards ∙ one.shards;
      pages = two.pages ∙ one.pages;
      trace = two.trace ∙ one.trace;
      home = two.home ∙ one.home;
      ends = two.ends ∙ one.ends;
    };
    turns = second.turns ∙ first.turns;
  }
