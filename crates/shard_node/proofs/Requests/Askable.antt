-- What is asked for a command of a trace is the command.
use Rattle.std.proofs.Common.{◌≡◌, ℕ, List, ap}
use Rattle.rows.specs.Operation.{Operation}
use Rattle.rows.specs.Apply.{Reply, apply}
use Rattle.rows.specs.Row.{Row}
use Rattle.run_log.specs.JournalState.{JournalState}
use Rattle.run_log.specs.Replies.{Replies}
use Rattle.shard_rings.specs.Request.{request}
use Rattle.shard_store.specs.Stores.{StoreState}
use Rattle.shard_node.specs.inside.Did.{DoesAbove}
use Rattle.shard_node.specs.inside.Parts.{DoesPart}

module _ (asked operation : Operation) (line : asked ≡ operation) where
  pub same_number : asked.number ≡ operation.number
  same_number = ap (λ (o : Operation). o.number) line

  pub same_request : request asked ≡ request operation
  same_request = ap request line

  -- what does the one does the other
  module _ (same : (cache : List Row) → apply asked cache ≡ apply operation cache) where
    pub does_operation : (bound : ℕ) (reply : Reply) (old new : StoreState) (before after : JournalState)
        → DoesAbove bound asked reply old new before after → DoesAbove bound operation reply old new before after
    does_operation bound reply old new before after does =
        let here = same does.rest in
        record {
          evicted = does.evicted;
          rest = does.rest;
          evicts = does.evicts;
          recorded = rw same_number at does.recorded;
          rows = rw here at does.rows;
          reply = rw here at does.reply;
          same = does.same;
        }

    pub part_of_operation : (part : ℕ) (old new : StoreState) (before after : JournalState) (log logged : Replies)
        → DoesPart part asked old new before after log logged → DoesPart part operation old new before after log logged
    part_of_operation part old new before after log logged does =
        record { reply = does.reply; works = does_operation _ does.reply old new before after does.works; came = does.came; logs = does.logs }
