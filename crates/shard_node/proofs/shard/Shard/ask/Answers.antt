use Rattle.std.proofs.Common.{◌<◌, ◌^◌, ◌≡◌, length, ap, ◌≤◌, arith, is_some, refl, subst, ◌∙◌}
use Rattle.std.proofs.lemmas.List.Sums.{count_by-le-length}
use Rattle.layout.specs.Sizes.{tickets}
use Rattle.trace_text.specs.Operation.{operation}
use Rattle.shard_memory.specs.Tickets.{tickets_out}
use Rattle.rows.specs.Operations.{numbered}
use Rattle.shard_node.proofs.Requests.Askable.{same_request}
use Rattle.shard_node.proofs.Requests.RequestBegun.{request_begun}
use Rattle.shard_node.proofs.Standing.PeerPairs.{pairs_same}
use Rattle.cache_model.specs.Legal.{done}
use Rattle.shard_memory.specs.declared.share.Share.{Share as Shares}
use Rattle.part_lemmas.proofs.OwnParts.Growth.{done-evicted}
use Rattle.shard_node.proofs.Turning.PeerGoes.{goes_same}
use Rattle.shard_node.proofs.Turning.StepGoes.{lends_more, no_more}
use Rattle.shard_node.specs.inside.Shards.{node_state}
use Rattle.shard_node.proofs.Requests.TicketsBefore.{few_lent, tickets_before}
use Rattle.shard_node.proofs.OwnParts.OwnLog.{few-begun, next-is-left}
use Rattle.shard_node.proofs.Standing.Counted.{lends_counted}
use Rattle.cache_lemmas.proofs.Laws.{a_journal_goes_on-leads, a_journal_goes_on-replied, a_journal_goes_on-evicts, evictions_in_turn_are_legal-legal, evictions_in_turn_are_legal-above, issued_parts_are_counted-peer}
use Rattle.row_lemmas.proofs.Laws.{evictions_are_counted-count}
use Rattle.shard_node.proofs.shard.Shard.ask.Goals as goal

pub returns : goal.returns
returns g c =
    let self = c.args.self.now in
    let command = c.args.command.now in
    let x = c.requires.consistent in
    let lent : tickets_out self.store.lent ≤ tickets =
    (let all = count_by-le-length is_some self.store.lent in let many = c.requires.many in omega (arith, all, many)) in
    let traffic = g.L.Link.traffic in
    let none : length (done c.request-block.new.journal.entries) ≡ length (done self.journal.entries) =
    ap (λ entries. length (done entries)) c.request-block.ensures.evicted.recorded.entries ∙ ap length (done-evicted self.journal.entries c.request-block.ensures.evicted.evicted) in
    record {
      step = request_begun g.L.Link.traffic g.L.Link.end
          (record {
            leads = a_journal_goes_on-leads;
            replied = a_journal_goes_on-replied;
            evicts = a_journal_goes_on-evicts;
            legal = evictions_in_turn_are_legal-legal;
            above = evictions_in_turn_are_legal-above;
          })
          issued_parts_are_counted-peer evictions_are_counted-count
          self c.request-block.new.store c.request-block.new.journal c.pass.new.self (record { peer = c.args.doer; block = c.request-block.result }) command x
          (record {
            are_numbered = x.read.spelled.numbered;
            of_trace = c.requires.of_trace;
            idle = c.requires.idle;
            next = c.requires.next;
            other = c.requires.other;
            below = c.requires.below;
            few = lent;
            asks = c.request-block.ensures.bytes ∙ same_request (numbered command.number c.operation_of-operation.result) (operation self.trace.now.bytes command) c.operation_of-operation.ensures.asked;
            evicts = c.request-block.ensures.evicted;
            lends = c.request-block.ensures.lends.lends;
            counted = lends_counted Shares.Request self.store c.request-block.new.store c.request-block.result c.request-block.ensures.lends x.counted;
            own_trace = c.pass.ensures.trace;
            own_shard = c.pass.ensures.shard;
            own_begun = c.pass.ensures.begun;
          });
      received = λ lane. pairs_same _ _ (λ k a. (refl, refl));
      goes = record {
        peers = pairs_same _ _ (λ k a. goes_same traffic a);
        done = omega (arith, none);
        backs = lends_more Shares.Request self.store c.request-block.new.store c.request-block.result x.counted.backs c.request-block.ensures.lends;
        looks = c.request-block.ensures.lends.looks;
        tally = no_more self.tally;
      };
      own = let begun = c.pass.ensures.begun in (omega (arith, begun), omega (arith, begun), refl);
      peers = refl;
      done = none;
      waits = (record { peer = c.args.doer; block = c.request-block.result }, refl);
      idle = λ stands back has.
          tickets_before self.store c.request-block.new.store c.request-block.result
          (few_lent traffic (node_state self) stands (few-begun self x) (subst (λ entries. length entries < 2 ^ 32) c.entries.ensures.value c.entries.ensures.few))
          c.requires.many x.counted.lends c.request-block.ensures.lends back has;
    }

pub pass-requires : goal.pass-requires
pass-requires g c = next-is-left c.args.self.now (c.args.command.now.number, c.args.doer) c.requires.consistent c.requires.next
