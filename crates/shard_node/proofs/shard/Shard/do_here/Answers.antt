use Rattle.std.proofs.Common.{sym, Some, None, inr, ◌+◌, ◌∙◌, ◌≡◌, ◌≤◌, ◌∷◌, length, drop, arith, refl, ap, subst, is_some}
use Rattle.std.specs.List.{Contains}
use Rattle.std.specs.Vec.{with_items}
use Rattle.std.proofs.lemmas.List.Sums.{count_by-le-length}
use Rattle.layout.specs.Sizes.{tickets}
use Rattle.trace_text.specs.Operation.{operation}
use Rattle.trace_text.specs.Parsed.{Parsed}
use Rattle.rows.specs.Spelled.{spelled}
use Rattle.shard_memory.specs.Tickets.{tickets_out}
use Rattle.rows.specs.Operations.{numbered}
use Rattle.shard_node.specs.inside.Parts.{DoesPart}
use Rattle.shard_node.proofs.Requests.Askable.{part_of_operation}
use Rattle.shard_node.proofs.OwnParts.OwnDone.{own_done, own_fits}
use Rattle.shard_node.proofs.OwnParts.OwnLog.{next-is-left, operation-there}
use Rattle.shard_node.proofs.Standing.Counted.{home_counted}
use Rattle.shard_node.proofs.Standing.PeerPairs.{pairs_same}
use Rattle.std.proofs.lemmas.List.{length-append}
use Rattle.cache_model.specs.Legal.{done}
use Rattle.part_lemmas.proofs.OwnParts.Growth.{done-more}
use Rattle.shard_node.proofs.Turning.PeerGoes.{goes_same}
use Rattle.shard_node.proofs.Turning.StepGoes.{home_more, no_more}
use Rattle.std.specs.List.{slice_get}
use Rattle.rows.specs.Operation.{Operation}
use Rattle.trace_text.specs.Parsed.{trace_in}
use Rattle.part_lemmas.proofs.OwnParts.BegunParts.{operation-of}
use Rattle.shard_node.specs.Due.{operations_for}
use Rattle.shard_node.specs.inside.Shards.{issued_by}
use Rattle.part_lemmas.proofs.OwnParts.LogPlaces.{place_at}
use Rattle.cache_lemmas.proofs.Laws.{replies_hold_what_was_put-part, a_journal_goes_on-leads, a_journal_goes_on-replied, a_journal_goes_on-evicts, evictions_in_turn_are_legal-legal, evictions_in_turn_are_legal-above, a_journal_goes_on-kept, a_journal_goes_on-number, issued_parts_are_counted-peer}
use Rattle.row_lemmas.proofs.Laws.{evictions_are_counted-count}
use Rattle.shard_node.proofs.shard.Shard.do_here.Goals as goal
use Rattle.shard_node.proofs.Replies.Logged.{get_first}

no_operation : (o : Operation) → None ≡ Some o → ⊥
no_operation o e = cc

pub do_part-requires-clause-fits : goal.do_part-requires-clause-fits
do_part-requires-clause-fits g c =
    let self = c.args.self.now in
    let x = c.requires.consistent in
    let trace = self.trace.now in
    let command = c.in-Some.command.now in
    let first : self.here.left ≡ operation trace.bytes command ∷ drop 1 self.here.left =
    subst (λ (t : Parsed). self.here.left ≡ operation t.bytes command ∷ drop 1 self.here.left) x.own.here_trace c.in-Some.ensures.some in
    let there : Contains trace.commands command = subst (λ (t : Parsed). Contains t.commands command) x.own.here_trace c.in-Some.ensures.of_trace in
    let room = own_fits replies_hold_what_was_put-part self (operation trace.bytes command) x x.formed (operation-there trace command there) first in
    let same = ap (λ part. length (spelled part.1).1) (c.operation_of-operation.ensures.same self.store.rows) in
    omega (arith, room, same)

pub do_part-requires-clause-counted : goal.do_part-requires-clause-counted
do_part-requires-clause-counted g c = c.requires.consistent.counted.backs

pub pass-requires-2 : goal.pass-requires-2
pass-requires-2 g c = next-is-left c.args.self.now (c.requires.next.0, c.args.self.now.shard) c.requires.consistent c.requires.next.1

pub returns : goal.returns
returns g c =
    let self = c.args.self.now in
    let x = c.requires.consistent in
    let trace = self.trace.now in
    let command = c.in-Some.command.now in
    let op = operation trace.bytes command in
    let first : self.here.left ≡ op ∷ drop 1 self.here.left =
    subst (λ (t : Parsed). self.here.left ≡ operation t.bytes command ∷ drop 1 self.here.left) x.own.here_trace c.in-Some.ensures.some in
    let there : Contains trace.commands command = subst (λ (t : Parsed). Contains t.commands command) x.own.here_trace c.in-Some.ensures.of_trace in
    let does : DoesPart self.own.begun op self.store c.do_part.new.store self.journal c.do_part.new.journal self.log c.do_part.new.log =
    subst (λ part. DoesPart part op self.store c.do_part.new.store self.journal c.do_part.new.journal self.log c.do_part.new.log) c.begun-part.ensures.value
    (part_of_operation (numbered command.number c.operation_of-operation.result) op c.operation_of-operation.ensures.asked c.operation_of-operation.ensures.same c.begun-part.result self.store c.do_part.new.store self.journal c.do_part.new.journal self.log c.do_part.new.log c.do_part.ensures) in
    let out : tickets_out self.store.lent ≤ tickets =
    (let all = count_by-le-length is_some self.store.lent in let many = c.requires.many in omega (arith, all, many)) in
    let traffic = g.L.Link.traffic in
    let works = c.do_part.ensures.works in
    let more : length (done c.do_part.new.journal.entries) ≡ length (done self.journal.entries) + 1 =
    ap (λ entries. length (done entries)) works.recorded.entries ∙ (ap length (done-more self.journal.entries works.evicted _) ∙ length-append (done self.journal.entries) _) in
    record {
      step = own_done g.L.Link.traffic g.L.Link.end
          (record {
            leads = a_journal_goes_on-leads;
            replied = a_journal_goes_on-replied;
            evicts = a_journal_goes_on-evicts;
            legal = evictions_in_turn_are_legal-legal;
            above = evictions_in_turn_are_legal-above;
          })
          a_journal_goes_on-kept a_journal_goes_on-number issued_parts_are_counted-peer
          replies_hold_what_was_put-part evictions_are_counted-count
          self c.do_part.new.store c.do_part.new.journal c.do_part.new.log (with_items self.keys c.do_part.new.keys) c.pass-2.new.self c.pass.new.self c.requires.next.0 op x
          (record {
            are_formed = x.formed;
            are_numbered = x.read.spelled.numbered;
            of_trace = operation-there trace command there;
            next = c.requires.next.1;
            first = first;
            few = out;
            does = does;
            counted = home_counted self.store c.do_part.new.store c.do_part.ensures.came x.counted;
            buffer = refl;
            own_trace = c.pass-2.ensures.trace;
            own_shard = c.pass-2.ensures.shard;
            own_begun = c.pass-2.ensures.begun;
            here_trace = c.pass.ensures.trace;
            here_origin = c.pass.ensures.origin;
            here_shard = c.pass.ensures.shard;
            here_left = c.pass.ensures.left;
          });
      received = λ lane. pairs_same _ _ (λ k a. (refl, refl));
      goes = record {
        peers = pairs_same _ _ (λ k a. goes_same traffic a);
        done = omega (arith, more);
        backs = home_more self.store.lent c.do_part.new.store.lent self.store.backs c.do_part.new.store.backs x.counted.backs c.do_part.ensures.came.home;
        looks = c.do_part.ensures.came.looks;
        tally = no_more self.tally;
      };
      own = let begun = c.pass-2.ensures.begun in (omega (arith, begun), omega (arith, begun), refl);
      moved = (λ is. inr (omega (arith, more)), λ so. refl);
      done = refl;
    }

pub returns-in_default-clause-done : goal.returns-in_default-clause-done
returns-in_default-clause-done g c =
    let self = c.args.self.now in
    let x = c.requires.consistent in
    let of = operation-of issued_parts_are_counted-peer (trace_in self.trace.now) self.shards self.shard self.shard self.own.begun c.requires.next.0 x.within c.requires.next.1 in
    let none : slice_get self.here.left 0 ≡ None = ap (λ l. slice_get l 0) c.in_default.ensures.none in
    let some : slice_get self.here.left 0 ≡ Some of.0 = ap (λ l. slice_get l 0) x.own.here ∙ (get_first (operations_for (trace_in self.trace.now) self.shards self.shard self.shard) (place_at self.shard (issued_by self) self.own.begun) ∙ of.1) in
    absurd (no_operation of.0 (sym none ∙ some))
