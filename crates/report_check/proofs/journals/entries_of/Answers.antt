-- One field more, which spells an entry or none.
use Rattle.std.proofs.Common.{◌≡◌, Bor, ℕ, ◌+◌, List, Option, length, ap, sym, ◌∙◌, arith}
use Rattle.cache_model.specs.declared.entry.Entry.{Entry}
use Rattle.report_check.specs.Spelled.{entries_of}
use Rattle.report_check.specs.inside.Spells.{fields_of, room_of}
use Rattle.report_check.proofs.Entries.{all-entries, behind, next-entry, no-entry, room-less, shown}
use Rattle.report_check.proofs.journals.entries_of.Goals as goal

pub loop-rest-preserved : goal.loop-rest-preserved
loop-rest-preserved c =
    let l = c.loop-rest in let i = l.invariant in let cut = c.cut_field in
    record {
      joined =
          next-entry c.args.count (fields_of (shown c.args.fields)) (fields_of (shown l.rest)) l.entries.items i.joined cut.result.0.now
          (fields_of (shown cut.result.1)) c.in-Some-entry_of.entry
          (ap (λ (o : Option (Bor (List ℕ))). fields_of (shown o)) c.in-Some.is ∙ cut.ensures.fields) (sym c.entry_of.ensures ∙ c.in-Some-entry_of.is)
          ∙ ap (λ (entries : List Entry). behind entries (entries_of c.args.count (fields_of (shown cut.result.1)))) (sym c.in_ok-push.ensures.items);
      few =
          let few = i.few in
          let room : room_of (shown l.rest) ≡ length c.in-Some.text.now + 1 = ap (λ (o : Option (Bor (List ℕ))). room_of (shown o)) c.in-Some.is in
          let less = room-less cut.result.1 (length c.in-Some.text.now) cut.ensures.shorter in
          let more = c.in_ok-push.ensures.len in
          omega (arith, few, room, less, more);
    }

pub returns-in_default-entry_of-clause-entries : goal.returns-in_default-entry_of-clause-entries
returns-in_default-entry_of-clause-entries c =
    let l = c.loop-rest in
    sym (no-entry c.args.count (fields_of (shown c.args.fields)) (fields_of (shown l.rest)) l.entries.items l.invariant.joined c.cut_field.result.0.now
    (fields_of (shown c.cut_field.result.1))
    (ap (λ (o : Option (Bor (List ℕ))). fields_of (shown o)) c.in-Some.is ∙ c.cut_field.ensures.fields) (sym c.entry_of.ensures ∙ c.in_default-entry_of.is))

pub returns-clause-entries : goal.returns-clause-entries
returns-clause-entries c =
    let l = c.loop-rest in
    sym (all-entries c.args.count (fields_of (shown c.args.fields)) (fields_of (shown l.rest)) l.entries.items l.invariant.joined
    (ap (λ (o : Option (Bor (List ℕ))). fields_of (shown o)) c.in_default.is))

pub returns-clause-few : goal.returns-clause-few
returns-clause-few c = let few = c.loop-rest.invariant.few in omega (arith, few)
