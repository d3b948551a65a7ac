use Rattle.std.proofs.Common.{◌≡◌, ◌≢◌, [], None, sym, ◌∙◌, subst, arith}
use Rattle.foreign_list.specs.inside.Plays.{SeatState, TookWhole}
use Rattle.foreign_list.specs.inside.Views.{ledger_of, IsOwner}
use Rattle.foreign_list.proofs.list_table.ListTable.take_list.Goals as goal

pub returns-then-found-eq0-clause-taken : goal.returns-then-found-eq0-clause-taken
returns-then-found-eq0-clause-taken c = c.see_head-found.ensures.seen.none c.if-found-eq0.true

-- there is one: the look has changed nothing
pub take_head-requires-clause-seat : goal.take_head-requires-clause-seat
take_head-requires-clause-seat c =
    let test = c.if-found-eq0.false in
    let other : c.see_head-found.result ≢ 0 = λ none. omega (arith, test, none) in
    let same = c.see_head-found.ensures.seen.some other in (
      c.see_head-found.ensures.seat.0 ∙ c.requires.seat.0,
      subst (λ (m : SeatState). IsOwner m.0) (sym same) c.requires.seat.1,
    )

pub take_head-requires-clause-walk : goal.take_head-requires-clause-walk
take_head-requires-clause-walk c =
    let test = c.if-found-eq0.false in
    let other : c.see_head-found.result ≢ 0 = λ none. omega (arith, test, none) in
    subst (λ (m : SeatState). ((ledger_of m.0).walk ≡ []) × ((ledger_of m.0).hand ≡ None)) (sym (c.see_head-found.ensures.seen.some other)) c.requires.walk

pub returns-clause-seat : goal.returns-clause-seat
returns-clause-seat c =
    let saw = c.see_head-found.ensures.seat in
    let took = c.take_head.ensures.seat in
    (took.0 ∙ saw.0, took.1 ∙ saw.1)

pub returns-clause-taken : goal.returns-clause-taken
returns-clause-taken c =
    let test = c.if-found-eq0.false in
    let other : c.see_head-found.result ≢ 0 = λ none. omega (arith, test, none) in
    subst (λ (m : SeatState). TookWhole (ledger_of m.0) m c.take_head.result c.take_head.new.seat.me) (c.see_head-found.ensures.seen.some other) c.take_head.ensures.taken
