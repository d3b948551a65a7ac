use Rattle.std.proofs.Common.{◌≡◌, ◌∷◌, [], ◌++◌, Some, slice_get, refl, sym, ap, subst, ◌∙◌, arith, length, length-append, get_or}
use Rattle.std.specs.Option.{option_to_list}
use Rattle.std.proofs.lemmas.Option.{slice_get-get_or, same_Some}
use Rattle.shard_node.specs.Nodes.{others}
use Rattle.shard_run.proofs.Getting.{inserted}
use Rattle.shard_run.proofs.Openings.{last_seat}
use Rattle.shard_run.proofs.opening.open_last.Goals as goal

pub open-requires : goal.open-requires
open-requires g c κs =
    let value = c.shards-shards.ensures.value in
    let fewer = c.pop.new.self in
    let pop : c.args.seats.now.items ≡ fewer.items ++ c.unwrap-seat.result ∷ [] = subst (λ r. c.args.seats.now.items ≡ fewer.items ++ option_to_list r) c.unwrap-seat.ensures c.pop.ensures.items in
    let place : c.len-shard.result ≡ length fewer.items = c.len-shard.ensures ∙ fewer.ok.0 in
    let count = ap length pop ∙ length-append fewer.items (c.unwrap-seat.result ∷ []) in
    let within = c.requires.within in
    let lists = c.requires.lists.count in
    let home = c.index-homes-shard.result in
    let home_at : slice_get c.args.homes.now c.len-shard.result ≡ Some home =
    slice_get-get_or c.args.homes.now c.len-shard.result home (omega (arith, place, count, within, lists)) ∙ ap Some (sym c.index-homes-shard.is) in (
      (refl, tt),
      (
        c.requires.pages,
        (
          c.requires.tables,
          (
            c.requires.lists.owners c.len-shard.result home home_at,
            (
              last_seat c.args.homes.now c.args.seats.now.items fewer.items c.unwrap-seat.result home c.requires.seats pop (subst (λ j. slice_get c.args.homes.now j ≡ Some home) place home_at),
              (
                value,
                (
                  omega (arith, place, count, within, value),
                  (
                    c.requires.links ∙ sym value,
                    λ k d lt. let u = c.requires.unused k (get_or c.args.links.items k d) (slice_get-get_or c.args.links.items k d lt) in record { sent = ap (λ o. o.sent) u.0; received = ap (λ i. i.received) u.1 },
                  ),
                ),
              ),
            ),
          ),
        ),
      ),
    )

pub returns-in-Ok-clause-opened : goal.returns-in-Ok-clause-opened
returns-in-Ok-clause-opened g c =
    let fewer = c.pop.new.self in
    let place : c.len-shard.result ≡ length fewer.items = c.len-shard.ensures ∙ fewer.ok.0 in
    let pop : c.args.seats.now.items ≡ fewer.items ++ c.unwrap-seat.result ∷ [] = subst (λ r. c.args.seats.now.items ≡ fewer.items ++ option_to_list r) c.unwrap-seat.ensures c.pop.ensures.items in
    let count = ap length pop ∙ length-append fewer.items (c.unwrap-seat.result ∷ []) in
    let within = c.requires.within in
    let lists = c.requires.lists.count in
    let opened = c.in-Ok.ensures in
    record {
      seat = c.unwrap-seat.result;
      fewer = pop;
      node = c.in-Ok.node;
      more = inserted c.args.nodes.now.items c.insert.new.self.items c.in-Ok.node c.insert.result c.unwrap.result c.insert.ensures.items c.unwrap.ensures;
      links_here = opened.links;
      opened = λ home at.
          let home_at : slice_get c.args.homes.now c.len-shard.result ≡ Some c.index-homes-shard.result =
          slice_get-get_or c.args.homes.now c.len-shard.result c.index-homes-shard.result (omega (arith, place, count, within, lists)) ∙ ap Some (sym c.index-homes-shard.is) in
          let same : c.index-homes-shard.result ≡ home = same_Some _ _ (sym home_at ∙ subst (λ j. slice_get c.args.homes.now j ≡ Some home) (sym place) at) in
          record {
            number = opened.numbers.0 ∙ place;
            shards = opened.numbers.1 ∙ c.shards-shards.ensures.value;
            room = opened.numbers.2;
            work = opened.trace;
            list = opened.list ∙ same;
            peers = opened.peers ∙ ap (λ n. others n c.len-shard.result) c.shards-shards.ensures.value ∙ ap (others c.args.trace.now.shards) place;
            standing = opened.standing;
            unturned = opened.turns;
          };
    }

pub returns-in-Err-clause-refused : goal.returns-in-Err-clause-refused
returns-in-Err-clause-refused g c =
    let fewer = c.pop.new.self in
    let pop : c.args.seats.now.items ≡ fewer.items ++ c.unwrap-seat.result ∷ [] = subst (λ r. c.args.seats.now.items ≡ fewer.items ++ option_to_list r) c.unwrap-seat.ensures c.pop.ensures.items in
    (c.hand_back.ensures.seat ∙ (ap (λ x. fewer.items ++ x ∷ []) c.in-Err.ensures.refused.0 ∙ sym pop), refl)
