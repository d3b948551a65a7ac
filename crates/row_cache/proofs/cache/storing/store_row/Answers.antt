use Rattle.std.proofs.Common.{map, refl, subst, ◌∙◌, arith}
use Rattle.rows.specs.Row.{Row}
use Rattle.regions.specs.Contents.{live_at}
use Rattle.row_cache.specs.inside.Tables.{AddsRow, IsRowOf}
use Rattle.row_bytes.specs.NewRows.{row_of}
use Rattle.row_cache.specs.inside.Chained.{place_in}
use Rattle.row_cache.proofs.Kept.{chain_on, lacks_dead, same_of_rows}
use Rattle.row_cache.proofs.Relinked.{relinked_grouped, relinked_left, relinked_stay, relinked_total, stay_again}
use Rattle.row_cache.proofs.Caches.{relinked_rows, rows_added, consistent_added}
use Rattle.row_cache.proofs.Groups.{some_kept}
use Rattle.row_cache.proofs.cache.storing.store_row.Goals as goal

pub insert-requires-clause-adds : goal.insert-requires-clause-adds
insert-requires-clause-adds c =
    let added = c.in_ok-place.ensures.added in let row : Row = row_of c.args.row in
    record {
      row = row;
      old = live_at c.args.region.now;
      adds = record {
        tables = c.requires.consistent.counted.tables;
        item = added.item;
        is_row = subst (λ n. IsRowOf added.item n row) c.next_number.ensures added.is_row;
        adds = added.adds;
        absent = c.requires.absent;
        at = c.requires.at;
      };
    }

pub insert-requires-clause-linked : goal.insert-requires-clause-linked
insert-requires-clause-linked c =
    let t = c.args.tables.now in let l = live_at c.args.region.now in let m = live_at c.place_row.new.region in let e = c.in_ok-place.ensures in
    let chain = c.requires.consistent.chain in let ps = map (place_in t.places) t.recency in
    (chain_on l m t.ends ps (same_of_rows l m ps e.rows chain.rows) chain, e.room, lacks_dead l c.in_ok-place.place ps (e.added.adds).absent chain.rows)

pub returns-clause-rows : goal.returns-clause-rows
returns-clause-rows c =
    let t = c.args.tables.now in let r = c.args.region.now in let s = c.place_row.new.region in let added = c.in_ok-place.ensures.added in let row : Row = row_of c.args.row in
    let adds : AddsRow t c.args.at c.in_ok-place.place row (live_at r) (live_at s) = record {
      tables = c.requires.consistent.counted.tables;
      item = added.item;
      is_row = subst (λ n. IsRowOf added.item n row) c.next_number.ensures added.is_row;
      adds = added.adds;
      absent = c.requires.absent;
      at = c.requires.at;
    } in
    let u = c.insert.new.self in
    relinked_rows s c.insert.new.region u.places u.recency c.insert.ensures.relinks.same
    ∙ rows_added t u c.args.at c.in_ok-place.place row (live_at r) (live_at s) adds c.insert.ensures.recency c.insert.ensures.places

pub returns-clause-consistent : goal.returns-clause-consistent
returns-clause-consistent c =
    let total = c.in_ok-place.ensures.live in let row : Row = row_of c.args.row in let e = c.insert.ensures.relinks in
    let more = relinked_total c.place_row.new.region c.insert.new.region e.same in
    record {
      counted = consistent_added c.args.tables.now c.insert.new.self c.args.region.now c.insert.new.region row c.requires.consistent.counted
          e.tables (returns-clause-rows c) (more ∙ total);
      chain = e.linked;
      some = some_kept c.args.region.now c.insert.new.region (e.same.shape ∙ c.in_ok-place.ensures.shape) c.requires.consistent.some;
      grouped = relinked_grouped c.place_row.new.region c.insert.new.region e.same (c.in_ok-place.ensures.grouped c.requires.consistent.grouped);
    }

pub returns-clause-left : goal.returns-clause-left
returns-clause-left c = (let same = relinked_left c.place_row.new.region c.insert.new.region c.insert.ensures.relinks.same c.args.group in let e = c.in_ok-place.ensures.left in omega (arith, same, e))

pub returns-in_err-place-clause-keeps : goal.returns-in_err-place-clause-keeps
returns-in_err-place-clause-keeps c = (let e = c.in_err-place.ensures in record { room = refl; shape = e.shape; stay = e.stay })

pub returns-clause-keeps : goal.returns-clause-keeps
returns-clause-keeps c =
    let r = c.args.region.now in let m = c.place_row.new.region in let s = c.insert.new.region in let e = c.insert.ensures in let p = c.in_ok-place.ensures in
    record { room = e.room; shape = e.relinks.same.shape ∙ p.shape; stay = stay_again r m s p.stay (relinked_stay m s e.relinks.same) }
