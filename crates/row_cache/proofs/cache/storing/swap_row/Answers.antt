use Rattle.std.proofs.Common.{◌≡◌, ◌+◌, ℕ, Option, None, Some, sym, subst, ◌∙◌, arith}
use Rattle.std.specs.Prelude.{IfSome}
use Rattle.regions.specs.Counts.{live_total}
use Rattle.regions.specs.Contents.{Item, live_at, size_of}
use Rattle.row_cache.specs.inside.Tables.{HoldsARow}
use Rattle.row_cache.proofs.Relinked.{stay_again}
use Rattle.row_cache.proofs.cache.storing.swap_row.Goals as goal

-- the dead object's bytes, where those of the new one came before
less : (o : Option Item) (new middle most : ℕ) → IfSome o (λ item. new + size_of item ≡ middle) → middle ≡ most → IfSome o (λ item. new + size_of item ≡ most)
less None new middle most gone e = gone
less (Some item) new middle most gone e = gone ∙ e

pub kill_row-requires : goal.kill_row-requires
kill_row-requires c = subst (λ (o : Option Item). HoldsARow o) (sym (c.in_ok-place.ensures.rows c.args.old c.requires.old)) c.requires.old

pub returns-clause-live : goal.returns-clause-live
returns-clause-live c =
    let m = c.place_row.new.region in let s = c.kill_row.new.region in let placed = c.in_ok-place.ensures in
    let gone = subst (λ o. IfSome o (λ (item : Item). live_total s + size_of item ≡ live_total m)) (placed.rows c.args.old c.requires.old) c.kill_row.ensures.live in
    less (live_at c.args.region.now c.args.old) (live_total s) (live_total m) _ gone placed.live

pub returns-clause-grouped : goal.returns-clause-grouped
returns-clause-grouped c = λ all. c.kill_row.ensures.grouped (c.in_ok-place.ensures.grouped all)

pub returns-clause-left : goal.returns-clause-left
returns-clause-left c = (let same = c.kill_row.ensures.left c.args.group in let e = c.in_ok-place.ensures.left in omega (arith, same, e))

pub returns-clause-stay : goal.returns-clause-stay
returns-clause-stay c = stay_again c.args.region.now c.place_row.new.region c.kill_row.new.region c.in_ok-place.ensures.stay c.kill_row.ensures.stay
