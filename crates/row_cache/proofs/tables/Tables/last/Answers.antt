use Rattle.std.proofs.Common.{◌≡◌, sym, ap, subst, ◌∙◌}
use Rattle.row_bytes.specs.Rows.{number_in}
use Rattle.regions.specs.Contents.{Item, live_at}
use Rattle.row_cache.specs.inside.Chained as chained
use Rattle.row_cache.specs.inside.Tables as tables
use Rattle.row_cache.proofs.Caches.{of_some}
use Rattle.row_cache.proofs.Numbered.{last_row_at, no_last}
use Rattle.row_cache.proofs.tables.Tables.last.Goals as goal

pub returns-in-None : goal.returns-in-None
returns-in-None c =
    let t = c.args.self.now in let e = ap (λ (x : tables.TableState). x.ends.last) c.self.view_is in
    no_last (chained.place_in t.places) t.recency (sym c.requires.linked.last ∙ (sym e ∙ c.in-None.is))

pub number_at-requires : goal.number_at-requires
number_at-requires c =
    let e = ap (λ (x : tables.TableState). x.ends.last) c.self.view_is in
    (last_row_at c.args.self.now (live_at c.args.region.now) c.in-Some.place c.requires.tables c.requires.linked (sym e ∙ c.in-Some.is)).here

pub returns-in-Some : goal.returns-in-Some
returns-in-Some c =
    let t = c.args.self.now in let live = live_at c.args.region.now in let p = c.in-Some.place in let e = ap (λ (x : tables.TableState). x.ends.last) c.self.view_is in
    let l = last_row_at t live p c.requires.tables c.requires.linked (sym e ∙ c.in-Some.is) in
    let is : c.number_at.result ≡ l.n = of_some (λ (item : Item). c.number_at.result ≡ number_in item.content) (live p) l.here.item c.number_at.ensures.number l.here.is ∙ l.number in
    subst (λ n. tables.IsLast n t.recency) (sym is) l.last
