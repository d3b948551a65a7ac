use Rattle.std.proofs.Common.{refl, sym, subst, arith}
use Rattle.key_table.specs.Lazy.{IsKeyed}
use Rattle.regions.specs.Contents.{live_at}
use Rattle.row_cache.specs.Rows.{key_at}
use Rattle.row_cache.specs.inside.Tables as tables
use Rattle.row_cache.specs.contracts.tables.Tables.{the_view}
use Rattle.row_cache.proofs.Numbers.{numbers_settled}
use Rattle.row_cache.proofs.tables.Tables.settle_one.Goals as goal

pub invariant_of-self : goal.invariant_of-self
invariant_of-self c =
    let i = c.self.invariant in let t : tables.TableState = the_view c.self.inside in
    let u : tables.TableState = record t { room = c.settle_one.new.self.room; index = c.settle_one.new.self } in
    (numbers_settled t u i.0 c.settle_one.ensures.room refl refl refl c.settle_one.ensures.room c.settle_one.ensures.rows c.settle_one.ensures.moved, omega (arith, i.1, c.settle_one.ensures.room), omega (arith, i.2, c.settle_one.ensures.room))

pub returns-clause-tables : goal.returns-clause-tables
returns-clause-tables c =
    let live = live_at c.args.region.now in
    let are = subst (λ t. tables.AreTablesOf t live) (sym c.self.view_is) c.requires in
    record {
      numbers = (invariant_of-self c).0;
      rows = are.rows;
      every = are.every;
      apart = are.apart;
      index = subst (λ ps. IsKeyed (key_at live ps) c.settle_one.new.self) c.as_slice.ensures.value c.settle_one.ensures.lazy.keyed;
    }
