use Rattle.std.proofs.Common.{◌≡◌, ℕ, List, true, sym, subst, arith}
use Rattle.std.specs.Prelude.{All}
use Rattle.rows.specs.Apply as apply
use Rattle.rows.specs.Key.{in_table}
use Rattle.rows.specs.KeyBody.{AreKeys}
use Rattle.shard_store.specs.Stores.{StoreState}
use Rattle.embedded_cache.proofs.RowsWritten.{scanned_few, scanned_have}
use Rattle.embedded_cache.proofs.cache.Cache.scan_rows.Goals as goal

pub write_rows-requires-clause-keys : goal.write_rows-requires-clause-keys
write_rows-requires-clause-keys c =
    let table = c.args.table in let from = c.args.from.now in let count = c.args.count in let rows = c.self.inside.store.rows in
    let keys = apply.scanned (in_table table from) count rows in let few = scanned_few table count from rows in let most = c.requires.most in (
      keys,
      subst (λ (body : List ℕ). AreKeys body keys) (sym c.front.ensures) c.fill-len.ensures.keys,
      omega (arith, few, most),
      subst (λ (s : StoreState). All (λ (key : List ℕ). apply.has (in_table table key) s.rows ≡ true) keys) (sym c.fill-len.ensures.unchanged) (scanned_have table count from rows),
    )
