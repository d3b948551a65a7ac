use Rattle.std.proofs.Common.{◌≢◌, List, ℕ, ◌-◌, ◌++◌, length, take, drop, inl, inr, sym, ap, ◌∙◌, arith}
use Rattle.rows.specs.Key.{Key}
use Rattle.rows.specs.Spelled.{key_field}
use Rattle.regions.specs.Contents.{live_at}
use Rattle.row_cache.specs.Rows.{key_at}
use Rattle.row_cache.specs.inside.Tables.{HasRow}
use Rattle.row_cache.proofs.Written.{one_written, next_holds, none_ends, none_written, other_ends, all_written, count_written}
use Rattle.row_cache.proofs.cache.scanning.write_keys.Goals as goal

pub loop-scanned-init : goal.loop-scanned-init
loop-scanned-init c = (none_written _ _ _ _, omega arith)

pub key-found-requires : goal.key-found-requires
key-found-requires c =
    next_holds (HasRow (live_at c.args.region.now) c.args.tables.now.places) c.in-Some.row c.next.new.self c.loop-scanned.invariant.0 c.requires.rows c.in-Some.ensures

pub loop-scanned-preserved : goal.loop-scanned-preserved
loop-scanned-preserved c =
    let found = c.key-found.ensures in let more = c.write_key.ensures in
    let spelled = ap (λ (k : Key). k.bytes) found.key in
    let of = sym (ap (λ (k : Key). k.table) found.key) ∙ c.if-found-table.false in
    let short = found.lengths.short in let len = ap (λ (k : List ℕ). length k) spelled in let bytes = more.bytes in
    let into = c.loop-scanned.into in let at = c.loop-scanned.scanned.bytes in (
      one_written c.in-Some.row c.next.new.self c.write_key.result c.write_key.new.into c.loop-scanned.invariant.0 c.in-Some.ensures of (omega (arith, short, len)) (omega (arith, bytes, len))
          (more.written ∙ ap (λ (k : List ℕ). key_field k ++ drop c.write_key.result (take (length into - at) (drop at into))) spelled),
      omega arith,
    )

-- ---- where no row is left

pub returns-in_default-clause-count : goal.returns-in_default-clause-count
returns-in_default-clause-count c =
    let l = c.loop-scanned in
    count_written (live_at c.args.region.now) c.args.tables.now.places c.args.table c.args.count l.invariant.0 l.invariant.1 (inr (none_ends _ _ _ c.in_default.ensures.0))

pub returns-in_default-clause-keys : goal.returns-in_default-clause-keys
returns-in_default-clause-keys c =
    let l = c.loop-scanned in
    all_written (live_at c.args.region.now) c.args.tables.now.places c.args.table c.args.count l.invariant.0 l.invariant.1 (inr (none_ends _ _ _ c.in_default.ensures.0)) c.requires.rows

-- ---- where the next row is of another table

pub returns-then-found-table-clause-count : goal.returns-then-found-table-clause-count
returns-then-found-table-clause-count c =
    let l = c.loop-scanned in let live = live_at c.args.region.now in let places = c.args.tables.now.places in
    let other : (key_at live places c.in-Some.row).table ≢ c.args.table = λ e. c.if-found-table.true (ap (λ (k : Key). k.table) c.key-found.ensures.key ∙ e) in
    count_written live places c.args.table c.args.count l.invariant.0 l.invariant.1
    (inr (other_ends (key_at live places) c.args.table c.in-Some.row l.rows c.next.new.self c.in-Some.ensures other))

pub returns-then-found-table-clause-keys : goal.returns-then-found-table-clause-keys
returns-then-found-table-clause-keys c =
    let l = c.loop-scanned in let live = live_at c.args.region.now in let places = c.args.tables.now.places in
    let other : (key_at live places c.in-Some.row).table ≢ c.args.table = λ e. c.if-found-table.true (ap (λ (k : Key). k.table) c.key-found.ensures.key ∙ e) in
    all_written live places c.args.table c.args.count l.invariant.0 l.invariant.1
    (inr (other_ends (key_at live places) c.args.table c.in-Some.row l.rows c.next.new.self c.in-Some.ensures other)) c.requires.rows

-- ---- where as many keys are written as were asked

pub returns-clause-count : goal.returns-clause-count
returns-clause-count c =
    let l = c.loop-scanned in let few = l.invariant.1 in
    count_written (live_at c.args.region.now) c.args.tables.now.places c.args.table c.args.count l.invariant.0 few (inl (omega (arith, few)))

pub returns-clause-keys : goal.returns-clause-keys
returns-clause-keys c =
    let l = c.loop-scanned in let few = l.invariant.1 in
    all_written (live_at c.args.region.now) c.args.tables.now.places c.args.table c.args.count l.invariant.0 few (inl (omega (arith, few))) c.requires.rows
