use Rattle.std.proofs.Common.{◌≡◌, ◌≢◌, ℕ, sym, arith}
use Rattle.std.specs.Prelude.{MatchResult}
use Rattle.rows.specs.Key.{key_shown}
use Rattle.key_table.specs.Table.{IsSpotFor}
use Rattle.dirty_region.specs.inside.PutRows.{Has, IsThere, IsPutIndexOf}
use Rattle.regions.specs.Contents.{live_at}
use Rattle.dirty_region.specs.inside.Rings.{HasSomePut, key_at}
use Rattle.dirty_region.proofs.Indexes.{put_index_of, at_keys}
use Rattle.dirty_region.proofs.seeking.search.Goals as goal

pub find-requires-clause-index : goal.find-requires-clause-index
find-requires-clause-index c =
    let k = c.keys.result in
    at_keys (λ s places. IsPutIndexOf (HasSomePut (live_at s) places) (key_at (live_at s) places) c.args.index.now) c.args.region.now k.region.now c.args.ring.now.places k.places.now
    c.keys.ensures.region c.keys.ensures.places (put_index_of c.args.ring.now (live_at c.args.region.now) c.args.ring.now.count c.args.index.now c.requires.ring (omega arith) c.requires.index)

pub returns : goal.returns
returns c =
    let k = c.keys.result in
    at_keys (λ s places. MatchResult c.find.result (λ found. IsThere c.args.index.now found × (key_at (live_at s) places found.row ≡ key_shown c.args.key.now))
    (λ spot. IsSpotFor (key_shown c.args.key.now) spot × ((n : ℕ) → Has c.args.index.now n → key_at (live_at s) places n ≢ key_shown c.args.key.now))) k.region.now c.args.region.now k.places.now c.args.ring.now.places
    (sym c.keys.ensures.region) (sym c.keys.ensures.places) c.find.ensures
