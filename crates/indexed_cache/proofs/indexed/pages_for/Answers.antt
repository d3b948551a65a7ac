-- A multiple of the pages of a segment, within the bounds.
use Rattle.std.proofs.Common.{arith}
use Rattle.indexed_cache.proofs.indexed.pages_for.Goals as goal

pub returns : goal.returns
returns c =
    let fewest = c.segments_for.ensures.fewest in
    let most = c.segments_for.ensures.most in
    (omega (arith, fewest), omega (arith, most), omega arith)
