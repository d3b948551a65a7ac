use Rattle.std.proofs.Common.{◌≡◌, ◌+◌, ◌-◌, ◌*◌, take, drop, ap, arith}
use Rattle.fragments.specs.Sizes.{fragment_bytes}
use Rattle.fragments.proofs.store.writing.part_of.Goals as goal

pub returns-clause-bytes : goal.returns-clause-bytes
returns-clause-bytes c = (let n : c.args.number * 12264 + 12264 - c.args.number * 12264 ≡ fragment_bytes = omega arith in ap (λ k. take k (drop (c.args.number * fragment_bytes) c.args.bytes.now)) n)
