use Rattle.std.proofs.Common.{◌≡◌, [], subst, sym}
use Rattle.shard_memory.specs.inside.Pieces.{Pieces}
use Rattle.shard_memory.proofs.Lists.{none_left}
use Rattle.shard_memory.proofs.piece_allocator.PieceAllocator.finish.Goals as goal

pub finish-requires : goal.finish-requires
finish-requires c =
    (let r = subst (λ (s : Pieces). (s.blocks ≡ []) × (s.segments ≡ [])) (sym c.self.view_is) c.requires in
    none_left c.self.inside.range.allocated r.0 r.1)
