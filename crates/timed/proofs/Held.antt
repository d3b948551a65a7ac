-- A region that was just made holds no segment.
use Rattle.std.proofs.Common.{◌≡◌, ℕ, zero, suc, None, refl, replicate}
use Rattle.std.specs.List.{count_by}
use Rattle.regions.specs.Shapes.{is_held, slots_of}

pub none_held : (n : ℕ) → count_by is_held (slots_of (replicate n None)) ≡ 0
none_held zero = refl
none_held (suc n) = none_held n
