-- A region that holds no segment.
use Rattle.std.proofs.Common.{◌≡◌, ℕ, zero, suc, replicate, None, refl}
use Rattle.std.specs.List.{count_by}
use Rattle.regions.specs.Shapes.{is_held, slots_of}

pub none_counted : (n : ℕ) → count_by is_held (slots_of (replicate n None)) ≡ 0
none_counted zero = refl
none_counted (suc n) = none_counted n
