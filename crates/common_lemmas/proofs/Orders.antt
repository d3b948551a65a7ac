-- How two numbers compare.
use Rattle.std.proofs.Common.{◌≡◌, ℕ, ◌<◌, ◌≤◌, ◌⊎◌, arith}

pub lt_or_ge : (a b : ℕ) → (a < b) ⊎ (b ≤ a)
lt_or_ge a b = grind arith

pub trichotomy : (a b : ℕ) → (a ≡ b) ⊎ ((a < b) ⊎ (b < a))
trichotomy a b = grind arith
