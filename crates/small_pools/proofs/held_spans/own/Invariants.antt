use Rattle.std.proofs.Common.{◌≡◌, ◌<◌, ◌≤◌, ◌⊎◌, ℕ, get_or, length}
use Rattle.small_pools.proofs.held_spans.own.Given as goal

abbrev pub invariant-loop-page : goal.invariant-loop-page
invariant-loop-page l =
    (l.first ≤ l.page)
    × (l.firsts.written ≡ l.fn.firsts.written)
    × (length l.firsts.entries ≡ length l.fn.firsts.entries)
    × ((x : ℕ) → l.first ≤ x → x < l.page → get_or l.firsts.entries x 0 ≡ l.first)
    × ((x : ℕ) → (x < l.first) ⊎ (l.page ≤ x) → get_or l.firsts.entries x 0 ≡ get_or l.fn.firsts.entries x 0)
