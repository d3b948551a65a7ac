-- What driving does to a row of nodes: each keeps its place and makes the turns that it is given.
use Rattle.std.specs.Prelude.{◌≡◌, ℕ, ◌<◌, ◌==◌, List, length, count_by}
use Rattle.std.specs.List.{slice_index_or}
use Rattle.layout.specs.Counts.{raised}

-- at each place k, so of what stood there and what stands there
abbrev pub AtEach : {A : Type 0} → (ℕ → A → A → Type 0) → List A → List A → Type 0
AtEach {A} R old new = (k : ℕ) (d : A) → k < length old → R k (slice_index_or old k d) (slice_index_or new k d)

-- how many turns a schedule gives to node k: so many of its entries are k
abbrev pub turns_given : List ℕ → ℕ → ℕ
turns_given schedule k = count_by (λ entry. entry == k) schedule

-- each node made the turns that the schedule gives to it, as its count says
abbrev pub Follows : {A : Type 0} → (A → ℕ) → List ℕ → List A → List A → Type 0
Follows turns schedule old new = AtEach (λ k a b. turns b ≡ raised (turns a) (turns_given schedule k)) old new
