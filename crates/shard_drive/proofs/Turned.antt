-- One of a row makes a turn.
use Rattle.std.proofs.Common.{◌≡◌, ℕ, ◌<◌, List, [], ◌∷◌, ◌++◌, length, get_or, set, sym, subst, ◌∙◌}
use Rattle.std.specs.List.{All}
use Rattle.std.proofs.lemmas.List.Elements.{All-get_or, All-set}
use Rattle.layout.specs.Counts.{counted, raised}
use Rattle.shard_drive.specs.Drives.{AtEach, Follows, turns_given}
use Rattle.shard_drive.proofs.Places.{AtEach-next, Writes}
use Rattle.shard_drive.proofs.Given.{turn-named, turn-other}

pub all-next : {A : Type 0} (P : A → Type 0) (xs ys : List A) (k : ℕ) → k < length xs → length ys ≡ length xs → Writes k xs ys
    → ((d : A) → P (get_or xs k d) → P (get_or ys k d)) → All P xs → All P ys
all-next {A} P xs ys k within long writes turn all j d below =
    let here : P (get_or ys k d) = turn d (All-get_or P xs k d within all) in
    let after : All P (set xs k (get_or ys k d)) = All-set P xs k (get_or ys k d) here all in
    let same : All P ys = subst (λ (zs : List A). All P zs) (sym (writes d)) after in
    same j d below

pub stands-next : {A : Type 0} (P : A → Type 0) (old xs ys : List A) (k : ℕ) → k < length xs → Writes k xs ys → ((d : A) → P (get_or xs k d) → P (get_or ys k d))
    → AtEach (λ _ a b. P a → P b) old xs → AtEach (λ _ a b. P a → P b) old ys
stands-next {A} P old xs ys k within writes turn each =
    AtEach-next (λ _ a b. P a → P b) (λ _ a b. P a → P b) old xs ys k within writes each (λ j a b ne stands. stands) (λ a d stands before. turn d (stands before))

pub lasting-next : {A B : Type 0} (lasting : A → B) (old xs ys : List A) (k : ℕ) → k < length xs → Writes k xs ys
    → ((d : A) → lasting (get_or ys k d) ≡ lasting (get_or xs k d)) → AtEach (λ _ a b. lasting b ≡ lasting a) old xs → AtEach (λ _ a b. lasting b ≡ lasting a) old ys
lasting-next {A} {B} lasting old xs ys k within writes turn each =
    AtEach-next (λ _ a b. lasting b ≡ lasting a) (λ _ a b. lasting b ≡ lasting a) old xs ys k within writes each (λ j a b ne same. same) (λ a d same. turn d ∙ same)

-- what lasts lasts on
pub lasts-on : {A B : Type 0} (lasting : A → B) (old xs ys : List A) → length xs ≡ length old → AtEach (λ _ a b. lasting b ≡ lasting a) old xs
    → AtEach (λ _ a b. lasting b ≡ lasting a) xs ys → AtEach (λ _ a b. lasting b ≡ lasting a) old ys
lasts-on lasting old xs ys long before after k d below = after k d (subst (λ (n : ℕ). k < n) (sym long) below) ∙ before k d below

pub turns-next : {A : Type 0} (turns : A → ℕ) (schedule : List ℕ) (old xs ys : List A) (k : ℕ) → k < length xs → Writes k xs ys
    → ((d : A) → turns (get_or ys k d) ≡ counted (turns (get_or xs k d))) → Follows turns schedule old xs → Follows turns (schedule ++ k ∷ []) old ys
turns-next {A} turns schedule old xs ys k within writes turn each =
    AtEach-next (λ j a b. turns b ≡ raised (turns a) (turns_given schedule j)) (λ j a b. turns b ≡ raised (turns a) (turns_given (schedule ++ k ∷ []) j))
    old xs ys k within writes each
    (λ j a b ne so_far. turn-other (turns a) (turns b) schedule k j ne so_far)
    (λ a d so_far. turn d ∙ turn-named (turns a) (turns (get_or xs k d)) schedule k so_far)
