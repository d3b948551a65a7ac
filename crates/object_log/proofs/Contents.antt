-- The content of a new object, run by run.
use Rattle.std.proofs.Common.{◌≡◌, ℕ, ◌+◌, ◌-◌, ◌≤◌, List, [], ◌++◌, length, replicate, sym, ap, ◌∙◌, arith, length-append, append_assoc, append-nil}
use Rattle.std.proofs.lemmas.List.{length-replicate}
use Rattle.object_log.specs.declared.new_content.NewContent.{NewContent}
use Rattle.object_log.specs.Contents.{bytes_of, length_of, padded}

-- three runs of which two are empty
pub whole_bytes : (bytes : List ℕ) → bytes ++ ([] ++ []) ≡ bytes
whole_bytes bytes = append-nil bytes

pub whole_length : (bytes : List ℕ) → length bytes + (length {A = ℕ} [] + length {A = ℕ} []) ≡ length bytes
whole_length bytes = omega arith

-- three of which the last is empty
pub two_bytes : (header bytes : List ℕ) → header ++ (bytes ++ []) ≡ header ++ bytes
two_bytes header bytes = ap (λ (t : List ℕ). header ++ t) (append-nil bytes)

pub two_length : (header bytes : List ℕ) → length header + (length bytes + length {A = ℕ} []) ≡ length header + length bytes
two_length header bytes = omega arith

-- the last run with its zeros, behind the two others
pub runs_padded : (header first second : List ℕ) (n k : ℕ) → k + (length header + length first) ≡ n → length second ≤ k
    → header ++ (first ++ padded k second) ≡ padded n (header ++ (first ++ second))
runs_padded header first second n k is fits =
    let zeros : List ℕ = replicate (k - length second) 0 in
    let long : length (header ++ (first ++ second)) ≡ length header + (length first + length second) =
    length-append header (first ++ second) ∙ ap (λ m. length header + m) (length-append first second) in
    let same : k - length second ≡ n - length (header ++ (first ++ second)) = omega (arith, is, long, fits) in
    sym (append_assoc header (first ++ second) zeros ∙ ap (λ (t : List ℕ). header ++ t) (append_assoc first second zeros))
    ∙ ap (λ (m : ℕ). (header ++ (first ++ second)) ++ replicate m 0) same

-- a content that is padded has as many bytes as it is padded to
padded_long : (n : ℕ) (bytes : List ℕ) → length bytes ≤ n → length (padded n bytes) ≡ n
padded_long n bytes fits =
    length-append bytes (replicate (n - length bytes) 0) ∙ (let zeros = length-replicate {A = ℕ} (n - length bytes) 0 in omega (arith, zeros, fits))

runs_long : (content : NewContent) → length (bytes_of content) ≡ length_of content
runs_long content = length-append content.header.now (content.first.now ++ content.second.now) ∙ ap (λ m. length content.header.now + m) (length-append content.first.now content.second.now)

-- a new content fills its object
pub content_long : (content : NewContent) (size : ℕ) → 8 + length_of content ≤ size → length (padded (size - 8) (bytes_of content)) ≡ size - 8
content_long content size fits = let long = runs_long content in padded_long (size - 8) (bytes_of content) (omega (arith, long, fits))
