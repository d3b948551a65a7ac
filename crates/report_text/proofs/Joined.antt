-- The first keys of those that the shards found, one shard's keys after another's.
use Rattle.std.proofs.Common.{◌≡◌, ℕ, ◌+◌, ◌-◌, ◌≤◌, ◌<◌, List, [], ◌++◌, length, take, get_or, arith, sym, ap, ◌∙◌, subst, nat_cmp, IsPermutation, IsSorted}
use Rattle.std.specs.Cmp.Lexicographic.{slice_cmp}
use Rattle.std.specs.List.{flat_map, slice_get}
use Rattle.std.specs.List.Sorted.{IsStrictlySortedBy}
use Rattle.std.proofs.lemmas.List.{flat_map_more, take_all, take_more}
use Rattle.std.proofs.lemmas.List.Sorted.{IsPermutation-append_left, IsPermutation-trans}
use Rattle.cache_model.specs.Answer.{join}
use Rattle.rows.specs.Apply.{in_order}
use Rattle.cache_model.specs.OwnParts.{Log}
use Rattle.report_text.specs.inside.Found.{AreFoundAt, HasFound}
use Rattle.report_text.specs.inside.Merged.{merged}
use Rattle.report_text.proofs.Merged.{all_are, first_are, merged_sorted}

-- the keys of one shard, in its reply
pub found_at : (log : Log) (first n part : ℕ) (lists : List (List (List ℕ))) → HasFound log first n lists → first ≤ part → part < first + n
    → AreFoundAt log part (get_or lists (part - first) [])
found_at log first n part lists p from to =
    let within : part - first < length lists = omega (arith, p.many) in
    let at : first + (part - first) ≡ part = omega arith in
    record {
      logged = ap (λ k. slice_get log k) (sym at) ∙ p.logged (part - first) [] within;
      few = p.few (part - first) [] within;
      legal = p.legal (part - first) [] within;
    }

-- the first so many of these keys, in order
pub record AreFirst (all : List (List ℕ)) (count : ℕ) (found : List (List ℕ)) : Type 0 where
  pub ordered : List (List ℕ)
  pub same : IsPermutation all ordered
  pub sorted : IsSorted (slice_cmp nat_cmp) ordered
  pub first : found ≡ take count ordered

abbrev pub before : List (List (List ℕ)) → ℕ → ℕ → List (List ℕ)
before lists first part = flat_map (λ keys. keys) (take (part - first) lists)

next-list : (lists : List (List (List ℕ))) (k : ℕ) → k < length lists → flat_map (λ keys. keys) (take (k + 1) lists) ≡ flat_map (λ keys. keys) (take k lists) ++ get_or lists k []
next-list lists k below =
    ap (flat_map (λ keys. keys)) (take_more lists k [] below) ∙ sym (flat_map_more (λ (keys : List (List ℕ)). keys) [] (take k lists) (get_or lists k []))

with-keys : (all keys : List (List ℕ)) (count : ℕ) (found after : List (List ℕ)) → AreFirst all count found → IsStrictlySortedBy (slice_cmp nat_cmp) keys
    → after ≡ take count (merged keys found) → AreFirst (all ++ keys) count after
with-keys all keys count found after p rising is = record {
  ordered = merged keys p.ordered;
  same =
      IsPermutation-trans (all ++ keys) (p.ordered ++ keys) (merged keys p.ordered) (IsPermutation-append_left keys all p.ordered p.same) (all_are keys p.ordered);
  sorted = merged_sorted keys p.ordered rising p.sorted;
  first = is ∙ ap (λ list. take count (merged keys list)) p.first ∙ first_are count keys p.ordered;
}

pub next_first : (log : Log) (first n part count : ℕ) (lists : List (List (List ℕ))) (found after : List (List ℕ)) → HasFound log first n lists → first ≤ part → part < first + n
    → AreFirst (before lists first part) count found → after ≡ take count (merged (get_or lists (part - first) []) found) → AreFirst (before lists first (part + 1)) count after
next_first log first n part count lists found after p from to so-far is =
    let within : part - first < length lists = omega (arith, p.many) in
    let more : part + 1 - first ≡ part - first + 1 = omega arith in
    let next : before lists first (part + 1) ≡ before lists first part ++ get_or lists (part - first) [] =
    ap (λ k. flat_map (λ keys. keys) (take k lists)) more ∙ next-list lists (part - first) within in
    subst (λ all. AreFirst all count after) (sym next)
    (with-keys (before lists first part) (get_or lists (part - first) []) count found after so-far (p.rising (part - first) [] within) is)

-- with those of all shards they are the joined keys
pub all_first : ((keys sorted : List (List ℕ)) → IsPermutation keys sorted → IsSorted (slice_cmp nat_cmp) sorted → in_order keys ≡ sorted)
    → (log : Log) (first n part count : ℕ) (lists : List (List (List ℕ))) (found : List (List ℕ)) → HasFound log first n lists → n ≤ part - first
    → AreFirst (before lists first part) count found → found ≡ join count lists
all_first in-order log first n part count lists found p past q =
    let all : before lists first part ≡ flat_map (λ keys. keys) lists = ap (flat_map (λ keys. keys)) (take_all (part - first) lists (omega (arith, p.many, past))) in
    q.first ∙ ap (take count) (sym (in-order (before lists first part) q.ordered q.same q.sorted)) ∙ ap (λ keys. take count (in_order keys)) all
