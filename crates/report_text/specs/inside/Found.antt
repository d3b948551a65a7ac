-- What the shards found in a scan, as a log has it.
use Rattle.std.specs.Prelude.{◌≡◌, ℕ, ◌+◌, ◌<◌, ◌≤◌, List, length, All, Option, Some}
use Rattle.std.specs.Ordering.{nat_cmp}
use Rattle.std.specs.Cmp.Lexicographic.{slice_cmp}
use Rattle.std.specs.List.{slice_get, slice_index_or}
use Rattle.std.specs.List.Sorted.{IsStrictlySortedBy}
use Rattle.layout.specs.Sizes.{most_keys}
use Rattle.rows.specs.declared.reply_kind.ReplyKind.{ReplyKind}
use Rattle.rows.specs.Apply.{Keys}
use Rattle.rows.specs.Spelled.{IsKey, spelled}

-- from part `first` on the log has the replies of n shards, each with its list of keys
pub record HasFound (log : List (Option (ReplyKind × List ℕ))) (first n : ℕ) (lists : List (List (List ℕ))) : Type 0 where
  pub many : length lists ≡ n
  pub logged : (k : ℕ) (d : List (List ℕ)) → k < length lists → slice_get log (first + k) ≡ Some (Some (spelled (Keys (slice_index_or lists k d))))
  pub few : All (λ keys. length keys ≤ most_keys) lists
  pub rising : All (IsStrictlySortedBy (slice_cmp nat_cmp)) lists
  pub legal : All (All IsKey) lists

-- a part of the log is the reply of one shard, with these keys
pub record AreFoundAt (log : List (Option (ReplyKind × List ℕ))) (part : ℕ) (keys : List (List ℕ)) : Type 0 where
  pub logged : slice_get log part ≡ Some (Some (spelled (Keys keys)))
  pub few : length keys ≤ most_keys
  pub legal : All IsKey keys
