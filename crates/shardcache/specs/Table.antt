-- The table of the top call: what a call may have written, by its status.
use Rattle.std.specs.Prelude.{◌≡◌, ℕ, ◌++◌, true, List, [], codes, Some, None, Option}
use Rattle.std.specs.Io.KnownBytes.{Appends, Consumes}
use Rattle.cache_model.specs.Report.{line}
use Rattle.run_log.specs.Runs.{RanState}
use Rattle.shardcache.specs.declared.status.Status.{Status}
use Rattle.shardcache.specs.declared.status.Status.TheVariants as status
use Rattle.settings.specs.Settings.{Settings, settings}
use Rattle.shardcache.specs.Meanings.{Does, Refuses, meaning_of}

-- What stands where a call whose words are these took these bytes, left this record of a run, if one, and wrote this text to its
-- end; `left` is what the source has left, and `failed` says that the source failed in this call.
abbrev pub WritesAll : Type 0 → Status → List (List ℕ) → List ℕ → Option (List ℕ) → Option RanState → List ℕ → Type 0
WritesAll failed status.Done words taken left ran text =
    (found : Settings) × (settings words ≡ Some found) × Does (meaning_of found.mode) found taken left ran text
WritesAll failed status.Usage words taken left ran text =
    (ran ≡ None) × (settings words ≡ None) × (taken ≡ []) × (text ≡ line (codes "usage"))
WritesAll failed status.Refused words taken left ran text =
    (ran ≡ None) × (found : Settings) × (settings words ≡ Some found) × Refuses (meaning_of found.mode).reading found taken left text
WritesAll failed status.ReadFault words taken left ran text =
    failed × (ran ≡ None) × (found : Settings) × (settings words ≡ Some found)
    × ((meaning_of found.mode).reading.reads ≡ true) × (text ≡ line (codes "read fault"))
WritesAll failed status.WriteFault words taken left ran text = ⊥
WritesAll failed status.Memory words taken left ran text = ⊥

-- The same for what a call wrote: after a write fault it is a front of what one of the other rows allows, and where
-- memory ran out it is nothing.
abbrev pub Writes : Type 0 → Status → List (List ℕ) → List ℕ → Option (List ℕ) → Option RanState → List ℕ → Type 0
Writes failed status.Done words taken left ran text = WritesAll failed status.Done words taken left ran text
Writes failed status.Usage words taken left ran text = WritesAll failed status.Usage words taken left ran text
Writes failed status.Refused words taken left ran text = WritesAll failed status.Refused words taken left ran text
Writes failed status.ReadFault words taken left ran text = WritesAll failed status.ReadFault words taken left ran text
Writes failed status.WriteFault words taken left ran text =
    (other : Status) × (rest : List ℕ) × WritesAll failed other words taken left ran (text ++ rest)
Writes failed status.Memory words taken left ran text = (ran ≡ None) × (text ≡ [])

-- what a call took from its source, appended to its sink, as far as they tell, and left of a run is as its status says
pub record FollowsTable (failed : Type 0) (status : Status) (ran : Option RanState) (words : List (List ℕ))
    (before left before_sink after_sink : Option (List ℕ)) : Type 0 where
  pub taken : List ℕ
  pub text : List ℕ
  pub took : Consumes before left taken
  pub wrote : Appends before_sink after_sink text
  pub row : Writes failed status words taken left ran text
