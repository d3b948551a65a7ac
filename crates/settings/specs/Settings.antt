-- What the words of the command line ask.
use Rattle.std.specs.Prelude.{ℕ, ◌*◌, ◌%◌, ◌==◌, ◌&&◌, nat_lt, nat_le, Bool, true, List, [], ◌∷◌, length, codes, fold, if◌then◌else◌, Option, Some, None}
use Rattle.std.specs.Char.{is_ascii_digit}
use Rattle.std.specs.List.{list_all}
use Rattle.std.specs.Option.{option_and_then}
use Rattle.std.specs.Str.{bytes_eq}
use Rattle.std.specs.Str.Parse.{digits_value}
use Rattle.clap.specs.Faults.{fault_of}
use Rattle.clap.specs.Simple.{App, matches_of, new_app, new_rule, on_top, with_rule}
use Rattle.clap.specs.Walk.{Row, Rule, first_of, is_empty}
use Rattle.clap.specs.declared.builder.action.ArgAction.TheVariants.{Set}
use Rattle.layout.specs.Sizes.{fewest_pages, most_run_pages, segment_pages}
use Rattle.trace_text.specs.Parts.{most_shards}
use Rattle.settings.specs.declared.settings.Settings.{Settings as Found}
use Rattle.settings.specs.declared.settings.mode.Mode.{Mode}
use Rattle.settings.specs.declared.settings.mode.Mode.TheVariants.{Run, Sim, Gen, Audit, Dirty, Index, Values}

pub record Settings : Type 0 where
  pub mode : Mode
  pub shards : ℕ
  -- of each shard
  pub pages : ℕ
  pub number : ℕ
  pub commands : ℕ

-- the settings of the code, as such a record
abbrev pub view : Found → Settings
view found = record {
  mode = found.mode;
  shards = found.shards;
  pages = found.pages;
  number = found.number;
  commands = found.commands;
}

-- ---- the command, as clap describes one

-- a word that has to stand there
abbrev pub word_rule : List ℕ → Rule
word_rule name = record (new_rule name) { required = true; action = Some Set }

-- `--NAME VALUE` or `--NAME=VALUE`, at most once
abbrev pub option_rule : List ℕ → Rule
option_rule name = record (new_rule name) { long = Some name; action = Some Set }

-- no argument yet; the program's name is not among the words, and no flag asks for help or the version
abbrev pub program : App
program = on_top (λ top. record top {
  no_binary_name = true;
  disable_help_flag = true;
  disable_version_flag = true;
}) (new_app (codes "shardcache"))

-- a mode, and four options
unfoldable pub command : App
command = fold with_rule program (
    word_rule (codes "mode") ∷ option_rule (codes "shards") ∷ option_rule (codes "pages") ∷ option_rule (codes "number")
    ∷ option_rule (codes "commands") ∷ [])

-- ---- what its words ask

-- a reading goes on with what was found before it
infixl 10 ◌>>=◌
abbrev pub ◌>>=◌ : {A B : Type 0} → Option A → (A → Option B) → Option B
found >>= read = option_and_then read found

abbrev pub mode_of : List ℕ → Option Mode
mode_of word =
    if bytes_eq word (codes "run") then Some Run
    else (if bytes_eq word (codes "sim") then Some Sim
    else (if bytes_eq word (codes "gen") then Some Gen
    else (if bytes_eq word (codes "audit") then Some Audit
    else (if bytes_eq word (codes "dirty") then Some Dirty
    else (if bytes_eq word (codes "index") then Some Index
    else (if bytes_eq word (codes "values") then Some Values else None))))))

-- a number is 1 to 10 decimal digits and nothing else
abbrev pub is_number : List ℕ → Bool
is_number text = nat_lt 0 (length text) && nat_le (length text) 10 && list_all is_ascii_digit text

abbrev pub number_of : List ℕ → Option ℕ
number_of text = if is_number text then Some (digits_value 10 text) else None

-- the number that an option gives, from `least` to `most`; the default where the option is absent
abbrev pub number_within : ℕ → ℕ → ℕ → Option (List ℕ) → Option ℕ
number_within least most default None = Some default
number_within least most default (Some text) =
    number_of text >>= λ number. if nat_le least number && nat_le number most then Some number else None

-- the pages of a shard where none are asked for, and the most pages of all shards together: 1 GiB
abbrev pub default_pages : ℕ
default_pages = 8192

abbrev pub most_pages_in_all : ℕ
most_pages_in_all = 262144

-- the greatest number, and the most commands of a made trace
abbrev pub greatest_number : ℕ
greatest_number = 4294967295

abbrev pub most_made_commands : ℕ
most_made_commands = 100000

-- the pages of a shard are those of whole segments, and all shards together have no more than the most
abbrev pub are_pages : ℕ → ℕ → Bool
are_pages shards pages = pages % segment_pages == 0 && nat_le (shards * pages) most_pages_in_all

-- a mode that keeps one store has no use for a second shard
abbrev pub are_shards : Mode → ℕ → Bool
are_shards Run shards = true
are_shards Sim shards = true
are_shards Gen shards = true
are_shards Audit shards = true
are_shards Dirty shards = shards == 1
are_shards Index shards = shards == 1
are_shards Values shards = shards == 1

-- What the values of the arguments ask, of which clap found `first_of NAME rows`. An option is checked whether or not
-- the mode uses it.
unfoldable pub settings_in : List Row → Option Settings
settings_in rows = do
  word ← first_of (codes "mode") rows
  mode ← mode_of word
  shards ← number_within 1 most_shards 1 (first_of (codes "shards") rows)
  pages ← number_within fewest_pages most_run_pages default_pages (first_of (codes "pages") rows)
  number ← number_within 0 greatest_number 0 (first_of (codes "number") rows)
  commands ← number_within 1 most_made_commands most_made_commands (first_of (codes "commands") rows)
  if are_pages shards pages && are_shards mode shards then Some (record {
    mode = mode;
    shards = shards;
    pages = pages;
    number = number;
    commands = commands;
  }) else None

-- What the words behind the program's name ask: nothing where clap finds a fault with them, by its own definition of
-- a command's parse, and else what the values ask that it finds in them.
unfoldable pub settings : List (List ℕ) → Option Settings
settings words = if is_empty (fault_of command words) then settings_in (matches_of command words) else None
