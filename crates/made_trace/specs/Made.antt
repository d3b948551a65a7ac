-- The trace that is made of a number: commands of random kinds on random keys.
use Rattle.std.specs.Prelude.{ℕ, zero, suc, ◌+◌, ◌%◌, nat_lt, List, [], ◌++◌, map, codes, decimal, if◌then◌else◌}
use Rattle.std.specs.List.{range_with_len}
use Rattle.rand_pcg.specs.Lcg.{Lcg, started, increment_of}
use Rattle.rand_pcg.specs.Pcg.{multiplier_64, pcg32}
use Rattle.rows.specs.declared.kind.Kind.{Kind}
use Rattle.rows.specs.declared.kind.Kind.TheVariants.{Put, Get, Erase, Scan}
use Rattle.layout.specs.Sizes.{most_keys}

-- The words are those of the generator of 64 bits that is started with the number on stream 2. A word is drawn from
-- a state, and the next one from the state behind it.
abbrev pub first_state : ℕ → Lcg
first_state number = started 64 multiplier_64 number (increment_of 64 2)

abbrev pub word : Lcg → ℕ
word state = (pcg32 state).0

abbrev pub behind : Lcg → Lcg
behind state = (pcg32 state).1

-- of 100 commands 40 are puts, 55 gets, 4 erases, and one is a scan
abbrev pub kind_of : ℕ → Kind
kind_of w = if nat_lt (w % 100) 40 then Put else (if nat_lt (w % 100) 95 then Get else (if nat_lt (w % 100) 99 then Erase else Scan))

-- one of 20,000 keys
abbrev pub key_of : ℕ → List ℕ
key_of w = codes "k" ++ decimal (w % 20000)

-- the value of put i: 100 to 2,000 letters, which go on through the alphabet from one that depends on i
abbrev pub letter : ℕ → ℕ → ℕ
letter i j = 97 + (i + j) % 26

abbrev pub value_of : ℕ → ℕ → List ℕ
value_of i w = map (letter i) (range_with_len 0 (100 + w % 1901))

-- the most keys that a scan gives
abbrev pub count_of : ℕ → ℕ
count_of w = 1 + w % most_keys

-- a command with its key: a put and a scan draw one word more
abbrev pub command_text : Kind → ℕ → List ℕ → ℕ → List ℕ
command_text Put i key w = codes "put " ++ key ++ codes " " ++ value_of i w
command_text Get i key w = codes "get " ++ key
command_text Erase i key w = codes "erase " ++ key
command_text Scan i key w = codes "scan " ++ key ++ codes " " ++ decimal (count_of w)

abbrev pub behind_command : Kind → Lcg → Lcg
behind_command Put state = behind state
behind_command Get state = state
behind_command Erase state = state
behind_command Scan state = behind state

-- command i as a line, drawn from a state: its kind, then its key, then what else it has
abbrev pub made_line : ℕ → Lcg → List ℕ
made_line i state =
    command_text (kind_of (word state)) i (key_of (word (behind state))) (word (behind (behind state))) ++ codes "\n"

abbrev pub behind_line : Lcg → Lcg
behind_line state = behind_command (kind_of (word state)) (behind (behind state))

-- so many commands, the first of which has the number i
abbrev pub made_from : ℕ → ℕ → Lcg → List ℕ
made_from zero i state = []
made_from (suc n) i state = made_line i state ++ made_from n (i + 1) (behind_line state)

-- the trace of so many commands that is made of a number
abbrev pub made : ℕ → ℕ → List ℕ
made number commands = made_from commands 1 (first_state number)
