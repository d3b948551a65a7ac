-- The tag of a key. Nothing rests on which it is, but that a key has one.
use Rattle.std.specs.Prelude.{ℕ, zero, suc, ◌+◌, ◌-◌, ◌*◌, ◌/◌, ◌%◌, ◌^◌, nat_le, cond, List, length, drop, fold, bit_xor}
use Rattle.byteorder.specs.Endian.{little_number}
use Rattle.rows.specs.Key.{Key}

-- a hash that is mixed with a word
abbrev pub scrambled : ℕ → ℕ
scrambled product = bit_xor product (product / 2 ^ 32)

unfoldable pub mixed : ℕ → ℕ → ℕ
mixed hash word = scrambled (bit_xor hash word * 11400714819323198485 % 2 ^ 64)

-- the hash of the bytes of a key after so many words of eight bytes
unfoldable pub hash_upto : List ℕ → ℕ → ℕ
hash_upto key zero = length key
hash_upto key (suc n) = mixed (hash_upto key n) (little_number 8 (drop (8 * n) key))

unfoldable pub short_word : List ℕ → ℕ
short_word key = fold (λ word byte. (word * 256 % 2 ^ 64 + byte) % 2 ^ 64) 0 key

unfoldable pub last_word : List ℕ → ℕ
last_word key = cond (nat_le 8 (length key)) (little_number 8 (drop (length key - 8) key)) (short_word key)

unfoldable pub hash_of : List ℕ → ℕ
hash_of key = mixed (hash_upto key ((length key - 1) / 8)) (last_word key)

-- the table comes last
unfoldable pub tag_of : Key → ℕ
tag_of key = mixed (hash_of key.bytes) key.table / 2 ^ 32
