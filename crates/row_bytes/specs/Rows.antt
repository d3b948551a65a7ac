-- A row in the content of an object: what a person with a hex dump would read.
use Rattle.std.specs.Prelude.{◌≡◌, ℕ, ◌+◌, ◌-◌, ◌<◌, ◌≤◌, ◌^◌, List, ◌∷◌, ◌++◌, length, take, drop, replicate, slice_index}
use Rattle.byteorder.specs.Endian.{little_number, little_bytes}
use Rattle.layout.specs.Sizes.{descriptor, greatest_key, greatest_value, tables}
use Rattle.rows.specs.Key.{Key, in_table}
use Rattle.rows.specs.Row.{Row, size}
use Rattle.row_bytes.specs.declared.links.Links.{Links}

-- the bytes of the header, in front of the key
abbrev pub header : ℕ
header = 32

-- the link of a row that has none
abbrev pub no_link : ℕ
no_link = 18446744073709551615

-- The header: the row number and the number of the put in four bytes each, the lengths of the key and the value in two
-- each, the table in one, three zero bytes, and the links to the next more recently and the next less recently used row in
-- eight each. The lowest byte of a number stands first.
abbrev pub header_bytes : ℕ → ℕ → ℕ → ℕ → ℕ → Links → List ℕ
header_bytes number put key_length value_length table links =
    little_bytes 4 number ++ little_bytes 4 put ++ little_bytes 2 key_length ++ little_bytes 2 value_length
    ++ (table ∷ replicate 3 0) ++ little_bytes 8 links.newer ++ little_bytes 8 links.older

-- The content of an object that holds a row: the header, the key, the value, and zero bytes up to the size.
abbrev pub row_bytes : ℕ → Links → Row → List ℕ
row_bytes number links row =
    header_bytes number row.number (length row.key.bytes) (length row.value) row.key.table links ++ row.key.bytes ++ row.value
    ++ replicate (size row.key.bytes row.value - (descriptor + header + length row.key.bytes + length row.value)) 0

-- what a header, a key and a value one behind another fill of an object of the row's size, and zero bytes behind them
abbrev pub content_of : List ℕ → List ℕ → List ℕ → List ℕ
content_of head key value = (head ++ (key ++ value)) ++ replicate (size key value - descriptor - length (head ++ (key ++ value))) 0

-- what such a content says, field by field
abbrev pub number_in : List ℕ → ℕ
number_in content = little_number 4 content

abbrev pub put_in : List ℕ → ℕ
put_in content = little_number 4 (drop 4 content)

abbrev pub key_length_in : List ℕ → ℕ
key_length_in content = little_number 2 (drop 8 content)

abbrev pub value_length_in : List ℕ → ℕ
value_length_in content = little_number 2 (drop 10 content)

abbrev pub table_in : List ℕ → ℕ
table_in content = slice_index content 12

abbrev pub newer_in : List ℕ → ℕ
newer_in content = little_number 8 (drop 16 content)

abbrev pub older_in : List ℕ → ℕ
older_in content = little_number 8 (drop 24 content)

abbrev pub links_in : List ℕ → Links
links_in content = record { newer = newer_in content; older = older_in content }

abbrev pub key_in : List ℕ → List ℕ
key_in content = take (key_length_in content) (drop header content)

abbrev pub value_in : List ℕ → List ℕ
value_in content = take (value_length_in content) (drop (header + key_length_in content) content)

-- the key, in its table
abbrev pub key_of_row : List ℕ → Key
key_of_row content = in_table (table_in content) (key_in content)

-- the row that stands in a content
abbrev pub row_in : List ℕ → Row
row_in content = record { key = key_of_row content; value = value_in content; number = put_in content }

-- a row that can stand in an object: its key, its value and its put are a trace's
pub record IsStorable (row : Row) : Type 0 where
  pub table : row.key.table < tables
  pub some_key : 1 ≤ length row.key.bytes
  pub short_key : length row.key.bytes ≤ greatest_key
  pub short_value : length row.value ≤ greatest_value
  pub put : row.number < 2 ^ 32

-- links that have room in their eight bytes
pub record AreLinks (links : Links) : Type 0 where
  pub newer : links.newer < 2 ^ 64
  pub older : links.older < 2 ^ 64

-- a row with a number stands in the content, with some links
pub record HoldsRow (content : List ℕ) (number : ℕ) (row : Row) : Type 0 where
  pub storable : IsStorable row
  pub small : number < 2 ^ 32
  pub links : Links
  pub are_links : AreLinks links
  pub bytes : content ≡ row_bytes number links row

-- a content with zero bytes for its links
abbrev pub without_links : List ℕ → List ℕ
without_links content = take 16 content ++ replicate 16 0 ++ drop header content

-- some row stands in the content
abbrev pub IsRow : List ℕ → Type 0
IsRow content = (number : ℕ) × (row : Row) × HoldsRow content number row
