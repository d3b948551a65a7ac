-- The sizes of values and of their fragments. Each has its constant in the crate's code.
use Rattle.std.specs.Prelude.{ℕ, ◌+◌, ◌-◌, ◌*◌, ◌/◌}
use Rattle.layout.specs.Sizes.{descriptor, greatest_object}

-- the most bytes of a value
abbrev pub greatest_value : ℕ
greatest_value = 1048576

-- the bytes in front of those of the value: the two places, the name and the length
abbrev pub header : ℕ
header = 24

-- the two places
abbrev pub places_size : ℕ
places_size = 16

-- the most bytes of a value in one fragment, which each but the last holds; a fragment is at most the greatest object
abbrev pub fragment_bytes : ℕ
fragment_bytes = 12264

-- the most fragments of a value
abbrev pub most_fragments : ℕ
most_fragments = 86

-- how many fragments a value of so many bytes has; an empty one has one
abbrev pub count_of : ℕ → ℕ
count_of len = (len - 1) / fragment_bytes + 1

-- how many bytes the last of them holds
abbrev pub last_of : ℕ → ℕ
last_of len = len - (count_of len - 1) * fragment_bytes

-- the bytes of a fragment's object, its descriptor included: a whole multiple of 8
abbrev pub object_size : ℕ → ℕ
object_size len = (descriptor + header + len + 7) / 8 * 8

-- the bytes of all objects of a value
abbrev pub size : ℕ → ℕ
size len = (count_of len - 1) * greatest_object + object_size (last_of len)
