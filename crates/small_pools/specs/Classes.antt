-- The sizes of small objects: 37 classes, four per doubling.
use Rattle.std.specs.Prelude.{ℕ, ◌*◌, ◌/◌, ◌<◌, ◌≤◌, ◌^◌, List, [], ◌∷◌, slice_index, nat_le, if◌then◌else◌}
use Rattle.layout.specs.Sizes.{page, greatest_block}

abbrev pub class_sizes : List ℕ
class_sizes =
    32 ∷ 40 ∷ 48 ∷ 56 ∷ 64 ∷ 80 ∷ 96 ∷ 112 ∷ 128 ∷ 160 ∷ 192 ∷ 224 ∷ 256 ∷ 320 ∷ 384 ∷ 448 ∷ 512 ∷ 640 ∷ 768 ∷ 896 ∷ 1024
    ∷ 1280 ∷ 1536 ∷ 1792 ∷ 2048 ∷ 2560 ∷ 3072 ∷ 3584 ∷ page ∷ 5120 ∷ 6144 ∷ 7168 ∷ 8192 ∷ 10240 ∷ 12288 ∷ 14336 ∷ 16384 ∷ []

-- the bytes of an object of a class
unfoldable pub size_of : ℕ → ℕ
size_of class = slice_index class_sizes class

-- the order of the spans from which objects of a size come
abbrev pub order_for : ℕ → ℕ
order_for size =
    if nat_le size 1024 then 0 else (if nat_le size 2048 then 1 else (if nat_le size page then 2 else (if nat_le size 8192 then 3 else 4)))

-- the order of a class's spans
unfoldable pub order_of : ℕ → ℕ
order_of class = order_for (size_of class)

-- how many objects a span of a class holds
unfoldable pub capacity_of : ℕ → ℕ
capacity_of class = page * 2 ^ order_of class / size_of class

-- what holds of each of the 37 classes
pub record IsClass (class : ℕ) : Type 0 where
  pub within : class < 37
  pub size_least : 32 ≤ size_of class
  pub size_most : size_of class ≤ greatest_block
  pub order_most : order_of class ≤ 4
  pub capacity_least : 4 ≤ capacity_of class
  pub capacity_most : capacity_of class ≤ 128
  pub fits : capacity_of class * size_of class ≤ page * 2 ^ order_of class
  pub above : (smaller : ℕ) → smaller < class → size_of smaller < size_of class

-- the least class that holds the size
pub record IsLeastClass (size class : ℕ) : Type 0 where
  pub within : class < 37
  pub holds : size ≤ size_of class
  pub least : (smaller : ℕ) → smaller < class → size_of smaller < size
