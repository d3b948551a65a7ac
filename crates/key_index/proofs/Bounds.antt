-- Keys between which blocks stand.
use Rattle.std.proofs.Common.{◌≡◌, ℕ, zero, suc, ◌<◌, ◌≤◌, inl, inr, false, List, [], ◌∷◌, ◌++◌, length, take, drop, get_or, ap, subst, arith, Less}
use Rattle.std.specs.Prelude.{All}
use Rattle.std.specs.Ordering.{is_gt, is_lt}
use Rattle.std.proofs.lemmas.Cmp.{nat_list_cmp_total, tied_itself}
use Rattle.std.proofs.lemmas.List.Elements.{All-head, All-tail}
use Rattle.rows.specs.Key.{Key}
use Rattle.key_index.specs.declared.entries.Entry.{Entry}
use Rattle.key_index.specs.Order.{key_cmp, Each, AreAbove, AreRising}
use Rattle.key_index.specs.Lead.{rows_of, AreBytes, IsLed}
use Rattle.key_index.specs.inside.Blocks.{AreEntriesOf}
use Rattle.key_index.specs.inside.Blocks.{entries_of, entries_at, IsPlaceOf}
use Rattle.key_index.specs.inside.Shared.{coded, Share, AreAtMost, AreNotBelow, IsLowBound, IsHighBound}
use Rattle.key_index.proofs.RowOrder.{each_left, each_right, each_weaker}
use Rattle.key_index.proofs.InBlocks.{rows_append, all_at, rising_at, rising_rest, below_first, above_after}
use Rattle.key_index.proofs.KeyOrder.{above_least}
use Rattle.key_index.proofs.Leads.{all_from_each}
use Rattle.key_index.proofs.Shares.{share_bounded}

pub most_itself : (a : Key) → is_gt (key_cmp a a) ≡ false
unfolding key_cmp
most_itself a = ap is_gt (tied_itself nat_list_cmp_total (coded a))

pub most_less : (a b : Key) → key_cmp a b ≡ Less → is_gt (key_cmp a b) ≡ false
most_less a b e = ap is_gt e

-- the first of rising rows is not above them
first_rows : (key_of : ℕ → Key) (row : ℕ) (rows : List ℕ) → AreRising key_of (row ∷ rows) → AreNotBelow key_of (key_of row) (row ∷ rows)
first_rows key_of row rows rising = (
  most_itself (key_of row),
  each_weaker (λ r. key_cmp (key_of row) (key_of r) ≡ Less) (λ r. is_gt (key_cmp (key_of row) (key_of r)) ≡ false) (λ r e. most_less (key_of row) (key_of r) e) rows rising.0,
)

pub first_least : (key_of : ℕ → Key) (entries : List Entry) (d : Entry) → AreRising key_of (rows_of entries) → 0 < length entries → AreNotBelow key_of (key_of (get_or entries 0 d).row) (rows_of entries)
first_least key_of [] d rising h = absurd (omega arith)
first_least key_of (e ∷ entries) d rising h = first_rows key_of e.row (rows_of entries) rising

-- the last of rising rows is not below them
pub last_most : (key_of : ℕ → Key) (entries : List Entry) (k : ℕ) (d : Entry) → AreRising key_of (rows_of entries) → length entries ≡ suc k → AreAtMost key_of (key_of (get_or entries k d).row) (rows_of entries)
last_most key_of [] k d rising h = absurd (omega arith)
last_most key_of (e ∷ []) zero d rising h = (most_itself (key_of e.row), tt)
last_most key_of (e ∷ []) (suc k) d rising h = absurd (omega arith)
last_most key_of (e ∷ f ∷ entries) zero d rising h = absurd (omega arith)
last_most key_of (e ∷ f ∷ entries) (suc k) d rising h = (most_less (key_of e.row) (key_of (get_or (f ∷ entries) k d).row) (above (f ∷ entries) k (omega arith) rising.0), last_most key_of (f ∷ entries) k d rising.1 (omega arith))
  where
    above : (es : List Entry) (k : ℕ) → k < length es → Each (λ r. key_cmp (key_of e.row) (key_of r) ≡ Less) (rows_of es) → key_cmp (key_of e.row) (key_of (get_or es k d).row) ≡ Less
    above [] k h a = absurd (omega arith)
    above (x ∷ es) zero h a = a.0
    above (x ∷ es) (suc k) h a = above es k (omega arith) a.1

-- the first of a block is not above those from it on
pub first_from : (key_of : ℕ → Key) (blocks : List (List Entry)) (k : ℕ) (d : Entry) → AreRising key_of (rows_of (entries_of blocks)) → All (λ b. 0 < length b) blocks → k < length blocks
    → AreNotBelow key_of (key_of (get_or (entries_at blocks k) 0 d).row) (rows_of (entries_of (drop k blocks)))
first_from key_of [] k d rising full h = absurd (omega arith)
first_from key_of (b ∷ blocks) zero d rising full h = here b (entries_of blocks) (All-head (λ (v : List Entry). 0 < length v) b blocks full) rising
  where
    here : (xs ys : List Entry) → 0 < length xs → AreRising key_of (rows_of (xs ++ ys)) → AreNotBelow key_of (key_of (get_or xs 0 d).row) (rows_of (xs ++ ys))
    here [] ys h r = absurd (omega arith)
    here (x ∷ xs) ys h r = first_rows key_of x.row (rows_of (xs ++ ys)) r
first_from key_of (b ∷ blocks) (suc k) d rising full h =
    first_from key_of blocks k d (rising_rest key_of b blocks rising) (All-tail (λ (v : List Entry). 0 < length v) b blocks full) (omega arith)

-- the first of a block is not below those before it
pub first_upto : (key_of : ℕ → Key) (blocks : List (List Entry)) (k : ℕ) (d : Entry) → AreRising key_of (rows_of (entries_of blocks)) → All (λ b. 0 < length b) blocks → k < length blocks
    → AreAtMost key_of (key_of (get_or (entries_at blocks k) 0 d).row) (rows_of (entries_of (take k blocks)))
first_upto key_of blocks k d rising full h =
    let key = key_of (get_or (entries_at blocks k) 0 d).row in
    each_weaker (λ r. key_cmp (key_of r) key ≡ Less) (λ r. is_gt (key_cmp (key_of r) key) ≡ false) (λ r e. most_less (key_of r) key e) (rows_of (entries_of (take k blocks)))
    (below_first key_of key blocks k d rising full h (λ low e. e))

each_from : (P : ℕ → Type 0) (blocks : List (List Entry)) (j k : ℕ) → j ≤ k → Each P (rows_of (entries_of (drop j blocks))) → Each P (rows_of (entries_at blocks k))
each_from P [] j k h e = tt
each_from P (b ∷ blocks) zero zero h e = each_left P (rows_of b) (rows_of (entries_of blocks)) (subst (Each P) (rows_append b (entries_of blocks)) e)
each_from P (b ∷ blocks) zero (suc k) h e = each_from P blocks zero k (omega arith) (each_right P (rows_of b) (rows_of (entries_of blocks)) (subst (Each P) (rows_append b (entries_of blocks)) e))
each_from P (b ∷ blocks) (suc j) zero h e = absurd (omega arith)
each_from P (b ∷ blocks) (suc j) (suc k) h e = each_from P blocks j k (omega arith) e

each_upto : (P : ℕ → Type 0) (blocks : List (List Entry)) (j k : ℕ) → k < j → Each P (rows_of (entries_of (take j blocks))) → Each P (rows_of (entries_at blocks k))
each_upto P [] j k h e = tt
each_upto P (b ∷ blocks) zero k h e = absurd (omega arith)
each_upto P (b ∷ blocks) (suc j) zero h e = each_left P (rows_of b) (rows_of (entries_of (take j blocks))) (subst (Each P) (rows_append b (entries_of (take j blocks))) e)
each_upto P (b ∷ blocks) (suc j) (suc k) h e =
    each_upto P blocks j k (omega arith) (each_right P (rows_of b) (rows_of (entries_of (take j blocks))) (subst (Each P) (rows_append b (entries_of (take j blocks))) e))

low_at : (key_of : ℕ → Key) (key : Key) (blocks : List (List Entry)) (j k l : ℕ) → j ≤ k → IsLowBound key_of key (rows_of (entries_of (drop j blocks))) l → IsLowBound key_of key (rows_of (entries_at blocks k)) l
low_at key_of key blocks j k l h (inl e) = inl e
low_at key_of key blocks j k l h (inr (r, above, most, s)) = inr (r, each_from (λ x. is_gt (key_cmp (key_of r) (key_of x)) ≡ false) blocks j k h above, most, s)

high_at : (key_of : ℕ → Key) (key : Key) (blocks : List (List Entry)) (j k l : ℕ) → k < j → IsHighBound key_of key (rows_of (entries_of (take j blocks))) l → IsHighBound key_of key (rows_of (entries_at blocks k)) l
high_at key_of key blocks j k l h (inl e) = inl e
high_at key_of key blocks j k l h (inr (r, below, least, s)) = inr (r, each_upto (λ x. is_gt (key_cmp (key_of x) (key_of r)) ≡ false) blocks j k h below, least, s)

-- a key between two bounds shares bytes with each key of a block between them
pub share_in : (key_of : ℕ → Key) (key : Key) (blocks : List (List Entry)) (low high k l h m : ℕ) → low ≤ k → k < high → m ≤ l → m ≤ h
    → IsLowBound key_of key (rows_of (entries_of (drop low blocks))) l → IsHighBound key_of key (rows_of (entries_of (take high blocks))) h
    → All (λ e. Share m (key_of e.row) key) (entries_at blocks k)
share_in key_of key blocks low high k l h m a b f g lows highs =
    all_from_each (λ r. Share m (key_of r) key) (entries_at blocks k)
    (share_bounded key_of key (rows_of (entries_at blocks k)) l h m f g (low_at key_of key blocks low k l a lows) (high_at key_of key blocks high k h b highs))

-- the entries of one block
pub keyed_at : (has_row : ℕ → Type 0) (key_of : ℕ → Key) (blocks : List (List Entry)) (k : ℕ) → AreEntriesOf has_row key_of (entries_of blocks) → AreEntriesOf has_row key_of (entries_at blocks k)
keyed_at has_row key_of blocks k h = record {
  readable = all_at (λ e. has_row e.row) blocks k h.readable;
  bytes = all_at (λ e. AreBytes (key_of e.row).bytes) blocks k h.bytes;
  leads = all_at (IsLed key_of) blocks k h.leads;
  rising = rising_at key_of blocks k h.rising;
}

-- before all rows, where these are above a key
pub place_first : (key_of : ℕ → Key) (key : Key) (blocks : List (List Entry)) → AreAbove key_of key (rows_of (entries_of blocks)) → IsPlaceOf key_of key blocks 0 0
place_first key_of key blocks above = record {
  before = tt;
  below = tt;
  at_least = each_weaker (λ r. key_cmp key (key_of r) ≡ Less) (λ r. is_lt (key_cmp (key_of r) key) ≡ false) (λ r e. above_least (key_of r) key e) (rows_of (entries_at blocks 0))
      (each_from (λ r. key_cmp key (key_of r) ≡ Less) blocks 0 0 (omega arith) above);
  after = above_after key_of key blocks 0 above;
}
