-- What is found behind evictions was found before them.
use Rattle.std.proofs.Common.{◌≡◌, ℕ, zero, suc, ◌-◌, ◌≤◌, Bool, true, false, cond, List, [], ◌∷◌, ◌++◌, length, take, drop, Option, None, Some, refl, sym, ap, ◌∙◌, subst, arith}
use Rattle.std.specs.List.{refill}
use Rattle.rows.specs.Key.{Key}
use Rattle.rows.specs.Row.{Row}
use Rattle.rows.specs.Apply.{is_of, row_of}
use Rattle.rows.specs.Evictions.{Evicts}
use Rattle.shard_store.specs.Lending.{value_length}

found-step : (b : Bool) (x : Row) (front whole : Option Row) (row : Row) → (front ≡ Some row → whole ≡ Some row) → cond b (Some x) front ≡ Some row → cond b (Some x) whole ≡ Some row
found-step true x front whole row f e = e
found-step false x front whole row f e = f e

found-in-front : (k : ℕ) (key : Key) (rows : List Row) (row : Row) → row_of key (take k rows) ≡ Some row → row_of key rows ≡ Some row
found-in-front zero key rows row e = absurd (let clash : None ≡ Some row = e in cc)
found-in-front (suc k) key [] row e = absurd (let clash : None ≡ Some row = e in cc)
found-in-front (suc k) key (x ∷ rows) row e = found-step (is_of key x) x (row_of key (take k rows)) (row_of key rows) row (found-in-front k key rows row) e

found-before : (bound : ℕ) (key : Key) (rows mid : List Row) (tags : List ℕ) (row : Row) → Evicts bound rows tags mid → row_of key mid ≡ Some row → row_of key rows ≡ Some row
unfolding Evicts
found-before bound key rows mid [] row a e = ap (row_of key) (sym a) ∙ e
found-before bound key rows mid (tag ∷ tags) row a e = found-in-front (length rows - 1) key rows row (found-before bound key (take (length rows - 1) rows) mid tags row a.2 e)

shorter : (found before : Option Row) → ((row : Row) → found ≡ Some row → before ≡ Some row) → value_length found ≤ value_length before
shorter None before f = omega arith
shorter (Some row) before f = let same = ap value_length (f row refl) in omega (arith, same)

pub shorter-behind : (bound : ℕ) (key : Key) (rows mid : List Row) (tags : List ℕ) → Evicts bound rows tags mid → value_length (row_of key mid) ≤ value_length (row_of key rows)
shorter-behind bound key rows mid tags evicts = shorter (row_of key mid) (row_of key rows) (λ (row : Row) e. found-before bound key rows mid tags row evicts e)

-- bytes that fill a block are the block's
pub refill-whole : (old bytes : List ℕ) → length bytes ≡ length old → refill (length old) old bytes ≡ bytes
refill-whole old bytes same =
    let front : take (length bytes) (bytes ++ drop (length bytes) old) ≡ bytes = take-front bytes (drop (length bytes) old) in
    subst (λ k. take k (bytes ++ drop (length bytes) old) ≡ bytes) same front where
      take-front : (xs ys : List ℕ) → take (length xs) (xs ++ ys) ≡ xs
      take-front [] ys = refl
      take-front (x ∷ xs) ys = ap (λ l. x ∷ l) (take-front xs ys)
