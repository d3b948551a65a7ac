-- Keys that are moved.
use Rattle.std.proofs.Common.{◌≡◌, ℕ, List, [], ◌∷◌, take, drop, refl, sym, ap, subst, ◌∙◌, get_or}
use Rattle.std.specs.Prelude.{All}
use Rattle.std.proofs.lemmas.List.{take-append-drop}
use Rattle.rows.specs.Key.{Key}
use Rattle.key_index.specs.declared.entries.Entry.{Entry}
use Rattle.key_index.specs.declared.place.Place.{Place}
use Rattle.key_index.specs.Order.{key_cmp, Each, AreAbove, AreBelow, AreRising}
use Rattle.key_index.specs.Lead.{lead_behind, AreBytes}
use Rattle.key_index.specs.Index.{Index, IsOrdered, IsPlaceFor, joined, rank}
use Rattle.key_lemmas.proofs.Orders.{all_from_each, each_left, each_right}

abbrev Same : (ℕ → Key) → (ℕ → Key) → List ℕ → Type 0
Same f h rows = Each (λ row. h row ≡ f row) rows

above_same : (f h : ℕ → Key) (k l : Key) (rows : List ℕ) → l ≡ k → Same f h rows → AreAbove f k rows → AreAbove h l rows
above_same f h k l [] e s a = tt
above_same f h k l (row ∷ rows) e s a = (ap (λ (x : Key). key_cmp x (h row)) e ∙ ap (λ (x : Key). key_cmp k x) s.0 ∙ a.0, above_same f h k l rows e s.1 a.1)

below_same : (f h : ℕ → Key) (k : Key) (rows : List ℕ) → Same f h rows → AreBelow f k rows → AreBelow h k rows
below_same f h k [] s a = tt
below_same f h k (row ∷ rows) s a = (ap (λ (x : Key). key_cmp x k) s.0 ∙ a.0, below_same f h k rows s.1 a.1)

rising_same : (f h : ℕ → Key) (rows : List ℕ) → Same f h rows → AreRising f rows → AreRising h rows
rising_same f h [] s r = tt
rising_same f h (row ∷ rows) s r = (above_same f h (f row) (h row) rows s.0 s.1 r.0, rising_same f h rows s.1 r.1)

bytes_same : (f h : ℕ → Key) (rows : List ℕ) → Same f h rows → Each (λ row. AreBytes (f row).bytes) rows → Each (λ row. AreBytes (h row).bytes) rows
bytes_same f h [] s e = tt
bytes_same f h (row ∷ rows) s e = (subst (λ (key : Key). AreBytes key.bytes) (sym s.0) e.0, bytes_same f h rows s.1 e.1)

pub moved_order : (f h : ℕ → Key) (index : Index) → Same f h index.rows → IsOrdered f index → IsOrdered h index
moved_order f h index s is =
    let same : All (λ (e : Entry). h e.row ≡ f e.row) (joined index.kept) = all_from_each (λ row. h row ≡ f row) (joined index.kept) (subst (Same f h) (sym is.beside) s) in
    record {
      beside = is.beside;
      rising = rising_same f h index.rows s is.rising;
      bytes = bytes_same f h index.rows s is.bytes;
      kept = λ k d i. is.kept k d i ∙ ap (lead_behind (get_or (joined index.kept) k d).skip) (sym (same k d i));
    }

pub moved_place : (f h : ℕ → Key) (key : Key) (index : Index) (place : Place) → Same f h index.rows → IsPlaceFor f key index place → IsPlaceFor h key index place
moved_place f h key index place s is =
    let n = rank index place in
    let parts = subst (Same f h) (sym (take-append-drop n index.rows)) s in
    record {
      within = is.within;
      before = below_same f h key (take n index.rows) (each_left (λ row. h row ≡ f row) (take n index.rows) (drop n index.rows) parts) is.before;
      behind = above_same f h key key (drop n index.rows) refl (each_right (λ row. h row ≡ f row) (take n index.rows) (drop n index.rows) parts) is.behind;
    }
