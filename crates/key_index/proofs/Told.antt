-- What contracts say of an index, and what its blocks say.
use Rattle.std.proofs.Common.{◌≡◌, ℕ, List, [], ◌∷◌, refl, sym, subst}
use Rattle.std.specs.Prelude.{All}
use Rattle.std.proofs.lemmas.List.Elements.{All-head, All-tail, All-cons, All-nil}
use Rattle.rows.specs.Key.{Key}
use Rattle.key_index.specs.declared.entries.Entry.{Entry}
use Rattle.key_index.specs.Order.{Each, TakesOut}
use Rattle.key_index.proofs.RowOrder.{each_append, each_left, each_right}
use Rattle.key_index.specs.Lead.{rows_of, AreBytes}
use Rattle.key_index.specs.Index.{Index, IsIndexOf}
use Rattle.key_index.specs.inside.Blocks.{entries_of, AreEntriesOf}
use Rattle.key_index.proofs.Leads.{each_from_all, all_from_each}

pub each_all : (P : ℕ → Type 0) (xs : List ℕ) → Each P xs → All P xs
each_all P [] each = All-nil P
each_all P (x ∷ xs) each = All-cons P x xs each.0 (each_all P xs each.1)

pub all_each : (P : ℕ → Type 0) (xs : List ℕ) → All P xs → Each P xs
all_each P [] all = tt
all_each P (x ∷ xs) all = (All-head P x xs all, all_each P xs (All-tail P x xs all))

-- an index that these blocks mean
abbrev pub meant : ℕ → List (List Entry) → Index
meant room blocks = record { rows = rows_of (entries_of blocks); room = room; kept = blocks }

-- the entries of an index of these keys
pub entries_told : (has_row : ℕ → Type 0) (key_of : ℕ → Key) (room : ℕ) (blocks : List (List Entry)) (index : Index) → meant room blocks ≡ index
    → IsIndexOf has_row key_of index → AreEntriesOf has_row key_of (entries_of blocks)
entries_told has_row key_of room blocks index view is =
    let told = subst (IsIndexOf has_row key_of) (sym view) is in
    record {
      readable = all_from_each has_row (entries_of blocks) (all_each has_row (rows_of (entries_of blocks)) told.readable);
      bytes = all_from_each (λ row. AreBytes (key_of row).bytes) (entries_of blocks) told.ordered.bytes;
      leads = told.ordered.kept;
      rising = told.ordered.rising;
    }

-- an index of these keys, by its entries
pub index_told : (has_row : ℕ → Type 0) (key_of : ℕ → Key) (room : ℕ) (blocks : List (List Entry)) → AreEntriesOf has_row key_of (entries_of blocks) → IsIndexOf has_row key_of (meant room blocks)
index_told has_row key_of room blocks is =
    record {
      readable = each_all has_row (rows_of (entries_of blocks)) (each_from_all has_row (entries_of blocks) is.readable);
      ordered = record { beside = refl; rising = is.rising; bytes = each_from_all (λ row. AreBytes (key_of row).bytes) (entries_of blocks) is.bytes; kept = is.leads };
    }

-- what holds of rows holds of them without one
pub taken_all : (P : ℕ → Type 0) (row : ℕ) (before after : List ℕ) → TakesOut row before after → All P before → All P after
taken_all P row before after is all =
    let each = subst (Each P) is.were (all_each P before all) in
    each_all P after (subst (Each P) (sym is.are) (each_append P is.front is.back (each_left P is.front (row ∷ is.back) each) (each_right P is.front (row ∷ is.back) each).1))
