-- The rows of a scan, one behind another.
use Rattle.std.proofs.Common.{◌≡◌, ℕ, ◌*◌, ◌≤◌, Bool, true, false, cond, filter, List, [], ◌∷◌, ◌++◌, length, take, drop, map, get_or, Option, Some, refl, sym, ap, subst, ◌∙◌, arith, length-append, append_assoc, append-nil}
use Rattle.std.specs.Prelude.{All, Contains, flat_map, slice_get}
use Rattle.std.proofs.lemmas.List.{drop-drop, length-drop, length-take, map-append}
use Rattle.std.proofs.lemmas.List.Elements.{All-contains, All-nil, All-push, Contains-append_right}
use Rattle.std.proofs.lemmas.List.Folds.{list_any_at}
use Rattle.std.proofs.lemmas.Grind.{flat_map-append}
use Rattle.std.proofs.Math.Seq.{take-append_seam, drop-append_seam}
use Rattle.rows.specs.Key.{Key, in_table}
use Rattle.rows.specs.KeyBody.{AreKeys}
use Rattle.rows.specs.Row.{Row}
use Rattle.rows.specs.Apply.{has, in_order, is_at_most, is_of, keys_in, row_of, scanned}
use Rattle.row_lemmas.proofs.KeyOrder.{All-scanned}
use Rattle.row_lemmas.proofs.Keys.{is_same_key-Decides, one_key}
use Rattle.row_lemmas.proofs.Tables.{All-keys_in}
use Rattle.embedded_cache.specs.Scans.{AreRowsOf, WritesRows, field_of, row_field}
use Rattle.embedded_cache.specs.declared.scanned_rows.ScannedRows.{ScannedRows}
use Rattle.embedded_cache.specs.inside.Scanning.{LacksPlace, PutsBehind}

-- ---- keys and rows

same_key : (key : Key) (b : Bool) (row found : Row) (o : Option Row) → is_of key row ≡ b → (o ≡ Some found → found.key ≡ key)
    → cond b (Some row) o ≡ Some found → found.key ≡ key
same_key key true row found o is later e =
    let same : row ≡ found = cc in subst (λ (x : Row). x.key ≡ key) same ((is_same_key-Decides row.key key).0 is)
same_key key false row found o is later e = later e

-- the row of a key has it
pub found_key : (key : Key) (rows : List Row) (row : Row) → row_of key rows ≡ Some row → row.key ≡ key
found_key key [] row e = cc
found_key key (first ∷ rows) row e = same_key key (is_of key first) first row (row_of key rows) refl (found_key key rows row) e

all_have : (table : ℕ) (rows : List Row) → All (λ (row : Row). row.key.table ≡ table → has (in_table table row.key.bytes) rows ≡ true) rows
all_have table rows = λ k d within. λ same.
    (let row = get_or rows k d in let key = in_table table row.key.bytes in
    list_any_at (is_of key) rows k d within ((is_same_key-Decides row.key key).1 (one_key row.key key same refl)))

-- each key that is scanned has a row
pub scanned_have : (table count : ℕ) (from : List ℕ) (rows : List Row)
    → All (λ (key : List ℕ). has (in_table table key) rows ≡ true) (scanned (in_table table from) count rows)
scanned_have table count from rows =
    All-scanned (λ (key : List ℕ). has (in_table table key) rows ≡ true) (is_at_most from) count (keys_in table rows)
    (All-keys_in (λ (key : List ℕ). has (in_table table key) rows ≡ true) table rows (all_have table rows))

-- no more are scanned than were asked
pub scanned_few : (table count : ℕ) (from : List ℕ) (rows : List Row) → length (scanned (in_table table from) count rows) ≤ count
scanned_few table count from rows = let long = length-take count (in_order (filter (is_at_most from) (keys_in table rows))) in grind (arith, long)

-- what was read of a row is written as the row
pub field_is : (table : ℕ) (key value : List ℕ) (tag : ℕ) (rows : List Row) (row : Row) → row_of (in_table table key) rows ≡ Some row → value ≡ row.value → tag ≡ row.number
    → field_of key tag value ≡ row_field row
field_is table key value tag rows row found values tags =
    ap (λ (k : List ℕ). field_of k tag value) (sym (ap (λ (k : Key). k.bytes) (found_key (in_table table key) rows row found)))
    ∙ (ap (λ (n : ℕ). field_of row.key.bytes n value) tags ∙ ap (λ (v : List ℕ). field_of row.key.bytes row.number v) values)

-- ---- rows that are written

-- the rows of the first keys stand in front, and the body is the other keys
pub record HasWritten (table : ℕ) (keys : List (List ℕ)) (cache : List Row) (rest : List ℕ) (did : ScannedRows) (old new : List ℕ) : Type 0 where
  pub done : List (List ℕ)
  pub left : List (List ℕ)
  pub found : List Row
  pub split : keys ≡ done ++ left
  pub are_left : AreKeys rest left
  pub are : AreRowsOf table done cache found
  pub count : did.rows ≡ length done
  pub len : did.bytes ≡ length (flat_map row_field found)
  pub low : did.bytes ≤ 12264 * did.rows
  pub wanted : did.wanted ≡ 0
  pub within : did.bytes ≤ length old
  pub front : new ≡ flat_map row_field found ++ drop did.bytes old

pub none_written : (table : ℕ) (keys : List (List ℕ)) (cache : List Row) (body old : List ℕ) → AreKeys body keys
    → HasWritten table keys cache body (record { rows = 0; bytes = 0; wanted = 0 }) old old
none_written table keys cache body old are = record {
  done = [];
  left = keys;
  found = [];
  split = refl;
  are_left = are;
  are = record { keys_are = refl; each = All-nil (λ (row : Row). row_of row.key cache ≡ Some row) };
  count = refl;
  len = refl;
  low = omega arith;
  wanted = refl;
  within = omega arith;
  front = refl;
}

front_is : {table : ℕ} {keys : List (List ℕ)} {cache : List Row} {rest : List ℕ} {did : ScannedRows} {old new : List ℕ} (w : HasWritten table keys cache rest did old new)
    → take did.bytes new ≡ flat_map row_field w.found
front_is {did = did} {old = old} {new = new} w =
    let front = flat_map row_field w.found in
    ap (λ (n : ℕ). take n new) w.len ∙ (ap (take (length front)) w.front ∙ take-append_seam front (drop did.bytes old))

behind_is : {table : ℕ} {keys : List (List ℕ)} {cache : List Row} {rest : List ℕ} {did : ScannedRows} {old new : List ℕ} → HasWritten table keys cache rest did old new
    → drop did.bytes new ≡ drop did.bytes old
behind_is {did = did} {old = old} {new = new} w =
    let front = flat_map row_field w.found in
    ap (λ (n : ℕ). drop n new) w.len ∙ (ap (drop (length front)) w.front ∙ drop-append_seam front (drop did.bytes old))

pub same_length : {table : ℕ} {keys : List (List ℕ)} {cache : List Row} {rest : List ℕ} {did : ScannedRows} {old new : List ℕ} → HasWritten table keys cache rest did old new
    → length new ≡ length old
same_length {did = did} {old = old} {new = new} w =
    let front = flat_map row_field w.found in
    let long = ap length w.front ∙ length-append front (drop did.bytes old) in let behind = length-drop did.bytes old in let len = w.len in let within = w.within in
    omega (arith, long, behind, len, within)

rows_more : (table : ℕ) (done : List (List ℕ)) (cache found : List Row) (key : List ℕ) (row : Row) → AreRowsOf table done cache found → row_of (in_table table key) cache ≡ Some row
    → AreRowsOf table (done ++ key ∷ []) cache (found ++ row ∷ [])
rows_more table done cache found key row are is =
    let same : row.key ≡ in_table table key = found_key (in_table table key) cache row is in
    record {
      keys_are =
          map-append (λ (r : Row). r.key) found (row ∷ [])
          ∙ (ap (λ (ks : List Key). ks ++ (row.key ∷ [])) are.keys_are
          ∙ (ap (λ (k : Key). map (in_table table) done ++ (k ∷ [])) same ∙ sym (map-append (in_table table) done (key ∷ []))));
      each =
          All-push (λ (r : Row). row_of r.key cache ≡ Some r) found row are.each (subst (λ (k : Key). row_of k cache ≡ Some row) (sym same) is);
    }

fields_more : (found : List Row) (row : Row) → flat_map row_field (found ++ row ∷ []) ≡ flat_map row_field found ++ row_field row
fields_more found row = flat_map-append row_field found (row ∷ []) ∙ ap (λ (b : List ℕ). flat_map row_field found ++ b) (append-nil (row_field row))

pub one_more : {table : ℕ} {keys : List (List ℕ)} {cache : List Row} {rest behind : List ℕ} {did now : ScannedRows} {old mid new : List ℕ} (key : List ℕ) (others : List (List ℕ)) (row : Row)
    → (w : HasWritten table keys cache rest did old mid) → w.left ≡ key ∷ others → AreKeys behind others → row_of (in_table table key) cache ≡ Some row
    → PutsBehind (row_field row) did now mid new → HasWritten table keys cache behind now old new
one_more {table} {keys} {cache} {rest} {behind} {did} {now} {old} {mid} {new} key others row w next are found put =
    let front = flat_map row_field w.found in let field = row_field row in
    let longer = ap length (fields_more w.found row) ∙ length-append front field in let one = length-append w.done (key ∷ []) in
    let long = same_length w in let count = w.count in let len = w.len in let low = w.low in
    let rows = put.rows in let bytes = put.bytes in let short = put.short in let within = put.within in
    record {
      done = w.done ++ key ∷ [];
      left = others;
      found = w.found ++ row ∷ [];
      split = w.split ∙ (ap (λ (ks : List (List ℕ)). w.done ++ ks) next ∙ sym (append_assoc w.done (key ∷ []) others));
      are_left = are;
      are = rows_more table w.done cache w.found key row w.are found;
      count = omega (arith, one, count, rows);
      len = omega (arith, longer, len, bytes);
      low = omega (arith, low, rows, bytes, short);
      wanted = put.wanted ∙ w.wanted;
      within = omega (arith, within, long);
      front =
          put.written
          ∙ (ap (λ (b : List ℕ). b ++ (field ++ drop now.bytes mid)) (front_is w)
          ∙ (ap (λ (b : List ℕ). front ++ (field ++ b))
          (ap (λ (n : ℕ). drop n mid) bytes
          ∙ (sym (drop-drop (length field) did.bytes mid)
          ∙ (ap (drop (length field)) (behind_is w) ∙ (drop-drop (length field) did.bytes old ∙ ap (λ (n : ℕ). drop n old) (sym bytes)))))
          ∙ (sym (append_assoc front field (drop now.bytes old)) ∙ ap (λ (b : List ℕ). b ++ drop now.bytes old) (sym (fields_more w.found row)))));
    }

-- what holds of each key holds of the next
pub next_holds : (P : List ℕ → Type 0) {table : ℕ} {keys : List (List ℕ)} {cache : List Row} {rest : List ℕ} {did : ScannedRows} {old new : List ℕ} (key : List ℕ) (others : List (List ℕ))
    → (w : HasWritten table keys cache rest did old new) → w.left ≡ key ∷ others → All P keys → P key
next_holds P {keys = keys} key others w next each =
    let there : keys ≡ w.done ++ (key ∷ others) = w.split ∙ ap (λ (ks : List (List ℕ)). w.done ++ ks) next in
    All-contains P keys key each (subst (λ (ks : List (List ℕ)). Contains ks key) (sym there) (Contains-append_right w.done (key ∷ others) key (0, omega arith, refl)))

-- ---- the end

first_done : {table : ℕ} {keys : List (List ℕ)} {cache : List Row} {rest : List ℕ} {did : ScannedRows} {old new : List ℕ} (w : HasWritten table keys cache rest did old new)
    → AreRowsOf table (take did.rows keys) cache w.found
first_done {table} {keys} {cache} {did = did} w =
    subst (λ (ks : List (List ℕ)). AreRowsOf table ks cache w.found)
    (sym (ap (λ (n : ℕ). take n keys) w.count ∙ (ap (take (length w.done)) w.split ∙ take-append_seam w.done w.left))) w.are

-- the rows of all keys are written
pub all_written : {table : ℕ} {keys : List (List ℕ)} {cache : List Row} {rest : List ℕ} {did : ScannedRows} {old new : List ℕ} (w : HasWritten table keys cache rest did old new)
    → w.left ≡ [] → WritesRows table keys cache did.rows did.bytes did.wanted old new
all_written {table} {keys} {cache} {rest} {did} {old} {new} w none =
    let long = ap length w.split ∙ length-append w.done w.left in let nil = ap length none in let count = w.count in
    record {
      found = w.found;
      are = first_done w;
      spelled = front_is w;
      within = w.within;
      behind = behind_is w;
      all = λ _. omega (arith, long, nil, count);
      short = λ some. absurd (some w.wanted);
    }

at_seam : (done : List (List ℕ)) (key : List ℕ) (others : List (List ℕ)) → slice_get (done ++ (key ∷ others)) (length done) ≡ Some key
at_seam [] key others = refl
at_seam (first ∷ done) key others = at_seam done key others

-- there is no room for the row of the next
pub some_written : {table : ℕ} {keys : List (List ℕ)} {cache : List Row} {rest : List ℕ} {did now : ScannedRows} {old mid new : List ℕ} (key : List ℕ) (others : List (List ℕ)) (row : Row)
    → (w : HasWritten table keys cache rest did old mid) → w.left ≡ key ∷ others → row_of (in_table table key) cache ≡ Some row → LacksPlace (row_field row) did now mid new
    → WritesRows table keys cache now.rows now.bytes now.wanted old new
some_written {table} {keys} {cache} {rest} {did} {now} {old} {mid} {new} key others row w next found lacks =
    let long = same_length w in let rows = lacks.rows in let bytes = lacks.bytes in let wanted = lacks.wanted in let some = lacks.some in let less = lacks.lacks in let within = w.within in
    let there : keys ≡ w.done ++ (key ∷ others) = w.split ∙ ap (λ (ks : List (List ℕ)). w.done ++ ks) next in
    record {
      found = w.found;
      are = subst (λ (n : ℕ). AreRowsOf table (take n keys) cache w.found) (sym rows) (first_done w);
      spelled = ap (λ (n : ℕ). take n new) bytes ∙ (ap (take did.bytes) lacks.same ∙ front_is w);
      within = omega (arith, within, bytes);
      behind = ap (λ (n : ℕ). drop n new) bytes ∙ (ap (drop did.bytes) lacks.same ∙ (behind_is w ∙ ap (λ (n : ℕ). drop n old) (sym bytes)));
      all = λ none. absurd (omega (arith, none, wanted, some));
      short = λ _. record {
        key = key;
        row = row;
        next =
            ap (λ (n : ℕ). slice_get keys n) (rows ∙ w.count)
            ∙ (ap (λ (ks : List (List ℕ)). slice_get ks (length w.done)) there ∙ at_seam w.done key others);
        found = found;
        takes = wanted;
        lacks = omega (arith, less, long, bytes, wanted);
      };
    }
