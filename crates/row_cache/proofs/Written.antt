-- The keys of a table that a scan has written.
use borrow.Rule.Slice.PartMut.{put_mid}
use Rattle.std.proofs.Common.{◌≡◌, ◌≢◌, ℕ, ◌+◌, ◌-◌, ◌*◌, ◌≤◌, ◌⊎◌, inl, inr, Bool, true, false, cond, ◌==◌, List, []}
use Rattle.std.proofs.Common.{◌∷◌, ◌++◌, length, take, drop, map, refl, sym, ap, subst, ◌∙◌, arith, length-append, append_assoc, append-nil, eq-eqb, ne_eqb}
use Rattle.std.specs.List.{flat_map, AllByRecursion}
use Rattle.std.specs.Prelude.{All, Contains}
use Rattle.std.proofs.lemmas.List.{drop-drop, drop_all, length-drop, length-map, map-append, take_all, take_rest}
use Rattle.std.proofs.lemmas.List.Elements.{All-contains, All-from_recursion, All-take, Contains-append_right, recursion_from_All}
use Rattle.std.proofs.lemmas.Grind.{flat_map-append}
use Rattle.std.proofs.Math.Seq.{take-append_seam, drop-append_seam}
use Rattle.rows.specs.Key.{Key}
use Rattle.rows.specs.KeyBody.{AreKeys}
use Rattle.rows.specs.Spelled.{IsKey, key_field}
use Rattle.rows.specs.Row.{Row}
use Rattle.regions.specs.Stores.{Live}
use Rattle.regions.specs.declared.place.Place.{Place}
use Rattle.row_cache.specs.Rows.{key_at}
use Rattle.row_cache.specs.inside.Scanned.{keys_in_front}
use Rattle.row_cache.specs.inside.Tables.{HasRow}
use Rattle.row_cache.proofs.States.{row_is}

-- the bytes of these rows' keys
abbrev pub fields : (ℕ → Key) → List ℕ → List ℕ
fields key rows = flat_map key_field (map (λ n. (key n).bytes) rows)

-- so many keys, in so many bytes, of the first of these rows, which are of the table, stand in front, and these rows are left
pub record AreWritten (key : ℕ → Key) (table : ℕ) (all rest : List ℕ) (count len : ℕ) (old new : List ℕ) : Type 0 where
  pub done : List ℕ
  pub split : all ≡ done ++ rest
  pub of : AllByRecursion (λ n. (key n).table ≡ table) done
  pub keys : count ≡ length done
  pub bytes : len ≡ length (fields key done)
  pub room : len ≤ 258 * count
  pub front : new ≡ fields key done ++ drop len old

pub none_written : (key : ℕ → Key) (table : ℕ) (all old : List ℕ) → AreWritten key table all all 0 0 old old
none_written key table all old = record { done = []; split = refl; of = tt; keys = refl; bytes = refl; room = omega arith; front = refl }

-- ---- what stands in front, and behind

front_is : {key : ℕ → Key} {table : ℕ} {all rest : List ℕ} {count len : ℕ} {old new : List ℕ} (w : AreWritten key table all rest count len old new) → take len new ≡ fields key w.done
front_is {key} {table} {all} {rest} {count} {len} {old} {new} w =
    let front = fields key w.done in
    ap (λ (n : ℕ). take n new) w.bytes ∙ (ap (take (length front)) w.front ∙ take-append_seam front (drop len old))

behind_is : {key : ℕ → Key} {table : ℕ} {all rest : List ℕ} {count len : ℕ} {old new : List ℕ} → AreWritten key table all rest count len old new → drop len new ≡ drop len old
behind_is {key} {table} {all} {rest} {count} {len} {old} {new} w =
    let front = fields key w.done in
    ap (λ (n : ℕ). drop n new) w.bytes ∙ (ap (drop (length front)) w.front ∙ drop-append_seam front (drop len old))

-- ---- one key more

-- a field that is put behind so many bytes
field_put : (len : ℕ) (new field put : List ℕ) (more : ℕ) → put ≡ field ++ drop more (take (length new - len) (drop len new))
    → put_mid len (length new - len) new put ≡ take len new ++ (field ++ drop more (drop len new))
field_put len new field put more is =
    let none : drop (length new - len) (drop len new) ≡ [] = drop_all (length new - len) (drop len new) (omega (arith, length-drop len new)) in
    ap (λ (b : List ℕ). take len new ++ (put ++ b)) none
    ∙ (ap (λ (b : List ℕ). take len new ++ b) (append-nil put ∙ (is ∙ ap (λ (b : List ℕ). field ++ drop more b) (take_rest new len))))

field_more : (key : ℕ → Key) (done : List ℕ) (row : ℕ) → fields key (done ++ row ∷ []) ≡ fields key done ++ key_field (key row).bytes
field_more key done row =
    ap (flat_map key_field) (map-append (λ n. (key n).bytes) done (row ∷ []))
    ∙ (flat_map-append key_field (map (λ n. (key n).bytes) done) ((key row).bytes ∷ [])
    ∙ ap (λ (b : List ℕ). fields key done ++ b) (append-nil (key_field (key row).bytes)))

-- one more is of the table
of_more : (P : ℕ → Type 0) (done : List ℕ) (row : ℕ) → AllByRecursion P done → P row → AllByRecursion P (done ++ row ∷ [])
of_more P [] row all is = (is, tt)
of_more P (n ∷ done) row all is = (all.0, of_more P done row all.1 is)

pub one_written : {key : ℕ → Key} {table : ℕ} {all rest : List ℕ} {count len : ℕ} {old new : List ℕ} (row : ℕ) (after : List ℕ) (more : ℕ) (put : List ℕ)
    → AreWritten key table all rest count len old new → rest ≡ row ∷ after → (key row).table ≡ table → length (key row).bytes ≤ 256 → more ≡ 2 + length (key row).bytes
    → put ≡ key_field (key row).bytes ++ drop more (take (length new - len) (drop len new))
    → AreWritten key table all after (count + 1) (len + more) old (put_mid len (length new - len) new put)
one_written {key} {table} {all} {rest} {count} {len} {old} {new} row after more put w next of short more_is put_is =
    let front = fields key w.done in
    let field = key_field (key row).bytes in
    let longer = ap length (field_more key w.done row) in
    let joined = length-append front field in
    let one = length-append w.done (row ∷ []) in
    let were_keys = w.keys in let were_bytes = w.bytes in let had_room = w.room in
    record {
      done = w.done ++ row ∷ [];
      split = w.split ∙ (ap (λ (r : List ℕ). w.done ++ r) next ∙ sym (append_assoc w.done (row ∷ []) after));
      of = of_more (λ n. (key n).table ≡ table) w.done row w.of of;
      keys = omega (arith, one, were_keys);
      bytes = omega (arith, longer, joined, were_bytes, more_is);
      room = omega (arith, had_room, more_is, short);
      front =
          field_put len new field put more put_is
          ∙ (ap (λ (b : List ℕ). b ++ (field ++ drop more (drop len new))) (front_is w)
          ∙ (ap (λ (b : List ℕ). front ++ (field ++ b)) (ap (drop more) (behind_is w) ∙ drop-drop more len old)
          ∙ (sym (append_assoc front field (drop (len + more) old)) ∙ ap (λ (b : List ℕ). b ++ drop (len + more) old) (sym (field_more key w.done row)))));
    }

-- ---- the rows that are left

pub next_holds : (P : ℕ → Type 0) {key : ℕ → Key} {table : ℕ} {all rest : List ℕ} {count len : ℕ} {old new : List ℕ} (row : ℕ) (after : List ℕ)
    → AreWritten key table all rest count len old new → All P all → rest ≡ row ∷ after → P row
next_holds P {all = all} row after w each next =
    let split : all ≡ w.done ++ (row ∷ after) = w.split ∙ ap (λ (r : List ℕ). w.done ++ r) next in
    All-contains P all row each (subst (λ (ns : List ℕ). Contains ns row) (sym split) (Contains-append_right w.done (row ∷ after) row (0, omega arith, refl)))

-- a row's key is a trace's
pub row_key : (live : Live) (places : List Place) (n : ℕ) → HasRow live places n → IsKey (key_at live places n).bytes
row_key live places n h =
    let s = h.is_row.holds.storable in
    subst (λ (r : Row). IsKey r.key.bytes) (sym (row_is live places n h)) (record { some = s.some_key; short = s.short_key })

-- ---- the end

-- the first rows are of the table
front_split : (key : ℕ → Key) (table : ℕ) (done rest : List ℕ) → AllByRecursion (λ n. (key n).table ≡ table) done
    → keys_in_front key table (done ++ rest) ≡ map (λ n. (key n).bytes) done ++ keys_in_front key table rest
front_split key table [] rest of = refl
front_split key table (n ∷ done) rest of =
    ap (λ b. cond b ((key n).bytes ∷ keys_in_front key table (done ++ rest)) []) (eq-eqb (key n).table table of.0)
    ∙ ap (λ (ks : List (List ℕ)). (key n).bytes ∷ ks) (front_split key table done rest of.1)

-- a row of another table ends them
pub other_ends : (key : ℕ → Key) (table row : ℕ) (rest after : List ℕ) → rest ≡ row ∷ after → (key row).table ≢ table → keys_in_front key table rest ≡ []
other_ends key table row rest after next other =
    ap (λ ns. keys_in_front key table ns) next ∙ ap (λ b. cond b ((key row).bytes ∷ keys_in_front key table after) []) (ne_eqb (key row).table table other)

pub none_ends : (key : ℕ → Key) (table : ℕ) (rest : List ℕ) → rest ≡ [] → keys_in_front key table rest ≡ []
none_ends key table rest none = ap (λ ns. keys_in_front key table ns) none

keys_done : (done behind all : List (List ℕ)) (wanted : ℕ) → all ≡ done ++ behind → length done ≤ wanted → (length done ≡ wanted) ⊎ (behind ≡ []) → done ≡ take wanted all
keys_done done behind all wanted split few (inl e) =
    sym (ap (take wanted) split ∙ (ap (λ (n : ℕ). take n (done ++ behind)) (sym e) ∙ take-append_seam done behind))
keys_done done behind all wanted split few (inr e) =
    let same : all ≡ done = split ∙ (ap (λ (ks : List (List ℕ)). done ++ ks) e ∙ append-nil done) in
    sym (ap (take wanted) same ∙ take_all wanted done few)

done_is : {key : ℕ → Key} {table : ℕ} (wanted : ℕ) {all rest : List ℕ} {count len : ℕ} {old new : List ℕ}
    (w : AreWritten key table all rest count len old new) → count ≤ wanted → (count ≡ wanted) ⊎ (keys_in_front key table rest ≡ [])
    → map (λ n. (key n).bytes) w.done ≡ take wanted (keys_in_front key table all)
done_is {key} {table} wanted {all} {rest} {count} {len} {old} {new} w few ends =
    let long : length (map (λ n. (key n).bytes) w.done) ≡ count = length-map w.done (λ n. (key n).bytes) ∙ sym w.keys in
    let split : keys_in_front key table all ≡ map (λ n. (key n).bytes) w.done ++ keys_in_front key table rest =
    ap (λ ns. keys_in_front key table ns) w.split ∙ front_split key table w.done rest w.of in
    keys_done (map (λ n. (key n).bytes) w.done) (keys_in_front key table rest) (keys_in_front key table all) wanted split (omega (arith, long, few))
    (elim ends [ inl e ↦ inl (long ∙ e) | inr e ↦ inr e ])

front_lengths : (live : Live) (places : List Place) (table : ℕ) (ns : List ℕ) → AllByRecursion (HasRow live places) ns
    → AllByRecursion IsKey (keys_in_front (key_at live places) table ns)
front_lengths live places table [] rows = tt
front_lengths live places table (n ∷ ns) rows = go ((key_at live places n).table == table) (front_lengths live places table ns rows.1)
  where
    go : (b : Bool) → AllByRecursion IsKey (keys_in_front (key_at live places) table ns)
        → AllByRecursion IsKey (cond b ((key_at live places n).bytes ∷ keys_in_front (key_at live places) table ns) [])
    go true rest = (row_key live places n rows.0, rest)
    go false rest = tt

pub all_written : (live : Live) (places : List Place) (table wanted : ℕ) {all rest : List ℕ} {count len : ℕ} {old new : List ℕ}
    → AreWritten (key_at live places) table all rest count len old new → count ≤ wanted → (count ≡ wanted) ⊎ (keys_in_front (key_at live places) table rest ≡ [])
    → All (HasRow live places) all → AreKeys (take len new) (take wanted (keys_in_front (key_at live places) table all))
all_written live places table wanted {all} {rest} {count} {len} {old} {new} w few ends rows =
    let keys = keys_in_front (key_at live places) table all in
    record {
      spelled = front_is w ∙ ap (flat_map key_field) (done_is wanted w few ends);
      lengths = All-take IsKey wanted keys (All-from_recursion IsKey keys (front_lengths live places table all (recursion_from_All (HasRow live places) all rows)));
    }

-- so many keys are written
pub count_written : (live : Live) (places : List Place) (table wanted : ℕ) {all rest : List ℕ} {count len : ℕ} {old new : List ℕ}
    → AreWritten (key_at live places) table all rest count len old new → count ≤ wanted → (count ≡ wanted) ⊎ (keys_in_front (key_at live places) table rest ≡ [])
    → count ≡ length (take wanted (keys_in_front (key_at live places) table all))
count_written live places table wanted {all} {rest} {count} {len} {old} {new} w few ends =
    w.keys
    ∙ (sym (length-map w.done (λ n. (key_at live places n).bytes)) ∙ ap (λ (ks : List (List ℕ)). length ks) (done_is wanted w few ends))
