-- What the tables of live objects are, where one is added, goes or is another.
use Rattle.std.proofs.Common.{◌≡◌, ◌≢◌, ℕ, zero, suc, ◌<◌, ◌≤◌, ◌⊎◌, inl, inr, cond, Bool, true, false, List, [], ◌∷◌, ◌++◌, length, Option, Some, None, sym, ap, subst, ◌∙◌, arith, length-append, get_or}
use Rattle.std.specs.Prelude.{slice_get, slice_set, All, Contains}
use Rattle.std.proofs.lemmas.Bool.{cases_eq}
use Rattle.std.proofs.lemmas.Bool.Decides.{leb_tells}
use Rattle.std.proofs.lemmas.List.{length-set, get_or-set_same, get_or-set_other, get_or_append_left}
use Rattle.std.proofs.Math.Seq.{get_or-append_seam}
use Rattle.std.proofs.lemmas.List.Elements.{All-from_recursion}
use Rattle.std.proofs.lemmas.Option.{slice_get-get_or, slice_get_past}
use Rattle.std.specs.List.{AllByRecursion}
use Rattle.rows.specs.Key.{Key}
use Rattle.rows.specs.Row.{Row}
use Rattle.row_bytes.specs.Rows.{number_in, row_in, key_of_row}
use Rattle.common_lemmas.specs.Lists.{times, delete}
use Rattle.common_lemmas.proofs.Counts.{times-delete_other}
use Rattle.key_table.specs.Table.{IsSpotFor}
use Rattle.key_table.specs.declared.entries.Spot.{Spot}
use Rattle.key_table.specs.Lazy.{Has, IsKeyed, IsLazyOf}
use Rattle.std.specs.Prelude.{option_map}
use Rattle.regions.specs.Segments.{RegionState}
use Rattle.regions.specs.Contents.{Item, Standing, standing_at, live_at, item_if_live, if_live}
use Rattle.regions.specs.Stores.{Live}
use Rattle.regions.specs.declared.place.Place.{Place}
use Rattle.row_cache.specs.Links.{content_of}
use Rattle.row_cache.specs.Rows.{content_at, row_at, key_at}
use Rattle.row_cache.specs.inside.Tables.{TableState, AreNumbers, AreTablesOf, IsListed, HasRow, Drops, AddsRow, ReplacesRow, next_number, placed}
use Rattle.row_cache.proofs.Listed.{Apart, listed_here, listed_later, listed_apart}
use Rattle.row_cache.proofs.Numbers.{listed_below, gone_after, next_absent, next_at_most}

-- ---- one row

content_live : (live : Bool) (item i : Item) (bytes : List ℕ) → if_live live item ≡ Some i → Some item.content ≡ Some bytes → bytes ≡ i.content
content_live false item i bytes e b = absurd (let clash : None ≡ Some i = e in cc)
content_live true item i bytes e b = (let same : item ≡ i = (let s : Some item ≡ Some i = e in cc) in let c : item.content ≡ bytes = (let s : Some item.content ≡ Some bytes = b in cc) in sym c ∙ ap (λ (x : Item). x.content) same)

pub content_standing : (o : Option Standing) (i : Item) (bytes : List ℕ) → item_if_live o ≡ Some i → option_map (λ (s : Standing). s.item.content) o ≡ Some bytes → bytes ≡ i.content
content_standing None i bytes e b = absurd (let clash : None ≡ Some i = e in cc)
content_standing (Some s) i bytes e b = content_live s.live s.item i bytes e b

pub row_is : (live : Live) (places : List Place) (n : ℕ) (h : HasRow live places n) → row_at live places n ≡ h.row
row_is live places n h = ap (λ (o : Option Place). row_in (content_at live o)) h.placed ∙ (ap (λ (o : Option Item). row_in (content_of o)) h.is_live ∙ h.is_row.read)

-- the bytes at a row's place are read as its key, by whoever reads them there
pub row_content : (r : RegionState) (places : List Place) (n : ℕ) (h : HasRow (live_at r) places n) (bytes : List ℕ)
    → option_map (λ (s : Standing). s.item.content) (standing_at r h.place) ≡ Some bytes → bytes ≡ h.item.content
row_content r places n h bytes e = content_standing (standing_at r h.place) h.item bytes h.is_live e

pub key_read : (r : RegionState) (places : List Place) (n : ℕ) (h : HasRow (live_at r) places n) (bytes : List ℕ)
    → option_map (λ (s : Standing). s.item.content) (standing_at r h.place) ≡ Some bytes → key_of_row bytes ≡ key_at (live_at r) places n
key_read r places n h bytes e =
    ap key_of_row (row_content r places n h bytes e) ∙ (ap (λ (x : Row). x.key) h.is_row.read ∙ sym (ap (λ (x : Row). x.key) (row_is (live_at r) places n h)))

pub some_same : {A : Type 0} {a b : A} {o : Option A} → o ≡ Some a → o ≡ Some b → a ≡ b
some_same {A} {a} {b} {o} p q = (let e : Some a ≡ Some b = sym p ∙ q in cc)

pub some_none : {A : Type 0} {P : Type 0} {a : A} {o : Option A} → o ≡ Some a → o ≡ None → P
some_none {A} {P} {a} {o} p q = absurd (let clash : Some a ≡ None = sym p ∙ q in cc)

-- two rows at one place are one
pub same_number : (live : Live) (places : List Place) (m n : ℕ) (hm : HasRow live places m) (hn : HasRow live places n) → hm.place ≡ hn.place → m ≡ n
same_number live places m n hm hn e =
    let there : live hm.place ≡ Some hn.item = ap live e ∙ hn.is_live in
    let item : hm.item ≡ hn.item = some_same hm.is_live there in
    sym hm.is_row.number ∙ (ap (λ (i : Item). number_in i.content) item ∙ hn.is_row.number)

-- a row as it stands elsewhere
pub row_elsewhere : (live after : Live) (places others : List Place) (n : ℕ) (h : HasRow live places n) (p : Place)
    → slice_get others n ≡ Some p → after p ≡ Some h.item → (x : HasRow after others n) × (row_at after others n ≡ row_at live places n)
row_elsewhere live after places others n h p placed is =
    let x : HasRow after others n = record { place = p; placed = placed; item = h.item; is_live = is; row = h.row; is_row = h.is_row } in
    (x, row_is after others n x ∙ sym (row_is live places n h))

-- ---- lists of numbers

all_by : (P : ℕ → Type 0) (xs : List ℕ) → ((n : ℕ) → 1 ≤ times n xs → P n) → AllByRecursion P xs
all_by P [] h = tt
all_by P (x ∷ xs) h = (h x (listed_here x xs), all_by P xs (λ n l. h n (listed_later n x xs l)))

pub all_listed : (P : ℕ → Type 0) (xs : List ℕ) → ((n : ℕ) → 1 ≤ times n xs → P n) → All P xs
all_listed P xs h = All-from_recursion P xs (all_by P xs h)

-- the index has the rows' numbers
pub has_listed : (t : TableState) (n : ℕ) → AreNumbers t → Has t.index n → IsListed t n
has_listed t n a h = let e = a.indexed n in omega (arith, e, h)

pub contained_times : (xs : List ℕ) (n : ℕ) → Contains xs n → 1 ≤ times n xs
contained_times [] n h = absurd (let l = h.1 in omega (arith, l))
contained_times (x ∷ xs) n (zero, l, e) = subst (λ y. 1 ≤ times n (y ∷ xs)) (sym e) (listed_here n xs)
contained_times (x ∷ xs) n (suc k, l, e) = listed_later n x xs (contained_times xs n (k, omega (arith, l), e))

pub times_contained : (xs : List ℕ) (n : ℕ) → 1 ≤ times n xs → Contains xs n
times_contained [] n h = absurd (omega arith)
times_contained (x ∷ xs) n h = elim (cases_eq x n) [
  | inl e ↦ (zero, omega arith, e)
  | inr far ↦ (let c = times_contained xs n (listed_apart n x xs far h) in (suc c.0, (let l = c.1 in omega (arith, l)), c.2))
]

-- ---- one number's place

pub got_set : (xs : List Place) (n : ℕ) (p : Place) → n < length xs → slice_get (slice_set xs n p) n ≡ Some p
got_set xs n p h = slice_get-get_or (slice_set xs n p) n p (let e = length-set xs n p in omega (arith, e, h)) ∙ ap (λ x. Some x) (get_or-set_same xs n p p h)

pub got_past_set : (xs : List Place) (n m : ℕ) (p : Place) → m ≢ n → slice_get (slice_set xs n p) m ≡ slice_get xs m
got_past_set xs n m p far =
    let len = length-set xs n p in
    elim (leb_tells (length xs) m) [
      | inl h ↦ (let g = h.1 in slice_get_past (slice_set xs n p) m (omega (arith, len, g)) ∙ sym (slice_get_past xs m g))
      | inr h ↦ (let g = h.1 in slice_get-get_or (slice_set xs n p) m p (omega (arith, len, g)) ∙ (ap (λ x. Some x) (get_or-set_other xs n m p p far) ∙ sym (slice_get-get_or xs m p g)))
    ]

pub apart_rows : (t : TableState) (l : Live) → AreTablesOf t l → Apart (row_at l t.places) t.recency
apart_rows t l are = λ m n lm ln e. are.apart m n lm ln e

-- the same rows, in whatever order
pub tables_kept : (t u : TableState) (live : Live) → AreTablesOf t live → AreNumbers u → ((m : ℕ) → times m u.recency ≡ times m t.recency) → u.places ≡ t.places → u.index ≡ t.index → AreTablesOf u live
tables_kept t u live are numbers same places index =
    let was : (m : ℕ) → IsListed u m → IsListed t m = λ m l. (let e = same m in omega (arith, e, l)) in
    record {
      numbers = numbers;
      rows = subst (λ (ps : List Place). (m : ℕ) → IsListed u m → HasRow live ps m) (sym places) (λ m l. are.rows m (was m l));
      every = λ p i e.
          (let w = are.every p i e in let k = same w.0 in let l = w.1 in
          (w.0, omega (arith, k, l), ap (λ (ps : List Place). slice_get ps w.0) places ∙ w.2));
      apart = subst (λ (ps : List Place). (x y : ℕ) → IsListed u x → IsListed u y → key_at live ps x ≡ key_at live ps y → x ≡ y) (sym places)
          (λ x y lx ly e. are.apart x y (was x lx) (was y ly) e);
      index = subst (λ (ps : List Place). IsKeyed (key_at live ps) u.index) (sym places) (subst (IsKeyed (key_at live t.places)) (sym index) are.index);
    }

-- ---- a row goes

-- the others stay
pub other_stays : (t : TableState) (live after : Live) (n : ℕ) (p : Place) → AreTablesOf t live → IsListed t n → slice_get t.places n ≡ Some p → Drops p live after
    → (m : ℕ) → IsListed t m → m ≢ n → (x : HasRow after t.places m) × (row_at after t.places m ≡ row_at live t.places m)
other_stays t live after n p are listed here drops m lm far =
    let hm = are.rows m lm in let hn = are.rows n listed in
    let at : hn.place ≡ p = some_same hn.placed here in
    let elsewhere : hm.place ≢ p = λ e. far (same_number live t.places m n hm hn (e ∙ sym at)) in
    row_elsewhere live after t.places t.places m hm hm.place hm.placed (drops.others hm.place elsewhere ∙ hm.is_live)

pub still_listed : (t : TableState) (n m : ℕ) → AreNumbers t → IsListed t n → 1 ≤ times m (delete n t.recency) → IsListed t m × (m ≢ n)
still_listed t n m a listed l =
    let far : m ≢ n = λ e. (let g = gone_after t a n listed in let k : 1 ≤ times n (delete n t.recency) = subst (λ x. 1 ≤ times x (delete n t.recency)) e l in omega (arith, g, k)) in
    (let o = times-delete_other m n t.recency far in omega (arith, o, l), far)

pub tables_dropped : (t u : TableState) (live after : Live) (n : ℕ) (p : Place) → AreTablesOf t live → AreNumbers u → IsListed t n → slice_get t.places n ≡ Some p → Drops p live after
    → u.recency ≡ delete n t.recency → u.places ≡ t.places
    → ((a : ℕ → Key) → IsKeyed a t.index → IsKeyed a u.index) → AreTablesOf u after
tables_dropped t u live after n p are numbers listed here drops recency places kept =
    let a = are.numbers in
    let was : (m : ℕ) → IsListed u m → IsListed t m × (m ≢ n) = λ m l. still_listed t n m a listed (subst (λ ns. 1 ≤ times m ns) recency l) in
    let stays : (m : ℕ) → IsListed u m → (x : HasRow after t.places m) × (row_at after t.places m ≡ row_at live t.places m) =
    λ m l. (let w = was m l in other_stays t live after n p are listed here drops m w.0 w.1) in
    let same : (m : ℕ) → IsListed u m → key_at after u.places m ≡ key_at live t.places m =
    λ m l. ap (λ (ps : List Place). key_at after ps m) places ∙ ap (λ (r : Row). r.key) (stays m l).1 in
    let rows : (m : ℕ) → IsListed u m → HasRow after u.places m = λ m l. subst (λ (ps : List Place). HasRow after ps m) (sym places) (stays m l).0 in
    record {
      numbers = numbers;
      rows = rows;
      every = λ q i e.
          (let elsewhere : q ≢ p = λ s. some_none e (ap after s ∙ drops.here) in
          let old = are.every q i (sym (drops.others q elsewhere) ∙ e) in
          let m = old.0 in
          let far : m ≢ n = λ s. elsewhere (some_same old.2 (ap (λ x. slice_get t.places x) s ∙ here)) in
          (m, subst (λ ns. 1 ≤ times m ns) (sym recency) (let o = times-delete_other m n t.recency far in let l = old.1 in omega (arith, o, l)), ap (λ (ps : List Place). slice_get ps m) places ∙ old.2));
      apart = λ x y lx ly e. are.apart x y (was x lx).0 (was y ly).0 (sym (same x lx) ∙ (e ∙ same y ly));
      index = numbers.moves (key_at live t.places) (key_at after u.places) (λ m h. same m (has_listed u m numbers h)) (kept (key_at live t.places) are.index);
    }

-- ---- a row stands elsewhere, as another of the same key

pub replaced_rows : (t : TableState) (n : ℕ) (to : Place) (row : Row) (old new : Live) (r : ReplacesRow t n to row old new) → IsListed t n
    → (x : HasRow new (slice_set t.places n to) n) × (row_at new (slice_set t.places n to) n ≡ row)
replaced_rows t n to row old new r listed =
    let x : HasRow new (slice_set t.places n to) n =
    record { place = to; placed = got_set t.places n to (listed_below t r.tables.numbers n listed); item = r.item; is_live = r.replaces.here; row = row; is_row = r.is_row } in
    (x, row_is new (slice_set t.places n to) n x)

pub replaced_others : (t : TableState) (n : ℕ) (to : Place) (row : Row) (old new : Live) (r : ReplacesRow t n to row old new) → IsListed t n
    → (m : ℕ) → IsListed t m → m ≢ n → (x : HasRow new (slice_set t.places n to) m) × (row_at new (slice_set t.places n to) m ≡ row_at old t.places m)
replaced_others t n to row old new r listed m lm far =
    let hm = r.tables.rows m lm in let hn = r.tables.rows n listed in
    let at : hn.place ≡ r.from = some_same hn.placed r.was in
    let not_from : hm.place ≢ r.from = λ e. far (same_number old t.places m n hm hn (e ∙ sym at)) in
    let not_to : hm.place ≢ to = λ e. some_none hm.is_live (ap old e ∙ r.replaces.absent) in
    row_elsewhere old new t.places (slice_set t.places n to) m hm hm.place (got_past_set t.places n m to far ∙ hm.placed) (r.replaces.others hm.place not_from not_to ∙ hm.is_live)

abbrev same_fields : ℕ → ℕ → Place
same_fields s a = record { segment = s; at = a }

pub place_cases : (p q : Place) → (p ≡ q) ⊎ (p ≢ q)
place_cases p q =
    elim (cases_eq p.segment q.segment) [
      | inl a ↦
          elim (cases_eq p.at q.at) [
            | inl b ↦ inl (ap (λ (s : ℕ). same_fields s p.at) a ∙ ap (λ (x : ℕ). same_fields q.segment x) b)
            | inr far ↦ inr (λ e. far (ap (λ (x : Place). x.at) e))
          ]
      | inr far ↦ inr (λ e. far (ap (λ (x : Place). x.segment) e))
    ]

replaced_found : (t : TableState) (n : ℕ) (to : Place) (row : Row) (old new : Live) (r : ReplacesRow t n to row old new) → IsListed t n
    → (q : Place) (i : Item) → new q ≡ Some i → (m : ℕ) × IsListed t m × (slice_get (slice_set t.places n to) m ≡ Some q)
replaced_found t n to row old new r listed q i e =
    elim (place_cases q to) [
      | inl s ↦ (n, listed, got_set t.places n to (listed_below t r.tables.numbers n listed) ∙ ap (λ x. Some x) (sym s))
      | inr far ↦
          (let not_from : q ≢ r.from = λ s. some_none e (ap new s ∙ r.replaces.gone) in
          let was = r.tables.every q i (sym (r.replaces.others q not_from far) ∙ e) in
          let other : was.0 ≢ n = λ s. not_from (some_same was.2 (ap (λ x. slice_get t.places x) s ∙ r.was)) in
          (was.0, was.1, got_past_set t.places n was.0 to other ∙ was.2))
    ]

pub tables_replaced : (t u : TableState) (n : ℕ) (to : Place) (row : Row) (old new : Live) → ReplacesRow t n to row old new → IsListed t n → AreNumbers u
    → ((m : ℕ) → times m u.recency ≡ times m t.recency) → u.places ≡ slice_set t.places n to → u.index ≡ t.index
    → AreTablesOf u new
tables_replaced t u n to row old new r listed numbers recency places index =
    let are = r.tables in
    let was : (m : ℕ) → IsListed u m → IsListed t m = λ m l. (let e = recency m in omega (arith, e, l)) in
    let here = replaced_rows t n to row old new r listed in
    let other = replaced_others t n to row old new r listed in
    let rows_t : (m : ℕ) → IsListed t m → HasRow new (slice_set t.places n to) m =
    λ m l. elim (cases_eq m n) [ inl e ↦ subst (λ x. HasRow new (slice_set t.places n to) x) (sym e) here.0 | inr far ↦ (other m l far).0 ] in
    let same_t : (m : ℕ) → IsListed t m → key_at new (slice_set t.places n to) m ≡ key_at old t.places m =
    λ m l. elim (cases_eq m n) [
      | inl e ↦ subst (λ x. key_at new (slice_set t.places n to) x ≡ key_at old t.places x) (sym e) (ap (λ (x : Row). x.key) here.1 ∙ sym r.key)
      | inr far ↦ ap (λ (x : Row). x.key) (other m l far).1
    ] in
    let same : (m : ℕ) → IsListed t m → key_at new u.places m ≡ key_at old t.places m = λ m l. ap (λ (ps : List Place). key_at new ps m) places ∙ same_t m l in
    let rows : (m : ℕ) → IsListed t m → HasRow new u.places m = λ m l. subst (λ (ps : List Place). HasRow new ps m) (sym places) (rows_t m l) in
    record {
      numbers = numbers;
      rows = λ m l. rows m (was m l);
      every = λ q i e.
          (let found = replaced_found t n to row old new r listed q i e in
          (found.0, (let k = recency found.0 in let l = found.1 in omega (arith, k, l)), ap (λ (ps : List Place). slice_get ps found.0) places ∙ found.2));
      apart = λ x y lx ly e. are.apart x y (was x lx) (was y ly) (sym (same x (was x lx)) ∙ (e ∙ same y (was y ly)));
      index = subst (IsKeyed (key_at new u.places)) (sym index) (are.numbers.moves (key_at old t.places) (key_at new u.places) (λ m h. same m (has_listed t m are.numbers h)) are.index);
    }

-- ---- a new row

pub placed_others : (places : List Place) (n m : ℕ) (p : Place) → m ≢ n → m < length places → slice_get (placed n p places) m ≡ slice_get places m
placed_others places n m p far h = elim (leb_tells (suc n) (length places)) [
  | inl k ↦ ap (λ b. slice_get (cond b (slice_set places n p) (places ++ p ∷ [])) m) k.0 ∙ got_past_set places n m p far
  | inr k ↦
      (let len = length-append places (p ∷ []) in
      ap (λ b. slice_get (cond b (slice_set places n p) (places ++ p ∷ [])) m) k.0
      ∙ (slice_get-get_or (places ++ p ∷ []) m p (omega (arith, len, h)) ∙ (ap (λ x. Some x) (get_or_append_left places (p ∷ []) p m h) ∙ sym (slice_get-get_or places m p h))))
]

pub placed_here : (t : TableState) (p : Place) → AreNumbers t → slice_get (placed (next_number t) p t.places) (next_number t) ≡ Some p
placed_here t p a = elim (leb_tells (suc (next_number t)) (length t.places)) [
  | inl k ↦ ap (λ b. slice_get (cond b (slice_set t.places (next_number t) p) (t.places ++ p ∷ [])) (next_number t)) k.0 ∙ got_set t.places (next_number t) p k.1
  | inr k ↦
      (let is : next_number t ≡ length t.places = (let m = next_at_most t a in let g = k.1 in omega (arith, m, g)) in
      let len = length-append t.places (p ∷ []) in
      ap (λ b. slice_get (cond b (slice_set t.places (next_number t) p) (t.places ++ p ∷ [])) (next_number t)) k.0
      ∙ (slice_get-get_or (t.places ++ p ∷ []) (next_number t) p (omega (arith, len, is))
      ∙ ap (λ x. Some x) (ap (λ j. get_or (t.places ++ p ∷ []) j p) is ∙ get_or-append_seam t.places p [] p)))
]

pub added_here : (t : TableState) (there : Spot) (place : Place) (row : Row) (old new : Live) (r : AddsRow t there place row old new)
    → (x : HasRow new (placed (next_number t) place t.places) (next_number t)) × (row_at new (placed (next_number t) place t.places) (next_number t) ≡ row)
added_here t there place row old new r =
    let n = next_number t in
    let x : HasRow new (placed n place t.places) n =
    record { place = place; placed = placed_here t place r.tables.numbers; item = r.item; is_live = r.adds.here; row = row; is_row = r.is_row } in
    (x, row_is new (placed n place t.places) n x)

pub added_others : (t : TableState) (there : Spot) (place : Place) (row : Row) (old new : Live) (r : AddsRow t there place row old new)
    → (m : ℕ) → IsListed t m → (x : HasRow new (placed (next_number t) place t.places) m) × (row_at new (placed (next_number t) place t.places) m ≡ row_at old t.places m)
added_others t there place row old new r m l =
    let n = next_number t in let a = r.tables.numbers in
    let far : m ≢ n = λ e. (let z = next_absent t a in let k : 1 ≤ times n t.recency = subst (λ x. 1 ≤ times x t.recency) e l in omega (arith, z, k)) in
    let hm = r.tables.rows m l in
    let not_there : hm.place ≢ place = λ e. some_none hm.is_live (ap old e ∙ r.adds.absent) in
    row_elsewhere old new t.places (placed n place t.places) m hm hm.place (placed_others t.places n m place far (listed_below t a m l) ∙ hm.placed) (r.adds.others hm.place not_there ∙ hm.is_live)

-- the index of the rows that there were is one of the new places too
pub added_index : (t : TableState) (there : Spot) (place : Place) (row : Row) (old new : Live) (r : AddsRow t there place row old new)
    → IsKeyed (key_at new (placed (next_number t) place t.places)) t.index
added_index t there place row old new r =
    let others = added_others t there place row old new r in
    r.tables.numbers.moves (key_at old t.places) (key_at new (placed (next_number t) place t.places)) (λ m h. ap (λ (x : Row). x.key) (others m (has_listed t m r.tables.numbers h)).1) r.tables.index

pub added_spot : (t : TableState) (there : Spot) (place : Place) (row : Row) (old new : Live) (r : AddsRow t there place row old new)
    → IsSpotFor (key_at new (placed (next_number t) place t.places) (next_number t)) there
added_spot t there place row old new r = subst (λ key. IsSpotFor key there) (sym (ap (λ (x : Row). x.key) (added_here t there place row old new r).1)) r.at

-- and each of its rows has a key of its own there
pub added_lazy : (t : TableState) (there : Spot) (place : Place) (row : Row) (old new : Live) (r : AddsRow t there place row old new)
    → IsLazyOf (HasRow new (placed (next_number t) place t.places)) (key_at new (placed (next_number t) place t.places)) t.index
added_lazy t there place row old new r =
    let others = added_others t there place row old new r in
    let listed : (m : ℕ) → Has t.index m → IsListed t m = λ m h. has_listed t m r.tables.numbers h in
    let key_old : (m : ℕ) → IsListed t m → key_at new (placed (next_number t) place t.places) m ≡ key_at old t.places m = λ m l. ap (λ (x : Row). x.key) (others m l).1 in
    record {
      readable = λ m h. (others m (listed m h)).0;
      apart = λ m n h k e. r.tables.apart m n (listed m h) (listed n k) (sym (key_old m (listed m h)) ∙ (e ∙ key_old n (listed n k)));
      keyed = added_index t there place row old new r;
    }

-- none has the new row's key
pub added_absent : (t : TableState) (there : Spot) (place : Place) (row : Row) (old new : Live) (r : AddsRow t there place row old new)
    → (m : ℕ) → Has t.index m → key_at new (placed (next_number t) place t.places) m ≢ key_at new (placed (next_number t) place t.places) (next_number t)
added_absent t there place row old new r m h e =
    let l = has_listed t m r.tables.numbers h in
    r.absent m l (sym (ap (λ (x : Row). x.key) (added_others t there place row old new r m l).1) ∙ (e ∙ ap (λ (x : Row). x.key) (added_here t there place row old new r).1))

pub tables_added : (t u : TableState) (there : Spot) (place : Place) (row : Row) (old new : Live) → AddsRow t there place row old new → AreNumbers u
    → u.recency ≡ next_number t ∷ t.recency → u.places ≡ placed (next_number t) place t.places
    → IsKeyed (key_at new (placed (next_number t) place t.places)) u.index → AreTablesOf u new
tables_added t u there place row old new r numbers recency places index =
    let n = next_number t in let all = placed n place t.places in let are = r.tables in
    let here = added_here t there place row old new r in
    let other = added_others t there place row old new r in
    let was : (m : ℕ) → IsListed u m → (m ≡ n) ⊎ IsListed t m = λ m l. elim (cases_eq m n) [
      | inl e ↦ inl e
      | inr far ↦ inr (listed_apart m n t.recency (λ e. far (sym e)) (subst (λ ns. 1 ≤ times m ns) recency l))
    ] in
    let key_new : key_at new all n ≡ row.key = ap (λ (x : Row). x.key) here.1 in
    let key_old : (m : ℕ) → IsListed t m → key_at new all m ≡ key_at old t.places m = λ m l. ap (λ (x : Row). x.key) (other m l).1 in
    let apart : (x y : ℕ) → IsListed u x → IsListed u y → key_at new all x ≡ key_at new all y → x ≡ y = λ x y lx ly e. elim (was x lx) [
      | inl ex ↦ elim (was y ly) [
        | inl ey ↦ ex ∙ sym ey
        | inr oy ↦ absurd (r.absent y oy (sym (key_old y oy) ∙ (sym e ∙ (ap (λ m. key_at new all m) ex ∙ key_new))))
      ]
      | inr ox ↦ elim (was y ly) [
        | inl ey ↦ absurd (r.absent x ox (sym (key_old x ox) ∙ (e ∙ (ap (λ m. key_at new all m) ey ∙ key_new))))
        | inr oy ↦ are.apart x y ox oy (sym (key_old x ox) ∙ (e ∙ key_old y oy))
      ]
    ] in
    let rows : (m : ℕ) → IsListed u m → HasRow new all m = λ m l. elim (was m l) [ inl e ↦ subst (λ x. HasRow new all x) (sym e) here.0 | inr o ↦ (other m o).0 ] in
    record {
      numbers = numbers;
      rows = λ m l. subst (λ (ps : List Place). HasRow new ps m) (sym places) (rows m l);
      every = λ q i e. elim (place_cases q place) [
        | inl s ↦ (n, subst (λ ns. 1 ≤ times n ns) (sym recency) (listed_here n t.recency), ap (λ (ps : List Place). slice_get ps n) places ∙ (placed_here t place are.numbers ∙ ap (λ x. Some x) (sym s)))
        | inr far ↦
            (let old_one = are.every q i (sym (r.adds.others q far) ∙ e) in let m = old_one.0 in let l = old_one.1 in (
              m,
              subst (λ ns. 1 ≤ times m ns) (sym recency) (listed_later m n t.recency l),
              ap (λ (ps : List Place). slice_get ps m) places ∙ (placed_others t.places n m place (λ x. (let z = next_absent t are.numbers in let k : 1 ≤ times n t.recency = subst (λ y. 1 ≤ times y t.recency) x l in omega (arith, z, k))) (listed_below t are.numbers m l) ∙ old_one.2),
            ))
      ];
      apart = subst (λ (ps : List Place). (x y : ℕ) → IsListed u x → IsListed u y → key_at new ps x ≡ key_at new ps y → x ≡ y) (sym places) apart;
      index = subst (λ (ps : List Place). IsKeyed (key_at new ps) u.index) (sym places) index;
    }

-- ---- the index

-- the index is one of the rows' keys
pub lazy_of : (t : TableState) (live : Live) → AreTablesOf t live → IsLazyOf (HasRow live t.places) (key_at live t.places) t.index
lazy_of t live are = record {
  readable = λ n h. are.rows n (has_listed t n are.numbers h);
  apart = λ m n h k e. are.apart m n (has_listed t m are.numbers h) (has_listed t n are.numbers k) e;
  keyed = are.index;
}
