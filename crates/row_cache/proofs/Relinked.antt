-- What stays where nothing changed but links of rows.
use Rattle.std.proofs.Common.{◌≡◌, ℕ, ◌+◌, ◌%◌, ◌⊎◌, inl, inr, cond, Bool, true, false, List, length, Option, Some, None, refl, sym, ap, subst, ◌∙◌}
use Rattle.std.specs.Prelude.{slice_get, option_map}
use Rattle.std.specs.List.{sum}
use Rattle.rows.specs.Key.{Key}
use Rattle.rows.specs.Row.{Row}
use Rattle.row_bytes.specs.Rows.{HoldsRow, row_bytes, row_in, number_in, without_links}
use Rattle.key_table.specs.Lazy.{IsKeyed}
use Rattle.regions.specs.Segments.{RegionState}
use Rattle.regions.specs.Shapes.{Shape, active_in, active_of, group_count, shape}
use Rattle.regions.specs.Counts.{left, left_of, live_total, live_counts, used_counts}
use Rattle.regions.specs.Contents.{Item, Standing, ChangesAt, if_live, item_if_live, live_at, size_of, standing_at, with_bytes}
use Rattle.regions.specs.Stores.{Live, SameBut, less, without_references}
use Rattle.regions.specs.declared.place.Place.{Place}
use Rattle.row_cache.specs.Links.{bare, content_of}
use Rattle.row_cache.specs.Rows.{AreGrouped, AreRelinked, HasOtherLinks, IsSameRow, Stay, content_at, key_at, row_at}
use Rattle.row_cache.specs.inside.Tables.{AreTablesOf, HoldsARow, IsRowOf, TableState}
use Rattle.place_lemmas.proofs.Places.{place_tells}
use Rattle.row_cache.proofs.States.{some_none, some_same, place_cases}

-- ---- one row

pub same_size : (x y : Item) → IsSameRow x y → size_of y ≡ size_of x
same_size x y s =
    let same : length (row_bytes (number_in x.content) s.is.links (row_in x.content)) ≡ length (row_bytes (number_in x.content) s.was.links (row_in x.content)) = refl in
    ap (λ bytes. length bytes + 8) s.is.bytes ∙ (ap (λ n. n + 8) same ∙ sym (ap (λ bytes. length bytes + 8) s.was.bytes))

abbrev made : Option ℕ → ℕ → List ℕ → Item
made group kind content = record { group = group; kind = kind; content = content }

pub same_bare : (x y : Item) → IsSameRow x y → bare y ≡ bare x
same_bare x y s =
    let zero : without_links (row_bytes (number_in x.content) s.is.links (row_in x.content)) ≡ without_links (row_bytes (number_in x.content) s.was.links (row_in x.content)) = refl in
    let content : without_links y.content ≡ without_links x.content = ap without_links s.is.bytes ∙ (zero ∙ sym (ap without_links s.was.bytes)) in
    ap (λ g. made g y.kind (without_links y.content)) s.group
    ∙ (ap (λ k. made x.group k (without_links y.content)) s.kind ∙ ap (λ (ws : List ℕ). made x.group x.kind ws) content)

pub same_row_of : (x y : Item) (n : ℕ) (row : Row) → IsSameRow x y → IsRowOf x n row → IsRowOf y n row
same_row_of x y n row s is = record {
  kind = s.kind ∙ is.kind;
  holds = subst (λ m. HoldsRow y.content m row) is.number (subst (λ r. HoldsRow y.content (number_in x.content) r) is.read s.is);
  read = s.row ∙ is.read;
  number = s.number ∙ is.number;
  size = same_size x y s ∙ is.size;
}

pub same_row_again : (a b c : Item) → IsSameRow a b → IsSameRow b c → IsSameRow a c
same_row_again a b c p q = record {
  group = q.group ∙ p.group;
  kind = q.kind ∙ p.kind;
  number = q.number ∙ p.number;
  row = q.row ∙ p.row;
  was = p.was;
  is = subst (λ n. HoldsRow c.content n (row_in a.content)) p.number (subst (λ r. HoldsRow c.content (number_in b.content) r) p.row q.is);
}

-- ---- regions

pub relinked_same : (r : RegionState) → AreRelinked r r
relinked_same r = record { objects = λ p. inl refl; used = refl; live = refl; shape = refl }

both_changed : (a b c : Option Standing) → HasOtherLinks a b → HasOtherLinks b c → HasOtherLinks a c
both_changed a b c h k =
    let middle : k.before ≡ h.after = some_same k.was h.is in
    record {
      before = h.before;
      after = k.after;
      was = h.was;
      is = k.is;
      live = k.live ∙ (ap (λ (s : Standing). s.live) middle ∙ h.live);
      same = same_row_again h.before.item h.after.item k.after.item h.same (subst (λ (s : Standing). IsSameRow s.item k.after.item) middle k.same);
    }

changed_again : (a b c : Option Standing) → (b ≡ a) ⊎ HasOtherLinks a b → (c ≡ b) ⊎ HasOtherLinks b c → (c ≡ a) ⊎ HasOtherLinks a c
changed_again a b c (inl e) (inl f) = inl (f ∙ e)
changed_again a b c (inl e) (inr k) = inr (subst (λ o. HasOtherLinks o c) e k)
changed_again a b c (inr h) (inl f) = inr (subst (λ o. HasOtherLinks a o) (sym f) h)
changed_again a b c (inr h) (inr k) = inr (both_changed a b c h k)

pub relinked_again : (r s t : RegionState) → AreRelinked r s → AreRelinked s t → AreRelinked r t
relinked_again r s t a b = record {
  objects = λ p. changed_again (standing_at r p) (standing_at s p) (standing_at t p) (a.objects p) (b.objects p);
  used = b.used ∙ a.used;
  live = b.live ∙ a.live;
  shape = b.shape ∙ a.shape;
}

pub relinked_left : (r s : RegionState) → AreRelinked r s → (g : ℕ) → left s g ≡ left r g
relinked_left r s a g = ap (λ u. left_of u (active_of s g)) a.used ∙ ap (λ (x : Shape). left_of (used_counts r) (active_in x.groups g)) a.shape

pub relinked_total : (r s : RegionState) → AreRelinked r s → live_total s ≡ live_total r
relinked_total r s a = ap (λ ns. sum ns) a.live

-- what stood stands, but for its links
stays_so : (a b : Option Standing) → (b ≡ a) ⊎ HasOtherLinks a b → (item : Item) → option_map (λ (s : Standing). s.item) a ≡ Some item
    → (now : Item) × (option_map (λ (s : Standing). s.item) b ≡ Some now) × ((now ≡ item) ⊎ IsSameRow item now)
stays_so a b (inl e) item is = (item, ap (option_map (λ (s : Standing). s.item)) e ∙ is, inl refl)
stays_so a b (inr h) item is =
    let was : h.before.item ≡ item = some_same (ap (option_map (λ (s : Standing). s.item)) h.was) is in
    (h.after.item, ap (option_map (λ (s : Standing). s.item)) h.is, inr (subst (λ i. IsSameRow i h.after.item) was h.same))

pub relinked_stay : (r s : RegionState) → AreRelinked r s → Stay r s
relinked_stay r s a = λ p item is. stays_so (standing_at r p) (standing_at s p) (a.objects p) item is

item_again : (a b c : Item) → (b ≡ a) ⊎ IsSameRow a b → (c ≡ b) ⊎ IsSameRow b c → (c ≡ a) ⊎ IsSameRow a c
item_again a b c (inl e) (inl f) = inl (f ∙ e)
item_again a b c (inl e) (inr k) = inr (subst (λ i. IsSameRow i c) e k)
item_again a b c (inr h) (inl f) = inr (subst (λ i. IsSameRow a i) (sym f) h)
item_again a b c (inr h) (inr k) = inr (same_row_again a b c h k)

pub stay_again : (r s t : RegionState) → Stay r s → Stay s t → Stay r t
stay_again r s t a b = λ p item is.
    (let x = a p item is in let y = b p x.0 x.1 in (y.0, y.1, item_again item x.0 y.0 x.2 y.2))

-- a row's content is written over
pub relinked_by : (r s : RegionState) (p : Place) (item : Item) (ws : List ℕ) → live_at r p ≡ Some item → ChangesAt p (option_map (with_bytes ws) (standing_at r p)) r s
    → IsSameRow item (record item { content = ws }) → used_counts s ≡ used_counts r → live_counts s ≡ live_counts r → shape s ≡ shape r → AreRelinked r s
relinked_by r s p item ws is change same used live shapes = record {
  objects = λ q. elim (place_cases q p) [
    | inl e ↦ inr (subst (λ x. HasOtherLinks (standing_at r x) (standing_at s x)) (sym e) (written (standing_at r p) (standing_at s p) item ws is change.here same))
    | inr far ↦ inl (change.others q far)
  ];
  used = used;
  live = live;
  shape = shapes;
}
  where
    flag : (b : Bool) (x : Item) (item : Item) → if_live b x ≡ Some item → x ≡ item
    flag false x item e = some_none e refl
    flag true x item e = some_same refl e

    written : (a b : Option Standing) (item : Item) (ws : List ℕ) → item_if_live a ≡ Some item → b ≡ option_map (with_bytes ws) a
        → IsSameRow item (record item { content = ws }) → HasOtherLinks a b
    written None b item ws e c same = some_none e refl
    written (Some x) b item ws e c same =
        let i : x.item ≡ item = flag x.live x.item item e in
        record {
          before = x;
          after = with_bytes ws x;
          was = refl;
          is = c;
          live = refl;
          same = subst (λ (y : Item). IsSameRow y (record y { content = ws })) (sym i) same;
        }

abbrev told : Bool → Item → ℕ → Bool × (Item × ℕ)
told b i n = (b, (i, n))

-- but for the reference fields the region is as it was
pub relinked_same_but : (r s : RegionState) → AreRelinked r s → SameBut bare r s
relinked_same_but r s a = record {
  objects = λ p. bare_at (standing_at r p) (standing_at s p) (a.objects p);
  used = a.used;
  live = a.live;
  shape = a.shape;
}
  where
    one : (x y : Standing) → y.live ≡ x.live → IsSameRow x.item y.item → without_references bare y ≡ without_references bare x
    one x y l s =
        ap (λ b. told b (bare y.item) (size_of y.item)) l
        ∙ (ap (λ i. told x.live i (size_of y.item)) (same_bare x.item y.item s) ∙ ap (λ n. told x.live (bare x.item) n) (same_size x.item y.item s))

    bare_at : (a b : Option Standing) → (b ≡ a) ⊎ HasOtherLinks a b → option_map (without_references bare) b ≡ option_map (without_references bare) a
    bare_at a b (inl e) = ap (option_map (without_references bare)) e
    bare_at a b (inr h) =
        ap (option_map (without_references bare)) h.is
        ∙ (ap (λ t. Some t) (one h.before h.after h.live h.same) ∙ sym (ap (option_map (without_references bare)) h.was))

if_flag : (b : Bool) (x y i : Item) → if_live b x ≡ Some i → (x ≡ i) × (if_live b y ≡ Some y)
if_flag false x y i e = some_none e refl
if_flag true x y i e = (some_same refl e, refl)

-- each row is of the group of which it was
group_still : (a b : Option Standing) → (b ≡ a) ⊎ HasOtherLinks a b → (now : Item) → item_if_live b ≡ Some now
    → (item : Item) × (item_if_live a ≡ Some item) × (now.group ≡ item.group) × (row_in now.content ≡ row_in item.content)
group_still a b (inl e) now is = (now, sym (ap item_if_live e) ∙ is, refl, refl)
group_still a b (inr h) now is =
    let f = if_flag h.before.live h.after.item h.before.item now (sym (ap (λ c. if_live c h.after.item) h.live) ∙ (sym (ap item_if_live h.is) ∙ is)) in (
      h.before.item,
      ap item_if_live h.was ∙ f.1,
      ap (λ (i : Item). i.group) (sym f.0) ∙ h.same.group,
      ap (λ (i : Item). row_in i.content) (sym f.0) ∙ h.same.row,
    )

pub relinked_grouped : (r s : RegionState) → AreRelinked r s → AreGrouped r → AreGrouped s
relinked_grouped r s a all = λ p now is.
    (let x = group_still (standing_at r p) (standing_at s p) (a.objects p) now is in
    x.2 ∙ (all p x.0 x.1 ∙ (ap (λ (row : Row). Some (row.key.table % group_count r)) (sym x.3)
    ∙ ap (λ (shape : Shape). Some ((row_in now.content).key.table % length shape.groups)) (sym a.shape))))

-- ---- live objects

-- the same rows are live, with whatever links
pub record Relives (old new : Live) : Type 0 where
  pub rows : (p : Place) (item : Item) (n : ℕ) (row : Row) → old p ≡ Some item → IsRowOf item n row → (now : Item) × (new p ≡ Some now) × IsRowOf now n row
  pub back : (p : Place) (now : Item) → new p ≡ Some now → (item : Item) × (old p ≡ Some item)
  pub read : (p : Place) → row_in (content_of (new p)) ≡ row_in (content_of (old p))

live_rows : (a b : Option Standing) → (b ≡ a) ⊎ HasOtherLinks a b → (item : Item) (n : ℕ) (row : Row) → item_if_live a ≡ Some item → IsRowOf item n row
    → (now : Item) × (item_if_live b ≡ Some now) × IsRowOf now n row
live_rows a b (inl e) item n row is row_is_ = (item, ap item_if_live e ∙ is, row_is_)
live_rows a b (inr h) item n row is row_is_ =
    let f = if_flag h.before.live h.before.item h.after.item item (sym (ap item_if_live h.was) ∙ is) in (
      h.after.item,
      ap item_if_live h.is ∙ (ap (λ c. if_live c h.after.item) h.live ∙ f.1),
      same_row_of item h.after.item n row (subst (λ i. IsSameRow i h.after.item) f.0 h.same) row_is_,
    )

live_back : (a b : Option Standing) → (b ≡ a) ⊎ HasOtherLinks a b → (now : Item) → item_if_live b ≡ Some now → (item : Item) × (item_if_live a ≡ Some item)
live_back a b (inl e) now is = (now, sym (ap item_if_live e) ∙ is)
live_back a b (inr h) now is =
    let f = if_flag h.before.live h.after.item h.before.item now (sym (ap (λ c. if_live c h.after.item) h.live) ∙ (sym (ap item_if_live h.is) ∙ is)) in
    (h.before.item, ap item_if_live h.was ∙ f.1)

read_flag : (b : Bool) (x y : Item) → row_in y.content ≡ row_in x.content → row_in (content_of (if_live b y)) ≡ row_in (content_of (if_live b x))
read_flag false x y e = refl
read_flag true x y e = e

live_read : (a b : Option Standing) → (b ≡ a) ⊎ HasOtherLinks a b → row_in (content_of (item_if_live b)) ≡ row_in (content_of (item_if_live a))
live_read a b (inl e) = ap (λ o. row_in (content_of (item_if_live o))) e
live_read a b (inr h) =
    ap (λ o. row_in (content_of (item_if_live o))) h.is
    ∙ (ap (λ c. row_in (content_of (if_live c h.after.item))) h.live
    ∙ (read_flag h.before.live h.before.item h.after.item h.same.row ∙ sym (ap (λ o. row_in (content_of (item_if_live o))) h.was)))

pub relinked_lives : (r s : RegionState) → AreRelinked r s → Relives (live_at r) (live_at s)
relinked_lives r s a = record {
  rows = λ p item n row is row_of. live_rows (standing_at r p) (standing_at s p) (a.objects p) item n row is row_of;
  back = λ p now is. live_back (standing_at r p) (standing_at s p) (a.objects p) now is;
  read = λ p. live_read (standing_at r p) (standing_at s p) (a.objects p);
}

pub holds_still : (old new : Live) (p : Place) → Relives old new → HoldsARow (old p) → HoldsARow (new p)
holds_still old new p a h = (let x = a.rows p h.item h.number h.row h.is h.is_row in record { item = x.0; is = x.1; number = h.number; row = h.row; is_row = x.2 })

-- rows are read as before
read_at : (old new : Live) → Relives old new → (o : Option Place) → row_in (content_at new o) ≡ row_in (content_at old o)
read_at old new a None = refl
read_at old new a (Some p) = a.read p

pub same_rows : (old new : Live) (places : List Place) → Relives old new → row_at new places ≡ row_at old places
same_rows old new places a = λ i n. read_at old new a (slice_get places n) i

pub tables_relived : (t : TableState) (old new : Live) → Relives old new → AreTablesOf t old → AreTablesOf t new
tables_relived t old new a are =
    let keys : key_at new t.places ≡ key_at old t.places = ap (λ (f : ℕ → Row). λ (n : ℕ). (f n).key) (same_rows old new t.places a) in
    let key : (n : ℕ) → key_at new t.places n ≡ key_at old t.places n = λ n. ap (λ (f : ℕ → Key). f n) keys in
    record {
      numbers = are.numbers;
      rows = λ n l.
          (let h = are.rows n l in let x = a.rows h.place h.item n h.row h.is_live h.is_row in
          record { place = h.place; placed = h.placed; item = x.0; is_live = x.1; row = h.row; is_row = x.2 });
      every = λ p now e. (let b = a.back p now e in are.every p b.0 b.1);
      apart = λ m n lm ln e. are.apart m n lm ln (sym (key m) ∙ (e ∙ key n));
      index = subst (λ (f : ℕ → Key). IsKeyed f t.index) (sym keys) are.index;
    }

-- ---- one link is written

pub row_kept : (item : Item) (n : ℕ) (row : Row) → IsRowOf item n row → (bytes ws : List ℕ) → bytes ≡ item.content → number_in ws ≡ number_in bytes → row_in ws ≡ row_in bytes
    → ((m : ℕ) (other : Row) → HoldsRow bytes m other → HoldsRow ws m other) → IsSameRow item (record item { content = ws })
row_kept item n row is bytes ws same number read holds =
    let was : HoldsRow item.content (number_in item.content) (row_in item.content) = subst (λ m. HoldsRow item.content m (row_in item.content)) (sym is.number) (subst (λ r. HoldsRow item.content n r) (sym is.read) is.holds) in
    record {
      group = refl;
      kind = refl;
      number = number ∙ ap number_in same;
      row = read ∙ ap row_in same;
      was = was;
      is = holds (number_in item.content) (row_in item.content) (subst (λ b. HoldsRow b (number_in item.content) (row_in item.content)) (sym same) was);
    }

if_written : (b : Bool) (x i : Item) (ws : List ℕ) → if_live b x ≡ Some i → if_live b (record x { content = ws }) ≡ Some (record i { content = ws })
if_written false x i ws e = some_none e refl
if_written true x i ws e = ap (λ (y : Item). Some (record y { content = ws })) (some_same refl e)

pub live_written : (o : Option Standing) (i : Item) (ws : List ℕ) → item_if_live o ≡ Some i → item_if_live (option_map (with_bytes ws) o) ≡ Some (record i { content = ws })
live_written None i ws e = some_none e refl
live_written (Some s) i ws e = if_written s.live s.item i ws e

-- what is read where a content was written
pub read_written : (r s : RegionState) (p : Place) (item : Item) (ws : List ℕ) → live_at r p ≡ Some item → ChangesAt p (option_map (with_bytes ws) (standing_at r p)) r s
    → content_of (live_at s p) ≡ ws
read_written r s p item ws is change = ap content_of (ap item_if_live change.here ∙ live_written (standing_at r p) item ws is)

-- one object less
pub less_relives : (p : Place) (old new : Live) → Relives old new → Relives (less p old) (less p new)
less_relives p old new a = record {
  rows = λ q item n row is is_row. elim (place_tells p q) [
    | inl h ↦ some_none is (ap (λ b. cond b None (old q)) h.0)
    | inr h ↦
        (let x = a.rows q item n row (sym (ap (λ b. cond b None (old q)) h.0) ∙ is) is_row in
        (x.0, ap (λ b. cond b None (new q)) h.0 ∙ x.1, x.2))
  ];
  back = λ q now is. elim (place_tells p q) [
    | inl h ↦ some_none is (ap (λ b. cond b None (new q)) h.0)
    | inr h ↦
        (let x = a.back q now (sym (ap (λ b. cond b None (new q)) h.0) ∙ is) in
        (x.0, ap (λ b. cond b None (old q)) h.0 ∙ x.1))
  ];
  read = λ q. elim (place_tells p q) [
    | inl h ↦ ap (λ b. row_in (content_of (cond b None (new q)))) h.0 ∙ sym (ap (λ b. row_in (content_of (cond b None (old q)))) h.0)
    | inr h ↦ ap (λ b. row_in (content_of (cond b None (new q)))) h.0 ∙ (a.read q ∙ sym (ap (λ b. row_in (content_of (cond b None (old q)))) h.0))
  ];
}
