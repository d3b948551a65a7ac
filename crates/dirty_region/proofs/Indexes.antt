-- The index of a ring: what it finds, and how it goes on where puts come and go.
use Rattle.std.proofs.Common.{◌≡◌, ◌≢◌, ◌↔◌, ℕ, zero, suc, Bool, true, false, ◌+◌, ◌-◌, ◌<◌, ◌≤◌, inl, inr, List, ◌∷◌, length, refl, sym, ap, subst, ◌∙◌, arith}
use Rattle.std.proofs.lemmas.Bool.{cases_eq}
use Rattle.rows.specs.Key.{Key}
use Rattle.rows.specs.Row.{Row}
use Rattle.common_lemmas.specs.Lists.{times}
use Rattle.common_lemmas.proofs.Counts.{all_numbered, times_here, times_there, times_cons_le, length_below}
use Rattle.common_lemmas.proofs.Orders.{trichotomy}
use Rattle.key_lemmas.proofs.Orders.{all_each}
use Rattle.key_lemmas.proofs.Moved.{moved_order}
use Rattle.key_table.specs.declared.entries.RowAt.{RowAt}
use Rattle.key_table.specs.Hash.{tag_of}
use Rattle.key_table.specs.Table.{AreSame}
use Rattle.dirty_region.specs.inside.PutRows.{PutRows, Has, IsKeyed, IsPutIndexOf, rows_in}
use Rattle.regions.specs.Segments.{RegionState}
use Rattle.regions.specs.Stores.{Live}
use Rattle.regions.specs.declared.place.Place.{Place}
use Rattle.dirty_region.specs.inside.Rings.{RingState, IsRing, IsRingOf, HasSomePut, slot, position, pushed, popped, key_at}
use Rattle.dirty_region.specs.inside.Indexed.{IsKeyedBy, IsNewest, IsIndexOf, IsIndexBefore, IsIndexBehind, IsIndexBut, nth_key}
use Rattle.dirty_region.proofs.PutRows.{all_of, has_kept, has_stray}
use Rattle.dirty_region.proofs.Slots.{slot_inside, slot_apart, slot_next}
use Rattle.dirty_region.proofs.Rings.{IsPushed, IsPopped}

-- an index of some keys is one of the same keys wherever these are read
pub moves : (index : PutRows) (before after : ℕ → Key) → ((n : ℕ) → Has index n → after n ≡ before n) → IsKeyed before index → IsKeyed after index
moves index before after same is = record {
  tagged = λ k d inside. is.tagged k d inside ∙ ap tag_of (sym (all_numbered (λ (s : RowAt). s.row) (λ n. after n ≡ before n) index.table.kept (λ n h. same n (has_kept index n h)) k d inside));
  ordered = moved_order before after index.strays
      (all_each (λ n. after n ≡ before n) index.strays.rows (all_of (λ n. after n ≡ before n) index.strays.rows (λ n h. same n (has_stray index n h)))) is.ordered;
}

-- each row stands once
abbrev Once : PutRows → Type 0
Once index = (n : ℕ) → times n (rows_in index) ≤ 1

pub once_none : (index : PutRows) → ((n : ℕ) → ¬ (Has index n)) → Once index
once_none index none n = elim (cases_eq (times n (rows_in index)) 0) [ inl e ↦ omega (arith, e) | inr some ↦ absurd (none n (omega (arith, some))) ]

once_less : (index after : PutRows) (n : ℕ) → Once index → AreSame (rows_in index) (n ∷ rows_in after) → Once after
once_less index after n once same m = let o = once m in let s = same m in let less = times_cons_le m n (rows_in after) in omega (arith, o, s, less)

-- what holds of the keys where they stand holds of the same region and places
pub at_keys : (P : RegionState → List Place → Type 0) (r s : RegionState) (places others : List Place) → s ≡ r → others ≡ places → P r places → P s others
at_keys P r s places others same also p = subst (λ (x : RegionState). P x others) (sym same) (subst (λ (x : List Place). P r x) (sym also) p)

-- ---- the newest put of a key is one

pub newest_apart : (r : RingState) (live : Live) (j k : ℕ) → j < r.count → k < r.count → IsNewest r live j → IsNewest r live k → nth_key r live j ≡ nth_key r live k → j ≡ k
newest_apart r live j k jl kl nj nk same = elim (trichotomy j k) [
  | inl e ↦ e
  | inr h ↦ elim h [ inl below ↦ absurd (nj k below kl (sym same)) | inr above ↦ absurd (nk j above jl same) ]
]

-- an index of newest puts is one of their keys, and no two of them have one
pub put_index_of : (r : RingState) (live : Live) (to : ℕ) (index : PutRows) → IsRingOf r live → to ≤ r.count → IsKeyedBy r live 0 to (IsNewest r live) index → IsPutIndexOf (HasSomePut live r.places) (key_at live r.places) index
put_index_of r live to index of within by = record {
  readable = λ n h. (let w = by.has.only n h in let kl = w.2 in
      subst (λ m. HasSomePut live r.places m) (sym w.3) (position r w.0, of.puts w.0 (omega (arith, kl, within))));
  keyed = by.keyed;
}

apart : (r : RingState) (live : Live) (index : PutRows) → IsIndexOf r live index → (m n : ℕ) → Has index m → Has index n → key_at live r.places m ≡ key_at live r.places n → m ≡ n
apart r live index by m n hm hn e =
    let v = by.has.only m hm in let w = by.has.only n hn in
    let nj = (by.has.those v.0 v.1 v.2).0 (subst (Has index) v.3 hm) in
    let nk = (by.has.those w.0 w.1 w.2).0 (subst (Has index) w.3 hn) in
    let same : nth_key r live v.0 ≡ nth_key r live w.0 = sym (ap (key_at live r.places) v.3) ∙ (e ∙ ap (key_at live r.places) w.3) in
    v.3 ∙ (ap (slot r) (newest_apart r live v.0 w.0 v.2 w.2 nj nk same) ∙ sym w.3)

-- ---- the same puts elsewhere

pub keyed_elsewhere : (r u : RingState) (live after : Live) (from to : ℕ) (P Q : ℕ → Type 0) (index : PutRows) → u.room ≡ r.room → ((k : ℕ) → slot u k ≡ slot r k)
    → ((k : ℕ) → k < to → nth_key u after k ≡ nth_key r live k) → ((k : ℕ) → from ≤ k → k < to → P k ↔ Q k)
    → IsKeyedBy r live from to P index → IsKeyedBy u after from to Q index
keyed_elsewhere r u live after from to P Q index room slots keys holds by = record {
  room = by.room ∙ sym room;
  keyed = moves index (key_at live r.places) (key_at after u.places) (λ n h. (let w = by.has.only n h in
      ap (key_at after u.places) (w.3 ∙ sym (slots w.0)) ∙ (keys w.0 w.2 ∙ sym (ap (key_at live r.places) w.3)))) by.keyed;
  once = by.once;
  has = record {
    only = λ n h. (let w = by.has.only n h in (w.0, w.1, w.2, w.3 ∙ sym (slots w.0)));
    those = λ k low high. (
      λ h. (holds k low high).0 ((by.has.those k low high).0 (subst (Has index) (slots k) h)),
      λ q. subst (Has index) (sym (slots k)) ((by.has.those k low high).1 ((holds k low high).1 q)),
    );
  };
}

pub newest_same : (r u : RingState) (live after : Live) (k : ℕ) → u.count ≡ r.count → k < r.count → ((j : ℕ) → j < r.count → nth_key u after j ≡ nth_key r live j) → IsNewest r live k ↔ IsNewest u after k
newest_same r u live after k count low keys = (
  λ n j above below. (let bl : j < r.count = omega (arith, below, count) in λ e. n j above bl (sym (keys j bl) ∙ (e ∙ keys k low))),
  λ n j above below e. n j above (omega (arith, below, count)) (keys j below ∙ (e ∙ sym (keys k low))),
)

-- a row of an index is below its room
pub row_inside : (r : RingState) (live : Live) (index : PutRows) → IsRingOf r live → IsIndexOf r live index → (n : ℕ) → Has index n → n < index.room
row_inside r live index of by n h =
    let few = of.numbers.few in let w = by.has.only n h in let kl = w.2 in let is = w.3 in let room = by.room in
    let s = slot_inside r w.0 of.numbers (omega (arith, kl, few)) in omega (arith, s, is, room)

-- ---- a row goes

pub has_less : (index after : PutRows) (n m : ℕ) → Once index → AreSame (rows_in index) (n ∷ rows_in after) → Has after m → Has index m × (m ≢ n)
has_less index after n m once same h = elim (cases_eq m n) [
  | inl e ↦
      absurd (let there : 1 ≤ times n (rows_in after) = subst (λ x. 1 ≤ times x (rows_in after)) e h in
      let s = same n in let o = once n in let t = times_here n (rows_in after) in omega (arith, there, s, o, t))
  | inr far ↦ (let s = same m in let t = times_there m n (rows_in after) (λ e. far (sym e)) in (omega (arith, s, t, h), far))
]

pub has_more : (index after : PutRows) (n m : ℕ) → AreSame (rows_in index) (n ∷ rows_in after) → Has index m → m ≢ n → Has after m
has_more index after n m same h far = (let s = same m in let t = times_there m n (rows_in after) (λ e. far (sym e)) in omega (arith, s, t, h))

-- ---- the newest put of a key leaves

pub forgotten : (r : RingState) (live : Live) (key : Key) (n : ℕ) (index after : PutRows) → IsRingOf r live → IsIndexOf r live index → Has index n → key_at live r.places n ≡ key
    → AreSame (rows_in index) (n ∷ rows_in after) → after.room ≡ index.room → IsKeyed (key_at live r.places) after → IsIndexBut key r live after
forgotten r live key n index after of by has is same room keyed = record {
  room = room ∙ by.room;
  keyed = keyed;
  once = once_less index after n by.once same;
  has = record {
    only = λ m h. by.has.only m (has_less index after n m by.once same h).0;
    those = λ k low high. (
      λ h.
          (let l = has_less index after n (slot r k) by.once same h in
          ((by.has.those k low high).0 l.0, λ e. l.1 (apart r live index by (slot r k) n l.0 has (e ∙ sym is)))),
      λ p. has_more index after n (slot r k) same ((by.has.those k low high).1 p.0) (λ e. p.1 (ap (key_at live r.places) e ∙ is)),
    );
  };
}

pub none_forgotten : (r : RingState) (live : Live) (key : Key) (index : PutRows) → IsIndexOf r live index → ((n : ℕ) → Has index n → key_at live r.places n ≢ key) → IsIndexBut key r live index
none_forgotten r live key index by none = record {
  room = by.room;
  keyed = by.keyed;
  once = by.once;
  has = record {
    only = by.has.only;
    those = λ k low high. (λ h. ((by.has.those k low high).0 h, none (slot r k) h), λ p. (by.has.those k low high).1 p.0);
  };
}

-- ---- the oldest put leaves, if it is there

behind_from : (r : RingState) (index : PutRows) (n : ℕ) → n ≢ slot r 0 → ((k : ℕ) × (0 ≤ k) × (k < r.count) × (n ≡ slot r k)) → (k : ℕ) × (1 ≤ k) × (k < r.count) × (n ≡ slot r k)
behind_from r index n far (zero, low, high, is) = absurd (far is)
behind_from r index n far (suc k, low, high, is) = (suc k, omega arith, high, is)

oldest_forgotten : (r : RingState) (live : Live) (index after : PutRows) → IsRingOf r live → 1 ≤ r.count → IsIndexOf r live index
    → AreSame (rows_in index) (slot r 0 ∷ rows_in after) → after.room ≡ index.room → IsKeyed (key_at live r.places) after → IsIndexBehind r live after
oldest_forgotten r live index after of some by same room keyed = record {
  room = room ∙ by.room;
  keyed = keyed;
  once = once_less index after (slot r 0) by.once same;
  has = record {
    only = λ m h. (let l = has_less index after (slot r 0) m by.once same h in behind_from r index m l.1 (by.has.only m l.0));
    those = λ k low high.
        (let few = of.numbers.few in
        let far : slot r k ≢ slot r 0 = λ e. absurd (let same = slot_apart r k 0 of.numbers (omega (arith, high, few)) (omega (arith, some, few)) e in omega (arith, same, low)) in (
          λ h. (by.has.those k (omega arith) high).0 (has_less index after (slot r 0) (slot r k) by.once same h).0,
          λ p. has_more index after (slot r 0) (slot r k) same ((by.has.those k (omega arith) high).1 p) far,
        ));
  };
}

pub oldest_absent : (r : RingState) (live : Live) (index : PutRows) → IsIndexOf r live index → ¬ (Has index (slot r 0)) → IsIndexBehind r live index
oldest_absent r live index by none = record {
  room = by.room;
  keyed = by.keyed;
  once = by.once;
  has = record {
    only = λ m h. behind_from r index m (λ e. none (subst (Has index) e h)) (by.has.only m h);
    those = λ k low high. by.has.those k (omega arith) high;
  };
}

pub oldest_out : (was : Bool) (r : RingState) (live : Live) (index after : PutRows) → IsRingOf r live → 1 ≤ r.count → IsIndexOf r live index → after.room ≡ index.room → IsKeyed (key_at live r.places) after
    → (was ≡ true → AreSame (rows_in index) (slot r 0 ∷ rows_in after)) → (was ≡ false → times (slot r 0) (rows_in index) ≡ 0) → (was ≡ false → after ≡ index) → IsIndexBehind r live after
oldest_out true r live index after of some by room keyed less absent unchanged = oldest_forgotten r live index after of some by (less refl) room keyed
oldest_out false r live index after of some by room keyed less absent unchanged =
    subst (IsIndexBehind r live) (sym (unchanged refl)) (oldest_absent r live index by (λ h. (let none = absent refl in omega (arith, none, h))))

-- ---- the oldest put is gone

pub index_popped : (r : RingState) (live after : Live) (index : PutRows) → IsRing r → IsPopped r live after → IsIndexBehind r live index → IsIndexOf (popped r) after index
index_popped r live after index is gone by =
    let few = is.few in
    let slots : (k : ℕ) → suc k < r.count → slot (popped r) k ≡ slot r (suc k) = λ k low. slot_next r k is (omega (arith, low, few)) in
    let keys : (k : ℕ) → suc k < r.count → nth_key (popped r) after k ≡ nth_key r live (suc k) = λ k low. ap (λ (x : Row). x.key) (gone.behind k low) in
    let shift : (n : ℕ) → ((k : ℕ) × (1 ≤ k) × (k < r.count) × (n ≡ slot r k)) → (k : ℕ) × (suc k < r.count) × (n ≡ slot r (suc k)) = shifted in
    record {
      room = by.room;
      keyed = moves index (key_at live r.places) (key_at after r.places) (λ n h. (let w = shift n (by.has.only n h) in
          ap (key_at after r.places) (w.2 ∙ sym (slots w.0 w.1)) ∙ (keys w.0 w.1 ∙ sym (ap (key_at live r.places) w.2)))) by.keyed;
      once = by.once;
      has = record {
        only = λ n h. (let w = shift n (by.has.only n h) in let l = w.1 in (w.0, omega arith, omega (arith, l), w.2 ∙ sym (slots w.0 w.1)));
        those = λ k low high.
            (let next : suc k < r.count = omega (arith, high) in let those = by.has.those (suc k) (omega arith) next in (
              λ h. (let n = those.0 (subst (Has index) (slots k next) h) in
                  λ j above below. (let bl : suc j < r.count = omega (arith, below) in λ e. n (suc j) (omega (arith, above)) bl (sym (keys j bl) ∙ (e ∙ keys k next)))),
              λ n. subst (Has index) (sym (slots k next)) (those.1 (λ j above below. later k next n j above below)),
            ));
      };
    }
  where
    shifted : (n : ℕ) → ((k : ℕ) × (1 ≤ k) × (k < r.count) × (n ≡ slot r k)) → (k : ℕ) × (suc k < r.count) × (n ≡ slot r (suc k))
    shifted n (zero, low, high, is) = absurd (omega (arith, low))
    shifted n (suc k, low, high, is) = (k, high, is)

    later : (k : ℕ) → suc k < r.count → IsNewest (popped r) after k → (j : ℕ) → suc k < j → j < r.count → nth_key r live j ≢ nth_key r live (suc k)
    later k next n zero above below e = absurd (omega (arith, above))
    later k next n (suc j) above below e =
        n j (omega (arith, above)) (omega (arith, below)) (ap (λ (x : Row). x.key) (gone.behind j below) ∙ (e ∙ sym (ap (λ (x : Row). x.key) (gone.behind k next))))

-- ---- the newest put enters

newest_absent : (r : RingState) (live : Live) (index : PutRows) → IsRingOf r live → 1 ≤ r.count → IsIndexBefore r live index → times (slot r (r.count - 1)) (rows_in index) ≡ 0
newest_absent r live index of some by =
    let n = slot r (r.count - 1) in
    elim (cases_eq (times n (rows_in index)) 0) [
      | inl none ↦ none
      | inr there ↦
          (let few = of.numbers.few in let w = by.has.only n (omega (arith, there)) in let kl = w.2 in
          absurd (let same = slot_apart r w.0 (r.count - 1) of.numbers (omega (arith, kl, few)) (omega (arith, some, few)) (sym w.3) in omega (arith, same, kl)))
    ]

-- the rows are below the room, each once, and the new one is none of them
pub entry_fits : (r : RingState) (live : Live) (index : PutRows) → IsRingOf r live → 1 ≤ r.count → IsIndexBefore r live index → length (rows_in index) < index.room
entry_fits r live index of some by =
    let few = of.numbers.few in let n = slot r (r.count - 1) in
    let n_low : n < r.room = slot_inside r (r.count - 1) of.numbers (omega (arith, some, few)) in
    let none : times n (rows_in index) ≡ 0 = newest_absent r live index of some by in
    let all = length_below r.room (n ∷ rows_in index)
    (λ m. elim (cases_eq m n) [
      | inl e ↦ subst (λ x. times x (n ∷ rows_in index) ≤ 1) (sym e) (let t = times_here n (rows_in index) in omega (arith, t, none))
      | inr other ↦ (let t = times_there m n (rows_in index) (λ e. other (sym e)) in let o = by.once m in omega (arith, t, o))
    ])
    (λ m high. elim (cases_eq m n) [
      | inl e ↦ absurd (omega (arith, e, high, n_low))
      | inr other ↦ (let t = times_there m n (rows_in index) (λ e. other (sym e)) in let z = absent m (λ h. above m high h) in omega (arith, t, z))
    ])
    in
    let room = by.room in omega (arith, all, room)
  where
    absent : (m : ℕ) → ¬ (Has index m) → times m (rows_in index) ≡ 0
    absent m none = elim (cases_eq (times m (rows_in index)) 0) [ inl e ↦ e | inr some ↦ absurd (none (omega (arith, some))) ]

    above : (m : ℕ) → r.room ≤ m → Has index m → ⊥
    above m high h = (let few = of.numbers.few in let w = by.has.only m h in let kl = w.2 in let s = slot_inside r w.0 of.numbers (omega (arith, kl, few)) in let is = w.3 in omega (arith, s, is, high))

pub entry_new : (r : RingState) (live : Live) (index : PutRows) → 1 ≤ r.count → IsIndexBefore r live index → (n : ℕ) → Has index n → key_at live r.places n ≢ nth_key r live (r.count - 1)
entry_new r live index some by n h e =
    let w = by.has.only n h in let kl = w.2 in
    let newest = (by.has.those w.0 w.1 w.2).0 (subst (Has index) w.3 h) in
    newest (r.count - 1) kl (omega (arith, some)) (sym e ∙ ap (key_at live r.places) w.3)

pub entered : (r : RingState) (live : Live) (index after : PutRows) → IsRingOf r live → 1 ≤ r.count → IsIndexBefore r live index → AreSame (slot r (r.count - 1) ∷ rows_in index) (rows_in after)
    → after.room ≡ index.room → IsKeyed (key_at live r.places) after → IsIndexOf r live after
entered r live index after of some by same room keyed =
    let n = slot r (r.count - 1) in let few = of.numbers.few in
    let far : (k : ℕ) → k < r.count - 1 → slot r k ≢ n = λ k low e. absurd (let i = slot_apart r k (r.count - 1) of.numbers (omega (arith, low, few)) (omega (arith, some, few)) e in omega (arith, i, low)) in
    record {
      room = room ∙ by.room;
      keyed = keyed;
      once = λ m. elim (cases_eq m n) [
        | inl e ↦
            subst (λ x. times x (rows_in after) ≤ 1) (sym e)
            (let s = same n in let t = times_here n (rows_in index) in let none : times n (rows_in index) ≡ 0 = newest_absent r live index of some by in omega (arith, s, t, none))
        | inr other ↦ (let s = same m in let t = times_there m n (rows_in index) (λ e. other (sym e)) in let o = by.once m in omega (arith, s, t, o))
      ];
      has = record {
        only = λ m h. elim (cases_eq m n) [
          | inl e ↦ (r.count - 1, omega arith, omega (arith, some), e)
          | inr other ↦
              (let s = same m in let t = times_there m n (rows_in index) (λ e. other (sym e)) in let w = by.has.only m (omega (arith, s, t, h)) in let l = w.2 in
              (w.0, w.1, omega (arith, l), w.3))
        ];
        those = λ k low high. elim (cases_eq k (r.count - 1)) [
          | inl e ↦
              subst (λ x. Has after (slot r x) ↔ IsNewest r live x) (sym e) (
                λ h j above below. absurd (omega (arith, above, below)),
                λ p. (let s = same n in let t = times_here n (rows_in index) in omega (arith, s, t)),
              )
          | inr other ↦
              (let kl : k < r.count - 1 = omega (arith, high, other) in let those = by.has.those k low kl in
              let s = same (slot r k) in let t = times_there (slot r k) n (rows_in index) (λ e. far k kl (sym e)) in (
                λ h. those.0 (omega (arith, s, t, h)),
                λ p. (let h = those.1 p in omega (arith, s, t, h)),
              ))
        ];
      };
    }

-- a put more stands, and the index has no put of its key
pub index_pushed : (r : RingState) (live after : Live) (p : Place) (put : Row) (key : Key) (index : PutRows) → IsPushed r p put live after → put.key ≡ key
    → IsIndexBut key r live index → IsIndexBefore (pushed p r) after index
index_pushed r live after p put key index is same by =
    let keys : (k : ℕ) → k < r.count → nth_key (pushed p r) after k ≡ nth_key r live k = λ k low. ap (λ (x : Row). x.key) (is.old k low) in
    let last : nth_key (pushed p r) after r.count ≡ key = ap (λ (x : Row). x.key) is.new ∙ same in
    let count : r.count ≡ r.count + 1 - 1 = omega arith in
    subst (λ n. IsKeyedBy (pushed p r) after 0 n (IsNewest (pushed p r) after) index) count
    (keyed_elsewhere r (pushed p r) live after 0 r.count (λ k. IsNewest r live k × (nth_key r live k ≢ key)) (IsNewest (pushed p r) after) index refl (λ k. refl) keys
    (λ k low high. (
      λ n j above below. elim (cases_eq j r.count) [
        | inl e ↦ λ is_key. n.1 (sym (keys k high) ∙ (sym is_key ∙ (ap (nth_key (pushed p r) after) e ∙ last)))
        | inr other ↦ (let bl : j < r.count = omega (arith, below, other) in λ is_key. n.0 j above bl (sym (keys j bl) ∙ (is_key ∙ keys k high)))
      ],
      λ n. (
        λ j above below is_key. n j above (omega (arith, below)) (keys j below ∙ (is_key ∙ sym (keys k high))),
        λ is_key. n r.count high (omega arith) (last ∙ (sym is_key ∙ sym (keys k high))),
      ),
    )) by)
