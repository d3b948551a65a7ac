-- Objects that carry their names stand for a store, before and after a move.
use Rattle.std.proofs.Common.{◌≡◌, ◌≢◌, ◌≤◌, length, List, inl, inr, ℕ, zero, suc, get_or, replicate, Bool, true, false, cond, refl, sym, ap, ◌∙◌, subst}
use Rattle.std.specs.Prelude.{Option, None, Some, IsSome, option_map}
use Rattle.std.proofs.lemmas.Bool.{cases_eq}
use Rattle.byteorder.specs.Endian.{little_number}
use Rattle.regions.specs.Segments.{RegionState, SegmentState}
use Rattle.regions.specs.Contents.{Item, Standing, item_if_live, if_live, standing_in, standing_at, live_at, with_bytes, ChangesAt}
use Rattle.regions.specs.Stores.{Live, StandsFor, found, store_of, less, renamed}
use Rattle.regions.specs.declared.place.Place.{Place}
use Rattle.rows_tests.specs.Names.{Lives, AreNamed, name_in}
use Rattle.rows_tests.proofs.Live.{told-apart}

pub one-some : {X : Type 0} (o : Option X) (x y : X) → o ≡ Some x → o ≡ Some y → x ≡ y
one-some o x y e f = (let both : Some x ≡ Some y = sym e ∙ f in cc)

pub less-there : (p q : Place) (live : Live) → p ≡ q → less p live q ≡ None
less-there p q live e = elim (told-apart p q) [ inl here ↦ ap (λ b. cond b None (live q)) here.1 | inr far ↦ absurd (far.0 e) ]

pub less-away : (p q : Place) (live : Live) → p ≢ q → less p live q ≡ live q
less-away p q live far = elim (told-apart p q) [ inl here ↦ absurd (far here.0) | inr away ↦ ap (λ b. cond b None (live q)) away.1 ]

-- what is live after one is left out was live, and is not that one
pub less-live : (p q : Place) (live : Live) (i : Item) → less p live q ≡ Some i → (p ≢ q) × (live q ≡ Some i)
less-live p q live i e =
    let far : p ≢ q = λ h. absurd (let clash : None ≡ Some i = sym (less-there p q live h) ∙ e in cc) in
    (far, sym (less-away p q live far) ∙ e)

-- the content of a live object is what is read of it
pub live-content : (s : Option Standing) (i : Item) (xs : List ℕ) → item_if_live s ≡ Some i → option_map (λ t. t.item.content) s ≡ Some xs → i.content ≡ xs
live-content None i xs live e = absurd (let clash : None ≡ Some i = live in cc)
live-content (Some s) i xs live e = sym (ap (λ j. j.content) (item-is s.live s.item i live)) ∙ (let both : Some s.item.content ≡ Some xs = e in cc) where
  item-is : (b : Bool) (j k : Item) → if_live b j ≡ Some k → j ≡ k
  item-is true j k h = (let both : Some j ≡ Some k = h in cc)
  item-is false j k h = absurd (let clash : None ≡ Some k = h in cc)

module _ (places : ℕ → Option Place) (live : Live) (h : AreNamed places live) where
  placed-at : (n : ℕ) (i : Item) (p : Option Place) → found (λ j. j) live p ≡ Some i → (q : Place) × (p ≡ Some q) × (option_map (λ j. j) (live q) ≡ Some i)
  placed-at n i None e = absurd (let clash : None ≡ Some i = e in cc)
  placed-at n i (Some p) e = (p, refl, e)

  pub stands-named : StandsFor (λ j. j) (store_of (λ j. j) places live) places live
  stands-named = record {
    placed = λ n i e. placed-at n i (places n) e;
    known = λ n p e. subst (λ o. IsSome (found (λ j. j) live o)) (sym e) (subst (λ o. IsSome (option_map (λ (j : Item). j) o)) (sym (h.lives n p e).is) refl);
    apart = λ m n p e f. sym (h.lives m p e).name ∙ ap name_in (one-some (live p) _ _ (h.lives m p e).is (h.lives n p f).is) ∙ (h.lives n p f).name;
    every = λ p i e. (name_in i, h.found p i e, ap (found (λ j. j) live) (h.found p i e) ∙ ap (option_map (λ j. j)) e);
  }

module _ (old new : ℕ → Option Place) (live : Live) (from to : Place) (i : Item) (apart : from ≢ to) (at-from : live from ≡ Some i) (at-to : live to ≡ Some i) (fits : AreNamed old (less to live)) where
  pub was-found : old (name_in i) ≡ Some from
  was-found = fits.found from i (less-away to from live (λ e. apart (sym e)) ∙ at-from)

  pub was-long : 8 ≤ length i.content
  was-long =
      let l = fits.lives (name_in i) from was-found in
      subst (λ (j : Item). 8 ≤ length j.content) (one-some (live from) l.item i (less-live to from live l.item l.is).1 at-from) l.long

  module _ (changed : new (name_in i) ≡ Some to) (others : (n : ℕ) → n ≢ name_in i → new n ≡ old n) where
    -- only the one that moved is found there
    not-from : (n : ℕ) (p : Place) → n ≢ name_in i → old n ≡ Some p → from ≢ p
    not-from n p far e here =
        let l = fits.lives n p e in
        far (sym l.name ∙ ap name_in (one-some (live p) l.item i (less-live to p live l.item l.is).1 (ap live (sym here) ∙ at-from)))

    renamed-at : (n : ℕ) (p : Option Place) → n ≢ name_in i → old n ≡ p → p ≡ option_map (renamed from to) p
    renamed-at n None far e = refl
    renamed-at n (Some p) far e = elim (told-apart from p) [
      | inl here ↦ absurd (not-from n p far e here.0)
      | inr away ↦ ap (λ b. Some (cond b to p)) (sym away.1)
    ]

    pub names-moved : (n : ℕ) → new n ≡ option_map (renamed from to) (old n)
    names-moved n = elim (cases_eq n (name_in i)) [
      | inl here ↦
          ap new here ∙ changed ∙ sym (ap (λ k. option_map (renamed from to) (old k)) here ∙ ap (option_map (renamed from to)) was-found
          ∙ elim (told-apart from from) [ inl it ↦ ap (λ b. Some (cond b to from)) it.1 | inr far ↦ absurd (far.0 refl) ])
      | inr far ↦ others n far ∙ renamed-at n (old n) far refl
    ]

    found-moved : (p : Place) (j : Item) → less from live p ≡ Some j → new (name_in j) ≡ Some p
    found-moved p j e =
        let l = less-live from p live j e in
        elim (told-apart to p) [
          | inl here ↦ ap (λ k. new (name_in k)) (one-some (live p) j i l.1 (ap live (sym here.0) ∙ at-to)) ∙ changed ∙ ap (λ q. Some q) here.0
          | inr away ↦
              let it = fits.found p j (less-away to p live away.0 ∙ l.1) in
              others (name_in j) (λ g. l.0 (one-some (old (name_in i)) from p was-found (ap old (sym g) ∙ it))) ∙ it
        ]

    lives-moved : (n : ℕ) (p : Place) → new n ≡ Some p → Lives (less from live) p n
    lives-moved n p e = elim (cases_eq n (name_in i)) [
      | inl here ↦
          let there : to ≡ p = one-some (new n) to p (ap new here ∙ changed) e in
          record { item = i; is = less-away from p live (λ g. apart (g ∙ sym there)) ∙ ap live (sym there) ∙ at-to; name = sym here; long = was-long }
      | inr far ↦
          let was : old n ≡ Some p = sym (others n far) ∙ e in let l = fits.lives n p was in
          record { item = l.item; is = less-away from p live (not-from n p far was) ∙ (less-live to p live l.item l.is).1; name = l.name; long = l.long }
    ]

    pub named-moved : AreNamed new (less from live)
    named-moved = record { found = found-moved; lives = lives-moved }

-- ---- one object is added, written or killed
pub found-some : (places : ℕ → Option Place) (live : Live) (n : ℕ) (p : Place) → AreNamed places live → places n ≡ Some p → IsSome (live p)
found-some places live n p h e = subst (λ o. IsSome o) (sym (h.lives n p e).is) refl

-- the object at the place has this content, which begins with the name
pub record IsWritten (old new : RegionState) (p : Place) (n : ℕ) : Type 0 where
  pub lives : Lives (live_at new) p n
  pub others : (q : Place) → p ≢ q → live_at new q ≡ live_at old q

written-item : (s : Option Standing) (ws : List ℕ) → IsSome (item_if_live s) → (i : Item) × (item_if_live (option_map (with_bytes ws) s) ≡ Some i) × (i.content ≡ ws)
written-item None ws h = absurd (let clash : false ≡ true = h in cc)
written-item (Some s) ws h = if-written s.live s.item h where
  if-written : (b : Bool) (i : Item) → IsSome (if_live b i) → (j : Item) × (if_live b (record { group = i.group; kind = i.kind; content = ws }) ≡ Some j) × (j.content ≡ ws)
  if-written true i g = (record { group = i.group; kind = i.kind; content = ws }, refl, refl)
  if-written false i g = absurd (let clash : false ≡ true = g in cc)

pub is-written : (old new : RegionState) (p : Place) (n : ℕ) (ws : List ℕ) → IsSome (live_at old p) → ChangesAt p (option_map (with_bytes ws) (standing_at old p)) old new → little_number 8 ws ≡ n → 8 ≤ length ws
    → IsWritten old new p n
is-written old new p n ws live change name long =
    let w = written-item (standing_at old p) ws live in
    record {
      lives = record {
        item = w.0;
        is = ap item_if_live change.here ∙ w.1;
        name = ap (little_number 8) w.2 ∙ name;
        long = subst (λ xs. 8 ≤ length xs) (sym w.2) long;
      };
      others = λ q far. ap item_if_live (change.others q (λ e. far (sym e)));
    }

pub named-added : (places then : ℕ → Option Place) (old placed new : RegionState) (p : Place) (n : ℕ) → AreNamed places (live_at old) → ((q : Place) → p ≢ q → live_at placed q ≡ live_at old q) → live_at old p ≡ None
    → IsWritten placed new p n → places n ≡ None → then n ≡ Some p → ((m : ℕ) → m ≢ n → then m ≡ places m) → AreNamed then (live_at new)
named-added places then old placed new p n h away unused w vacant there others = record {
  found = λ q j e. elim (told-apart p q) [
    | inl here ↦
        let same : j ≡ w.lives.item = one-some (live_at new p) j w.lives.item (ap (live_at new) here.0 ∙ e) w.lives.is in
        ap (λ k. then (name_in k)) same ∙ ap then w.lives.name ∙ there ∙ ap (λ r. Some r) here.0
    | inr far ↦
        let it = h.found q j (sym (w.others q far.0 ∙ away q far.0) ∙ e) in
        others (name_in j) (λ g. let clash : None ≡ Some q = sym vacant ∙ ap places (sym g) ∙ it in cc) ∙ it
  ];
  lives = λ m q e. elim (cases_eq m n) [
    | inl here ↦
        let same : p ≡ q = one-some (then n) p q there (ap then (sym here) ∙ e) in
        subst (λ r. Lives (live_at new) r m) same (subst (λ k. Lives (live_at new) p k) (sym here) w.lives)
    | inr far ↦
        let l = h.lives m q (sym (others m far) ∙ e) in
        let apart : p ≢ q = λ g. let clash : None ≡ Some l.item = sym unused ∙ ap (live_at old) g ∙ l.is in cc in
        record { item = l.item; is = w.others q apart ∙ away q apart ∙ l.is; name = l.name; long = l.long }
  ];
}

pub named-written : (places : ℕ → Option Place) (old new : RegionState) (p : Place) (n : ℕ) → AreNamed places (live_at old) → places n ≡ Some p → IsWritten old new p n → AreNamed places (live_at new)
named-written places old new p n h there w = record {
  found = λ q j e. elim (told-apart p q) [
    | inl here ↦
        let same : j ≡ w.lives.item = one-some (live_at new p) j w.lives.item (ap (live_at new) here.0 ∙ e) w.lives.is in
        ap (λ k. places (name_in k)) same ∙ ap places w.lives.name ∙ there ∙ ap (λ r. Some r) here.0
    | inr far ↦ h.found q j (sym (w.others q far.0) ∙ e)
  ];
  lives = λ m q e.
      let l = h.lives m q e in
      elim (told-apart p q) [
        | inl here ↦
            let k = h.lives n p there in
            let same : n ≡ m = sym k.name ∙ ap name_in (one-some (live_at old p) k.item l.item k.is (ap (live_at old) here.0 ∙ l.is)) ∙ l.name in
            subst (λ r. Lives (live_at new) r m) here.0 (subst (λ i. Lives (live_at new) p i) same w.lives)
        | inr far ↦ record { item = l.item; is = w.others q far.0 ∙ l.is; name = l.name; long = l.long }
      ];
}

pub named-killed : (places then : ℕ → Option Place) (old new : Live) (p : Place) (n : ℕ) → AreNamed places old → less p old ≡ new → places n ≡ Some p → then n ≡ None → ((m : ℕ) → m ≢ n → then m ≡ places m)
    → AreNamed then new
named-killed places then old new p n h less-is there gone others = subst (AreNamed then) less-is (record {
  found = λ q j e.
      let l = less-live p q old j e in let it = h.found q j l.1 in
      others (name_in j) (λ g. l.0 (one-some (places n) p q there (ap places (sym g) ∙ it))) ∙ it;
  lives = λ m q e.
      let far : m ≢ n = λ g. let clash : None ≡ Some q = sym gone ∙ ap then (sym g) ∙ e in cc in
      let l = h.lives m q (sym (others m far) ∙ e) in let k = h.lives n p there in
      let apart : p ≢ q = λ g. far (sym l.name ∙ ap name_in (one-some (old q) l.item k.item l.is (ap old (sym g) ∙ k.is)) ∙ k.name) in
      record { item = l.item; is = less-away p q old apart ∙ l.is; name = l.name; long = l.long };
})

-- where no place is found and nothing is live
pub named-none : (places : ℕ → Option Place) (live : Live) → ((n : ℕ) → places n ≡ None) → ((p : Place) → live p ≡ None) → AreNamed places live
named-none places live none dead = record {
  found = λ p i e. absurd (let clash : None ≡ Some i = sym (dead p) ∙ e in cc);
  lives = λ n p e. absurd (let clash : None ≡ Some p = sym (none n) ∙ e in cc);
}

no-slot : (n k : ℕ) → get_or (replicate n (let none : Option SegmentState = None in none)) k None ≡ None
no-slot zero k = refl
no-slot (suc n) zero = refl
no-slot (suc n) (suc k) = no-slot n k

-- in a region that holds no segment nothing stands
pub none-stands : (r : RegionState) (n : ℕ) (p : Place) → r.segments ≡ replicate n None → standing_at r p ≡ None
none-stands r n p e = ap (λ segs. standing_in (get_or segs p.segment None) p.at) e ∙ ap (λ s. standing_in s p.at) (no-slot n p.segment)
