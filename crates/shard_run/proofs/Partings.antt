-- Shards part from one, and one after the other.
use Rattle.std.proofs.Common.{rules, ◌≡◌, ℕ, ◌+◌, ◌-◌, ◌<◌, ◌≤◌, inl, inr, List, [], ◌∷◌, ◌++◌, length, take, set, get_or, Some, slice_get, refl, sym, ap, subst, ◌∙◌, arith, length-append}
use Rattle.std.specs.Prelude.{Vec}
use Rattle.std.specs.declared.alloc.Global.{Global}
use Rattle.std.proofs.Math.Seq.{take-append_seam, take-length}
use Rattle.std.proofs.lemmas.Bool.{cases_eq}
use Rattle.std.proofs.lemmas.List.{length-take-le, take-take}
use Rattle.std.proofs.lemmas.Option.{slice_get_within, slice_get-get_or, same_Some}
use Rattle.shard_rings.specs.Links.{LinkState}
use Rattle.shard_rings.specs.Mesh.{Ends, IsEnd}
use Rattle.shard_run.specs.Closing.{ArePaired, Exchanged, WereExchanged}
use Rattle.shard_run.specs.inside.Parting.{AllPaired, AllPart, EndsWithPairOf, Parts}
use Rattle.shard_run.proofs.Getting.{get_set_same, get_set_other, get_in_front, get_last, get_taken, something_at}

-- ---- one shard parts from the others, from the last of them on

-- so many ends are left, and the shards from there on have parted
pub record IsParted (olds news : Ends) (others left : List LinkState) : Type 0 where
  pub same_length : length news ≡ length olds
  pub within : length left ≤ length others
  pub first : (a : ℕ) (x : LinkState) → slice_get left a ≡ Some x → slice_get others a ≡ Some x
  pub kept : (a : ℕ) → a < length left → slice_get news a ≡ slice_get olds a
  pub parted : (a : ℕ) (old new : Vec LinkState Global) (other : LinkState) → length left ≤ a → slice_get olds a ≡ Some old → slice_get news a ≡ Some new
      → slice_get others a ≡ Some other → Parts old.items new.items other

pub none_parted : (olds : Ends) (others : List LinkState) → length others ≡ length olds → IsParted olds olds others others
none_parted olds others e = record {
  same_length = refl;
  within = omega arith;
  first = λ a x h. h;
  kept = λ a h. refl;
  parted = λ a old new other le at now there. absurd (let w = slice_get_within others a other there in omega (arith, w, le));
}

-- what the last end's shard was, and that its last end leads to this one
pub next_pair : (olds news : Ends) (others left fewer : List LinkState) (d : Vec LinkState Global) (x : LinkState) → IsParted olds news others left → AllPaired olds others
    → length others ≡ length olds → left ≡ fewer ++ x ∷ [] → (length fewer < length news) × EndsWithPairOf (get_or news (length fewer) d).items x
next_pair olds news others left fewer d x h pairs e pop =
    let len = ap length pop ∙ length-append fewer (x ∷ []) in
    let within = h.within in
    let same = h.same_length in
    let below : length fewer < length news = omega (arith, len, within, same, e) in
    let here : slice_get left (length fewer) ≡ Some x = subst (λ l. slice_get l (length fewer) ≡ Some x) (sym pop) (get_last fewer x) in
    let was : slice_get olds (length fewer) ≡ Some (get_or news (length fewer) d) =
    sym (h.kept (length fewer) (omega (arith, len))) ∙ slice_get-get_or news (length fewer) d below in
    (below, pairs (length fewer) (get_or news (length fewer) d) x was (h.first (length fewer) x here))

pub one_parted : (olds news : Ends) (others left fewer : List LinkState) (new d : Vec LinkState Global) (x : LinkState) → IsParted olds news others left
    → length others ≡ length olds → left ≡ fewer ++ x ∷ [] → Parts (get_or news (length fewer) d).items new.items x → IsParted olds (set news (length fewer) new) others fewer
one_parted olds news others left fewer new d x h e pop parts = record {
  same_length = length-set' ∙ h.same_length;
  within = omega (arith, len, within);
  first = λ a y at. h.first a y (subst (λ l. slice_get l a ≡ Some y) (sym pop) (get_in_front fewer (x ∷ []) a y at));
  kept = λ a lt. get_set_other news (length fewer) a new (λ q. absurd (omega (arith, lt, q))) ∙ h.kept a (omega (arith, lt, len));
  parted = λ a old now other le at there end. elim (cases_eq a (length fewer)) [
    | inl q ↦ here a q old now other at there end
    | inr n ↦ h.parted a old now other (omega (arith, n, le, len)) at (sym (get_set_other news (length fewer) a new n) ∙ there) end
  ];
}
  where
    len : length left ≡ length fewer + 1
    len = ap length pop ∙ length-append fewer (x ∷ [])

    within : length left ≤ length others
    within = h.within

    length-set' : length (set news (length fewer) new) ≡ length news
    length-set' = search rules

    below : length fewer < length news
    below = let same = h.same_length in omega (arith, len, within, same, e)

    was : slice_get olds (length fewer) ≡ Some (get_or news (length fewer) d)
    was = sym (h.kept (length fewer) (omega (arith, len))) ∙ slice_get-get_or news (length fewer) d below

    last : slice_get others (length fewer) ≡ Some x
    last = h.first (length fewer) x (subst (λ l. slice_get l (length fewer) ≡ Some x) (sym pop) (get_last fewer x))

    here : (a : ℕ) → a ≡ length fewer → (old now : Vec LinkState Global) (other : LinkState) → slice_get olds a ≡ Some old
        → slice_get (set news (length fewer) new) a ≡ Some now → slice_get others a ≡ Some other → Parts old.items now.items other
    here a q old now other at there end =
        let olds_same : get_or news (length fewer) d ≡ old = same_Some _ _ (sym was ∙ subst (λ k. slice_get olds k ≡ Some old) q at) in
        let news_same : new ≡ now = same_Some _ _ (sym (get_set_same news (length fewer) new below) ∙ subst (λ k. slice_get (set news (length fewer) new) k ≡ Some now) q there) in
        let others_same : x ≡ other = same_Some _ _ (sym last ∙ subst (λ k. slice_get others k ≡ Some other) q end) in
        subst (λ (o : Vec LinkState Global). Parts o.items now.items other) olds_same
        (subst (λ (o : Vec LinkState Global). Parts (get_or news (length fewer) d).items o.items other) news_same
        (subst (λ o. Parts (get_or news (length fewer) d).items new.items o) others_same parts))

pub all_parted : (olds news : Ends) (others left : List LinkState) → IsParted olds news others left → length left ≡ 0 → AllPart olds news others
all_parted olds news others left h e = λ a old new other at there end. h.parted a old new other (omega (arith, e)) at there end

-- ---- one shard after the other, from the last one on

-- the first shards are left, each with the first of its ends, and the pairs with the other shards were ended
pub record IsClosedTo (all now : Ends) : Type 0 where
  pub within : length now ≤ length all
  pub fronts : (a : ℕ) (row : Vec LinkState Global) → slice_get now a ≡ Some row
      → (whole : Vec LinkState Global) × (slice_get all a ≡ Some whole) × (row.items ≡ take (length now - 1) whole.items)
  pub closed : (a c : ℕ) (x y : LinkState) → a ≤ c → length now ≤ c + 1 → IsEnd all a c x → IsEnd all (c + 1) a y → Exchanged x y

pub none_closed : (all : Ends) → ArePaired all → IsClosedTo all all
none_closed all h = record {
  within = omega arith;
  fronts = λ a row at. (row, at, (let e = h.lengths a row at in let n : length all - 1 ≡ length row.items = omega (arith, e) in subst (λ k. row.items ≡ take k row.items) (sym n) (sym (take-length row.items))));
  closed = λ a c x y le past here there. absurd (let w = slice_get_within all (c + 1) there.own there.own_at in omega (arith, w, past));
}

-- the last of those that are left, and the ones before it
module _ (all now rest : Ends) (own : Vec LinkState Global) (h : IsClosedTo all now) (p : ArePaired all) (pop : now ≡ rest ++ own ∷ []) where
  len : length now ≡ length rest + 1
  len = ap length pop ∙ length-append rest (own ∷ [])

  -- the ends of a shard that is left
  record IsFront (a : ℕ) (row : Vec LinkState Global) : Type 0 where
    whole : Vec LinkState Global
    whole_at : slice_get all a ≡ Some whole
    whole_length : length whole.items + 1 ≡ length all
    front : row.items ≡ take (length rest) whole.items
    front_length : length row.items ≡ length rest

  front_at : (a : ℕ) (row : Vec LinkState Global) → slice_get now a ≡ Some row → IsFront a row
  front_at a row at =
      let f = h.fronts a row at in
      let n : length now - 1 ≡ length rest = omega (arith, len) in
      let front : row.items ≡ take (length rest) f.0.items = subst (λ k. row.items ≡ take k f.0.items) n f.2 in
      let total = p.lengths a f.0 f.1 in
      let within = h.within in
      record {
        whole = f.0;
        whole_at = f.1;
        whole_length = total;
        front = front;
        front_length = ap length front ∙ length-take-le (length rest) f.0.items (omega (arith, total, within, len));
      }

  front_of_rest : (a : ℕ) (row : Vec LinkState Global) → slice_get rest a ≡ Some row → IsFront a row
  front_of_rest a row at = front_at a row (subst (λ l. slice_get l a ≡ Some row) (sym pop) (get_in_front rest (own ∷ []) a row at))

  front_of_last : IsFront (length rest) own
  front_of_last = front_at (length rest) own (subst (λ l. slice_get l (length rest) ≡ Some own) (sym pop) (get_last rest own))

  -- an end of the front is one of the whole
  end_of_front : (a : ℕ) (row : Vec LinkState Global) (k : ℕ) (x : LinkState) → IsFront a row → slice_get row.items k ≡ Some x → IsEnd all a k x
  end_of_front a row k x f at =
      let w = slice_get_within row.items k x at in
      let fl = f.front_length in
      record {
        own = f.whole;
        own_at = f.whole_at;
        end_at = sym (get_taken f.whole.items (length rest) k (omega (arith, w, fl))) ∙ subst (λ l. slice_get l k ≡ Some x) f.front at;
      }

  -- and the other way round
  front_end : (a : ℕ) (row : Vec LinkState Global) (k : ℕ) (x : LinkState) → IsFront a row → k < length rest → IsEnd all a k x → slice_get row.items k ≡ Some x
  front_end a row k x f lt e =
      let same : e.own ≡ f.whole = same_Some _ _ (sym e.own_at ∙ f.whole_at) in
      let at : slice_get f.whole.items k ≡ Some x = subst (λ (v : Vec LinkState Global). slice_get v.items k ≡ Some x) same e.end_at in
      subst (λ l. slice_get l k ≡ Some x) (sym f.front) (get_taken f.whole.items (length rest) k lt ∙ at)

  pub last_has_one_each : length own.items ≡ length rest
  last_has_one_each = front_of_last.front_length

  pub last_is_paired : AllPaired rest own.items
  last_is_paired a shard other at there =
      let f = front_of_rest a shard at in
      let fl = f.front_length in
      let w = slice_get_within rest a shard at in
      record {
        some = omega (arith, fl, w);
        pair = λ end e.
            let k : length shard.items - 1 ≡ length rest - 1 = omega (arith, fl) in
            let up : length rest ≡ (length rest - 1) + 1 = omega (arith, w) in
            p.pairs a (length rest - 1) end other (omega (arith, w))
            (end_of_front a shard (length rest - 1) end f (subst (λ j. slice_get shard.items j ≡ Some end) k e))
            (subst (λ n. IsEnd all n a other) up (end_of_front (length rest) own a other front_of_last there));
      }

  module _ (news : Ends) (same : length news ≡ length rest) (parts : AllPart rest news own.items) where
    -- what a shard was that has parted
    record WasFront (a : ℕ) (row : Vec LinkState Global) : Type 0 where
      old : Vec LinkState Global
      old_at : slice_get rest a ≡ Some old
      other : LinkState
      other_at : slice_get own.items a ≡ Some other
      parts_here : Parts old.items row.items other

    was_front : (a : ℕ) (row : Vec LinkState Global) → slice_get news a ≡ Some row → WasFront a row
    was_front a row at =
        let w = slice_get_within news a row at in
        let one = last_has_one_each in
        let o = something_at rest a (omega (arith, w, same)) in
        let e = something_at own.items a (omega (arith, w, same, one)) in
        record { old = o.0; old_at = o.1; other = e.0; other_at = e.1; parts_here = parts a o.0 row e.0 o.1 at e.1 }

    next_front : (a : ℕ) (row : Vec LinkState Global) → slice_get news a ≡ Some row
        → (whole : Vec LinkState Global) × (slice_get all a ≡ Some whole) × (row.items ≡ take (length news - 1) whole.items)
    next_front a row at =
        let was = was_front a row at in
        let f = front_of_rest a was.old was.old_at in
        let fl = f.front_length in
        let one : length was.old.items ≡ length row.items + 1 = ap length was.parts_here.fewer ∙ length-append row.items (was.parts_here.end ∷ []) in
        let n : length news - 1 ≡ length row.items = omega (arith, one, fl, same) in
        let le : length row.items ≤ length rest = omega (arith, one, fl) in
        let cut : take (length row.items) f.whole.items ≡ row.items =
        sym (take-take (length row.items) (length rest) f.whole.items le)
        ∙ (ap (λ l. take (length row.items) l) (sym f.front ∙ was.parts_here.fewer) ∙ take-append_seam row.items (was.parts_here.end ∷ [])) in
        (f.whole, f.whole_at, subst (λ k. row.items ≡ take k f.whole.items) (sym n) (sym cut))

    next_closed : (a c : ℕ) (x y : LinkState) → a ≤ c → c + 1 ≡ length rest → IsEnd all a c x → IsEnd all (c + 1) a y → Exchanged x y
    next_closed a c x y le e here there =
        let row = something_at news a (omega (arith, le, e, same)) in
        let was = was_front a row.0 row.1 in
        let f = front_of_rest a was.old was.old_at in
        let fl = f.front_length in
        let x_at : slice_get was.old.items c ≡ Some x = front_end a was.old c x f (omega (arith, e)) here in
        let y_at : slice_get own.items a ≡ Some y = front_end (length rest) own a y front_of_last (omega (arith, le, e)) (subst (λ n. IsEnd all n a y) e there) in
        let one : length was.old.items ≡ length row.0.items + 1 = ap length was.parts_here.fewer ∙ length-append row.0.items (was.parts_here.end ∷ []) in
        let k : c ≡ length row.0.items = omega (arith, one, fl, e) in
        let last : slice_get was.old.items c ≡ Some was.parts_here.end =
        subst (λ l. slice_get l c ≡ Some was.parts_here.end) (sym was.parts_here.fewer)
        (subst (λ j. slice_get (row.0.items ++ was.parts_here.end ∷ []) j ≡ Some was.parts_here.end) (sym k) (get_last row.0.items was.parts_here.end)) in
        subst (λ z. Exchanged z y) (same_Some _ _ (sym last ∙ x_at))
        (subst (λ z. Exchanged was.parts_here.end z) (same_Some _ _ (sym was.other_at ∙ y_at)) was.parts_here.exchanged)

    pub one_closed : IsClosedTo all news
    one_closed = record {
      within = (let within = h.within in omega (arith, within, len, same));
      fronts = next_front;
      closed = λ a c x y le past here there. elim (cases_eq (c + 1) (length rest)) [
        | inl e ↦ next_closed a c x y le e here there
        | inr n ↦ h.closed a c x y le (omega (arith, n, past, same, len)) here there
      ];
    }

-- the shards written back, of the number that they had
pub one_closed_back : (all now rest : Ends) (own : Vec LinkState Global) (rest' news behind : Ends) (m : ℕ) → IsClosedTo all now → ArePaired all → now ≡ rest ++ own ∷ []
    → rest' ≡ rest → AllPart rest' news own.items → length news ≡ length rest' → m ≡ length rest → IsClosedTo all (take m (news ++ behind))
one_closed_back all now rest own rest' news behind m h p pop e parts same len =
    let parts_here : AllPart rest news own.items = subst (λ l. AllPart l news own.items) e parts in
    let count : length news ≡ length rest = same ∙ ap length e in
    subst (λ l. IsClosedTo all l) (sym (ap (λ k. take k (news ++ behind)) (len ∙ sym count) ∙ take-append_seam news behind)) (one_closed all now rest own h p pop news count parts_here)

pub all_closed : (all now : Ends) → IsClosedTo all now → length now ≡ 0 → WereExchanged all
all_closed all now h e = λ a c x y le here there. h.closed a c x y le (omega (arith, e)) here there
