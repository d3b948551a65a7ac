-- A shard that meets each one of a mesh is one more of it.
use Rattle.std.proofs.Common.{◌≡◌, ℕ, zero, suc, ◌+◌, ◌<◌, ◌≤◌, ◌⊎◌, inl, inr, List, [], ◌∷◌, ◌++◌, length, take, drop, get_or, set, Some, slice_get, refl, sym, ap, subst, ◌∙◌, arith, length-append}
use Rattle.std.specs.Prelude.{Vec}
use Rattle.std.specs.declared.alloc.Global.{Global}
use Rattle.std.proofs.Math.Seq.{take-append_seam}
use Rattle.std.proofs.lemmas.Option.{slice_get_within, same_Some}
use Rattle.shard_rings.specs.Lanes.{ArePair}
use Rattle.shard_rings.specs.Links.{LinkState, IsUnused, end_of}
use Rattle.shard_rings.specs.Mesh.{Ends, IsEnd, IsMesh}
use Rattle.shard_rings.specs.inside.Meeting.{Meets, AllMeet}

-- an element of a list with one more at its end is one of the list, or that one
before_or_last : {X : Type 0} (xs : List X) (x y : X) (k : ℕ) → slice_get (xs ++ x ∷ []) k ≡ Some y → (slice_get xs k ≡ Some y) ⊎ ((k ≡ length xs) × (x ≡ y))
before_or_last [] x y zero e = inr (refl, same_Some x y e)
before_or_last [] x y (suc k) e = absurd (let w = slice_get_within (x ∷ []) (suc k) y e in omega (arith, w))
before_or_last (z ∷ xs) x y zero e = inl e
before_or_last (z ∷ xs) x y (suc k) e = elim (before_or_last xs x y k e) [ inl l ↦ inl l | inr r ↦ inr (ap suc r.0, r.1) ]

meet_length : (olds news : Ends) (others : List LinkState) → AllMeet olds news others → (length news ≡ length olds) × (length others ≡ length olds)
meet_length [] [] [] h = (refl, refl)
meet_length (old ∷ olds) (new ∷ news) (other ∷ others) h = let r = meet_length olds news others h.1 in (ap suc r.0, ap suc r.1)
meet_length [] [] (other ∷ others) h = absurd h
meet_length [] (new ∷ news) others h = absurd h
meet_length (old ∷ olds) [] others h = absurd h
meet_length (old ∷ olds) (new ∷ news) [] h = absurd h

-- what the shard a was, and the other end of its new one
record MetAt (olds : Ends) (others : List LinkState) (a : ℕ) (new : Vec LinkState Global) : Type 0 where
  old : Vec LinkState Global
  other : LinkState
  old_at : slice_get olds a ≡ Some old
  other_at : slice_get others a ≡ Some other
  meets : Meets old new other

met_at : (olds news : Ends) (others : List LinkState) (a : ℕ) (new : Vec LinkState Global) → AllMeet olds news others → slice_get news a ≡ Some new → MetAt olds others a new
met_at [] [] [] a v h e = absurd (let w = slice_get_within [] a v e in omega (arith, w))
met_at (old ∷ olds) (new ∷ news) (other ∷ others) zero v h e =
    record { old = old; other = other; old_at = refl; other_at = refl; meets = subst (λ u. Meets old u other) (same_Some new v e) h.0 }
met_at (old ∷ olds) (new ∷ news) (other ∷ others) (suc a) v h e =
    let m = met_at olds news others a v h.1 e in
    record { old = m.old; other = m.other; old_at = m.old_at; other_at = m.other_at; meets = m.meets }
met_at [] [] (other ∷ others) a v h e = absurd h
met_at [] (new ∷ news) others a v h e = absurd h
met_at (old ∷ olds) [] others a v h e = absurd h
met_at (old ∷ olds) (new ∷ news) [] a v h e = absurd h

others_unused : (olds news : Ends) (others : List LinkState) (k : ℕ) (x : LinkState) → AllMeet olds news others → slice_get others k ≡ Some x → IsUnused x
others_unused [] [] [] k x h e = absurd (let w = slice_get_within [] k x e in omega (arith, w))
others_unused (old ∷ olds) (new ∷ news) (other ∷ others) zero x h e = subst (λ y. IsUnused y) (same_Some other x e) h.0.other_unused
others_unused (old ∷ olds) (new ∷ news) (other ∷ others) (suc k) x h e = others_unused olds news others k x h.1 e
others_unused [] [] (other ∷ others) k x h e = absurd h
others_unused [] (new ∷ news) others k x h e = absurd h
others_unused (old ∷ olds) [] others k x h e = absurd h
others_unused (old ∷ olds) (new ∷ news) [] k x h e = absurd h

-- an end of a shard that met the new one: it had it before, or it is the other end of the new shard's
record OldEnd (olds : Ends) (a k : ℕ) (x : LinkState) : Type 0 where
  had : IsEnd olds a k x
  below : suc k < length olds

record NewEnd (olds : Ends) (others : List LinkState) (a k : ℕ) (x : LinkState) : Type 0 where
  other : LinkState
  other_at : slice_get others a ≡ Some other
  last : suc k ≡ length olds
  pair : ArePair (end_of x) (end_of other)
  unused : IsUnused x

which_end : (olds news : Ends) (others : List LinkState) (a k : ℕ) (new : Vec LinkState Global) (x : LinkState) → IsMesh olds → AllMeet olds news others
    → slice_get news a ≡ Some new → slice_get new.items k ≡ Some x → OldEnd olds a k x ⊎ NewEnd olds others a k x
which_end olds news others a k new x h all at is =
    let m = met_at olds news others a new all at in
    let len = h.lengths a m.old m.old_at in
    elim (before_or_last m.old.items m.meets.end x k (subst (λ xs. slice_get xs k ≡ Some x) m.meets.more is)) [
      | inl l ↦ inl (let w = slice_get_within m.old.items k x l in record {
        had = record { own = m.old; own_at = m.old_at; end_at = l };
        below = omega (arith, w, len);
      })
      | inr r ↦ inr (let e = r.0 in record {
        other = m.other;
        other_at = m.other_at;
        last = omega (arith, e, len);
        pair = subst (λ y. ArePair (end_of y) (end_of m.other)) r.1 m.meets.pair;
        unused = subst (λ y. IsUnused y) r.1 m.meets.unused;
      })
    ]

more_lengths : (olds news : Ends) (own : Vec LinkState Global) → IsMesh olds → AllMeet olds news own.items
    → (a : ℕ) (row : Vec LinkState Global) → slice_get (news ++ own ∷ []) a ≡ Some row → length row.items + 1 ≡ length (news ++ own ∷ [])
more_lengths olds news own h all a row at =
    let lens = meet_length olds news own.items all in
    let l0 = lens.0 in
    let l1 = lens.1 in
    let total = length-append news (own ∷ []) in
    elim (before_or_last news own row a at) [
      | inl l ↦ (
          let m = met_at olds news own.items a row all l in
          let len = h.lengths a m.old m.old_at in
          let more = ap length m.meets.more ∙ length-append m.old.items (m.meets.end ∷ []) in
          omega (arith, l0, total, len, more))
      | inr r ↦ (let same : length own.items ≡ length row.items = ap (λ (v : Vec LinkState Global). length v.items) r.1 in omega (arith, l0, l1, total, same))
    ]

more_unused : (olds news : Ends) (own : Vec LinkState Global) → IsMesh olds → AllMeet olds news own.items
    → (a k : ℕ) (x : LinkState) → IsEnd (news ++ own ∷ []) a k x → IsUnused x
more_unused olds news own h all a k x at =
    elim (before_or_last news own at.own a at.own_at) [
      | inl l ↦ elim (which_end olds news own.items a k at.own x h all l at.end_at) [ inl o ↦ h.unused a k x o.had | inr n ↦ n.unused ]
      | inr r ↦ others_unused olds news own.items k x all (subst (λ (v : Vec LinkState Global). slice_get v.items k ≡ Some x) (sym r.1) at.end_at)
    ]

more_pairs : (olds news : Ends) (own : Vec LinkState Global) → IsMesh olds → AllMeet olds news own.items
    → (a c : ℕ) (x y : LinkState) → a ≤ c → IsEnd (news ++ own ∷ []) a c x → IsEnd (news ++ own ∷ []) (c + 1) a y → ArePair (end_of x) (end_of y)
more_pairs olds news own h all a c x y le here there =
    let lens = meet_length olds news own.items all in
    let l0 = lens.0 in
    elim (before_or_last news own here.own a here.own_at) [
      | inl l ↦ elim (which_end olds news own.items a c here.own x h all l here.end_at) [
        | inl o ↦ elim (before_or_last news own there.own (c + 1) there.own_at) [
          | inl t ↦ elim (which_end olds news own.items (c + 1) a there.own y h all t there.end_at) [
            | inl p ↦ h.pairs a c x y le o.had p.had
            | inr n ↦ absurd (let b = o.below in let e = n.last in omega (arith, le, b, e))
          ]
          | inr r ↦ absurd (let b = o.below in let e = r.0 in omega (arith, b, e, l0))
        ]
        | inr n ↦ elim (before_or_last news own there.own (c + 1) there.own_at) [
          | inl t ↦ absurd (let w = slice_get_within news (c + 1) there.own t in let e = n.last in omega (arith, w, e, l0))
          | inr r ↦ (
              let is : Some y ≡ Some n.other = sym there.end_at ∙ subst (λ (v : Vec LinkState Global). slice_get v.items a ≡ Some n.other) r.1 n.other_at in
              subst (λ z. ArePair (end_of x) (end_of z)) (sym (same_Some y n.other is)) n.pair)
        ]
      ]
      | inr r ↦ absurd (
          let total = length-append news (own ∷ []) in
          let w = slice_get_within (news ++ own ∷ []) (c + 1) there.own there.own_at in
          let e = r.0 in
          omega (arith, le, w, e, total))
    ]

-- and the new shard's ends are the other ones
one_more : (olds news : Ends) (own : Vec LinkState Global) → IsMesh olds → AllMeet olds news own.items → IsMesh (news ++ own ∷ [])
one_more olds news own h all = record {
  lengths = more_lengths olds news own h all;
  pairs = more_pairs olds news own h all;
  unused = more_unused olds news own h all;
}

pub no_shards : IsMesh []
no_shards = record {
  lengths = λ a own e. absurd (let w = slice_get_within [] a own e in omega (arith, w));
  pairs = λ a c x y le e f. absurd (let w = slice_get_within [] a e.own e.own_at in omega (arith, w));
  unused = λ a k x e. absurd (let w = slice_get_within [] a e.own e.own_at in omega (arith, w));
}

-- the first i shards have met, and the others are as they were
abbrev pub MeetTo : ℕ → Ends → Ends → List LinkState → Type 0
MeetTo zero olds news others = (news ≡ olds) × (others ≡ [])
MeetTo (suc i) (old ∷ olds) (new ∷ news) (other ∷ others) = Meets old new other × MeetTo i olds news others
MeetTo (suc i) [] news others = ⊥
MeetTo (suc i) (old ∷ olds) [] others = ⊥
MeetTo (suc i) (old ∷ olds) (new ∷ news) [] = ⊥

meet_suc : (i : ℕ) (olds news : Ends) (others : List LinkState) (new d : Vec LinkState Global) (other : LinkState) → MeetTo i olds news others → i < length news
    → Meets (get_or news i d) new other → MeetTo (suc i) olds (set news i new) (others ++ other ∷ [])
meet_suc zero [] (n ∷ news) others new d other h w m = absurd (let e = ap length h.0 in omega (arith, e))
meet_suc zero olds [] others new d other h w m = absurd (omega (arith, w))
meet_suc zero (old ∷ olds) (n ∷ news) others new d other h w m =
    let first : n ≡ old = ap (λ l. get_or l 0 d) h.0 in
    let same : news ≡ olds = ap (drop 1) h.0 in
    subst (λ l. MeetTo 1 (old ∷ olds) (new ∷ news) (l ++ other ∷ [])) (sym h.1) (subst (λ o. Meets o new other) first m, (same, refl))
meet_suc (suc i) (old ∷ olds) (n ∷ news) (o ∷ others) new d other h w m = (h.0, meet_suc i olds news others new d other h.1 (omega (arith, w)) m)
meet_suc (suc i) [] news others new d other h w m = absurd h
meet_suc (suc i) (old ∷ olds) [] others new d other h w m = absurd h
meet_suc (suc i) (old ∷ olds) (n ∷ news) [] new d other h w m = absurd h

-- one more meets
pub meet_next : (i : ℕ) (olds news : Ends) (others : List LinkState) (new d : Vec LinkState Global) (other : LinkState) → MeetTo i olds news others → i < length news
    → Meets (get_or news i d) new other → MeetTo (i + 1) olds (set news i new) (others ++ other ∷ [])
meet_next i olds news others new d other h w m =
    let e : suc i ≡ i + 1 = omega arith in
    subst (λ j. MeetTo j olds (set news i new) (others ++ other ∷ [])) e (meet_suc i olds news others new d other h w m)

pub all_met : (i : ℕ) (olds news : Ends) (others : List LinkState) → length olds ≤ i → MeetTo i olds news others → AllMeet olds news others
all_met zero [] news others w h = subst (λ l. AllMeet [] l others) (sym h.0) (subst (λ l. AllMeet [] [] l) (sym h.1) tt)
all_met zero (old ∷ olds) news others w h = absurd (omega (arith, w))
all_met (suc i) (old ∷ olds) (new ∷ news) (other ∷ others) w h = (h.0, all_met i olds news others (omega (arith, w)) h.1)
all_met (suc i) [] news others w h = absurd h
all_met (suc i) (old ∷ olds) [] others w h = absurd h
all_met (suc i) (old ∷ olds) (new ∷ news) [] w h = absurd h

-- the list written back, of the length that it had
pub one_more_back : (olds olds' news : Ends) (own : Vec LinkState Global) (n : ℕ) (rest : Ends) → IsMesh olds → olds' ≡ olds → AllMeet olds' news own.items → n ≡ length olds
    → IsMesh (take n (news ++ rest) ++ own ∷ [])
one_more_back olds olds' news own n rest h e all len =
    let met : AllMeet olds news own.items = subst (λ l. AllMeet l news own.items) e all in
    let same : n ≡ length news = len ∙ sym (meet_length olds news own.items met).0 in
    subst (λ l. IsMesh (l ++ own ∷ [])) (sym (ap (λ k. take k (news ++ rest)) same ∙ take-append_seam news rest)) (one_more olds news own h met)
