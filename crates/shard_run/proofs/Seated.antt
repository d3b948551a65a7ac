-- Lists with the seats of their owners, one more and one less.
use Rattle.std.proofs.Common.{◌≡◌, ℕ, ◌+◌, inl, inr, List, [], ◌∷◌, ◌++◌, length, Some, slice_get, refl, sym, ap, subst, ◌∙◌, arith, length-append}
use Rattle.std.proofs.lemmas.Option.{slice_get_within}
use Rattle.foreign_list.specs.Lists.{OwnedList}
use Rattle.foreign_list.specs.OwnerSeats.{OwnerState, IsAtRest}
use Rattle.shard_run.specs.Opening.{AreAtRest}
use Rattle.shard_run.proofs.Getting.{before_or_last, get_in_front, get_last}

pub none_there : AreAtRest 0 [] []
none_there = record {
  lists = record { count = refl; owners = λ s home at. absurd (let w = slice_get_within [] s home at in omega (arith, w)) };
  one_each = refl;
  at_rest = λ s home seat at there. absurd (let w = slice_get_within [] s home at in omega (arith, w));
}

module _ (homes : List OwnedList) (seats : List OwnerState) (home : OwnedList) (seat : OwnerState) where
  pub one_more : AreAtRest (length homes) homes seats → home.owner ≡ length homes → IsAtRest home seat
      → AreAtRest (length (homes ++ home ∷ [])) (homes ++ home ∷ []) (seats ++ seat ∷ [])
  one_more all owner rest = record {
    lists = record {
      count = refl;
      owners = λ s other at. elim (before_or_last homes home other s at) [
        | inl was ↦ all.lists.owners s other was
        | inr last ↦ ap (λ (h : OwnedList). h.owner) (sym last.1) ∙ owner ∙ sym last.0
      ];
    };
    one_each = length-append seats (seat ∷ []) ∙ ap (λ k. k + 1) all.one_each ∙ sym (length-append homes (home ∷ []));
    at_rest = λ s other its at there. elim (before_or_last homes home other s at) [
      | inl was ↦ elim (before_or_last seats seat its s there) [
        | inl before ↦ all.at_rest s other its was before
        | inr end ↦ absurd (let w = slice_get_within homes s other was in let e = end.0 in let count = all.one_each in omega (arith, w, e, count))
      ]
      | inr last ↦ elim (before_or_last seats seat its s there) [
        | inl before ↦ absurd (let w = slice_get_within seats s its before in let e = last.0 in let count = all.one_each in omega (arith, w, e, count))
        | inr end ↦ subst (λ h. IsAtRest h its) last.1 (subst (IsAtRest home) end.1 rest)
      ]
    ];
  }

  pub one_less : (n : ℕ) → AreAtRest n (homes ++ home ∷ []) (seats ++ seat ∷ []) → IsAtRest home seat × AreAtRest (length homes) homes seats
  one_less n all =
      let lists = all.lists.count in
      let count = all.one_each in
      let more_homes = length-append homes (home ∷ []) in
      let more_seats = length-append seats (seat ∷ []) in
      let same : length seats ≡ length homes = omega (arith, lists, count, more_homes, more_seats) in (
        all.at_rest (length homes) home seat (get_last homes home) (subst (λ k. slice_get (seats ++ seat ∷ []) k ≡ Some seat) same (get_last seats seat)),
        record {
          lists = record { count = refl; owners = λ s other at. all.lists.owners s other (get_in_front homes (home ∷ []) s other at) };
          one_each = same;
          at_rest = λ s other its at there. all.at_rest s other its (get_in_front homes (home ∷ []) s other at) (get_in_front seats (seat ∷ []) s its there);
        },
      )
