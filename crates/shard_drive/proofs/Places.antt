-- One place of a row is written.
use Rattle.std.proofs.Common.{◌≡◌, ◌≢◌, ℕ, ◌<◌, List, length, inl, inr, get_or, set, get_or-set_same, get_or-set_other, sym, subst}
use Rattle.std.proofs.lemmas.Bool.{cases_eq}
use Rattle.std.proofs.lemmas.List.{get_or_default}
use Rattle.shard_drive.specs.Drives.{AtEach}

-- what a place holds is read with any default
AtEach-set : {A : Type 0} (R S : ℕ → A → A → Type 0) (old xs : List A) (k : ℕ) (any y : A) → k < length xs
    → AtEach R old xs → ((j : ℕ) (a b : A) → j ≢ k → R j a b → S j a b) → ((a : A) → R k a (get_or xs k any) → S k a y) → AtEach S old (set xs k y)
AtEach-set {A} R S old xs k any y within each other here j d below = elim (cases_eq j k) [
  | inl same ↦
      let is : get_or xs j d ≡ get_or xs k any = subst (λ (i : ℕ). get_or xs i d ≡ get_or xs k any) (sym same) (get_or_default xs k d any within) in
      let wrote : y ≡ get_or (set xs k y) j d = subst (λ (i : ℕ). y ≡ get_or (set xs k y) i d) (sym same) (sym (get_or-set_same xs k y d within)) in
      let before : R k (get_or old j d) (get_or xs k any) =
      subst (λ (i : ℕ). R i (get_or old j d) (get_or xs k any)) same (subst (λ (b : A). R j (get_or old j d) b) is (each j d below)) in
      subst (λ (i : ℕ). S i (get_or old j d) (get_or (set xs k y) j d)) (sym same) (subst (λ (b : A). S k (get_or old j d) b) wrote (here (get_or old j d) before))
  | inr ne ↦ subst (λ (b : A). S j (get_or old j d) b) (sym (get_or-set_other xs k j y d ne)) (other j (get_or old j d) (get_or xs j d) ne (each j d below))
]

-- only place k was written
abbrev pub Writes : {A : Type 0} → ℕ → List A → List A → Type 0
Writes {A} k old new = (d : A) → new ≡ set old k (get_or new k d)

pub AtEach-next : {A : Type 0} (R S : ℕ → A → A → Type 0) (old xs ys : List A) (k : ℕ) → k < length xs → Writes k xs ys
    → AtEach R old xs → ((j : ℕ) (a b : A) → j ≢ k → R j a b → S j a b) → ((a d : A) → R k a (get_or xs k d) → S k a (get_or ys k d)) → AtEach S old ys
AtEach-next {A} R S old xs ys k within writes each other here j d below =
    subst (λ (zs : List A). S j (get_or old j d) (get_or zs j d)) (sym (writes d))
    (AtEach-set R S old xs k d (get_or ys k d) within each other (λ a before. here a d before) j d below)
