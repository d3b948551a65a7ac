-- A store of which a table had a guard for a while.
use Rattle.std.proofs.Common.{◌≡◌, ◌≢◌, ℕ, ◌+◌, ◌≤◌, ◌%◌, inl, inr, sym, ap, ◌∙◌, subst, arith}
use Rattle.std.proofs.lemmas.Bool.{cases_order}
use Rattle.regions.specs.Shapes.{guards_of}
use Rattle.shard_store.specs.Stores.{IsUnguarded, SameGuards, StoreState, group_for}

-- the table's group is guarded, in a store with as many groups
pub guarded-then : (table : ℕ) (a b : StoreState) → b.regions ≡ a.regions → guards_of b.region (group_for a table) ≡ guards_of a.region (group_for a table) + 1
    → 1 ≤ guards_of b.region (group_for b table)
guarded-then table a b regions risen =
    let same = ap (λ n. table % n) regions in
    let some : 1 ≤ guards_of b.region (group_for a table) = omega (arith, risen) in subst (λ g. 1 ≤ guards_of b.region g) (sym same) some

-- one guard more on the table's group, and then one less: of four stores in turn
module _ (table : ℕ) (a b c d : StoreState) (regions : c.regions ≡ a.regions)
    (risen : guards_of b.region (group_for a table) ≡ guards_of a.region (group_for a table) + 1)
    (others : (g : ℕ) → g ≢ group_for a table → guards_of b.region g ≡ guards_of a.region g) (same : SameGuards b.region c.region)
    (fallen : guards_of d.region (group_for c table) + 1 ≡ guards_of c.region (group_for c table))
    (others-too : (g : ℕ) → g ≢ group_for c table → guards_of d.region g ≡ guards_of c.region g) (unguarded : IsUnguarded a) where
  group : group_for c table ≡ group_for a table
  group = ap (λ n. table % n) regions

  of-the-group : guards_of d.region (group_for a table) ≡ 0
  of-the-group =
      let down = subst (λ g. guards_of d.region g + 1 ≡ guards_of c.region g) group fallen in
      let kept = same (group_for a table) in let none = unguarded (group_for a table) in omega (arith, down, kept, risen, none)

  of-another : (g : ℕ) → g ≢ group_for a table → guards_of d.region g ≡ 0
  of-another g far = others-too g (λ is. far (is ∙ group)) ∙ same g ∙ others g far ∙ unguarded g

  pub unguarded-again : (g : ℕ) → guards_of d.region g ≡ 0
  unguarded-again g = elim (cases_order g (group_for a table)) [
    | inl is ↦ ap (guards_of d.region) is ∙ of-the-group
    | inr (inl below) ↦ of-another g (λ is. omega (arith, below, is))
    | inr (inr above) ↦ of-another g (λ is. omega (arith, above, is))
  ]
