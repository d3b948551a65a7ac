-- The fact of changes: it reads the head and the views alone.
use Rattle.std.specs.Prelude.{◌≡◌, ℕ, suc, ◌≤◌, List, length, sum_by}
use mathlib.Core.Option.{some}
use lib.ListN.{get_elem?}
use Rattle.foreign_list.specs.declared.views.View.{View}
use Rattle.foreign_list.specs.declared.views.View.TheVariants.{Owner, Pass, Spent}
use Rattle.foreign_list.specs.declared.views.Stage.{Stage}
use Rattle.foreign_list.specs.declared.views.Stage.TheVariants.{Carry, Looked, Linked}
use Rattle.foreign_list.specs.inside.Views.{changes_of, lends_of, owner_in}

-- a pass that has seen every change expects the head that there is
abbrev pub Expects : ℕ → Type 0 → Stage → Type 0
Expects head Latest Carry = Unit {0}
Expects head Latest (Looked expected) = Latest → head ≡ expected
Expects head Latest (Linked expected) = Latest → head ≡ expected

abbrev pub IsFresh : ℕ → ℕ → View → Type 0
IsFresh head changes (Owner ledger) = Unit {0}
IsFresh head changes (Pass holder) = (holder.seen ≤ changes) × Expects head (holder.seen ≡ changes) holder.stage
IsFresh head changes Spent = Unit {0}

abbrev pub EachFresh : ℕ → ℕ → List View → Type 0
EachFresh head changes views = (j : ℕ) (v : View) → get_elem? views j ≡ some v → IsFresh head changes v

-- one view is the owner's, the others are as many as the lends that it counts, and each is fresh
pub record Changes (head : ℕ) (views : List View) : Type 0 where
  pub one_owner : sum_by owner_in views ≡ 1
  pub counted : length views ≡ suc (lends_of views)
  pub each : EachFresh head (changes_of views) views
