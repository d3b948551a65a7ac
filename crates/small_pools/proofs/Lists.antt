-- Lists from which a place is taken.
use Rattle.std.proofs.Common.{◌≡◌, ◌≢◌, ◌<◌, ℕ, List, [], Some, length, get_or, set, inl, inr, sym, ap, ◌∙◌, arith, get_or-set_same, get_or-set_other}
use Rattle.std.proofs.lemmas.Bool.{cases_eq}
use Rattle.std.proofs.Math.ListN.{length-set}
use Rattle.std.proofs.lemmas.List.{set_past}
use Rattle.index_lists.specs.Lists.{Lists, list_at, with_list}
use Rattle.common_lemmas.proofs.Orders.{lt_or_ge}
use Rattle.common_lemmas.proofs.Orders.{lt_or_ge}
use Rattle.common_lemmas.specs.Lists.{times, delete}
use Rattle.common_lemmas.proofs.Counts.{times-delete_same, times-delete_other}
use Rattle.small_pools.specs.inside.Tables.{stands_on}
use Rattle.small_pools.proofs.Stands.{stands_same, stands_other}

at_list : (old new : Lists) (k j : ℕ) (xs : List ℕ) → new ≡ with_list old k xs → list_at new j ≡ get_or (set old.lists k xs) j []
at_list old new k j xs e = ap (λ s. list_at s j) e

pub removed_gone : (old new : Lists) (k x : ℕ) → new ≡ with_list old k (delete x (list_at old k)) → ((j : ℕ) → j < length old.lists → times x (list_at old j) ≡ stands_on (Some k) j) → k < length old.lists → (j : ℕ) → j < length new.lists → times x (list_at new j) ≡ 0
removed_gone old new k x e stands inside j h =
    let len : length new.lists ≡ length old.lists = ap (λ (s : Lists). length s.lists) e ∙ length-set old.lists k _ in
    let held : times x (list_at old k) ≡ 1 = stands k inside ∙ stands_same k in
    elim (cases_eq j k) [
      | inl jk ↦ ap (times x) (at_list old new k j _ e ∙ ap (λ z. get_or (set old.lists k (delete x (list_at old k))) z []) jk ∙ get_or-set_same old.lists k _ [] inside)
          ∙ (let w = times-delete_same x (list_at old k) (omega arith) in let z : times x (delete x (list_at old k)) ≡ 0 = omega arith in z)
      | inr n ↦ ap (times x) (at_list old new k j _ e ∙ get_or-set_other old.lists k j _ [] n) ∙ stands j (omega arith) ∙ stands_other k j (λ q. n (sym q))
    ]

pub removed_others : (old new : Lists) (k x : ℕ) → new ≡ with_list old k (delete x (list_at old k)) → (j z : ℕ) → z ≢ x → times z (list_at new j) ≡ times z (list_at old j)
removed_others old new k x e j z n = elim (cases_eq j k) [
  | inl jk ↦ (elim (lt_or_ge k (length old.lists)) [
    | inl inside ↦ ap (times z) (at_list old new k j _ e ∙ ap (λ w. get_or (set old.lists k (delete x (list_at old k))) w []) jk ∙ get_or-set_same old.lists k _ [] inside) ∙ times-delete_other z x (list_at old k) n ∙ ap (λ w. times z (list_at old w)) (sym jk)
    | inr past ↦ ap (times z) (at_list old new k j _ e ∙ ap (λ l. get_or l j []) (set_past old.lists k _ past))
  ])
  | inr d ↦ ap (times z) (at_list old new k j _ e ∙ get_or-set_other old.lists k j _ [] d)
]
