-- Which list, and whose.
use Rattle.std.specs.Prelude.{ℕ, refl}
use Rattle.std.specs.Coded.{Coded, code_by, coded×, coded_ℕ}
use Rattle.atomic_table.specs.Seated.{TableId, table_id_coded}

-- tells a list from each other one; nothing else is read of it
abbrev pub ListId : Type 0
ListId = TableId

-- the list of an owner
pub record OwnedList : Type 0 where
  pub id : ListId
  pub owner : ℕ

-- it is stored as the pair of its fields
abbrev pub owned_list_code : Coded OwnedList
owned_list_code = code_by (ListId × ℕ) (coded× table_id_coded coded_ℕ) (λ l. (l.id, l.owner)) (λ t. record { id = t.0; owner = t.1 }) (λ _. refl)
