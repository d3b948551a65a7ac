-- What was done with a mailbox.
use Rattle.std.specs.Prelude.{ℕ, List, [], ◌∷◌, ◌++◌, refl}
use Rattle.std.specs.Coded.{Coded, code_by, coded×, coded_list, coded_ℕ}
use Rattle.crossbeam_queue.specs.Passes.{Pass, view}
use Rattle.atomic_table.specs.Seated.{TableId, table_id_coded}
use Rattle.mailbox.specs.declared.rule.Hand.{Hand}

-- the queue, of which nothing is read but whether it is the same; and what was pushed to it and popped from it with this mailbox, in order
pub record Messages : Type 0 where
  pub queue : TableId
  pub pushed : List ℕ
  pub popped : List ℕ

-- it is stored as the tuple of its fields
abbrev pub messages_code : Coded Messages
messages_code =
    code_by (TableId × (List ℕ × List ℕ)) (coded× table_id_coded (coded× (coded_list coded_ℕ) (coded_list coded_ℕ)))
    (λ m. (m.queue, (m.pushed, m.popped))) (λ t. record { queue = t.0; pushed = t.1.0; popped = t.1.1 }) (λ _. refl)

-- as a pass of the queue knows it
abbrev pub messages_of : Pass ℕ Hand → Messages
messages_of pass = record { queue = pass.table_id; pushed = (view pass).pushed; popped = (view pass).popped }

-- nothing was done with it
abbrev pub unused : TableId → Messages
unused queue = record { queue = queue; pushed = []; popped = [] }

abbrev pub with_pushed : Messages → ℕ → Messages
with_pushed m message = record m { pushed = m.pushed ++ message ∷ [] }

abbrev pub with_popped : Messages → ℕ → Messages
with_popped m message = record m { popped = m.popped ++ message ∷ [] }
