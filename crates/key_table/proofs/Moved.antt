-- Keys that are moved.
use Rattle.std.proofs.Common.{◌≡◌, ℕ, ◌≤◌, List, [], ◌∷◌, sym, ap, ◌∙◌, arith}
use Rattle.common_lemmas.specs.Lists.{times}
use Rattle.common_lemmas.proofs.Counts.{times_here, times_cons_le}
use Rattle.rows.specs.Key.{Key}
use Rattle.key_index.specs.Order.{Each}
use Rattle.key_index.specs.Index.{Index}
use Rattle.key_lemmas.proofs.Moved.{moved_order}
use Rattle.key_table.specs.Hash.{tag_of}
use Rattle.key_table.specs.Table.{Table, IsTagged, rows_of}
use Rattle.key_table.specs.Table as tables
use Rattle.key_table.specs.Late.{Numbers}
use Rattle.key_table.specs.Lazy.{Lazy, Has, StaysKeyed}
use Rattle.key_table.specs.inside.Mixed.{AreMixed}
use Rattle.key_table.proofs.Told.{all_listed}
use Rattle.key_table.proofs.Both.{has_kept, times-append}

module _ (before after : ℕ → Key) where
  same_each : (rows : List ℕ) → ((n : ℕ) → 1 ≤ times n rows → after n ≡ before n) → Each (λ row. after row ≡ before row) rows
  same_each [] same = tt
  same_each (row ∷ rows) same =
      (same row (let here = times_here row rows in omega (arith, here)), same_each rows (λ n h. same n (let more = times_cons_le n row rows in omega (arith, more, h))))

  -- the tags
  pub tagged_moved : (table : Table) → ((n : ℕ) → tables.Has table n → after n ≡ before n) → IsTagged before table → IsTagged after table
  tagged_moved table same is = λ k d inside. is k d inside ∙ ap tag_of (sym (all_listed (λ n. after n ≡ before n) table.kept same k d inside))

-- an index in which each row of the table is
stays : (lazy : Lazy) → ((n : ℕ) → tables.Has lazy.table n → Has lazy n) → StaysKeyed lazy
stays lazy has before after same is = record {
  tagged = tagged_moved before after lazy.table (λ n h. same n (has n h)) is.tagged;
  ordered = moved_order before after lazy.order (same_each before after lazy.order.rows (λ n h. same n (let t = times-append n lazy.order.rows lazy.late in omega (arith, t, h)))) is.ordered;
}

pub stays_keyed : (room outside : ℕ) (table : Table) (order : Index) (late : Numbers) → AreMixed room outside table order late
    → StaysKeyed (record { room = room; table = table; order = order; late = late.numbers })
stays_keyed room outside table order late is = stays _ (has_kept room outside table order late is)

-- an index without rows
pub none_keyed : (lazy : Lazy) → lazy.table.kept ≡ [] → StaysKeyed lazy
none_keyed lazy none = stays lazy (λ n h. absurd (let gone : times n (rows_of lazy.table.kept) ≡ 0 = ap (λ kept. times n (rows_of kept)) none in omega (arith, gone, h)))
