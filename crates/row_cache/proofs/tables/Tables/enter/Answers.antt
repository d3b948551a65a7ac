use Rattle.std.proofs.Common.{◌≢◌, ◌<◌, ◌∷◌, length, sym, ap, subst, ◌∙◌, arith}
use Rattle.key_table.specs.Table.{AreSame, IsSpotFor}
use Rattle.key_table.specs.Lazy.{rows_in, IsKeyed, IsLazyOf}
use Rattle.regions.specs.Contents.{live_at}
use Rattle.row_cache.specs.Rows.{key_at}
use Rattle.row_cache.specs.inside.Tables as tables
use Rattle.row_cache.specs.contracts.tables.Tables.{the_view}
use Rattle.row_cache.proofs.Numbers.{all_freed_below, next_below_room, numbers_added}
use Rattle.row_cache.proofs.States.{added_absent, added_here, added_lazy, added_spot, tables_added}
use Rattle.row_cache.proofs.tables.Tables.enter.Goals as goal

pub give_number-number-requires-clause-given : goal.give_number-number-requires-clause-given
give_number-number-requires-clause-given c = let t : tables.TableState = the_view c.self.inside in all_freed_below t c.self.invariant.0

pub insert-requires-clause-lazy : goal.insert-requires-clause-lazy
insert-requires-clause-lazy c =
    let t : tables.TableState = the_view c.self.inside in let g = c.give_number-number in
    let live = live_at c.args.region.now in
    let a = c.requires.adds in
    let r : tables.AddsRow t c.args.at c.args.place a.row a.old live = subst (λ s. tables.AddsRow s c.args.at c.args.place a.row a.old live) (sym c.self.view_is) a.adds in
    let places = c.as_slice.ensures.value ∙ (g.ensures.places ∙ ap (λ n. tables.placed n c.args.place t.places) g.ensures.number) in
    subst (λ ps. IsLazyOf (tables.HasRow live ps) (key_at live ps) t.index) (sym places) (added_lazy t c.args.at c.args.place a.row a.old live r)

pub insert-requires-clause-readable : goal.insert-requires-clause-readable
insert-requires-clause-readable c =
    let t : tables.TableState = the_view c.self.inside in let g = c.give_number-number in
    let live = live_at c.args.region.now in
    let a = c.requires.adds in
    let r : tables.AddsRow t c.args.at c.args.place a.row a.old live = subst (λ s. tables.AddsRow s c.args.at c.args.place a.row a.old live) (sym c.self.view_is) a.adds in
    let is = g.ensures.number in
    let places = c.as_slice.ensures.value ∙ (g.ensures.places ∙ ap (λ n. tables.placed n c.args.place t.places) is) in
    subst (λ ps. tables.HasRow live ps g.result) (sym places)
    (subst (λ n. tables.HasRow live (tables.placed (tables.next_number t) c.args.place t.places) n) (sym is) (added_here t c.args.at c.args.place a.row a.old live r).0)

pub insert-requires-clause-spot : goal.insert-requires-clause-spot
insert-requires-clause-spot c =
    let t : tables.TableState = the_view c.self.inside in let g = c.give_number-number in
    let live = live_at c.args.region.now in
    let a = c.requires.adds in
    let r : tables.AddsRow t c.args.at c.args.place a.row a.old live = subst (λ s. tables.AddsRow s c.args.at c.args.place a.row a.old live) (sym c.self.view_is) a.adds in
    let is = g.ensures.number in
    let places = c.as_slice.ensures.value ∙ (g.ensures.places ∙ ap (λ n. tables.placed n c.args.place t.places) is) in
    subst (λ ps. IsSpotFor (key_at live ps g.result) c.args.at) (sym places)
    (subst (λ n. IsSpotFor (key_at live (tables.placed (tables.next_number t) c.args.place t.places) n) c.args.at) (sym is) (added_spot t c.args.at c.args.place a.row a.old live r))

pub insert-requires-clause-absent : goal.insert-requires-clause-absent
insert-requires-clause-absent c m h =
    let t : tables.TableState = the_view c.self.inside in let g = c.give_number-number in
    let live = live_at c.args.region.now in
    let a = c.requires.adds in
    let r : tables.AddsRow t c.args.at c.args.place a.row a.old live = subst (λ s. tables.AddsRow s c.args.at c.args.place a.row a.old live) (sym c.self.view_is) a.adds in
    let is = g.ensures.number in
    let places = c.as_slice.ensures.value ∙ (g.ensures.places ∙ ap (λ n. tables.placed n c.args.place t.places) is) in
    let all = tables.placed (tables.next_number t) c.args.place t.places in
    subst (λ ps. key_at live ps m ≢ key_at live ps g.result) (sym places)
    (subst (λ n. key_at live all m ≢ key_at live all n) (sym is) (added_absent t c.args.at c.args.place a.row a.old live r m h))

pub insert-requires-clause-number : goal.insert-requires-clause-number
insert-requires-clause-number c =
    let t : tables.TableState = the_view c.self.inside in
    let below = next_below_room t c.self.invariant.0 (subst (λ (s : tables.TableState). length s.recency < s.room) (sym c.self.view_is) c.requires.room) in
    let same = c.self.invariant.0.room in
    let is = c.give_number-number.ensures.number in
    omega (arith, below, same, is)

pub insert-requires-clause-room : goal.insert-requires-clause-room
insert-requires-clause-room c =
    let t : tables.TableState = the_view c.self.inside in
    let few : length t.recency < t.room = subst (λ (s : tables.TableState). length s.recency < s.room) (sym c.self.view_is) c.requires.room in
    let same = c.self.invariant.0.room in
    let count = c.self.invariant.0.index_count in
    omega (arith, few, same, count)

pub invariant_of-self : goal.invariant_of-self
invariant_of-self c =
    let i = c.self.invariant in let t : tables.TableState = the_view c.self.inside in let g = c.give_number-number in
    let is = g.ensures.number in
    let u : tables.TableState = record t { room = c.insert.new.self.room; recency = c.with_front-self-inside.result.rows; places = g.new.places.items; freed = g.new.freed.items; index = c.insert.new.self } in
    let places = i.1 in let frees = i.2 in let cap = g.ensures.capacity.0 in let cap_freed = g.ensures.capacity.1 in let same = c.insert.ensures.room in (
      numbers_added t u c.args.place i.0 (subst (λ (s : tables.TableState). length s.recency < s.room) (sym c.self.view_is) c.requires.room) same
          (c.with_front-self-inside.ensures ∙ ap (λ n. n ∷ t.recency) is) (g.ensures.places ∙ ap (λ n. tables.placed n c.args.place t.places) is) g.ensures.freed same
          (subst (λ n. AreSame (n ∷ rows_in t.index) (rows_in c.insert.new.self)) is c.insert.ensures.rows) c.insert.ensures.moved,
      omega (arith, places, cap, same),
      omega (arith, frees, cap_freed, same),
    )

pub returns-clause-tables : goal.returns-clause-tables
returns-clause-tables c =
    let i = c.self.invariant in let t : tables.TableState = the_view c.self.inside in let g = c.give_number-number in
    let live = live_at c.args.region.now in
    let a = c.requires.adds in
    let r : tables.AddsRow t c.args.at c.args.place a.row a.old live = subst (λ s. tables.AddsRow s c.args.at c.args.place a.row a.old live) (sym c.self.view_is) a.adds in
    let is = g.ensures.number in
    let places = g.ensures.places ∙ ap (λ n. tables.placed n c.args.place t.places) is in
    let u : tables.TableState = record t { room = c.insert.new.self.room; recency = c.with_front-self-inside.result.rows; places = g.new.places.items; freed = g.new.freed.items; index = c.insert.new.self } in
    tables_added t u c.args.at c.args.place a.row a.old live r (invariant_of-self c).0 (c.with_front-self-inside.ensures ∙ ap (λ n. n ∷ t.recency) is) places
    (subst (λ ps. IsKeyed (key_at live ps) c.insert.new.self) (c.as_slice.ensures.value ∙ places) c.insert.ensures.lazy.keyed)
