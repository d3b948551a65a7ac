use Rattle.std.proofs.Common.{◌≡◌, ◌≢◌, ℕ, ◌≤◌, ◌++◌, sym, ap, subst, ◌∙◌, arith}
use Rattle.common_lemmas.specs.Lists.{times}
use Rattle.rows.specs.Key.{key_shown}
use Rattle.key_table.specs.Hash.{tag_of}
use Rattle.key_table.specs.Table as tables
use Rattle.key_table.specs.Lazy.{Lazy, Has, IsLazyOf, IsThere}
use Rattle.key_table.proofs.Both.{contains_times, none_in_order, none_outside, order_of, tag_there, times-append}
use Rattle.key_table.proofs.index.LazyIndex.find_outside.Goals as goal

pub search-requires-clause-index : goal.search-requires-clause-index
search-requires-clause-index g c =
    let has_row = g.K.Keys.has_row c.args.keys.now in
    let key_of = g.K.Keys.key_of c.args.keys.now in
    let lazy = subst (IsLazyOf has_row key_of) (sym c.self.view_is) c.requires.lazy in
    order_of has_row key_of c.self.inside.order c.self.inside.late lazy.readable lazy.keyed.ordered

pub returns-then-self-eq0 : goal.returns-then-self-eq0
returns-then-self-eq0 g c =
    let i = c.self.inside in
    let P : ℕ → Type 0 = λ n. g.K.Keys.key_of c.args.keys.now n ≢ key_shown c.args.key.now in
    let absent = subst (λ (v : Lazy). (n : ℕ) → tables.Has v.table n → P n) (sym c.self.view_is) c.requires.absent in
    (c.requires.spot, subst (λ (v : Lazy). (n : ℕ) → Has v n → P n) c.self.view_is (none_outside P i.room i.outside i.table i.order i.late c.self.invariant c.if-self-eq0.true absent))

pub returns-in-Ok : goal.returns-in-Ok
returns-in-Ok g c =
    let i = c.self.inside in
    let key_of = g.K.Keys.key_of c.args.keys.now in
    let lazy = subst (IsLazyOf (g.K.Keys.has_row c.args.keys.now) key_of) (sym c.self.view_is) c.requires.lazy in
    let at = c.in-Ok.at in
    let told = c.in-Ok.ensures in
    let found = c.of.result in
    let there : 1 ≤ times at.row (i.order.rows ++ i.late.numbers) = (let h = contains_times i.order.rows at.row told.1 in let t = times-append at.row i.order.rows i.late.numbers in omega (arith, h, t)) in
    let key : key_of found.row ≡ key_shown c.args.key.now = ap key_of c.of.ensures.row ∙ told.2 in (
      subst (λ (v : Lazy). IsThere v found) c.self.view_is (record {
        has = subst (λ n. 1 ≤ times n (i.order.rows ++ i.late.numbers)) (sym c.of.ensures.row) there;
        tag = tag_there key_of i.table found lazy.keyed.tagged (c.of.ensures.tag ∙ (c.requires.spot ∙ ap tag_of (sym key)));
      }),
      key,
    )

pub returns-in-Err : goal.returns-in-Err
returns-in-Err g c =
    let i = c.self.inside in
    let P : ℕ → Type 0 = λ n. g.K.Keys.key_of c.args.keys.now n ≢ key_shown c.args.key.now in
    let absent = subst (λ (v : Lazy). (n : ℕ) → tables.Has v.table n → P n) (sym c.self.view_is) c.requires.absent in
    (c.requires.spot, subst (λ (v : Lazy). (n : ℕ) → Has v n → P n) c.self.view_is (none_in_order P i.room i.outside i.table i.order i.late c.self.invariant c.in-Err.ensures.1 absent))
