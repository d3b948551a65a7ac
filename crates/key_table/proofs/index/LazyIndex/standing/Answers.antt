use Rattle.std.proofs.Common.{◌≡◌, ◌≤◌, ◌++◌, refl, sym, ap, subst, ◌∙◌, arith}
use Rattle.common_lemmas.specs.Lists.{times}
use Rattle.key_index.specs.Index.{IsRowAt}
use Rattle.key_table.specs.Lazy.{Lazy, Has, IsLazyOf}
use Rattle.key_table.proofs.Listed.{listed_at}
use Rattle.key_table.proofs.Both.{contains_times, order_of, times-append}
use Rattle.key_table.proofs.index.LazyIndex.standing.Goals as goal

pub key-key-requires : goal.key-key-requires
key-key-requires g c = c.requires.lazy.readable c.args.found.row c.requires.there.has

pub search-requires-clause-index : goal.search-requires-clause-index
search-requires-clause-index g c =
    let has_row = g.K.Keys.has_row c.args.keys.now in
    let key_of = g.K.Keys.key_of c.args.keys.now in
    let lazy = subst (IsLazyOf has_row key_of) (sym c.self.view_is) c.requires.lazy in
    order_of has_row key_of c.self.inside.order c.self.inside.late lazy.readable lazy.keyed.ordered

pub unreachable-requires : goal.unreachable-requires
unreachable-requires g c =
    let i = c.self.inside in
    let n = c.args.found.row in
    let key_of = g.K.Keys.key_of c.args.keys.now in
    let here : 1 ≤ times n (i.order.rows ++ i.late.numbers) = subst (λ (v : Lazy). Has v n) (sym c.self.view_is) c.requires.there.has in
    let all = times-append n i.order.rows i.late.numbers in
    let none : times n i.late.numbers ≡ 0 = c.if-has.ensures.other refl in
    let there = listed_at n i.order.rows (omega (arith, here, all, none)) in
    c.in_default.ensures.1 there.at 0 there.inside (ap key_of there.is ∙ sym c.key-key.ensures.key)

pub returns-clause-standing : goal.returns-clause-standing
returns-clause-standing g c =
    let i = c.self.inside in
    let key_of = g.K.Keys.key_of c.args.keys.now in
    let at = c.in-Ok.at in
    let told = c.in-Ok.ensures in
    let there : 1 ≤ times at.row (i.order.rows ++ i.late.numbers) = (let h = contains_times i.order.rows at.row told.1 in let t = times-append at.row i.order.rows i.late.numbers in omega (arith, h, t)) in
    let same : at.row ≡ c.args.found.row =
    c.requires.lazy.apart at.row c.args.found.row (subst (λ (v : Lazy). Has v at.row) c.self.view_is there) c.requires.there.has (told.2 ∙ c.key-key.ensures.key) in
    record {
      there = c.requires.there;
      place = subst (λ (v : Lazy). IsRowAt v.order at.place c.args.found.row) c.self.view_is (subst (λ n. IsRowAt i.order at.place n) same told.0);
    }
