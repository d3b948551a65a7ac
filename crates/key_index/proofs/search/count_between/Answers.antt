use Rattle.std.proofs.Common.{◌≡◌, ℕ, ◌+◌, ◌-◌, length, take, get_or, inr, sym, ap, subst, ◌∙◌, arith, is_lt}
use Rattle.std.specs.Ordering.{is_gt}
use Rattle.rows.specs.Key.{key_shown}
use Rattle.key_index.specs.Order.{key_cmp, AreBelow}
use Rattle.key_index.specs.Lead.{rows_of}
use Rattle.key_index.specs.inside.Shared.{Share}
use Rattle.key_index.proofs.KeyOrder.{is_less, is_greater, greater_least, least_most}
use Rattle.key_index.proofs.RowOrder.{below_entry, least_entry}
use Rattle.key_index.proofs.Leads.{all_from_each}
use Rattle.key_index.proofs.Bounds.{first_least, last_most}
use Rattle.key_index.proofs.Shares.{share_bounded}
use Rattle.key_index.proofs.search.count_between.Goals as goal

pub returns-then-is_lt-clause-below : goal.returns-then-is_lt-clause-below
returns-then-is_lt-clause-below g c =
    let n = length c.args.entries.now in
    let same : n - 1 + 1 ≡ n = (let s = c.requires.some in omega (arith, s)) in
    subst (λ (m : ℕ). AreBelow (g.K.Keys.key_of c.args.keys.now) (key_shown c.args.key.now) (take m (rows_of c.args.entries.now))) same
    (below_entry (g.K.Keys.key_of c.args.keys.now) (key_shown c.args.key.now) c.args.entries.now (n - 1) _ c.requires.entries.rising (let s = c.requires.some in omega (arith, s))
    (sym c.compare_keys-last.ensures.order ∙ is_less c.compare_keys-last.result.order (sym c.is_lt.ensures ∙ c.if-is_lt.true)))

pub returns-then-is_gt-clause-at_least : goal.returns-then-is_gt-clause-at_least
returns-then-is_gt-clause-at_least g c =
    least_entry (g.K.Keys.key_of c.args.keys.now) (key_shown c.args.key.now) c.args.entries.now 0 _ c.requires.entries.rising c.requires.some
    (greater_least (key_cmp (g.K.Keys.key_of c.args.keys.now (get_or c.args.entries.now 0 _).row) (key_shown c.args.key.now)) (sym c.compare_keys-first.ensures.order ∙ is_greater c.compare_keys-first.result.order (sym c.is_gt.ensures ∙ c.if-is_gt.true)))

pub count_below-count-requires-clause-shared : goal.count_below-count-requires-clause-shared
count_below-count-requires-clause-shared g c =
    let key_of = g.K.Keys.key_of c.args.keys.now in
    let es = c.args.entries.now in
    let n = length es - 1 in
    all_from_each (λ r. Share c.fewer-shared.result (key_of r) (key_shown c.args.key.now)) es
    (share_bounded key_of (key_shown c.args.key.now) (rows_of es) c.compare_keys-first.result.shared c.compare_keys-last.result.shared c.fewer-shared.result c.fewer-shared.ensures.first c.fewer-shared.ensures.second
    (inr (_, first_least key_of es _ c.requires.entries.rising c.requires.some, ap is_gt (sym c.compare_keys-first.ensures.order) ∙ sym c.is_gt.ensures ∙ c.if-is_gt.false, c.compare_keys-first.ensures.shared))
    (inr (_, last_most key_of es n _ c.requires.entries.rising (let s = c.requires.some in omega (arith, s)), least_most _ (key_shown c.args.key.now) (ap is_lt (sym c.compare_keys-last.ensures.order) ∙ sym c.is_lt.ensures ∙ c.if-is_lt.false), c.compare_keys-last.ensures.shared)))
