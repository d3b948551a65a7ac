use Rattle.std.proofs.Common.{◌≡◌, ◌≢◌, ◌+◌, Some, None, set, sym, subst, ap, ◌∙◌}
use Rattle.std.specs.FinMap as map
use Rattle.common_lemmas.specs.Lists.{delete}
use Rattle.span_lists.specs.Buddies.{buddy}
use Rattle.span_lists.specs.Layout.{Layout, free_at}
use Rattle.common_lemmas.proofs.Maps.{get_inserted, get_past_insert}
use Rattle.span_lists.proofs.Views.{coalesced_once}
use Rattle.span_lists.proofs.spans.Spans.coalesce_once.Goals as goal

pub coalesce_pair-requires-clause-buddy : goal.coalesce_pair-requires-clause-buddy
coalesce_pair-requires-clause-buddy c =
    ap (λ (s : Layout). map.get s.allocated (buddy c.args.first c.args.order)) c.allocate.ensures.moves ∙ get_inserted c.args.self.now.allocated _ c.args.order _ (sym c.buddy_of.ensures)

pub coalesce_pair-requires-clause-allocated : goal.coalesce_pair-requires-clause-allocated
coalesce_pair-requires-clause-allocated c =
    let apart : c.args.first ≢ c.buddy_of.result = (λ e. (let clash : Some c.args.order ≡ None = sym c.requires.allocated ∙ ap (λ n. map.get c.args.self.now.allocated n) e ∙ c.allocate.ensures.was_free in cc)) in
    ap (λ (s : Layout). map.get s.allocated c.args.first) c.allocate.ensures.moves ∙ get_past_insert c.args.self.now.allocated _ c.args.order _ apart ∙ c.requires.allocated

pub returns-clause-moves : goal.returns-clause-moves
returns-clause-moves c =
    let b = c.buddy_of.ensures in
    let none : map.get c.args.self.now.allocated (buddy c.args.first c.args.order) ≡ None = subst (λ n. map.get c.args.self.now.allocated n ≡ None) b c.allocate.ensures.was_free in
    let after : c.allocate.new.self ≡ record c.args.self.now {
      free = set c.args.self.now.free c.args.order (delete (buddy c.args.first c.args.order) (free_at c.args.self.now c.args.order));
      allocated = map.insert c.args.self.now.allocated (buddy c.args.first c.args.order) c.args.order;
    } =
    subst (λ n. c.allocate.new.self ≡ record c.args.self.now { free = set c.args.self.now.free c.args.order (delete n (free_at c.args.self.now c.args.order)); allocated = map.insert c.args.self.now.allocated n c.args.order }) b c.allocate.ensures.moves in
    c.coalesce_pair.ensures.moves
    ∙ ap (λ (s : Layout). let r : Layout = record s { allocated = map.insert (map.remove (map.remove s.allocated c.args.first) (buddy c.args.first c.args.order)) c.coalesce_pair.result (c.args.order + 1) } in r) after
    ∙ ap (λ o. let r : Layout = record c.args.self.now { free = set c.args.self.now.free c.args.order (delete (buddy c.args.first c.args.order) (free_at c.args.self.now c.args.order)); allocated = o } in r)
    (coalesced_once c.args.self.now.allocated c.args.first (buddy c.args.first c.args.order) c.args.order c.coalesce_pair.result (c.args.order + 1) none)
