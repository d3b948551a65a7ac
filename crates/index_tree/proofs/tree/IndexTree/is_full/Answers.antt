use Rattle.std.proofs.Common.{◌≡◌, ◌<◌, ◌≤◌, inl, inr, true≢false, length, sym, ap, subst, ◌∙◌, arith}
use Rattle.std.proofs.lemmas.Bool.Decides.{leb_tells}
use Rattle.regions.specs.Shapes.{held_count}
use Rattle.index_tree.specs.Indexes.{Index}
use Rattle.index_tree.specs.Sizes.{most}
use Rattle.index_tree.specs.Store.{IndexState, index_in}
use Rattle.index_tree.proofs.tree.IndexTree.is_full.Goals as goal

pub returns-clause-full : goal.returns-clause-full
returns-clause-full c = λ e.
    (let f = c.self.inside in let i = c.self.invariant in
    let keys : c.from.result ≡ length f.roots.known.index = c.from.ensures ∙ i.len in
    let room : c.most_keys.result ≡ most (held_count f.region) = c.most_keys.ensures ∙ ap (λ k. most k) i.held in
    subst (λ (s : IndexState). most (held_count s.region) ≤ length (index_in s)) c.self.view_is
    (subst (λ (x : Index). most (held_count f.region) ≤ length x) (sym i.roster.index)
    (elim (leb_tells c.most_keys.result c.from.result) [
      | inl k ↦ (let within = k.1 in omega (arith, keys, room, within))
      | inr k ↦ absurd (true≢false (sym e ∙ k.0))
    ])))

pub returns-clause-room : goal.returns-clause-room
returns-clause-room c = λ e.
    (let f = c.self.inside in let i = c.self.invariant in
    let keys : c.from.result ≡ length f.roots.known.index = c.from.ensures ∙ i.len in
    let room : c.most_keys.result ≡ most (held_count f.region) = c.most_keys.ensures ∙ ap (λ k. most k) i.held in
    subst (λ (s : IndexState). length (index_in s) < most (held_count s.region)) c.self.view_is
    (subst (λ (x : Index). length x < most (held_count f.region)) (sym i.roster.index)
    (elim (leb_tells c.most_keys.result c.from.result) [
      | inl k ↦ absurd (true≢false (sym k.0 ∙ e))
      | inr k ↦ (let over = k.1 in omega (arith, keys, room, over))
    ])))
