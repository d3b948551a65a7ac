use Rattle.std.proofs.Common.{◌<◌, ℕ, List, Some, sym, ap, subst, ◌∙◌, arith}
use Rattle.std.proofs.lemmas.List.{get_or_default}
use Rattle.std.specs.List.{concat}
use Rattle.std.specs.Prelude.{slice_index_or}
use Rattle.regions.specs.Contents.{live_at}
use Rattle.fragments.specs.Store.{StoreState, pieces_from, values_of}
use Rattle.fragments.specs.Values.{value_of}
use Rattle.fragments.specs.inside.Paths.{Leads}
use Rattle.fragments.proofs.Stored.{leads_from, value_some}
use Rattle.fragments.proofs.store.Fragments.get.Goals as goal

pub new-requires : goal.new-requires
new-requires c =
    let f = c.self.inside in let t = f.tables in let r = f.region in let n = c.args.name in let i = c.self.invariant in
    let below : n < t.names = (let test = c.if-name-names.false in let is = c.names.ensures in omega (arith, test, is)) in
    let some = sym c.first.ensures.place ∙ c.in_ok-place.was in
    let leads = leads_from t r i.entries f.lengths.items f.segments n c.in_ok-place.place i below some in
    let len = c.index.ensures ∙ get_or_default f.lengths.items n c.index.result.now 0 (let many = i.many in omega (arith, many, below)) in
    subst (λ k. Leads (live_at r) (Some c.in_ok-place.place) k) (sym len) (subst (λ o. Leads (live_at r) o (slice_index_or f.lengths.items n 0)) some leads)

pub returns : goal.returns
returns c =
    let f = c.self.inside in let t = f.tables in let r = f.region in let n = c.args.name in
    let below : n < t.names = (let test = c.if-name-names.false in let is = c.names.ensures in omega (arith, test, is)) in
    let some = sym c.first.ensures.place ∙ c.in_ok-place.was in
    sym (ap (λ (s : StoreState). value_of (values_of s) n) c.self.view_is)
    ∙ (value_some t r c.self.invariant.entries n c.in_ok-place.place below some
    ∙ (ap (λ o. Some (concat (pieces_from (live_at r) o))) some ∙ ap (λ (ps : List (List ℕ)). Some (concat ps)) (sym c.new.ensures)))
