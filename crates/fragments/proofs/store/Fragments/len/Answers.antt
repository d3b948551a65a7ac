use Rattle.std.proofs.Common.{◌≡◌, ◌<◌, ℕ, List, length, Option, Some, refl, sym, ap, subst, ◌∙◌, arith}
use Rattle.std.proofs.lemmas.List.{get_or_default}
use Rattle.std.specs.Prelude.{IfSome, IsSome}
use Rattle.std.specs.List.{concat}
use Rattle.regions.specs.Contents.{live_at}
use Rattle.fragments.specs.Store.{StoreState, pieces_from, values_of}
use Rattle.fragments.specs.Values.{value_of}
use Rattle.fragments.proofs.Stored.{value_some}
use Rattle.fragments.proofs.store.Fragments.len.Goals as goal

known : (o : Option (List ℕ)) (value : List ℕ) (len : ℕ) → o ≡ Some value → len ≡ length value → IfSome o (λ v. len ≡ length v) × IsSome o
known o value len e is = subst (λ q. IfSome q (λ v. len ≡ length v) × IsSome q) (sym e) (is, refl)

pub returns : goal.returns
returns c =
    let f = c.self.inside in let t = f.tables in let r = f.region in let n = c.args.name in let i = c.self.invariant in
    let below : n < t.names = (let test = c.if-name-names.false in let is = c.names.ensures in omega (arith, test, is)) in
    let some = sym c.first.ensures.place ∙ c.in_ok-first.was in
    let value = value_some t r i.entries n c.in_ok-first.field-0 below some in
    let len = c.index.ensures ∙ get_or_default f.lengths.items n c.index.result.now 0 (let many = i.many in omega (arith, many, below)) in
    known (value_of (values_of c.args.self.now) n) (concat (pieces_from (live_at r) _)) c.index.result.now
    (sym (ap (λ (s : StoreState). value_of (values_of s) n) c.self.view_is) ∙ value) (len ∙ i.lens n (concat (pieces_from (live_at r) _)) value)
