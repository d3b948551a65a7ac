use Rattle.std.proofs.Common.{ℕ, ◌-◌, List, ◌++◌, length, Some, refl, ap, subst, ◌∙◌, arith}
use Rattle.object_log.specs.Contents.{bytes_of, padded}
use Rattle.regions.specs.Contents.{holding, item_if_live, ChangesAt}
use Rattle.fragments.specs.Fragment.{filled, fragment_kind}
use Rattle.fragments.specs.Sizes.{object_size}
use Rattle.fragments.proofs.links.place_fragment.Goals as goal

pub place_with-requires-clause-content : goal.place_with-requires-clause-content
place_with-requires-clause-content c =
    let whole = c.object_size.ensures in let long = ap length c.as_slice.ensures ∙ c.fragment_header-header.ensures.long in let both = c.behind-content.ensures.length in
    omega (arith, whole, long, both)

pub returns-clause-added : goal.returns-clause-added
returns-clause-added c =
    let e = c.in-Ok.ensures in let w = c.fragment_header-header.ensures in let p = c.in-Ok.place in let r = c.args.region.now in let s = c.place_with.new.self in
    let bytes = c.args.bytes.now in let ws = filled c.fragment_header-header.result bytes in let content = c.behind-content in
    let is = ap (λ (n : ℕ). padded (n - 8) (bytes_of content.result)) c.object_size.ensures
    ∙ ap (λ (t : List ℕ). padded (object_size (length bytes) - 8) t) (content.ensures.bytes ∙ ap (λ (h : List ℕ). h ++ bytes) c.as_slice.ensures) in
    let change = subst (λ (t : List ℕ). ChangesAt p (Some (holding (Some 0) fragment_kind t)) r s) is e.added in
    record {
      item = record { group = Some 0; kind = fragment_kind; content = ws };
      is = ap item_if_live change.here;
      group = refl;
      kind = refl;
      holds = w.holds;
      back = w.back;
      next_is = w.next ∙ c.link_to.ensures;
    }
