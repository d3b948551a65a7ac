use Rattle.std.proofs.Common.{◌≡◌, take, drop, Some, sym, ap, ◌∙◌, subst, arith}
use Rattle.std.specs.Prelude.{option_map}
use Rattle.regions.specs.Contents.{standing_in}
use Rattle.regions.proofs.Written.{there-seen, stands-read, content-read}
use Rattle.regions.proofs.segment.Segment.content.Goals as goal

pub content_extent-start-requires : goal.content_extent-start-requires
content_extent-start-requires c =
    let i = c.self.inside in let v = c.self.invariant in
    let l = there-seen i.piece i.used c.args.at i.group c.args.self.now v.1 v.2 c.self.view_is c.requires in
    let s = stands-read i.piece.bytes c.bytes-bytes.result.now i.used c.args.at l c.bytes-bytes.ensures in (i.used, s.0, s.1)

pub part-requires : goal.part-requires
part-requires c =
    let i = c.self.inside in let v = c.self.invariant in
    let l = there-seen i.piece i.used c.args.at i.group c.args.self.now v.1 v.2 c.self.view_is c.requires in
    let s = stands-read i.piece.bytes c.bytes-bytes.result.now i.used c.args.at l c.bytes-bytes.ensures in
    omega (arith, c.content_extent-start.ensures.inside i.used s.0 s.1, (s.0).inside, (s.0).long)

pub returns-clause-content : goal.returns-clause-content
returns-clause-content c =
    let i = c.self.inside in let v = c.self.invariant in let at = c.args.at in let e = c.content_extent-start.ensures in
    let l = there-seen i.piece i.used at i.group c.args.self.now v.1 v.2 c.self.view_is c.requires in
    subst (λ h. option_map (λ t. t.item.content) (standing_in (Some h) at) ≡ Some c.part.result.now) c.self.view_is
    (content-read i.group i.piece.bytes c.bytes-bytes.result.now i.used at c.content_extent-start.result.0 c.content_extent-start.result.1 l c.bytes-bytes.ensures e.start e.size
    ∙ ap (λ b. Some (take c.content_extent-start.result.1 (drop c.content_extent-start.result.0 b))) (sym c.bytes-bytes.ensures) ∙ ap (λ b. Some b) (sym c.part.ensures))

pub returns-clause-inside : goal.returns-clause-inside
returns-clause-inside c =
    let i = c.self.inside in let v = c.self.invariant in let e = c.content_extent-start.ensures in
    let l = there-seen i.piece i.used c.args.at i.group c.args.self.now v.1 v.2 c.self.view_is c.requires in
    let s = stands-read i.piece.bytes c.bytes-bytes.result.now i.used c.args.at l c.bytes-bytes.ensures in
    let ends = e.inside i.used s.0 s.1 in let start = e.start in let inside = (s.0).inside in
    omega (arith, ends, start, inside)
