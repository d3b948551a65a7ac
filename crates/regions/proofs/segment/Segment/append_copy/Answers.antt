use Rattle.std.proofs.Common.{◌≡◌, ◌-◌, sym, ap, ◌∙◌, subst, arith}
use Rattle.std.specs.Prelude.{Some}
use Rattle.object_log.specs.Contents.{bytes_of, padded}
use Rattle.regions.specs.Contents.{standing_in, item_if_live, holding, ChangesIn}
use Rattle.regions.proofs.Regions.{live-content, if-some}
use Rattle.regions.proofs.CopiedWhole.{content-long, whole-padded}
use Rattle.regions.proofs.segment.Segment.append_copy.Goals as goal

pub append-requires-clause-content : goal.append-requires-clause-content
append-requires-clause-content c =
    let a = c.args in let long = content-long (standing_in (Some a.source.now) a.from) c.content.result.now a.size c.content.ensures.content c.requires.whole in
    let whole = c.whole.ensures.length in omega (arith, long, whole)

pub returns-clause-added : goal.returns-clause-added
returns-clause-added c =
    let a = c.args in let old = a.self.now in let new = c.append.new.self in let source = standing_in (Some a.source.now) a.from in let xs = c.content.result.now in
    let long = content-long source xs a.size c.content.ensures.content c.requires.whole in
    let is : padded (a.size - 8) (bytes_of c.whole.result) ≡ xs = ap (padded (a.size - 8)) c.whole.ensures.bytes ∙ whole-padded (a.size - 8) xs (omega (arith, long)) in
    if-some (item_if_live source) (λ i. i.content ≡ xs) (λ i. ChangesIn c.append.result (Some (holding old.group a.kind i.content)) (Some old) (Some new))
    (λ i same. subst (λ ws. ChangesIn c.append.result (Some (holding old.group a.kind ws)) (Some old) (Some new)) (is ∙ sym same) c.append.ensures.added)
    (live-content source xs c.content.ensures.content)
