use Rattle.std.proofs.Common.{◌≡◌, sym, ◌∙◌, subst}
use Rattle.std.specs.Prelude.{Some, option_map}
use Rattle.regions.specs.Contents.{standing_in, item_if_live, with_bytes, ChangesIn}
use Rattle.regions.specs.Lends.{segment_with}
use Rattle.regions.proofs.Regions.{live-content, if-some}
use Rattle.regions.proofs.Written.{whole-content}
use Rattle.regions.proofs.segment.Segment.copy_from.Goals as goal

pub returns-clause-copied : goal.returns-clause-copied
returns-clause-copied c =
    let at = c.args.to in let old = c.args.self.now in let source = standing_in (Some c.args.source.now) c.args.from in
    let ws = c.overwrite.new.content in let xs = c.content.result.now in let e = c.content_mut.ensures in
    let all = subst (λ s. ChangesIn at s (Some old) (Some (segment_with at ws old))) (whole-content (standing_in (Some old) at) c.content_mut.result.now ws e.value c.overwrite.auto.content) (e.written ws) in
    if-some (item_if_live source) (λ i. i.content ≡ xs) (λ i. ChangesIn at (option_map (with_bytes i.content) (standing_in (Some old) at)) (Some old) (Some (segment_with at ws old)))
    (λ i same. subst (λ b. ChangesIn at (option_map (with_bytes b) (standing_in (Some old) at)) (Some old) (Some (segment_with at ws old))) (c.overwrite.ensures ∙ sym same) all) (live-content source xs c.content.ensures.content)
