use Rattle.std.proofs.Common.{◌≡◌, ◌-◌, length, ◌∙◌}
use Rattle.object_log.specs.Contents.{bytes_of, padded}
use Rattle.object_log.proofs.Appending.{objects-added, IsSegment-added, content-laid, front-kept}
use Rattle.object_log.proofs.Contents.{content_long}
use Rattle.object_log.proofs.log.append_with.Goals as goal

pub returns-clause-added : goal.returns-clause-added
returns-clause-added c =
    let a = c.args in let r = c.requires in
    objects-added a.segment.now c.write_object.new.segment c.write_end.new.segment (padded (a.size - 8) (bytes_of a.content)) a.used a.kind a.size (content_long a.content a.size r.content) r.segment r.fits r.size r.kind
    c.write_object.ensures c.write_end.ensures.below r.objects

pub returns-clause-segment : goal.returns-clause-segment
returns-clause-segment c =
    let a = c.args in let r = c.requires in
    let long : length c.write_end.new.segment ≡ 131072 = c.write_end.auto.segment ∙ c.write_object.auto.segment ∙ r.segment in
    IsSegment-added a.segment.now c.write_object.new.segment c.write_end.new.segment (padded (a.size - 8) (bytes_of a.content)) a.used a.kind a.size (content_long a.content a.size r.content) r.segment r.fits r.size r.kind
    c.write_object.ensures c.write_end.ensures.below r.objects long c.write_end.ensures.end

pub returns-clause-content : goal.returns-clause-content
returns-clause-content c =
    let a = c.args in let r = c.requires in
    content-laid a.segment.now c.write_object.new.segment c.write_end.new.segment (padded (a.size - 8) (bytes_of a.content)) a.used a.kind a.size (content_long a.content a.size r.content) r.segment r.fits r.size r.kind
    c.write_object.ensures c.write_end.ensures.below

pub returns-clause-below : goal.returns-clause-below
returns-clause-below c =
    let a = c.args in let r = c.requires in
    front-kept a.segment.now c.write_object.new.segment c.write_end.new.segment (padded (a.size - 8) (bytes_of a.content)) a.used a.kind a.size (content_long a.content a.size r.content) r.segment r.fits r.size r.kind
    c.write_object.ensures c.write_end.ensures.below
