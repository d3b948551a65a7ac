use Rattle.std.proofs.Common.{ap, ◌∙◌}
use Rattle.object_log.specs.Objects.{descriptor_at}
use Rattle.regions.proofs.Copied.{IsCopied, within, same-length, is-copied}
use Rattle.regions.proofs.Written.{as-there, live-seen, stands-read, opened}
use Rattle.regions.proofs.segment.Segment.copy_within.Goals as goal

pub content_extent-start-requires : goal.content_extent-start-requires
content_extent-start-requires c =
    let i = c.self.inside in let v = c.self.invariant in
    let a = live-seen i.piece i.used c.args.from i.group c.args.self.now v.1 v.2 c.self.view_is c.requires.from in
    let s = stands-read i.piece.bytes c.bytes.result.now i.used c.args.from (as-there i.piece.bytes i.used c.args.from a) c.bytes.ensures in (i.used, s.0, s.1)

pub content_extent-target-requires : goal.content_extent-target-requires
content_extent-target-requires c =
    let i = c.self.inside in let v = c.self.invariant in
    let b = live-seen i.piece i.used c.args.to i.group c.args.self.now v.1 v.2 c.self.view_is c.requires.to in
    let s = stands-read i.piece.bytes c.bytes-2.result.now i.used c.args.to (as-there i.piece.bytes i.used c.args.to b) c.bytes-2.ensures in (i.used, s.0, s.1)

pub copy_run-requires-clause-from : goal.copy_run-requires-clause-from
copy_run-requires-clause-from c =
    let i = c.self.inside in let v = c.self.invariant in let e = c.content_extent-start.ensures in
    let a = live-seen i.piece i.used c.args.from i.group c.args.self.now v.1 v.2 c.self.view_is c.requires.from in
    within i.piece.bytes c.bytes_mut.result.now i.used c.args.from c.content_extent-start.result.0 c.content_extent-start.result.1 a c.bytes_mut.ensures.value e.start (e.size ∙ ap (λ b. (descriptor_at b c.args.from).size) c.bytes.ensures)

pub copy_run-requires-clause-to : goal.copy_run-requires-clause-to
copy_run-requires-clause-to c =
    let i = c.self.inside in let v = c.self.invariant in let e = c.content_extent-start.ensures in let f = c.content_extent-target.ensures in
    let a = live-seen i.piece i.used c.args.from i.group c.args.self.now v.1 v.2 c.self.view_is c.requires.from in
    let b = live-seen i.piece i.used c.args.to i.group c.args.self.now v.1 v.2 c.self.view_is c.requires.to in
    within i.piece.bytes c.bytes_mut.result.now i.used c.args.to c.content_extent-target.result.0 c.content_extent-start.result.1 b c.bytes_mut.ensures.value f.start
    (e.size ∙ ap (λ b. (descriptor_at b c.args.from).size) c.bytes.ensures ∙ same-length i.piece i.used c.args.from c.args.to i.group c.args.self.now a b c.self.view_is c.requires.size)

done : (c : goal.After-self-1) → IsCopied c.self.inside.piece c.copy_run.new.bytes c.self.inside.used c.args.from c.args.to c.self.inside.group c.args.self.now
done c =
    let i = c.self.inside in let v = c.self.invariant in let e = c.content_extent-start.ensures in let f = c.content_extent-target.ensures in
    let a = live-seen i.piece i.used c.args.from i.group c.args.self.now v.1 v.2 c.self.view_is c.requires.from in
    let b = live-seen i.piece i.used c.args.to i.group c.args.self.now v.1 v.2 c.self.view_is c.requires.to in
    let o = opened i.piece.bytes c.bytes-2.result.now i.used c.args.to c.content_extent-target.result.1 b c.bytes-2.ensures f.size f.segment f.objects in
    is-copied i.piece c.bytes_mut.result.now c.copy_run.new.bytes i.used c.args.from c.args.to c.content_extent-start.result.0 c.content_extent-target.result.0 c.content_extent-start.result.1 i.group c.args.self.now c.self.view_is a b
    c.bytes_mut.ensures.value e.start f.start (e.size ∙ ap (λ x. (descriptor_at x c.args.from).size) c.bytes.ensures) (same-length i.piece i.used c.args.from c.args.to i.group c.args.self.now a b c.self.view_is c.requires.size)
    c.copy_run.auto.bytes c.copy_run.ensures o.law

pub invariant_of-self : goal.invariant_of-self
invariant_of-self c = ((done c).kept.long, c.self.invariant.1, λ _. (done c).kept)

pub returns-clause-live : goal.returns-clause-live
returns-clause-live c = (done c).live

pub returns-clause-copied : goal.returns-clause-copied
returns-clause-copied c = (done c).copied
