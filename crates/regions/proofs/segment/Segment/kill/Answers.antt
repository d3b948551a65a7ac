use Rattle.std.proofs.Common.{◌≡◌, inl, Some, sym, ap, ◌∙◌, subst}
use Rattle.std.specs.Prelude.{IsSome, IfSome, Option, option_map}
use Rattle.regions.specs.Contents.{Standing, item_if_live, size_of, standing, standing_in}
use Rattle.regions.proofs.Objects.{begun-if, live-standing}
use Rattle.regions.proofs.Written.{IsLive, as-there, live-seen, stands-read, lives-read, content-size}
use Rattle.regions.proofs.Killed.{IsKilled, is-killed}
use Rattle.regions.proofs.segment.Segment.kill.Goals as goal

pub read_descriptor-size-requires : goal.read_descriptor-size-requires
read_descriptor-size-requires c =
    let i = c.self.inside in let v = c.self.invariant in
    let l = live-seen i.piece i.used c.args.at i.group c.args.self.now v.1 v.2 c.self.view_is c.requires in
    let s = stands-read i.piece.bytes c.bytes.result.now i.used c.args.at (as-there i.piece.bytes i.used c.args.at l) c.bytes.ensures in (i.used, s.0, inl s.1)

pub kill-requires : goal.kill-requires
kill-requires c =
    let i = c.self.inside in let v = c.self.invariant in
    let l = live-seen i.piece i.used c.args.at i.group c.args.self.now v.1 v.2 c.self.view_is c.requires in
    let s = lives-read i.piece.bytes c.bytes_mut.result.now i.used c.args.at l c.bytes_mut.ensures.value in (i.used, s.0, s.1)

live : (c : goal.After-self-1) → IsLive c.self.inside.piece.bytes c.self.inside.used c.args.at
live c = let i = c.self.inside in let v = c.self.invariant in live-seen i.piece i.used c.args.at i.group c.args.self.now v.1 v.2 c.self.view_is c.requires

done : (c : goal.After-self-1) → IsKilled c.self.inside.piece c.kill.new.segment c.self.inside.used c.args.at c.self.inside.group (live c).it c.args.self.now
done c =
    let i = c.self.inside in let l = live c in
    let s = lives-read i.piece.bytes c.bytes_mut.result.now i.used c.args.at l c.bytes_mut.ensures.value in
    is-killed i.piece i.group c.bytes_mut.result.now c.kill.new.segment i.used c.args.at c.bytes_mut.ensures.value c.kill.ensures.state (c.kill.ensures.dead i.used s.0 s.1) l.segment l.it l.is-it l.alive
    (c.kill.ensures.segment i.used s.0 s.1) c.args.self.now c.self.view_is

size-read : (c : goal.After-self-1) → (live c).it.size ≡ c.read_descriptor-size.result.size
size-read c = ap (λ o. o.size) ((live c).found).is ∙ sym (ap (λ d. d.size) (rw c.bytes.ensures at c.read_descriptor-size.ensures.read))

pub invariant_of-self : goal.invariant_of-self
invariant_of-self c = ((done c).kept.long, c.self.invariant.1, λ _. (done c).kept)

pub returns-clause-size : goal.returns-clause-size
returns-clause-size c =
    let i = c.self.inside in let l = live c in
    subst (λ h. IfSome (standing_in (Some h) c.args.at) (λ s. c.read_descriptor-size.result.size ≡ size_of s.item)) c.self.view_is
    (subst (λ (s : Option Standing). IfSome s (λ s. c.read_descriptor-size.result.size ≡ size_of s.item)) (sym (ap (option_map (standing i.group i.piece.bytes)) l.is-it))
    (sym (size-read c) ∙ content-size i.piece.bytes i.used c.args.at (as-there i.piece.bytes i.used c.args.at l)))

pub returns-clause-begun : goal.returns-clause-begun
returns-clause-begun c =
    let i = c.self.inside in
    subst (λ h. IsSome h.group) c.self.view_is (begun-if i.piece.bytes i.used c.args.at i.group c.self.invariant.1
    (live-standing _ (subst (λ h. IsSome (item_if_live (standing_in (Some h) c.args.at))) (sym c.self.view_is) c.requires)))

pub returns-clause-live : goal.returns-clause-live
returns-clause-live c = rw (size-read c) at (done c).live

pub returns-clause-slot : goal.returns-clause-slot
returns-clause-slot c = (done c).slot

pub returns-clause-killed : goal.returns-clause-killed
returns-clause-killed c = (done c).killed
