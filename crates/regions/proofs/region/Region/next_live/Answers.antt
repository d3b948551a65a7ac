use Rattle.std.proofs.Common.{◌≡◌, ◌+◌, ◌<◌, ◌≤◌, ◌⊎◌, ℕ, true, get_or, sym, ◌∙◌, subst}
use Rattle.std.specs.Prelude.{None, Some, IsSome, IsNone, IfSome}
use Rattle.regions.specs.Shapes.{slots_of, slot_at, is_closed, IsClosed}
use Rattle.regions.specs.inside.Consistent.{states}
use Rattle.regions.specs.Counts.{used_in, live_in, used_at, live_bytes_at}
use Rattle.regions.specs.Contents.{standing_in, standing_at}
use Rattle.regions.proofs.Tables as tables
use Rattle.regions.proofs.Updates.{used-is, live-is}
use Rattle.regions.proofs.Groups.{closed-parts, of-begun}
use Rattle.regions.specs.Contents.{NoneLives, IsStart, starts_in, none_lives_in, IsLiveAt, live_at, item_if_live}
use Rattle.regions.specs.declared.place.LiveObject.{LiveObject}
use Rattle.regions.specs.declared.place.Place.{Place}
use Rattle.regions.proofs.Regions.{begun-within}
use Rattle.regions.proofs.region.Region.next_live.Goals as goal

-- the closed segment is there
the-segment : (c : goal.After-next_live) → get_or c.self.inside.slots.items c.args.segment None ≡ Some c.segment_in.result.now
the-segment c =
    let i = c.self.inside in let slots = i.slots.items in let n = c.args.segment in
    let shut : is_closed (states i.groups.items) (slots_of slots) n ≡ true = subst (λ q. IsClosed q n) (sym c.self.view_is) c.requires.closed in
    let part = closed-parts (states i.groups.items) (slots_of slots) n shut in
    let inside = begun-within i.most i.groups.items i.held i.free slots c.self.invariant.0 n (of-begun (slot_at (slots_of slots) n) part.0 part.1) in
    tables.slot-is slots n c.index.result.now None inside c.index.ensures ∙ c.segment_in.ensures

pub returns-clause-skipped : goal.returns-clause-skipped
returns-clause-skipped c =
    let slots = c.self.inside.slots.items in let n = c.args.segment in let is = the-segment c in
    subst (λ q. IfSome c.next_live.result (λ (f : LiveObject). (c.args.from ≤ f.at) × NoneLives q n c.args.from f.at)) c.self.view_is
    (subst (λ s. IfSome c.next_live.result (λ (f : LiveObject). (c.args.from ≤ f.at) × none_lives_in s c.args.from f.at)) (sym is) c.next_live.ensures.skipped)

pub returns-clause-within : goal.returns-clause-within
returns-clause-within c =
    let slots = c.self.inside.slots.items in let n = c.args.segment in let is = the-segment c in
    subst (λ q. IfSome c.next_live.result (λ (f : LiveObject). f.at + f.size ≤ used_at q n)) c.self.view_is
    (subst (λ u. IfSome c.next_live.result (λ (f : LiveObject). f.at + f.size ≤ u)) (sym (used-is slots n))
    (subst (λ s. IfSome c.next_live.result (λ (f : LiveObject). f.at + f.size ≤ used_in s)) (sym is) c.next_live.ensures.within))

pub returns-clause-next : goal.returns-clause-next
returns-clause-next c =
    let slots = c.self.inside.slots.items in let n = c.args.segment in let is = the-segment c in
    subst (λ q. IfSome c.next_live.result (λ (f : LiveObject). IsStart q n (f.at + f.size))) c.self.view_is
    (subst (λ u. IfSome c.next_live.result (λ (f : LiveObject). IsSome (standing_in (get_or slots n None) (f.at + f.size)) ⊎ (f.at + f.size ≡ u))) (sym (used-is slots n))
    (subst (λ s. IfSome c.next_live.result (λ (f : LiveObject). starts_in s (f.at + f.size))) (sym is) c.next_live.ensures.next))

pub returns-clause-between : goal.returns-clause-between
returns-clause-between c =
    let slots = c.self.inside.slots.items in let n = c.args.segment in let is = the-segment c in
    subst (λ q. IfSome c.next_live.result (λ (f : LiveObject). (a : ℕ) → f.at < a → a < f.at + f.size → standing_at q (let p : Place = record { segment = n; at = a } in p) ≡ None)) c.self.view_is
    (subst (λ s. IfSome c.next_live.result (λ (f : LiveObject). (a : ℕ) → f.at < a → a < f.at + f.size → standing_in s a ≡ None)) (sym is) c.next_live.ensures.between)

pub returns-clause-counted : goal.returns-clause-counted
returns-clause-counted c =
    let slots = c.self.inside.slots.items in let n = c.args.segment in let is = the-segment c in
    subst (λ q. IfSome c.next_live.result (λ (f : LiveObject). f.size ≤ live_bytes_at q n)) c.self.view_is
    (subst (λ u. IfSome c.next_live.result (λ (f : LiveObject). f.size ≤ u)) (sym (live-is slots n))
    (subst (λ s. IfSome c.next_live.result (λ (f : LiveObject). f.size ≤ live_in s)) (sym is) c.next_live.ensures.counted))

pub returns-clause-dead : goal.returns-clause-dead
returns-clause-dead c =
    let slots = c.self.inside.slots.items in let n = c.args.segment in let is = the-segment c in
    subst (λ q. IsNone c.next_live.result → NoneLives q n 0 c.args.from → live_bytes_at q n ≡ 0) c.self.view_is
    (subst (λ u. IsNone c.next_live.result → none_lives_in (get_or slots n None) 0 c.args.from → u ≡ 0) (sym (live-is slots n))
    (subst (λ s. IsNone c.next_live.result → none_lives_in s 0 c.args.from → live_in s ≡ 0) (sym is) c.next_live.ensures.dead))

pub returns-clause-none : goal.returns-clause-none
returns-clause-none c =
    let slots = c.self.inside.slots.items in let n = c.args.segment in let is = the-segment c in
    subst (λ q. IsNone c.next_live.result → NoneLives q n c.args.from (used_at q n)) c.self.view_is
    (subst (λ u. IsNone c.next_live.result → none_lives_in (get_or slots n None) c.args.from u) (sym (used-is slots n))
    (subst (λ s. IsNone c.next_live.result → none_lives_in s c.args.from (used_in s)) (sym is) c.next_live.ensures.none))

pub returns-clause-found : goal.returns-clause-found
returns-clause-found c =
    let n = c.args.segment in let is = the-segment c in
    subst (λ q. IfSome c.next_live.result (λ (f : LiveObject). IsLiveAt (live_at q (let p : Place = record { segment = n; at = f.at } in p)) f.kind f.size)) c.self.view_is
    (subst (λ s. IfSome c.next_live.result (λ (f : LiveObject). IsLiveAt (item_if_live (standing_in s f.at)) f.kind f.size)) (sym is) c.next_live.ensures.found)

pub returns-clause-size : goal.returns-clause-size
returns-clause-size c = c.next_live.ensures.size

pub returns-clause-inside : goal.returns-clause-inside
returns-clause-inside c = c.next_live.ensures.inside
