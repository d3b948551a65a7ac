use Rattle.std.proofs.Common.{ℕ, ◌<◌, refl, subst, ap, ◌∙◌}
use Rattle.span_lists.specs.Layout.{HasNone}
use Rattle.std.specs.FinMap as map
use Rattle.common_lemmas.proofs.Maps.{get_removed}
use Rattle.common_lemmas.proofs.Options.{some_or_none}
use Rattle.small_pools.specs.Objects.{Objects}
use Rattle.small_pools.proofs.Trimmed.{trims_none, trims_more, held_less, room_same, room_less}
use Rattle.small_pools.proofs.held_spans.HeldSpans.trim_span.Goals as goal

pub returns-clause-used : goal.returns-clause-used
returns-clause-used c = λ class held.
    some_or_none held (ap (λ (o : Objects). map.get o.held c.args.first) c.remove.ensures.moves ∙ get_removed c.args.self.now.held c.args.first c.args.first refl)

pub returns-clause-trims : goal.returns-clause-trims
returns-clause-trims c =
    trims_more c.args.self.now c.args.self.now c.remove.new.self c.args.spans.now c.args.spans.now c.put.new.self c.args.first c.in-Some.class
    (trims_none c.args.self.now c.args.spans.now) c.in-Some.ensures.held c.in-Some.ensures.unused c.remove.ensures.moves c.put.ensures.allocated

pub returns-clause-held : goal.returns-clause-held
returns-clause-held c = held_less c.args.self.now c.remove.new.self c.args.spans.now c.put.new.self c.args.first c.requires.held c.remove.ensures.moves c.put.ensures.allocated c.put.ensures.pages

pub returns-in_default-clause-room : goal.returns-in_default-clause-room
returns-in_default-clause-room c = room_same c.args.self.now c.args.spans.now

pub returns-clause-room : goal.returns-clause-room
returns-clause-room c = room_less c.args.self.now c.remove.new.self c.args.spans.now c.put.new.self c.args.first c.in-Some.class c.in-Some.ensures.held c.remove.ensures.moves
    (subst (λ k. (o : ℕ) → HasNone c.put.new.self o → (k < o) × HasNone c.args.spans.now o) c.class_order.ensures.value c.put.ensures.orders)

pub returns-clause-unchanged : goal.returns-clause-unchanged
returns-clause-unchanged c = λ used. absurd (c.in-Some.ensures.unused (used c.args.first c.in-Some.class c.in-Some.ensures.held))
