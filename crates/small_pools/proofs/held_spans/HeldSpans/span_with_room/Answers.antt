use Rattle.std.proofs.Common.{inl, inr, refl, sym, ap, ◌∙◌}
use Rattle.std.proofs.lemmas.Bool.{cases_eq}
use Rattle.std.specs.FinMap as map
use Rattle.common_lemmas.proofs.Maps.{get_inserted, get_past_insert}
use Rattle.small_pools.specs.Objects.{Objects}
use Rattle.small_pools.proofs.Trimmed.{clear_of, inside_of, held_more, free_before}
use Rattle.small_pools.proofs.held_spans.HeldSpans.span_with_room.Goals as goal

pub add-requires-clause-inside : goal.add-requires-clause-inside
add-requires-clause-inside c = inside_of c.args.self.now c.args.spans.now c.take.new.self c.in_ok-first.first c.args.class c.requires.held
    (c.in_ok-first.ensures.allocated ∙ ap (map.insert c.args.spans.now.allocated c.in_ok-first.first) c.class_order.ensures.value) c.in_ok-first.ensures.pages c.in_ok-first.ensures.divided

pub add-requires-clause-clear : goal.add-requires-clause-clear
add-requires-clause-clear c = clear_of c.args.self.now c.args.spans.now c.take.new.self c.in_ok-first.first c.args.class c.requires.held c.in_ok-first.ensures.was_free
    (c.in_ok-first.ensures.allocated ∙ ap (map.insert c.args.spans.now.allocated c.in_ok-first.first) c.class_order.ensures.value) c.in_ok-first.ensures.divided

pub returns-clause-found : goal.returns-clause-found
returns-clause-found c = ap (λ (s : Objects). map.get s.held c.in_ok-first.first) c.add.ensures.moves ∙ get_inserted c.args.self.now.held c.in_ok-first.first c.args.class c.in_ok-first.first refl

pub returns-clause-spans : goal.returns-clause-spans
returns-clause-spans c = inr (
  c.in_default.ensures.none,
  (
    c.in_ok-first.first,
    ap (λ (s : Objects). s.held) c.add.ensures.moves,
    c.in_ok-first.ensures.allocated
        ∙ ap (map.insert c.args.spans.now.allocated c.in_ok-first.first) c.class_order.ensures.value,
    free_before c.args.self.now c.args.spans.now c.in_ok-first.first c.requires.held c.in_ok-first.ensures.was_free,
    c.in_ok-first.ensures.was_free,
  ),
)

pub returns-clause-held : goal.returns-clause-held
returns-clause-held c = held_more c.args.self.now c.add.new.self c.args.spans.now c.take.new.self c.in_ok-first.first c.args.class c.requires.held c.in_ok-first.ensures.was_free
    (c.in_ok-first.ensures.allocated ∙ ap (map.insert c.args.spans.now.allocated c.in_ok-first.first) c.class_order.ensures.value) c.in_ok-first.ensures.pages c.add.ensures.moves

pub returns-clause-come : goal.returns-clause-come
returns-clause-come c = λ other held h. elim (cases_eq other c.in_ok-first.first) [
  | inl here ↦ inl here
  | inr far ↦ inr (sym (get_past_insert c.args.self.now.held c.in_ok-first.first c.args.class other far) ∙ sym (ap (λ (s : Objects). map.get s.held other) c.add.ensures.moves) ∙ h)
]
