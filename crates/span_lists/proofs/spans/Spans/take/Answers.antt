use Rattle.std.proofs.Common.{refl, ap, ◌∙◌}
use Rattle.std.specs.FinMap as map
use Rattle.span_lists.specs.Layout.{Layout}
use Rattle.common_lemmas.proofs.Maps.{get_inserted}
use Rattle.span_lists.proofs.Steps.{free_in_front, took}
use Rattle.span_lists.proofs.spans.Spans.take.Goals as goal

pub allocate-requires-clause-free : goal.allocate-requires-clause-free
allocate-requires-clause-free c = free_in_front c.args.self.now c.args.order c.in_ok-first.first c.in_ok-first.from c.in_ok-first.ensures.found

pub split_down-requires-clause-allocated : goal.split_down-requires-clause-allocated
split_down-requires-clause-allocated c = ap (λ (s : Layout). map.get s.allocated c.in_ok-first.first) c.allocate.ensures.moves ∙ get_inserted c.args.self.now.allocated _ c.in_ok-first.from _ refl

pub returns-clause-allocated : goal.returns-clause-allocated
returns-clause-allocated c = (took c.args.self.now c.allocate.new.self c.split_down.new.self c.args.order c.in_ok-first.first c.in_ok-first.from c.in_ok-first.ensures.found c.in_ok-first.ensures.divided c.allocate.ensures.moves c.split_down.ensures).1

pub returns-clause-free : goal.returns-clause-free
returns-clause-free c = (took c.args.self.now c.allocate.new.self c.split_down.new.self c.args.order c.in_ok-first.first c.in_ok-first.from c.in_ok-first.ensures.found c.in_ok-first.ensures.divided c.allocate.ensures.moves c.split_down.ensures).0

pub returns-clause-pages : goal.returns-clause-pages
returns-clause-pages c = (took c.args.self.now c.allocate.new.self c.split_down.new.self c.args.order c.in_ok-first.first c.in_ok-first.from c.in_ok-first.ensures.found c.in_ok-first.ensures.divided c.allocate.ensures.moves c.split_down.ensures).2
