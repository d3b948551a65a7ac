use Rattle.std.proofs.Common.{◌≡◌, ℕ, arith, ◌⊎◌, inl, inr, List, ◌≤◌, ◌+◌, length, take, drop, sym, ap, ◌∙◌, subst}
use Rattle.std.specs.Prelude.{All, slice_index}
use Rattle.std.proofs.lemmas.List.{get_or-drop, get_or-take}
use Rattle.layout.specs.Sizes.{segment, descriptor}
use Rattle.object_log.specs.declared.descriptor.Descriptor.{Descriptor}
use Rattle.object_log.specs.Objects.{Object, described, objects, state_of, IsSize, IsSegment, StandsAt}
use Rattle.object_log.proofs.Reading.{stands-within, stands-fits, objects-told}
use Rattle.object_log.proofs.descriptor.read_descriptor.Goals as goal

-- the descriptor lies in the segment
room : (bytes : List ℕ) (at : ℕ) → (used : ℕ) × IsSegment bytes used × (StandsAt at (objects bytes used) ⊎ ((at ≡ used) × (used + descriptor ≤ segment))) → at + 8 ≤ length bytes
room bytes at (used, s, inl stands) = omega (arith, s.inside, s.long, (stands-within bytes 0 used at (objects bytes used) s.objects stands).1)
room bytes at (used, s, inr end) = omega (arith, s.long, end.0, end.1)

pub descriptor_in-requires : goal.descriptor_in-requires
descriptor_in-requires c = room c.args.segment.now c.args.at c.requires

pub returns-clause-object : goal.returns-clause-object
returns-clause-object c used s =
    subst (λ (d : Descriptor). All (λ (o : Object). o.at ≡ c.args.at → o ≡ described c.args.at d) (objects c.args.segment.now used)) (sym c.descriptor_in.ensures)
    (objects-told c.args.segment.now 0 used c.args.at (objects c.args.segment.now used) s.objects)

pub returns-clause-end : goal.returns-clause-end
returns-clause-end c s =
    let at = c.args.at in let bytes = c.args.segment.now in
    let space = room bytes at c.requires in
    let ends = s.ended (omega (arith, space, s.long)) in
    let first : slice_index bytes at ≡ slice_index (take 8 (drop at bytes)) 0 =
    ap (slice_index bytes) (omega arith) ∙ sym (get_or-drop at bytes 0 0) ∙ sym (get_or-take 8 (drop at bytes) 0 0 (omega arith)) in
    ap (λ (d : Descriptor). d.state) c.descriptor_in.ensures ∙ ap state_of (first ∙ ap (λ xs. slice_index xs 0) ends)

pub returns-clause-fits : goal.returns-clause-fits
returns-clause-fits c used s stands =
    let at = c.args.at in let bytes = c.args.segment.now in
    subst (λ (d : Descriptor). IsSize d.size × (at + d.size ≤ used)) (sym c.descriptor_in.ensures) (stands-fits bytes 0 used at (objects bytes used) s.objects stands)
