use Rattle.std.proofs.Common.{◌≡◌, ℕ, ◌+◌, ◌*◌, ◌^◌, inl, inr, ◌<◌, ◌∷◌, length, refl, sym, ap, subst, ◌∙◌, arith}
use Rattle.std.specs.Prelude.{Contains}
use Rattle.std.specs.FinMap as map
use Rattle.small_pools.specs.Classes.{size_of, order_of}
use Rattle.small_pools.specs.Objects.{LacksObject}
use Rattle.layout.specs.Sizes.{page}
use Rattle.layout.specs.Extents.{Extent, extent, Disjoint, AreDisjoint}
use Rattle.raw_range.specs.Memory.{Memory, Lent, extent_of}
use Rattle.shard_memory.specs.Shards.{FillPages}
use Rattle.shard_memory.specs.Room.{Room, LacksBlock, LacksClass, IsTrimmed, TakesObject}
use Rattle.shard_memory.specs.inside.Pieces.{Pieces, most_out}
use Rattle.shard_memory.specs.inside.Parts.{IsConsistent, is_block, blocks_of, segments_of}
use Rattle.shard_memory.proofs.Lists.{all_of, few_pieces, has_first, kept_by, block_is, block_added, block_leaves_segments, disjoint_still}
use Rattle.shard_memory.proofs.Counts.{crowded}
use Rattle.shard_memory.proofs.Changes.{used_still}
use Rattle.shard_memory.proofs.PagesOut.{pages_taken}
use Rattle.shard_memory.proofs.Steps.{block_inside, block_apart, gave_block, least_one}
use Rattle.shard_memory.proofs.piece_allocator.PieceAllocator.give_block.Goals as goal

pub take-requires-2-clause-inside : goal.take-requires-2-clause-inside
take-requires-2-clause-inside c = block_inside c.self.inside.range.pages c.self.inside.range.allocated c.self.inside.spans c.self.inside.pools c.take.new.self c.in-Some.place
    c.in_ok-class.class c.args.size c.self.invariant.1 c.in-Some.ensures.allocated c.in-Some.ensures.pages c.in-Some.ensures.objects c.in_ok-class.ensures.least.holds

pub take-requires-2-clause-disjoint : goal.take-requires-2-clause-disjoint
take-requires-2-clause-disjoint c =
    all_of (Disjoint (extent c.in-Some.place c.args.size)) c.self.inside.range.allocated
    (block_apart c.self.inside.range.pages c.self.inside.range.allocated c.self.inside.spans c.take.new.spans c.self.inside.pools c.take.new.self c.in-Some.place c.in_ok-class.class c.args.size c.self.invariant.1
    c.in-Some.ensures.was_free c.in-Some.ensures.allocated c.in-Some.ensures.spans c.in-Some.ensures.held c.in-Some.ensures.objects c.in-Some.ensures.divided c.in_ok-class.ensures.least.holds)

pub take-requires-2-clause-few : goal.take-requires-2-clause-few
take-requires-2-clause-few c = few_pieces c.self.inside.range.pages c.self.inside.range.allocated c.self.invariant.1.most c.self.invariant.1.blocks c.self.invariant.1.few

pub invariant_of-self-2 : goal.invariant_of-self-2
invariant_of-self-2 c = (
  c.self.invariant.0 ∙ sym (ap (λ (m : Memory). m.pages) c.take-2.ensures.allocated),
  subst (λ (m : Memory). IsConsistent m.pages m.allocated c.take.new.spans c.take.new.self) (sym c.take-2.ensures.allocated)
      (gave_block c.self.inside.range.pages c.self.inside.range.allocated c.self.inside.spans c.take.new.spans c.self.inside.pools c.take.new.self c.in-Some.place c.in_ok-class.class c.args.size c.self.invariant.1 c.in-Some.ensures.was_free
      c.in-Some.ensures.allocated c.in-Some.ensures.pages c.in-Some.ensures.spans c.in-Some.ensures.held c.in-Some.ensures.objects c.in-Some.ensures.divided c.in-Some.ensures.coalesced c.in_ok-class.ensures.least
      (subst (λ (s : Pieces). length s.blocks < most_out) (sym c.self.view_is) c.requires.few)
      (subst (λ (m : Memory). AreDisjoint (4096 * m.pages) m.allocated) c.take-2.ensures.allocated c.take-2.ensures.blocks)),
)

pub returns-in_default-clause-refused : goal.returns-in_default-clause-refused
unfolding LacksBlock LacksClass
returns-in_default-clause-refused c =
    (let fits = c.in_ok-class.ensures.least.holds in let most = c.in_ok-class.ensures.bounds.size_most in
    let none = c.in_default.ensures.none.0 refl in (
      omega (arith, fits, most),
      λ k least. subst (λ (s : Pieces). LacksClass s.room k) c.self.view_is
          (subst (LacksObject c.self.inside.pools c.self.inside.spans) (least_one c.args.size c.in_ok-class.class k c.in_ok-class.ensures.least least) none),
    ))

pub returns-clause-room : goal.returns-clause-room
unfolding LacksBlock LacksClass
returns-clause-room c =
    (let fits = c.in_ok-class.ensures.least.holds in let most = c.in_ok-class.ensures.bounds.size_most in (
      omega (arith, fits, most),
      λ h.
          (let lacks = subst (λ (s : Pieces). LacksBlock s.room c.args.size) (sym c.self.view_is) h in
          let none = lacks c.in_ok-class.class c.in_ok-class.ensures.least in
          let clash = c.in-Some.ensures.none.1 none in cc),
    ))

pub returns-clause-given : goal.returns-clause-given
returns-clause-given c =
    (let p = extent c.in-Some.place c.args.size in
    let at : extent_of c.take-2.result ≡ p = c.take-2.ensures.extent in
    let small = (returns-clause-room c).0 in
    let has = kept_by is_block p (p ∷ c.self.inside.range.allocated) (has_first p c.self.inside.range.allocated) (block_is p small) in (
      ap (λ (l : Lent). l.home) c.take-2.ensures.piece ∙ sym (ap (λ (m : Memory). m.home) c.take-2.ensures.allocated),
      subst (λ (m : Memory). Contains (blocks_of m.allocated) (extent_of c.take-2.result)) (sym c.take-2.ensures.allocated) (subst (λ q. Contains (blocks_of (p ∷ c.self.inside.range.allocated)) q) (sym at) has),
    ))

pub returns-clause-blocks : goal.returns-clause-blocks
returns-clause-blocks c =
    (let p = extent c.in-Some.place c.args.size in
    let at : extent_of c.take-2.result ≡ p = c.take-2.ensures.extent in
    ap (λ (m : Memory). blocks_of m.allocated) c.take-2.ensures.allocated ∙ block_added c.self.inside.range.allocated p (returns-clause-room c).0
    ∙ ap (λ q. q ∷ blocks_of c.self.inside.range.allocated) (sym at) ∙ ap (λ (s : Pieces). extent_of c.take-2.result ∷ s.blocks) c.self.view_is)

pub returns-clause-disjoint : goal.returns-clause-disjoint
returns-clause-disjoint c = disjoint_still is_block (page * c.take-2.new.self.pages) c.take-2.new.self.allocated c.take-2.ensures.blocks

pub returns-clause-segments : goal.returns-clause-segments
returns-clause-segments c =
    ap (λ (m : Memory). segments_of m.allocated) c.take-2.ensures.allocated
    ∙ block_leaves_segments c.self.inside.range.allocated (extent c.in-Some.place c.args.size) (returns-clause-room c).0 ∙ ap (λ (s : Pieces). s.segments) c.self.view_is

pub returns-clause-least : goal.returns-clause-least
returns-clause-least c = (
  c.in_ok-class.class,
  c.in_ok-class.ensures.least,
  subst (λ (s : Pieces). c.take.new.self.allocated ≡ map.insert s.objects c.take-2.result.at (size_of c.in_ok-class.class)) c.self.view_is
      (c.in-Some.ensures.allocated ∙ ap (λ (at : ℕ). map.insert c.self.inside.pools.allocated at (size_of c.in_ok-class.class)) (sym (ap (λ (q : Extent). q.start) c.take-2.ensures.extent))),
)

pub returns-in_default-clause-crowded : goal.returns-in_default-clause-crowded
unfolding IsTrimmed
returns-in_default-clause-crowded c =
    λ _. subst (λ (s : Pieces). IsTrimmed s.room → FillPages s.pages (length s.segments) (length s.blocks)) c.self.view_is
    (λ trimmed. crowded c.self.inside.range.pages (order_of c.in_ok-class.class) c.self.inside.range.allocated c.self.inside.spans c.self.inside.pools c.self.invariant.1
    c.in_ok-class.ensures.bounds.order_most c.in_default.ensures.blocked trimmed)

pub returns-clause-pages_out : goal.returns-clause-pages_out
returns-clause-pages_out c =
    let before = ap (λ (s : Pieces). s.pages_out) c.self.view_is in
    elim (pages_taken c.self.inside.pools c.take.new.self c.self.inside.spans c.take.new.spans c.in_ok-class.class c.in-Some.ensures.spans) [
      | inl same ↦ inl (same ∙ before)
      | inr more ↦ inr (c.in_ok-class.class, c.in_ok-class.ensures.least, more ∙ ap (λ n. n + 2 ^ order_of c.in_ok-class.class) before)
    ]

pub returns-clause-trimmed : goal.returns-clause-trimmed
unfolding IsTrimmed
returns-clause-trimmed c = λ trimmed.
    used_still c.self.inside.pools c.take.new.self c.self.inside.spans c.take.new.spans c.in-Some.place c.in_ok-class.class c.in-Some.ensures.objects c.in-Some.ensures.was_free c.in-Some.ensures.allocated c.in-Some.ensures.spans
    (subst (λ (s : Pieces). IsTrimmed s.room) (sym c.self.view_is) trimmed)

pub returns-clause-taken : goal.returns-clause-taken
returns-clause-taken c =
    let old : Room = record { spans = c.self.inside.spans; pools = c.self.inside.pools } in
    let new : Room = record { spans = c.take.new.spans; pools = c.take.new.self } in
    let e = c.in-Some.ensures in
    let taken : TakesObject old new c.args.size
    c.in-Some.place = record { class = c.in_ok-class.class; least = c.in_ok-class.ensures.least; was_free = e.was_free; allocated = e.allocated; spans = e.spans } in
    subst (λ (s : Pieces). TakesObject s.room new c.args.size c.take-2.result.at) c.self.view_is
    (subst (TakesObject old new c.args.size) (sym (ap (λ (q : Extent). q.start) c.take-2.ensures.extent)) taken)
