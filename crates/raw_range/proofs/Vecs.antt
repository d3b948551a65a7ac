-- A `Vec` of bytes without an element is its places and the way back. Assumes `Logic`.
use Rattle.std.proofs.Common.{◌≡◌, ℕ, ◌+◌, ◌-◌, ◌*◌, ◌<◌, [], ◌∷◌, true, refl, sym, arith, Vec}
use Rattle.std.proofs.lemmas.Bool.{ne_eqb, not_from_false}
use seplogic.Ra.Ura.{Ura}
use mir.Syntax.{Args, Dict, a_type, dcons, dnil, w8, ty_int, ty_array}
use mir.Val.{Val}
use base.Logic.{ent, sep, never, id⊢}
use base.Fml.{Fml, fsep, feq, fwand, froom}
use types.Logic.{Logic, sem}
use types.Kit.{‵, ◌$◌, ◌∵◌, !, qed, move, frame, assume, show, fsplit, fjoin, feq_i, rewrite, done}
use denote.RattleType.{RattleType}
use denote.Builtin.{u8}
use denote.Param.{param, bounded}
use denote.Param.Laws.{Laws, param_laws, of_field}
use denote.Param.Shared.{copy_shared}
use denote.Struct.Laws.{u8-laws, u8-copy}
use denote.Struct.Field.{u8-field}
use denote.RawPtr.{Ptr, block_ptr, in_block, in_a_block}
use Rattle.std.specs.declared.alloc.Allocator.{Ghosts}
use Rattle.std.specs.Allocator.{block_with_items}
use Rattle.std_alloc.specs.Vec.Ownership.{owns_if, has_block}
use Rattle.std_alloc.specs.contracts.vec.Vec as V
use Rattle.std_alloc.proofs.vec.Vec.TheLaws as vec_laws
use Rattle.raw_range.specs.inside.Ownership.{room_owns}
use Rattle.raw_range.specs.contracts.memory.Sole as Sole
use Rattle.raw_range.proofs.Walks.{plainly, one, one_made}

-- the type arguments of a function over vectors of an allocator, and the laws of such a vector of bytes
abbrev pub of_allocator : RattleType → Dict → Dict → Args
of_allocator A d dd = bounded (a_type ∷ []) (A, tt) (dcons d (dcons dd dnil))

pub byte_vec_laws : (A : RattleType) (L : Laws A) (g : Ghosts A.Denot) → Laws (V.the_row u8 (param 0 A) g)
byte_vec_laws A L g = vec_laws.the_row_laws u8 (param 0 A) g (of_field u8-field u8-laws refl (copy_shared u8-field u8-copy)) (param_laws 0 A L)

abbrev bytes_room : ℕ → ℕ → ℕ → Fml
bytes_room n b o = froom (ty_array (ty_int w8) n) b o

module _ (P : RattleType) (g : Ghosts P.Denot) {M : Type 1} {𝓤 : Ura M} (𝓛 : Logic 𝓤) (v : Vec ℕ P.Denot) (u : Val) where
  pub carve : v.len ≡ 0 → 0 < v.cap → ent 𝓤 (sem 𝓛 ((V.the_row u8 P g).own_val v (u ∷ []))) (sep 𝓤 (sem 𝓛 (room_owns v.ptr v.cap)) (sem 𝓛 (Sole.the_own P g (record { ptr = v.ptr; len = v.cap }) (one u ∷ []))))
  carve empty places =
      let live : has_block v.cap ≡ true = not_from_false _ (ne_eqb v.cap 0 (λ e. omega (arith, places, e))) in
      let all : v.cap - v.len ≡ v.cap = omega (arith, empty) in
      let begins : (o : ℕ) → o + v.len * 1 ≡ o = λ o. omega (arith, empty) in
      let Blk = λ (p : Ptr). block_with_items (g.dealloc_token v.alloc) u8 p v.len v.cap v.items in
      let Given = room_owns v.ptr v.cap in
      let Whole = (plainly (V.the_row u8 P g ∷ [])).own_val (v, tt) (one u ∷ []) in
      qed 𝓛 (‵ ((V.the_row u8 P g).own_val v (u ∷ [])) ∷ []) ∵ fsplit ! $ move ! (1 ∷ []) $ fsplit ! $ move ! (1 ∷ []) $
      in_a_block ! v.ptr (λ p. in_block p (owns_if (has_block v.cap) (Blk p))) (id⊢ 𝓤 (never 𝓤)) (λ b o at.
      rewrite ! 0 (λ y. ‵ (owns_if y (Blk (block_ptr b o)))) live refl $ fsplit ! $ move ! (1 ∷ []) $ fsplit ! $
      -- [the places; the right to free; no elements; the bound; the fields]
      rewrite ! 0 (λ k. ‵ (bytes_room k b (o + v.len * 1))) all refl $ rewrite ! 0 (λ k. ‵ (bytes_room v.cap b k)) (begins o) refl $
      rewrite ! 0 (λ p. ‵ (room_owns p v.cap)) (sym at) refl $ frame ! $
      show ! (λ i. sem 𝓛 (fsep (feq ℕ i.vec.len 0) (fsep (feq ℕ i.vec.cap v.cap) (fwand Given ((plainly (V.the_row u8 P g ∷ [])).own_val (i.vec, tt) (one u ∷ [])))))) (record { vec = v }) $
      feq_i ! ℕ v.len 0 empty $ frame ! $ feq_i ! ℕ v.cap v.cap refl $ frame ! $ assume ! (‵ Given) $
      rewrite ! 0 (λ p. ‵ (room_owns p v.cap)) at refl $ rewrite ! 0 (λ k. ‵ (bytes_room v.cap b k)) (sym (begins o)) refl $
      rewrite ! 0 (λ k. ‵ (bytes_room k b (o + v.len * 1))) (sym all) refl $ fjoin ! $ move ! (1 ∷ 0 ∷ []) $ fjoin ! $
      rewrite ! 0 (λ y. ‵ (owns_if y (Blk (block_ptr b o)))) (sym live) refl $ rewrite ! 0 (λ p. ‵ (in_block p (owns_if (has_block v.cap) (Blk p)))) (sym at) refl $
      move ! (1 ∷ 0 ∷ []) $ fjoin ! $ move ! (1 ∷ 0 ∷ []) $ fjoin ! $ one_made ! (V.the_row u8 P g) v u $ done !)
