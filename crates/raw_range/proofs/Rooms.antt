-- Room for bytes, cut and glued. Assumes `Logic`.
use Rattle.std.proofs.Common.{◌≡◌, ℕ, ◌+◌, ◌-◌, ◌≤◌, List, [], ◌∷◌, length, refl, sym, arith}
use seplogic.Ra.Ura.{Ura}
use mir.Syntax.{w8, ty_int}
use base.Fraction.{full_share}
use base.Logic.{ent, sep, never_e}
use types.Logic.{Logic, sem}
use types.Kit.{‵, ◌⊛◌, given, learn, ◌$◌, ◌∵◌, !, qed, move, use1, use2, split, rewrite, done}
use denote.RawPtr.{Ptr, block_ptr, null_ptr, ◌+ₚ◌}
use denote.RawPtr.Bytes.{bytes, bytes-room}
use denote.RawPtr.Room.{past, past_bytes, room_cut, room_glue}
use Rattle.raw_range.specs.inside.Ownership.{IsPlaced, run_owns, room_owns}
use Rattle.raw_range.proofs.Rest.{run-out}

module _ {M : Type 1} {𝓤 : Ura M} (𝓛 : Logic 𝓤) where
  pub cut-room : (p : Ptr) (m n : ℕ) → m ≤ n → ent 𝓤 (sem 𝓛 (room_owns p n)) (sep 𝓤 (sem 𝓛 (room_owns p m)) (sem 𝓛 (room_owns (p +ₚ m) (n - m))))
  cut-room null_ptr m n h = never_e 𝓤 _
  cut-room (block_ptr b o) m n h =
      let p = block_ptr b o in let more : n ≡ m + (n - m) = omega (arith, h) in
      qed 𝓛 (‵ (room_owns p n) ∷ []) ∵ rewrite ! 0 (λ k. ‵ (room_owns p k)) more refl $
      use1 𝓛 (‵ (room_owns p m) ⊛ ‵ (room_owns (block_ptr b (past (ty_int w8) m o)) (n - m))) (room_cut 𝓛 (ty_int w8) m (n - m) b o) $ split ! $
      move ! (1 ∷ []) $ rewrite ! 0 (λ k. ‵ (room_owns (block_ptr b k) (n - m))) (past_bytes m o) refl $ move ! (1 ∷ 0 ∷ []) $ done !

  -- what the bytes in front hold is forgotten
  pub glue-room : (b o n : ℕ) (xs : List ℕ) → ent 𝓤 (sep 𝓤 (sem 𝓛 (run_owns (block_ptr b o) xs)) (sem 𝓛 (room_owns (block_ptr b (o + length xs)) n))) (sem 𝓛 (room_owns (block_ptr b o) (length xs + n)))
  glue-room b o n xs =
      let p = block_ptr b o in let k = length xs in
      qed 𝓛 (‵ (run_owns p xs) ∷ ‵ (room_owns (block_ptr b (o + k)) n) ∷ []) ∵
      use1 𝓛 (given (IsPlaced p) (‵ (bytes full_share xs b o))) (run-out 𝓛 p xs) $ learn ! (λ placed.
      use1 𝓛 (‵ (room_owns p k)) (bytes-room 𝓛 xs b o) $ move ! (1 ∷ []) $
      rewrite ! 0 (λ i. ‵ (room_owns (block_ptr b i) n)) (sym (past_bytes k o)) refl $ move ! (1 ∷ 0 ∷ []) $
      use2 𝓛 (‵ (room_owns p (k + n))) (room_glue 𝓛 (ty_int w8) k n b o) $ done !)
