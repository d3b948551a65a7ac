-- `lodge` and `dislodge` at a call, for bytes. Assumes `Logic`.
use Rattle.std.proofs.Common.{◌≡◌, ℕ, ◌+◌, ◌-◌, ◌*◌, ◌^◌, ◌<◌, ◌≤◌, List, [], ◌∷◌, length, true, refl, sym, ap, ◌∙◌, arith, add-zero, Vec}
use Rattle.std.proofs.lemmas.Bool.{ne_eqb, not_from_false}
use seplogic.Ra.Ura.{Ura}
use mir.Syntax.{w8, w64, ty_int, ty_array}
use mir.Val.{Val, vint, vptr}
use base.Fraction.{full_share}
use base.Logic.{SProp, ent, sep, ex, guard, emp, never, id⊢}
use base.Fml.{ftrue, fsep, flft, froom}
use prog.Memory.{Memory}
use prog.Routine.{Routine}
use contract.Monad.{Fun, fact, fact_i}
use contract.BorrowLft.{◌⊑◌, ⊑_refl}
use types.Logic.{Logic, sem}
use types.Kit.{‵, raw, ◌⊛◌, some, later, ◌$◌, ◌∵◌, !, qed, move, keep, use0, use1, use2, drop, split, split3, join, pick, fsplit, fjoin, fjoin3, feq_l, feq_i, flt_l, flt_i, rewrite, check, show, await, updating, now, done}
use denote.Exit.{no, left}
use denote.RattleType.{RattleType}
use denote.Builtin.{u8, usize}
use denote.Array.{Array}
use denote.Param.{param}
use denote.Param.Laws.{Laws, of_field}
use denote.Param.Shared.{copy_shared}
use denote.RawPtr.{Ptr, block_ptr, lies_at, in_block, in_a_block}
use denote.Steps.{only, nothing, heard}
use denote.Struct.Field.{u8-field}
use denote.Struct.Laws.{u8-laws, u8-copy}
use denote.Triple.Spec.{triple_of}
use denote.Triple.Statement.{Contract}
use Rattle.std.specs.Allocator.{block_with_items}
use Rattle.std_alloc.specs.Vec.Ownership.{lodged, owns_if, has_block}
use Rattle.std_alloc.specs.declared.vec.lodged.Lodged.{Lodged}
use Rattle.std_alloc.specs.contracts.vec.Vec as V
use Rattle.std_alloc.specs.contracts.vec.lodged.Lodged as L
use Rattle.std_alloc.specs.contracts.vec.lodged.LodgedAllocator.TheImpl.{ghosts}
use Rattle.std_alloc.specs.contracts.vec.lodge as LG
use Rattle.std_alloc.specs.contracts.vec.lodged.Vec+T+Lodged.dislodge as DL
use Rattle.std_alloc.proofs.vec.Vec.TheLaws as vec_laws
use Rattle.std_alloc.proofs.vec.lodged.Lodged.TheLaws as lodged-laws
use Rattle.raw_range.specs.inside.Ownership.{run_owns, room_owns}
use Rattle.raw_range.proofs.Rest.{run-in}

abbrev pub byte_laws : Laws u8
byte_laws = of_field u8-field u8-laws refl (copy_shared u8-field u8-copy)

abbrev pub LodgedBytes : RattleType
LodgedBytes = V.the_row u8 L.the_row ghosts

abbrev pub lodged_bytes-laws : Laws LodgedBytes
lodged_bytes-laws = vec_laws.the_row_laws u8 L.the_row ghosts byte_laws lodged-laws.the_row_laws

live : (c : ℕ) → 0 < c → has_block c ≡ true
live c h = not_from_false _ (ne_eqb c 0 (λ e. omega arith))

module _ {M : Type 1} {𝓤 : Ura M} (𝓛 : Logic 𝓤) (at_mem : Memory → SProp 𝓤) (run : Routine → Fun 𝓤) where
  open 𝓛 use {H}

  abbrev pub Lodges : Contract 𝓤
  Lodges = triple_of 𝓛 (LG.signature u8) (LG.spec u8 𝓛 at_mem run)

  abbrev pub Dislodges : Contract 𝓤
  Dislodges = triple_of 𝓛 (DL.signature u8) (DL.spec u8 𝓛 at_mem run)

  -- the bytes xs, n of them, and room for the others up to c
  module _ (b o n c : ℕ) (xs : List ℕ) where
    abbrev pub at_lodge : Lodges.Ghost
    at_lodge = ((([], tt), (full_share, tt), tt, (block_ptr b o, (n, (c, tt))), (vptr b o ∷ [], (vint w64 n ∷ [], (vint w64 c ∷ [], tt)))), xs)

    abbrev pub IsLodged : Vec ℕ Lodged → Type 0
    IsLodged r = (r.items ≡ xs) × (r.len ≡ n) × (r.cap ≡ c) × (r.ptr ≡ block_ptr b o)

    pub lodge_goes : length xs ≡ n → n ≤ c → 0 < c → c < 2 ^ 63 → ent 𝓤 (sep 𝓤 (sem 𝓛 (run_owns (block_ptr b o) xs)) (sem 𝓛 (room_owns (block_ptr b (o + n)) (c - n)))) (Lodges.pre at_lodge)
    lodge_goes long fits places small =
        let p = block_ptr b o in
        let Asked : Type 0 = (n ≡ length xs) × (n ≤ c) × (c < 2 ^ 63) in
        let times : o + n ≡ o + n * 1 = omega arith in
        qed 𝓛 (‵ (run_owns p xs) ∷ ‵ (room_owns (block_ptr b (o + n)) (c - n)) ∷ []) ∵ rewrite ! 0 (λ k. ‵ (lies_at (Array u8 k) full_share p xs)) long refl $
        move ! (1 ∷ []) $ rewrite ! 0 (λ k. ‵ (froom (ty_array (ty_int w8) (c - n)) b k)) times refl $ nothing ! $ move ! (2 ∷ 1 ∷ 0 ∷ []) $ fjoin3 ! $
        rewrite ! 0 (λ y. ‵ (owns_if y (block_with_items (λ _ _. ftrue) u8 p n c xs))) (sym (live c places)) refl $ flt_i ! (c * 1) (2 ^ 63) (omega (arith, small)) $ fjoin ! $
        use0 𝓛 (raw (fact 𝓤 Asked)) (fact_i 𝓤 Asked (emp 𝓤) (sym long, fits, small)) $ join ! $
        use0 𝓛 (raw (fact 𝓤 ([] ⊑ []))) (fact_i 𝓤 ([] ⊑ []) (emp 𝓤) (⊑_refl [])) $ join ! $
        nothing ! $ flt_i ! c (2 ^ 64) (omega (arith, small)) $ feq_i ! (List Val) (vint w64 c ∷ []) (vint w64 c ∷ []) refl $ fjoin ! $ fjoin ! $
        flt_i ! n (2 ^ 64) (omega (arith, fits, small)) $ feq_i ! (List Val) (vint w64 n ∷ []) (vint w64 n ∷ []) refl $ fjoin ! $ fjoin ! $
        feq_i ! (List Val) (vptr b o ∷ []) (vptr b o ∷ []) refl $ fjoin ! $ nothing ! $ use0 𝓛 (‵ (flft [] full_share)) (𝓛.lfts.lft-nil full_share) $ join ! $ join ! $ done !

    pub lodge_gives : (v : Val) → ent 𝓤 (Lodges.post at_lodge v) (H.⇛ (ex 𝓤 (λ (r : Vec ℕ Lodged). guard 𝓤 (IsLodged r) (sem 𝓛 (LodgedBytes.own_val r (v ∷ []))))))
    lodge_gives v =
        qed 𝓛 (raw (Lodges.post at_lodge v) ∷ []) ∵ updating ! $
        use1 𝓛 (later (some (λ (r : Vec ℕ Lodged). ((‵ (flft [] full_share) ⊛ ‵ ftrue) ⊛ ‵ (LodgedBytes.own_val r (v ∷ [])))
        ⊛ some (λ (ws : Unit {0} × (Unit {0} × (Unit {0} × Unit {0}))). ‵ (fsep ftrue (fsep ftrue (fsep ftrue ftrue))) ⊛ raw (fact 𝓤 (IsLodged r)))))) (id⊢ 𝓤 _) $ await ! tt $ pick ! (λ r.
        split ! $ move ! (1 ∷ []) $ pick ! (λ ws. split ! $ drop ! $ heard ! (IsLodged r) (λ is. split ! $ drop ! $ now ! $
        show ! (λ (z : Vec ℕ Lodged). guard 𝓤 (IsLodged z) (sem 𝓛 (LodgedBytes.own_val z (v ∷ [])))) r $ check ! is $ done !)))

  module _ (b o n : ℕ) (xs : List ℕ) where
    -- no place is left
    pub lodge_full_goes : length xs ≡ n → 0 < n → n < 2 ^ 63 → ent 𝓤 (sem 𝓛 (run_owns (block_ptr b o) xs)) (Lodges.pre (at_lodge b o n n xs))
    lodge_full_goes long places small =
        let p = block_ptr b o in let none : 0 ≡ n - n = omega arith in
        qed 𝓛 (‵ (run_owns p xs) ∷ []) ∵ use0 𝓛 (‵ (room_owns (block_ptr b (o + n)) 0)) (𝓛.laws.room_nil (ty_int w8) b (o + n)) $
        rewrite ! 0 (λ k. ‵ (room_owns (block_ptr b (o + n)) k)) none refl $ move ! (1 ∷ 0 ∷ []) $
        use2 𝓛 (raw (Lodges.pre (at_lodge b o n n xs))) (lodge_goes b o n n xs long (omega arith) places small) $ done !

  module _ (b o c : ℕ) where
    -- no place is taken
    pub lodge_empty_goes : 0 < c → c < 2 ^ 63 → ent 𝓤 (sem 𝓛 (room_owns (block_ptr b o) c)) (Lodges.pre (at_lodge b o 0 c []))
    lodge_empty_goes places small =
        let p = block_ptr b o in let all : c ≡ c - 0 = omega arith in
        qed 𝓛 (‵ (room_owns p c) ∷ []) ∵ rewrite ! 0 (λ k. ‵ (room_owns p k)) all refl $ rewrite ! 0 (λ k. ‵ (room_owns (block_ptr b k) (c - 0))) (sym (add-zero o)) refl $
        nothing ! $ use1 𝓛 (‵ (run_owns p [])) (run-in 𝓛 b o []) $ use2 𝓛 (raw (Lodges.pre (at_lodge b o 0 c []))) (lodge_goes b o 0 c [] refl (omega arith) places small) $ done !

  module _ (d : Vec ℕ Lodged) (u : Val) where
    abbrev pub at_dislodge : Dislodges.Ghost
    at_dislodge = ((([], tt), (full_share, tt), tt, (d, tt), (u ∷ [], tt)), tt)

    pub dislodge_goes : ent 𝓤 (sem 𝓛 (LodgedBytes.own_val d (u ∷ []))) (Dislodges.pre at_dislodge)
    dislodge_goes =
        qed 𝓛 (‵ (LodgedBytes.own_val d (u ∷ [])) ∷ []) ∵ nothing ! $ use0 𝓛 (raw (fact 𝓤 ([] ⊑ []))) (fact_i 𝓤 ([] ⊑ []) (emp 𝓤) (⊑_refl [])) $ join ! $
        nothing ! $ move ! (2 ∷ 0 ∷ []) $ fjoin ! $ nothing ! $ use0 𝓛 (‵ (flft [] full_share)) (𝓛.lfts.lft-nil full_share) $ join ! $ join ! $ done !

    pub dislodge_gives : 0 < d.len → (v : Val) → ent 𝓤 (Dislodges.post at_dislodge v) (H.⇛ (guard 𝓤 ((v ≡ vint w64 d.len) × (d.len < 2 ^ 64)) (sem 𝓛 (run_owns d.ptr d.items))))
    dislodge_gives filled v =
        let Blk = λ (p : Ptr). block_with_items (λ _ _. ftrue) u8 p d.len d.cap d.items in
        qed 𝓛 (raw (Dislodges.post at_dislodge v) ∷ []) ∵ updating ! $
        use1 𝓛 (later (some (λ (r : ℕ). ((‵ (flft [] full_share) ⊛ ‵ ftrue) ⊛ ‵ (usize.own_val r (v ∷ [])))
        ⊛ some (λ (ws : Unit {0} × Unit {0}). ‵ (fsep (left ((V.the_row (param 0 u8) L.the_row ghosts).exit no) d ws.0) ftrue) ⊛ raw (fact 𝓤 (r ≡ d.len)) ⊛ ‵ (lodged u8 d.ptr d.len d.cap d.items))))) (id⊢ 𝓤 _) $ await ! tt $ pick ! (λ r.
        split ! $ move ! (1 ∷ []) $ pick ! (λ ws. split3 ! $ drop ! $ heard ! (r ≡ d.len) (λ is. move ! (1 ∷ []) $ split ! $ drop ! $ fsplit ! $ feq_l ! (λ e. flt_l ! (λ f. now ! $
        check ! (ap only e ∙ ap (vint w64) is, omega arith) $ fsplit ! $ drop ! $
        in_a_block ! d.ptr (λ p. in_block p (owns_if (has_block d.cap) (Blk p))) (id⊢ 𝓤 (never 𝓤)) (λ b o at.
        rewrite ! 0 (λ y. ‵ (owns_if y (Blk (block_ptr b o)))) (live d.cap (omega (arith, d.ok.1))) refl $ rewrite ! 0 (λ p. ‵ (Blk p)) (sym at) refl $ fsplit ! $ keep ! (0 ∷ []) $
        rewrite ! 0 (λ k. ‵ (lies_at (Array u8 k) full_share d.ptr d.items)) d.ok.0 refl $ done !))))))
