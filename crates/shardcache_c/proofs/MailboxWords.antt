-- The machine values of a `Bare` and of a `Kept`, and what they own. Assumes `Logic`.
--     alone, both      a struct of one field, and of two
--     bare_out, bare_in      a `Bare` is what a box owns, and the allocator
--     kept_out, kept_in, none_in      a `Kept` is what a box owns, or nothing
use Rattle.std.proofs.Common.{◌≡◌, ℕ, List, [], ◌∷◌, ◌++◌, true, ◌&&◌, refl, subst, w64}
use Rattle.std.specs.Prelude.{Option, Some, None}
use lib.Dec.{T}
use seplogic.Ra.Ura.{Ura}
use mir.Raw.{raw as bare-type}
use mir.Val.{Val, vptr, vint, vstruct, vcons, vnil, of_list, has_ty, WT}
use base.Logic.{never, fst∗}
use types.Logic.{Logic, sem}
use types.Kit.{Item, Goal, Seq, Step, step, ‵, ◌$◌, move, drop, fsplit, fjoin, fpick, fpack, rewrite, feq_i, feq_l}
use denote.RattleType.{RattleType, Valss}
use denote.Builtin.{RawPtr}
use denote.Memory.{lone}
use denote.RawPtr.{Ptr, block_ptr, null_ptr, ptr_val, in_a_block}
use denote.Steps.{nothing}
use denote.Struct.Struct.{within}
use denote.Struct.Owning.{shape}
use Rattle.core.proofs.alloc.Calls.{Al, α, Fits, handle_tells}
use Rattle.std_alloc.specs.Box.Ownership.{box_owns}
use Rattle.std_alloc.proofs.ResultValues.{and_tt}
use Rattle.shardcache_c.specs.Keeping.{freed}
use Rattle.shardcache_c.specs.MailboxKeeping.{keeps}
use Rattle.shardcache_c.specs.contracts.bare.Bare as bare
use Rattle.shardcache_c.specs.contracts.kept_mailbox.KeptMailbox as kept
use Rattle.mailbox.specs.contracts.mailbox.Mailbox as shard

abbrev pub alone : Val → Val
alone v = vstruct (vcons v vnil)

abbrev pub both : Val → Val → Val
both v w = vstruct (vcons v (vcons w vnil))

-- ---- a box without its type, whose value is of the row R, by an allocator
module _ (R : RattleType) (E : Al) where
  abbrev pub Bare : RattleType
  Bare = bare.the_row R E.row E.g

  abbrev pub bare_good : (b o : ℕ) (h : Val) → Fits E h → T (has_ty (α E) h && true) × WT (both (vptr b o) h)
  bare_good b o h fits = (and_tt (has_ty (α E) h) fits.0, (tt, (fits.1, tt)))

  module _ {M : Type 1} {𝓤 : Ura M} {𝓛 : Logic 𝓤} {K : Type 0} {Γ : List (Item 𝓤)} {G : Goal 𝓤 𝓛.H} where
    pub bare_out : K → (d : Bare.Denot) (vs : List Val)
        → ((b o : ℕ) (h : Val) → d.at ≡ block_ptr b o → vs ≡ both (vptr b o) h ∷ [] → Fits E h
        → Seq K 𝓛 (‵ (box_owns (E.g.dealloc_token d.alloc) R (block_ptr b o) d.value) ∷ ‵ (E.row.own_val d.alloc (h ∷ [])) ∷ Γ) G)
        → Seq K 𝓛 (‵ (Bare.own_val d vs) ∷ Γ) G
    bare_out t d vs k =
        fsplit t $ fpick t (λ vss. fsplit t $ feq_l t (λ laid. fsplit t $ feq_l t (λ pointed. fsplit t $
        handle_tells E t d.alloc vss.1.0 (λ h told fits. move t (1 ∷ []) $ drop t $ move t (1 ∷ []) $
        in_a_block t d.at (λ p. box_owns (E.g.dealloc_token d.alloc) R p d.value) (fst∗ 𝓤 (never 𝓤) (sem 𝓛 (E.g.dealloc_token d.alloc (bare-type (lone R.mir)) null_ptr))) (λ b o at.
        k b o h at
        (subst (λ (p : Ptr). vs ≡ vstruct (of_list (ptr_val p ∷ h ∷ [])) ∷ []) at
        (subst (λ (us : List Val). vs ≡ vstruct (of_list (ptr_val d.at ∷ (us ++ []))) ∷ []) told
        (subst (λ (us : List Val). vs ≡ vstruct (of_list (us ++ (vss.1.0 ++ []))) ∷ []) pointed laid))) fits)))))

    pub bare_in : K → (b o : ℕ) (h : Val) (a : E.row.Denot) (x : R.Denot)
        → Step K 𝓛 (‵ (Bare.own_val (record { at = block_ptr b o; alloc = a; value = x }) (both (vptr b o) h ∷ [])) ∷ Γ) G
        (‵ (box_owns (E.g.dealloc_token a) R (block_ptr b o) x) ∷ ‵ (E.row.own_val a (h ∷ [])) ∷ Γ) G
    bare_in t b o h a x = step (λ s.
        let w : Val = both (vptr b o) h in
        nothing t $ move t (2 ∷ 0 ∷ []) $ fjoin t $ feq_i t (List Val) (vptr b o ∷ []) (vptr b o ∷ []) refl $ fjoin t $ feq_i t (List Val) (w ∷ []) (w ∷ []) refl $ fjoin t $
        fpack t (Valss (RawPtr ∷ E.row ∷ [])) (within (shape (bare.the_type R E.row E.g)) (block_ptr b o, (a, tt)) (w ∷ [])) (vptr b o ∷ [], (h ∷ [], tt)) $ fjoin t $ s)

-- ---- what C holds
abbrev pub Kept : RattleType
Kept = kept.the_row

module _ {M : Type 1} {𝓤 : Ura M} {𝓛 : Logic 𝓤} {K : Type 0} {Γ : List (Item 𝓤)} {G : Goal 𝓤 𝓛.H} where
  pub kept_out : K → (d : Kept.Denot) (x : shard.the_row.Denot) (vs : List Val) → d.value ≡ Some x
      → ((b o : ℕ) → d.at ≡ block_ptr b o → vs ≡ alone (vptr b o) ∷ [] → Seq K 𝓛 (‵ (box_owns freed shard.the_row (block_ptr b o) x) ∷ Γ) G)
      → Seq K 𝓛 (‵ (Kept.own_val d vs) ∷ Γ) G
  kept_out t d x vs is k =
      fsplit t $ fpick t (λ vss. fsplit t $ feq_l t (λ laid. fsplit t $ feq_l t (λ pointed. drop t $
      rewrite t 0 (λ (o : Option shard.the_row.Denot). ‵ (keeps d.at o)) is refl $
      in_a_block t d.at (λ p. box_owns freed shard.the_row p x) (fst∗ 𝓤 (never 𝓤) (sem 𝓛 (freed (bare-type (lone shard.the_row.mir)) null_ptr))) (λ b o at.
      k b o at
      (subst (λ (p : Ptr). vs ≡ vstruct (of_list (ptr_val p ∷ [])) ∷ []) at (subst (λ (us : List Val). vs ≡ vstruct (of_list (us ++ [])) ∷ []) pointed laid))))))

  pub kept_in : K → (b o : ℕ) (x : shard.the_row.Denot)
      → Step K 𝓛 (‵ (Kept.own_val (record { at = block_ptr b o; value = Some x }) (alone (vptr b o) ∷ [])) ∷ Γ) G (‵ (box_owns freed shard.the_row (block_ptr b o) x) ∷ Γ) G
  kept_in t b o x = step (λ s.
      let w : Val = alone (vptr b o) in
      nothing t $ feq_i t (List Val) (vptr b o ∷ []) (vptr b o ∷ []) refl $ fjoin t $ feq_i t (List Val) (w ∷ []) (w ∷ []) refl $ fjoin t $
      fpack t (Valss (RawPtr ∷ [])) (within (shape kept.the_type) (block_ptr b o, tt) (w ∷ [])) (vptr b o ∷ [], tt) $ fjoin t $ s)

  pub none_in : K → Step K 𝓛 (‵ (Kept.own_val (record { at = null_ptr; value = None }) (alone (vint w64 0) ∷ [])) ∷ Γ) G Γ G
  none_in t = step (λ s.
      let w : Val = alone (vint w64 0) in
      nothing t $ nothing t $ feq_i t (List Val) (vint w64 0 ∷ []) (vint w64 0 ∷ []) refl $ fjoin t $ feq_i t (List Val) (w ∷ []) (w ∷ []) refl $ fjoin t $
      fpack t (Valss (RawPtr ∷ [])) (within (shape kept.the_type) (null_ptr, tt) (w ∷ [])) (vint w64 0 ∷ [], tt) $ fjoin t $ s)
