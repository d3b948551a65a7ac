-- `fitted` hands on what `part_of` lends, under a new name: as many bytes are left there as there were. Assumes `Logic`.
use Rattle.std.proofs.Common.{◌≡◌, ℕ, List, [], ◌∷◌, ◌+◌, ◌≤◌, length, take, drop as drop_list, length-take-le, length-drop, refl, sym, ap, ◌∙◌, arith, w64, MutBor}
use Rattle.std.specs.List.{refill}
use Rattle.std.specs.Vec.{with_items_from}
use Rattle.std.proofs.raw_atomic.Walks.{proved}
use Rattle.raw_range.proofs.Lodging.{LodgedBytes}
use lib.Seq.{take_at as take_front}
use seplogic.Ra.Ura.{Ura}
use mir.Syntax.{named}
use base.Logic.{SProp, ent, sep, ex, emp, id⊢}
use base.Stored.{coded_list}
use base.Fml.{Lft, GName, Share, ftrue, flft, fobs, fbor}
use contract.Monad.{fact, fact_i}
use contract.Running.{tables}
use types.Logic.{Logic, sem}
use types.Kit.{Item, ‵, ◌⊛◌, raw, some, later, ◌$◌, ◌∵◌, !, qed, move, keep, drop, group, use0, use1, use2, use3, split, split3, join, fsplit, fsplit3, fjoin, feq_l, feq_i, flt_l, rewrite, await, updating, pick, now, show, suffices, frame, done}
use types.SemTy.{cells, Arr, Body}
use types.Follow.{takes_part}
use types.Mut.{open_ref}
use types.Run.{addr, stop, and_then, no_more, returns, enter}
use types.ByLocal.{alloc_all, pass_all, free_all, look_at, get, through, sets, lands_as}
use denote.Array.{Array}
use denote.Builtin.{u8, usize}
use denote.Exit.{no, yes}
use denote.Follow.{follows, follows_then}
use denote.FollowSlice.{heres_id, slice_of}
use denote.Memory.{mem}
use denote.Plain.{uint_vals, uint_Tells}
use denote.Ref.{mut_vals, mut_Tells}
use denote.Signature.{plain, mut_ref_to}
use denote.Slice.{MutSlice, Room, slice_val}
use denote.Steps.{nothing, heard, only}
use denote.Triple.Call.{calls_at}
use denote.Triple.Clauses.{lasts}
use denote.Triple.Entry.{on_entry}
use denote.Triple.Spec.{triple_of}
use denote.Triple.Table.{framed}
use denote.Triple.Walked.{says, Stays, stay_dropped, ends_at, Goes-spent_ref, Goes-dropped}
use Rattle.raw_range.specs.contracts.piece.fitted as f
use Rattle.raw_range.proofs.piece.fitted.Statement.{statement}
use Rattle.raw_range.proofs.piece.fitted.Code as code
use Rattle.raw_range.specs.contracts.piece.part_of as g
use Rattle.raw_range.proofs.piece.part_of.Met.{met}

abbrev stayed : Stays f.ended.signature.params f.ended.kept
stayed = (stay_dropped (mut_ref_to (0 ∷ []) tt (plain (λ _. LodgedBytes))) no, (stay_dropped (plain (λ _. usize)) yes, (stay_dropped (plain (λ _. usize)) yes, tt)))

module _ {M : Type 1} {𝓤 : Ura M} (𝓛 : Logic 𝓤) (κ : Lft) (q : Share) (b o : ℕ) (γ : GName) (xs : List ℕ) (rm : Room u8 (length xs)) where
  open 𝓛 use {H, A}

  abbrev fits : List ℕ → List ℕ
  fits = refill (length xs) xs

  -- the bytes under a new name, the token, and what the old name ends as
  abbrev lent : GName → Item 𝓤
  lent δ = ‵ ((MutSlice (named 0) κ u8).own_val (record { ref_ptr = (b, o); ghost_name = δ; now = xs }) (slice_val (b, o) (length xs) ∷ [])) ⊛ ‵ (flft κ q) ⊛ ‵ (follows (Array u8 0) (Array u8 0) γ δ fits)

  abbrev Lent : GName → SProp 𝓤
  Lent δ = sep 𝓤 (sem 𝓛 ((MutSlice (named 0) κ u8).own_val (record { ref_ptr = (b, o); ghost_name = δ; now = xs }) (slice_val (b, o) (length xs) ∷ []))) (sep 𝓤 (A.lft κ q) (sem 𝓛 (follows (Array u8 0) (Array u8 0) γ δ fits)))

  put : (ws : List ℕ) → ent 𝓤 (sep 𝓤 (sem 𝓛 ((Arr (mem u8) (length xs)).own_at ws b o)) (emp 𝓤)) (sem 𝓛 ((Arr (mem u8) (length xs)).own_at (fits ws) b o))
  put ws = qed 𝓛 (‵ ((Arr (mem u8) (length xs)).own_at ws b o) ∷ raw (emp 𝓤) ∷ []) ∵ fsplit ! $ feq_l ! (λ e.
      let all : fits ws ≡ ws = take_front ws (drop_list (length ws) xs) (length xs) e in
      rewrite ! 0 (λ (l : List ℕ). ‵ (cells (mem u8) l b o)) (sym all) refl $
      feq_i ! ℕ (length (fits ws)) (length xs) (ap length all ∙ e) $ fjoin ! $ keep ! (0 ∷ []) $ done !)

  lends : ent 𝓤 (sep 𝓤 (A.obs γ ((coded_list (u8).coded).code xs)) (sep 𝓤 (A.bor κ (Body (Arr (mem u8) (length xs)) b o γ)) (A.lft κ q))) (H.⇛ (ex 𝓤 Lent))
  lends = qed 𝓛 (‵ (fobs γ ((coded_list (u8).coded).code xs)) ∷ ‵ (fbor κ (Body (Arr (mem u8) (length xs)) b o γ)) ∷ ‵ (flft κ q) ∷ []) ∵ updating ! $
      open_ref ! tt (Arr (mem u8) (length xs)) {b = b} {o = o} $
      nothing ! $ move ! (2 ∷ 3 ∷ 4 ∷ 1 ∷ 0 ∷ []) $ group ! 5 $
      use1 𝓛 (later (some (λ (δ : GName). ‵ (fobs δ ((coded_list (u8).coded).code xs)) ⊛ ‵ (fbor κ (Body (Arr (mem u8) (length xs)) b o δ)) ⊛ ‵ (flft κ q) ⊛ ‵ (follows (Array u8 0) (Array u8 0) γ δ fits))))
      (takes_part 𝓛 (Arr (mem u8) (length xs)) (Arr (mem u8) (length xs)) fits κ q b o b o γ (emp 𝓤) put ((coded_list (u8).coded).code xs) ((coded_list (u8).coded).code xs) xs) $ await ! tt $ pick ! (λ δ. split3 ! $
      use2 𝓛 (‵ ((MutSlice (named 0) κ u8).own_val (record { ref_ptr = (b, o); ghost_name = δ; now = xs }) (slice_val (b, o) (length xs) ∷ []))) (slice_of 𝓛 u8 (named 0) κ b o δ xs rm) $ now ! $ show ! Lent δ $ done !)

pub fitted_spec : {M : Type 1} → statement M
fitted_spec 𝓤 𝓛 𝓜 𝓡 wired =
    let c = f.clauses 𝓛 𝓜.mem 𝓡.returns in
    proved 𝓛 f.ended stayed c 𝓜 𝓡 (Goes-spent_ref 𝓛 1 (0 ∷ []) tt (plain (λ _. LodgedBytes)), (Goes-dropped 𝓛 1 (plain (λ _. usize)) yes (λ κs x w. refl), (Goes-dropped 𝓛 1 (plain (λ _. usize)) yes (λ κs x w. refl), tt)))
    f.Key.name code.function (code.unfolded 𝓤 𝓛.H 𝓜 𝓡 wired)
    (λ κs. (mut_vals, (uint_vals w64, (uint_vals w64, tt)))) (λ κs. (mut_Tells (named 0) κs.0 LodgedBytes, (uint_Tells w64, (uint_Tells w64, tt)))) (λ κs qs bounds a _ are.
    let κ = κs.0 in let q = qs.0 in let m = a.0 in let at = a.1.0 in let len = a.1.1.0 in
    let content = take len (drop_list at m.now.items) in
    let F = with_items_from m.now at in
    let G = triple_of 𝓛 g.signature (g.spec 𝓛 𝓜.mem 𝓡.returns) in
    let z : G.Ghost = ((κs, qs, bounds, a, (mut_vals m, (uint_vals w64 at, (uint_vals w64 len, tt)))), tt) in
    let Asked = at + len ≤ length m.now.items in
    qed 𝓛 (raw (on_entry 𝓛 f.signature κs qs a z.0.4) ∷ raw (fact 𝓤 Asked) ∷ []) ∵ move ! (1 ∷ []) $ heard ! Asked (λ asked.
    let long : length content ≡ len = length-take-le len (drop_list at m.now.items) (let d = length-drop at m.now.items in omega (arith, d, asked)) in
    use0 𝓛 (raw (fact 𝓤 Asked)) (fact_i 𝓤 Asked (emp 𝓤) asked) $ move ! (1 ∷ 0 ∷ []) $ use2 𝓛 (raw (G.pre z)) (id⊢ 𝓤 _) $
    enter ! _ _ _ _ _ $
    alloc_all ! (λ l. pass_all ! refl ((tt, tt), ((tt, record { fits = are.1.0.1 }), ((tt, record { fits = are.1.1.0.1 }), tt))) $
    sets ! (addr ! (through ! refl (stop !))) refl (tt, tt) $
    calls_at ! (framed 𝓤 𝓛.H 𝓜 (tables 𝓤 𝓛.H 𝓜 𝓡 𝓡.env)) G (met 𝓤 𝓛 𝓜 𝓡 (code.calls-raw_range::piece::part_of 𝓡.env wired)) z
    (and_then ! (get ! refl) (and_then ! (get ! refl) (and_then ! (get ! refl) (no_more !)))) (λ v.
    use1 𝓛 (later (some (λ (r : MutBor (List ℕ)). ((‵ (flft κ q) ⊛ ‵ ftrue) ⊛ ‵ ((MutSlice (named 0) κ u8).own_val r (v ∷ []))) ⊛
    some (λ (ws : Unit {0} × (Unit {0} × (Unit {0} × Unit {0}))). ‵ (lasts g.ended κs a ws) ⊛ (‵ (follows LodgedBytes (Array u8 0) m.ghost_name r.ghost_name F) ⊛ raw (fact 𝓤 (r.now ≡ content))))))) (id⊢ 𝓤 _) $
    await ! tt $ pick ! (λ r. split ! $ split ! $ split ! $
    -- [the token; nothing; the bytes; the rest of what the call leaves]
    move ! (3 ∷ []) $ pick ! (λ ws. split ! $ drop ! $ split ! $ move ! (1 ∷ []) $ heard ! (r.now ≡ content) (λ is.
    move ! (3 ∷ []) $ fsplit3 ! $ fsplit ! $ feq_l ! (λ e. fsplit ! $ flt_l ! (λ few. flt_l ! (λ small.
    lands_as ! (ap only e) refl (tt, (tt, (record { fits = few }, tt))) $
    rewrite ! 0 (λ (l : List ℕ). ‵ (fobs r.ghost_name ((coded_list (u8).coded).code l))) (heres_id u8 r.now) refl $
    -- [the last value; the borrow; what the lender ends as; the token]
    move ! (0 ∷ 1 ∷ 3 ∷ []) $
    use3 𝓛 (later (some (lent 𝓛 κ q r.ref_ptr.0 r.ref_ptr.1 r.ghost_name r.now (few, small)))) (lends 𝓛 κ q r.ref_ptr.0 r.ref_ptr.1 r.ghost_name r.now (few, small)) $ await ! tt $ pick ! (λ δ. split3 ! $
    move ! (3 ∷ 2 ∷ []) $
    use2 𝓛 (‵ (follows LodgedBytes (Array u8 0) m.ghost_name δ (λ ws. F (refill (length r.now) r.now ws)))) (follows_then 𝓛 LodgedBytes (Array u8 0) (Array u8 0) F (refill (length r.now) r.now) m.ghost_name r.ghost_name δ) $
    rewrite ! 0 (λ (l : List ℕ). ‵ (follows LodgedBytes (Array u8 0) m.ghost_name δ (λ ws. F (refill (length l) l ws)))) is refl $
    rewrite ! 0 (λ (k : ℕ). ‵ (follows LodgedBytes (Array u8 0) m.ghost_name δ (λ ws. F (refill k content ws)))) long refl $
    returns ! (look_at ! 0 refl) $ free_all ! refl $ keep ! (1 ∷ 2 ∷ 0 ∷ []) $
    suffices ! _ (ends_at 𝓛 f.ended stayed c z (slice_val r.ref_ptr (length r.now)) (record { ref_ptr = r.ref_ptr; ghost_name = δ; now = r.now }) (tt, (tt, (tt, tt))) (tt, (tt, (tt, tt)))) $
    nothing ! $ nothing ! $ fjoin ! $ nothing ! $ fjoin ! $ nothing ! $ fjoin ! $ join ! $ nothing ! $ move ! (2 ∷ 0 ∷ []) $ join ! $ join ! $ frame ! $ says ! is $ done !)))))))))))
