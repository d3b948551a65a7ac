-- `attach` hands the places to what waits for them. Assumes `Logic`.
use Rattle.std.proofs.Common.{◌≡◌, List, [], ◌∷◌, ◌++◌, refl, subst}
use Rattle.std.proofs.raw_atomic.Walks.{proved_at}
use Rattle.std.proofs.alloc.Calls.{Goes-blank}
use mir.Syntax.{Dict}
use mir.Val.{Val}
use mir.MapTy.{inst_fn}
use base.Logic.{apply∗}
use prog.Wp.{WpFn}
use contract.Monad.{fact}
use contract.Running.{tables}
use types.Logic.{sem}
use types.Kit.{‵, raw, ◌⊛◌, prop, ◌$◌, ◌∵◌, !, qed, move, drop, use2, split, fsplit, fjoin, fpick, feq_l, regoal, rewrite, suffices, done}
use types.Part.{sub, whole}
use types.Run.{enter, returns, of_opd, fld, stop}
use types.ByLocal.{alloc_all, pass_all, free_all, look_at, get, get_in, sets}
use denote.Exit.{yes, no}
use denote.Laws.{Typed}
use denote.RattleType.{RattleType, owns}
use denote.Builtin.{u8}
use denote.Param.{param}
use denote.Signature.{plain, types_at}
use denote.Steps.{nothing, heard}
use denote.Triple.Entry.{alive}
use denote.Triple.Walked.{says, Stays, stay_dropped, walk_of, ends_at}
use Rattle.std.specs.declared.alloc.Allocator.{Ghosts}
use Rattle.raw_range.proofs.Walks.{plainly, none, one_had, none_had}
use contract.BorrowLft.{◌⊑◌}
use Rattle.raw_range.specs.contracts.memory.Unfilled as Unfilled
use Rattle.raw_range.specs.contracts.memory.Sole as Sole
use Rattle.std_alloc.specs.contracts.vec.Vec as Vec
use Rattle.raw_range.specs.inside.Ownership.{room_owns}
use Rattle.raw_range.proofs.Vecs.{of_allocator, byte_vec_laws}
use Rattle.raw_range.specs.contracts.parts.attach as f
use Rattle.raw_range.proofs.parts.attach.Statement.{statement}
use Rattle.raw_range.proofs.parts.attach.Code as code

abbrev stayed : (A : RattleType) (g : Ghosts A.Denot) (d dd : Dict) → Stays (f.ended A g d dd).signature.params (f.ended A g d dd).kept
stayed A g d dd = (stay_dropped (plain (λ _. Unfilled.the_row)) yes, (stay_dropped (plain (λ _. Sole.the_row (param 0 A) g)) no, tt))

pub attach_spec : {M : Type 1} → statement M
attach_spec 𝓤 𝓛 𝓜 𝓡 wired A L g d dd met md =
    let c = f.clauses A g d dd 𝓛 𝓜.mem 𝓡.returns in
    let 𝓣 = tables 𝓤 𝓛.H 𝓜 𝓡 𝓡.env in
    proved_at 𝓛 (f.ended A g d dd) (stayed A g d dd) c 𝓜 𝓡 (Goes-blank 𝓛 1 (plain (λ _. Unfilled.the_row)) yes (λ κs x w. tt), (Goes-blank 𝓛 1 (plain (λ _. Sole.the_row (param 0 A) g)) no (λ κs x w. tt), tt))
    (f.Key.name (of_allocator A d dd)) (inst_fn (of_allocator A d dd) code.function) (code.unfolded 𝓤 𝓛.H 𝓜 𝓡 wired (A, tt) d dd) (λ z are.
    let a = z.0.3 in
    let vss = z.0.4 in
    let e = a.1.0 in
    let V = Vec.the_row u8 (param 0 A) g in
    let Asked = (a.0.ptr ≡ e.ptr) × (a.0.len ≡ e.len) in
    qed 𝓛 ((raw (alive 𝓛 (f.ended A g d dd).signature z.0.0 z.0.1) ⊛ ‵ (owns (types_at (f.ended A g d dd).signature.params z.0.0) a vss)) ∷ (raw (fact 𝓤 (z.0.0.0 ⊑ A.lives)) ⊛ raw (fact 𝓤 Asked)) ∷ []) ∵
    move ! (1 ∷ []) $ split ! $ drop ! $ heard ! Asked (λ asked. split ! $ move ! (1 ∷ []) $
    fsplit ! $ fsplit ! $ none_had ! vss.0 (λ is₀. move ! (1 ∷ []) $ fsplit ! $ fsplit ! $ fpick ! (λ typed. drop ! $ fpick ! (λ v. fsplit ! $ feq_l ! (λ empty. fsplit ! $ feq_l ! (λ places.
    let Given = room_owns e.ptr e.len in
    let Whole = (plainly (V ∷ [])).own_val (v.vec, tt) vss.1.0 in
    -- [the way back; nothing; the places; the tokens]
    move ! (2 ∷ []) $ rewrite ! 0 (λ p. ‵ (room_owns p a.0.len)) asked.0 refl $ rewrite ! 0 (λ n. ‵ (room_owns e.ptr n)) asked.1 refl $
    use2 𝓛 (‵ Whole) (apply∗ 𝓤 (sem 𝓛 Given) (sem 𝓛 Whole)) $ one_had ! V (byte_vec_laws A L g) v.vec vss.1.0 (λ u is₁ good.
    move ! (1 ∷ []) $ drop ! $
    regoal ! (λ (us : List Val). prop (WpFn 𝓤 𝓛.H 𝓣.C 𝓣.Λ (inst_fn (of_allocator A d dd) code.function) (us ++ (vss.1.0 ++ [])) ((walk_of 𝓛 (f.ended A g d dd) (stayed A g d dd) c).post z))) is₀ refl $
    regoal ! (λ (us : List Val). prop (WpFn 𝓤 𝓛.H 𝓣.C 𝓣.Λ (inst_fn (of_allocator A d dd) code.function) ((none ∷ []) ++ (us ++ [])) ((walk_of 𝓛 (f.ended A g d dd) (stayed A g d dd) c).post z))) is₁ refl $
    enter ! _ _ _ _ _ $ alloc_all ! (λ l. pass_all ! refl ((tt, tt), ((subst (Typed (Sole.the_row (param 0 A) g).mir) is₁ typed).0, tt)) $
    sets ! (of_opd ! (get_in ! (fld ! refl (stop !)) (sub ! 0 refl (whole !)))) refl good $
    sets ! (of_opd ! (get ! refl)) refl good $
    returns ! (look_at ! 0 refl) $ free_all ! refl $
    suffices ! _ (ends_at 𝓛 (f.ended A g d dd) (stayed A g d dd) c z u v.vec (tt, (tt, tt)) (tt, (tt, tt))) $ says ! (empty, places) $
    nothing ! $ nothing ! $ fjoin ! $ nothing ! $ fjoin ! $ move ! (2 ∷ 0 ∷ 1 ∷ []) $ done !)))))))))
