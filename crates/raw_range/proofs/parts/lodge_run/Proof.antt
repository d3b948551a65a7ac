-- `lodge_run` hands the run to `lodge`. Assumes `Logic`.
use Rattle.std.proofs.Common.{◌≡◌, ℕ, ◌^◌, ◌<◌, List, [], ◌∷◌, ◌++◌, length, refl, sym, ap, ◌∙◌, subst, Vec}
use Rattle.std.proofs.raw_atomic.Walks.{proved_at}
use Rattle.std.proofs.alloc.Calls.{Goes-blank}
use mir.Syntax.{w64, seq, assign, place, rv_opd, copy, return}
use mir.Val.{Val, vptr, vint}
use base.Logic.{id⊢, never}
use prog.Wp.{WpFn}
use contract.Monad.{fact}
use contract.Running.{tables}
use types.Kit.{‵, raw, ◌⊛◌, later, prop, ◌$◌, ◌∵◌, !, qed, move, drop, use1, split, fsplit, fjoin, feq_l, regoal, rewrite, suffices, await, done, some, given, pick, learn, at_ret, flt_l}
use types.Run.{enter, returns, of_opd, and_then, no_more, first, blocks, exec}
use types.ByLocal.{alloc_all, pass_all, free_all, look_at, get, sets, lands_last, env}
use denote.Exit.{yes}
use denote.RattleType.{owns}
use denote.Builtin.{u8, RawPtr, usize}
use denote.Signature.{plain, types_at}
use denote.Steps.{nothing, heard, only}
use denote.Triple.Entry.{alive}
use denote.Triple.Walked.{says, Stays, stay_dropped, walk_of, ends_at}
use Rattle.raw_range.proofs.Walks.{Good, tells, none_had}
use Rattle.raw_range.specs.contracts.memory.Run as Run
use denote.RawPtr.{ptr_val, in_a_block}
use denote.Triple.Call.{calls_at_last}
use Rattle.std_alloc.specs.declared.vec.lodged.Lodged.{Lodged}
use Rattle.std_alloc.proofs.vec.lodge.Met as callee
use Rattle.raw_range.specs.inside.Ownership.{run_owns}
use Rattle.raw_range.proofs.Lodging.{byte_laws, LodgedBytes, lodged_bytes-laws, Lodges, at_lodge, IsLodged, lodge_full_goes, lodge_gives}
use Rattle.raw_range.specs.contracts.parts.lodge_run as f
use Rattle.raw_range.proofs.parts.lodge_run.Statement.{statement}
use Rattle.raw_range.proofs.parts.lodge_run.Code as code
use denote.Triple.Table.{framed}

abbrev stayed : Stays f.ended.signature.params f.ended.kept
stayed = (stay_dropped (plain (λ _. RawPtr)) yes, (stay_dropped (plain (λ _. usize)) yes, (stay_dropped (plain (λ _. Run.the_row)) yes, tt)))

pub lodge_run_spec : {M : Type 1} → statement M
lodge_run_spec 𝓤 𝓛 𝓜 𝓡 wired =
    let c = f.clauses 𝓛 𝓜.mem 𝓡.returns in
    let 𝓣 = tables 𝓤 𝓛.H 𝓜 𝓡 𝓡.env in
    proved_at 𝓛 f.ended stayed c 𝓜 𝓡 (Goes-blank 𝓛 0 (plain (λ _. RawPtr)) yes (λ κs x w. tt), (Goes-blank 𝓛 0 (plain (λ _. usize)) yes (λ κs x w. tt), (Goes-blank 𝓛 0 (plain (λ _. Run.the_row)) yes (λ κs x w. tt), tt)))
    f.Key.name code.function (code.unfolded 𝓤 𝓛.H 𝓜 𝓡 wired) (λ z are.
    let a = z.0.3 in
    let vss = z.0.4 in
    let p = a.0 in
    let n = a.1.0 in
    let xs = a.1.1.0.items in
    let Asked = (a.1.1.0.ptr ≡ p) × (length xs ≡ n) × (0 < n) × (n < 2 ^ 63) in
    qed 𝓛 ((raw (alive 𝓛 f.signature z.0.0 z.0.1) ⊛ ‵ (owns (types_at f.signature.params z.0.0) a vss)) ∷ raw (fact 𝓤 Asked) ∷ []) ∵
    move ! (1 ∷ []) $ heard ! Asked (λ asked. split ! $ move ! (1 ∷ []) $
    fsplit ! $ feq_l ! (λ is₀. fsplit ! $ fsplit ! $ feq_l ! (λ is₁. flt_l ! (λ fits. fsplit ! $ fsplit ! $ none_had ! vss.1.1.0 (λ is₂. move ! (1 ∷ []) $ drop ! $
    rewrite ! 0 (λ r. ‵ (run_owns r xs)) asked.0 refl $ in_a_block ! p (λ r. run_owns r xs) (id⊢ 𝓤 (never 𝓤)) (λ b o at.
    let y = at_lodge 𝓛 𝓜.mem 𝓡.returns b o n n xs in
    regoal ! (λ (us : List Val). prop (WpFn 𝓤 𝓛.H 𝓣.C 𝓣.Λ code.function (us ++ (vss.1.0 ++ (vss.1.1.0 ++ []))) ((walk_of 𝓛 f.ended stayed c).post z))) (is₀ ∙ ap (λ r. ptr_val r ∷ []) at) refl $
    regoal ! (λ (us : List Val). prop (WpFn 𝓤 𝓛.H 𝓣.C 𝓣.Λ code.function ((vptr b o ∷ []) ++ (us ++ (vss.1.1.0 ++ []))) ((walk_of 𝓛 f.ended stayed c).post z))) is₁ refl $
    regoal ! (λ (us : List Val). prop (WpFn 𝓤 𝓛.H 𝓣.C 𝓣.Λ code.function ((vptr b o ∷ []) ++ ((vint w64 n ∷ []) ++ (us ++ []))) ((walk_of 𝓛 f.ended stayed c).post z))) is₂ refl $
    enter ! _ _ _ _ _ $ alloc_all ! (λ l. pass_all ! refl ((tt, tt), ((tt, record { fits = fits }), ((tt, tt), tt))) $
    first ! $ blocks ! $ use1 𝓛 (raw ((Lodges 𝓛 𝓜.mem 𝓡.returns).pre y)) (lodge_full_goes 𝓛 𝓜.mem 𝓡.returns b o n xs asked.1 asked.2 asked.3) $
    calls_at_last ! (framed 𝓤 𝓛.H 𝓜 𝓣) (Lodges 𝓛 𝓜.mem 𝓡.returns) (callee.met 𝓤 𝓛 𝓜 𝓡 (code.calls-std_alloc::vec::lodge 𝓡.env wired) u8 byte_laws) y (and_then ! (get ! refl) (and_then ! (get ! refl) (and_then ! (get ! refl) (no_more !)))) (λ v.
    use1 𝓛 (later (some (λ (r : Vec ℕ Lodged). given (IsLodged 𝓛 𝓜.mem 𝓡.returns b o n n xs r) (‵ (LodgedBytes.own_val r (v ∷ [])))))) (lodge_gives 𝓛 𝓜.mem 𝓡.returns b o n n xs v) $
    await ! tt $ pick ! (λ r. learn ! (λ is. tells ! LodgedBytes lodged_bytes-laws r (v ∷ []) (λ u same good.
    let fine : Good LodgedBytes v = subst (Good LodgedBytes) (sym (ap only same)) good in
    rewrite ! 0 (λ w. ‵ (LodgedBytes.own_val r (w ∷ []))) (sym (ap only same)) refl $ lands_last ! refl fine $
    exec ! 𝓣.C 𝓣.Λ (env code.function.locals l) (seq (assign (place 0 []) (rv_opd (copy (place 4 [])))) return) (at_ret (env code.function.locals l) ((walk_of 𝓛 f.ended stayed c).post z)) $
    sets ! (of_opd ! (get ! refl)) refl fine $
    returns ! (look_at ! 0 refl) $ free_all ! refl $
    suffices ! _ (ends_at 𝓛 f.ended stayed c z v r (tt, (tt, (tt, tt))) (tt, (tt, (tt, tt)))) $ says ! (is.0, is.1, is.2, is.3 ∙ sym at) $
    nothing ! $ nothing ! $ fjoin ! $ nothing ! $ fjoin ! $ nothing ! $ fjoin ! $ move ! (2 ∷ 0 ∷ 1 ∷ []) $ done !))))))))))))
