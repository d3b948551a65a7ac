-- The bytes of a piece. Assumes `Logic`.
use Rattle.std.proofs.Common.{◌≡◌, List, [], ◌∷◌, ◌++◌, refl, sym, ap, ◌∙◌}
use Rattle.std.proofs.raw_atomic.Walks.{proved_at}
use Rattle.std.proofs.alloc.Calls.{Goes-blank}
use mir.Syntax.{w32}
use mir.Val.{Val, vptr, vint}
use base.Logic.{id⊢, never}
use prog.Wp.{WpFn}
use contract.Monad.{fact}
use contract.Running.{tables}
use types.Kit.{‵, raw, ◌⊛◌, prop, ◌$◌, ◌∵◌, !, qed, move, drop, split, fsplit, fjoin, feq_l, flt_l, regoal, rewrite, suffices, done}
use types.Part.{agg}
use types.Run.{enter, returns, no_more}
use types.ByLocal.{alloc_all, pass_all, free_all, look_at, sets}
use denote.Exit.{yes}
use denote.RattleType.{owns}
use denote.Builtin.{RawPtr, u32}
use denote.Signature.{plain, types_at}
use denote.Steps.{nothing, heard}
use denote.Triple.Entry.{alive}
use denote.Triple.Walked.{says, Stays, stay_dropped, walk_of, ends_at}
use denote.RawPtr.{ptr_val, in_a_block, ◌+ₚ◌}
use Rattle.std.specs.Prelude.{Some}
use Rattle.raw_range.specs.inside.Ownership.{run_owns}
use Rattle.raw_range.proofs.Walks.{none, none_made, none_had}
use Rattle.raw_range.specs.contracts.memory.Run as Run
use Rattle.raw_range.specs.contracts.memory.Held as Held
use Rattle.raw_range.specs.contracts.memory.Held.keep as f
use Rattle.raw_range.proofs.memory.Held.keep.Statement.{statement}
use Rattle.raw_range.proofs.memory.Held.keep.Code as code

abbrev stayed : Stays f.ended.signature.params f.ended.kept
stayed = (stay_dropped (plain (λ _. RawPtr)) yes, (stay_dropped (plain (λ _. u32)) yes, (stay_dropped (plain (λ _. u32)) yes, (stay_dropped (plain (λ _. Run.the_row)) yes, tt))))

pub keep_spec : {M : Type 1} → statement M
keep_spec 𝓤 𝓛 𝓜 𝓡 wired =
    let c = f.clauses 𝓛 𝓜.mem 𝓡.returns in
    let 𝓣 = tables 𝓤 𝓛.H 𝓜 𝓡 𝓡.env in
    proved_at 𝓛 f.ended stayed c 𝓜 𝓡 (
      Goes-blank 𝓛 0 (plain (λ _. RawPtr)) yes (λ κs x w. tt),
      (
        Goes-blank 𝓛 0 (plain (λ _. u32)) yes (λ κs x w. tt),
        (Goes-blank 𝓛 0 (plain (λ _. u32)) yes (λ κs x w. tt), (Goes-blank 𝓛 0 (plain (λ _. Run.the_row)) yes (λ κs x w. tt), tt)),
      ),
    )
    f.Key.name code.function (code.unfolded 𝓤 𝓛.H 𝓜 𝓡 wired) (λ z are.
    let a = z.0.3 in
    let vss = z.0.4 in
    let home = a.0 in
    let owner = a.1.0 in
    let at = a.1.1.0 in
    let run = a.1.1.1.0 in
    let xs = run.items in
    let h : (Held.the_row).Denot = record { piece = Some (record { home = home; owner = owner; at = at; bytes = xs }) } in
    let Asked = run.ptr ≡ home +ₚ at in
    qed 𝓛 ((raw (alive 𝓛 f.signature z.0.0 z.0.1) ⊛ ‵ (owns (types_at f.signature.params z.0.0) a vss)) ∷ raw (fact 𝓤 Asked) ∷ []) ∵
    move ! (1 ∷ []) $ heard ! Asked (λ asked. split ! $ move ! (1 ∷ []) $
    fsplit ! $ feq_l ! (λ is₀. fsplit ! $ fsplit ! $ feq_l ! (λ is₁. flt_l ! (λ fits₁. fsplit ! $ fsplit ! $ feq_l ! (λ is₂. flt_l ! (λ fits₂. fsplit ! $ fsplit ! $ none_had ! vss.1.1.1.0 (λ is₃. move ! (1 ∷ []) $ drop ! $
    rewrite ! 0 (λ r. ‵ (run_owns r xs)) asked refl $ in_a_block ! home (λ r. run_owns (r +ₚ at) xs) (id⊢ 𝓤 (never 𝓤)) (λ b o is.
    regoal ! (λ (us : List Val). prop (WpFn 𝓤 𝓛.H 𝓣.C 𝓣.Λ code.function (us ++ (vss.1.0 ++ (vss.1.1.0 ++ (vss.1.1.1.0 ++ [])))) ((walk_of 𝓛 f.ended stayed c).post z))) (is₀ ∙ ap (λ r. ptr_val r ∷ []) is) refl $
    regoal ! (λ (us : List Val). prop (WpFn 𝓤 𝓛.H 𝓣.C 𝓣.Λ code.function ((vptr b o ∷ []) ++ (us ++ (vss.1.1.0 ++ (vss.1.1.1.0 ++ [])))) ((walk_of 𝓛 f.ended stayed c).post z))) is₁ refl $
    regoal ! (λ (us : List Val). prop (WpFn 𝓤 𝓛.H 𝓣.C 𝓣.Λ code.function ((vptr b o ∷ []) ++ ((vint w32 owner ∷ []) ++ (us ++ (vss.1.1.1.0 ++ [])))) ((walk_of 𝓛 f.ended stayed c).post z))) is₂ refl $
    regoal ! (λ (us : List Val). prop (WpFn 𝓤 𝓛.H 𝓣.C 𝓣.Λ code.function ((vptr b o ∷ []) ++ ((vint w32 owner ∷ []) ++ ((vint w32 at ∷ []) ++ (us ++ [])))) ((walk_of 𝓛 f.ended stayed c).post z))) is₃ refl $
    enter ! _ _ _ _ _ $ alloc_all ! (λ l. pass_all ! refl ((tt, tt), ((tt, record { fits = fits₁ }), ((tt, record { fits = fits₂ }), ((tt, tt), tt)))) $
    sets ! (agg ! (no_more !)) refl (tt, tt) $
    rewrite ! 0 (λ r. ‵ (run_owns (r +ₚ at) xs)) (sym is) refl $
    none_made ! $ fjoin ! $
    returns ! (look_at ! 0 refl) $ free_all ! refl $
    suffices ! _ (ends_at 𝓛 f.ended stayed c z none h (tt, (tt, (tt, (tt, tt)))) (tt, (tt, (tt, (tt, tt))))) $ says ! refl $
    nothing ! $ nothing ! $ fjoin ! $ nothing ! $ fjoin ! $ nothing ! $ fjoin ! $ nothing ! $ fjoin ! $ move ! (2 ∷ 0 ∷ 1 ∷ []) $ done !))))))))))
