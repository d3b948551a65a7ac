-- Where no extent is allocated, every byte of the run is there. Assumes `Logic`.
use Rattle.std.proofs.Common.{◌≡◌, List, [], ◌∷◌, ◌++◌, refl, sym}
use Rattle.std.proofs.raw_atomic.Walks.{proved_at}
use Rattle.std.proofs.alloc.Calls.{Goes-blank}
use mir.Val.{Val}
use prog.Wp.{WpFn}
use contract.Monad.{fact}
use contract.Running.{tables}
use types.Kit.{‵, raw, ◌⊛◌, prop, ◌$◌, ◌∵◌, !, qed, move, drop, use1, split, fsplit, fjoin, regoal, rewrite, suffices, done}
use types.Part.{agg}
use types.Run.{enter, returns, no_more}
use types.ByLocal.{alloc_all, pass_all, free_all, look_at, sets}
use denote.Exit.{yes}
use denote.RattleType.{owns}
use denote.Signature.{plain, types_at}
use denote.Steps.{nothing, heard}
use denote.Triple.Entry.{alive}
use denote.Triple.Walked.{says, Stays, stay_dropped, walk_of, ends_at}
use denote.RawPtr.{block_ptr, block_of, count_of}
use Rattle.raw_range.specs.inside.Ownership.{IsPlaced, run_owns, rest_owns}
use Rattle.raw_range.proofs.Rest.{rest-free, run-in}
use Rattle.raw_range.proofs.Walks.{none, none_made, none_had}
use Rattle.raw_range.specs.contracts.memory.Unallocated as Unallocated
use Rattle.raw_range.specs.contracts.memory.Run as Run
use Rattle.raw_range.specs.contracts.memory.Unallocated.into_run as f
use Rattle.raw_range.proofs.memory.Unallocated.into_run.Statement.{statement}
use Rattle.raw_range.proofs.memory.Unallocated.into_run.Code as code

abbrev stayed : Stays f.ended.signature.params f.ended.kept
stayed = (stay_dropped (plain (λ _. Unallocated.the_row)) yes, tt)

pub into_run_spec : {M : Type 1} → statement M
into_run_spec 𝓤 𝓛 𝓜 𝓡 wired =
    let c = f.clauses 𝓛 𝓜.mem 𝓡.returns in
    let 𝓣 = tables 𝓤 𝓛.H 𝓜 𝓡 𝓡.env in
    proved_at 𝓛 f.ended stayed c 𝓜 𝓡 (Goes-blank 𝓛 0 (plain (λ _. Unallocated.the_row)) yes (λ κs x w. tt), tt)
    f.Key.name code.function (code.unfolded 𝓤 𝓛.H 𝓜 𝓡 wired) (λ z are.
    let a = z.0.3 in
    let vss = z.0.4 in
    let h = a.0 in
    let b = block_of h.ptr in
    let o = count_of h.ptr in
    let r : (Run.the_row).Denot = record { ptr = h.ptr; items = h.bytes } in
    let Asked = IsPlaced h.ptr × (h.allocated ≡ []) in
    qed 𝓛 ((raw (alive 𝓛 f.signature z.0.0 z.0.1) ⊛ ‵ (owns (types_at f.signature.params z.0.0) a vss)) ∷ raw (fact 𝓤 Asked) ∷ []) ∵
    move ! (1 ∷ []) $ heard ! Asked (λ asked. split ! $ move ! (1 ∷ []) $
    fsplit ! $ fsplit ! $ none_had ! vss.0 (λ is₀. move ! (1 ∷ []) $ drop ! $
    rewrite ! 0 (λ ps. ‵ (rest_owns ps b o 0 h.bytes)) asked.1 refl $
    rewrite ! 0 (λ P. ‵ P) (rest-free [] b o 0 h.bytes (λ k low high. refl)) refl $
    use1 𝓛 (‵ (run_owns (block_ptr b o) h.bytes)) (run-in 𝓛 b o h.bytes) $
    rewrite ! 0 (λ p. ‵ (run_owns p h.bytes)) (sym asked.0) refl $
    regoal ! (λ (us : List Val). prop (WpFn 𝓤 𝓛.H 𝓣.C 𝓣.Λ code.function (us ++ []) ((walk_of 𝓛 f.ended stayed c).post z))) is₀ refl $
    enter ! _ _ _ _ _ $ alloc_all ! (λ l. pass_all ! refl ((tt, tt), tt) $
    sets ! (agg ! (no_more !)) refl (tt, tt) $
    none_made ! $ fjoin ! $
    returns ! (look_at ! 0 refl) $ free_all ! refl $
    suffices ! _ (ends_at 𝓛 f.ended stayed c z none r (tt, tt) (tt, tt)) $ says ! (refl, refl) $
    nothing ! $ nothing ! $ fjoin ! $ move ! (2 ∷ 0 ∷ 1 ∷ []) $ done !))))
