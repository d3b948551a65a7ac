-- None of the bytes is there yet. Assumes `Logic`.
use Rattle.std.proofs.Common.{List, [], ◌∷◌, ◌++◌, refl, sym, subst}
use Rattle.std.proofs.raw_atomic.Walks.{proved_at}
use Rattle.std.proofs.alloc.Calls.{Goes-blank}
use mir.Val.{Val}
use base.Logic.{id⊢, never}
use prog.Wp.{WpFn}
use contract.Running.{tables}
use types.Kit.{‵, raw, ◌⊛◌, prop, ◌$◌, ◌∵◌, !, qed, move, keep, drop, split, fsplit, fjoin, regoal, rewrite, suffices, done}
use types.Part.{agg}
use types.Run.{enter, returns, and_then, no_more}
use types.ByLocal.{alloc_all, pass_all, free_all, look_at, get, sets}
use denote.Exit.{yes}
use denote.RattleType.{owns}
use denote.Signature.{plain, types_at}
use denote.Steps.{nothing}
use denote.Triple.Entry.{alive}
use denote.Triple.Walked.{says, Stays, stay_dropped, walk_of, ends_at}
use denote.RawPtr.{in_a_block}
use Rattle.raw_range.specs.inside.Ownership.{IsPlaced, room_owns}
use Rattle.raw_range.proofs.Walks.{none, two, none_made, two_made, none_had}
use Rattle.raw_range.specs.contracts.memory.Unfilled as Unfilled
use Rattle.raw_range.specs.contracts.memory.Unallocated as Unallocated
use Rattle.raw_range.specs.contracts.memory.Unfilled.begin as f
use Rattle.raw_range.proofs.memory.Unfilled.begin.Statement.{statement}
use Rattle.raw_range.proofs.memory.Unfilled.begin.Code as code

abbrev stayed : Stays f.ended.signature.params f.ended.kept
stayed = (stay_dropped (plain (λ _. Unfilled.the_row)) yes, tt)

pub begin_spec : {M : Type 1} → statement M
begin_spec 𝓤 𝓛 𝓜 𝓡 wired =
    let c = f.clauses 𝓛 𝓜.mem 𝓡.returns in
    let 𝓣 = tables 𝓤 𝓛.H 𝓜 𝓡 𝓡.env in
    proved_at 𝓛 f.ended stayed c 𝓜 𝓡 (Goes-blank 𝓛 0 (plain (λ _. Unfilled.the_row)) yes (λ κs x w. tt), tt)
    f.Key.name code.function (code.unfolded 𝓤 𝓛.H 𝓜 𝓡 wired) (λ z are.
    let a = z.0.3 in
    let vss = z.0.4 in
    let u = a.0 in
    let h : (Unallocated.the_row).Denot = record { ptr = u.ptr; allocated = []; bytes = [] } in
    qed 𝓛 ((raw (alive 𝓛 f.signature z.0.0 z.0.1) ⊛ ‵ (owns (types_at f.signature.params z.0.0) a vss)) ∷ raw ((c z.0.0 a).requires z.1) ∷ []) ∵
    keep ! (0 ∷ []) $ split ! $ move ! (1 ∷ []) $
    fsplit ! $ fsplit ! $ none_had ! vss.0 (λ is₀. move ! (1 ∷ []) $ drop ! $
    in_a_block ! u.ptr (λ p. room_owns p u.len) (id⊢ 𝓤 (never 𝓤)) (λ b o at. rewrite ! 0 (λ p. ‵ (room_owns p u.len)) (sym at) refl $
    regoal ! (λ (us : List Val). prop (WpFn 𝓤 𝓛.H 𝓣.C 𝓣.Λ code.function (us ++ []) ((walk_of 𝓛 f.ended stayed c).post z))) is₀ refl $
    enter ! _ _ _ _ _ $ alloc_all ! (λ l. pass_all ! refl ((tt, tt), tt) $
    sets ! (agg ! (no_more !)) refl (tt, tt) $
    sets ! (agg ! (no_more !)) refl (tt, tt) $
    sets ! (agg ! (and_then ! (get ! refl) (and_then ! (get ! refl) (no_more !)))) refl (tt, (tt, (tt, tt))) $
    none_made ! $ fjoin ! $ nothing ! $ none_made ! $ fjoin ! $ two_made ! Unallocated.the_row Unfilled.the_row h u none none $
    returns ! (look_at ! 0 refl) $ free_all ! refl $
    suffices ! _ (ends_at 𝓛 f.ended stayed c z (two none none) (h, u) (tt, tt) (tt, tt)) $ says ! (refl, subst IsPlaced (sym at) refl, refl, refl, refl, refl) $
    nothing ! $ nothing ! $ fjoin ! $ move ! (2 ∷ 0 ∷ 1 ∷ []) $ done !))))
