-- What the bytes in front hold is forgotten. Assumes `Logic`.
use Rattle.std.proofs.Common.{◌≡◌, ◌+◌, List, [], ◌∷◌, ◌++◌, length, refl, sym, ap, ◌∙◌}
use Rattle.std.proofs.raw_atomic.Walks.{proved_at}
use Rattle.std.proofs.alloc.Calls.{Goes-blank}
use mir.Val.{Val}
use base.Logic.{id⊢, never}
use prog.Wp.{WpFn}
use contract.Monad.{fact}
use contract.Running.{tables}
use types.Kit.{‵, raw, ◌⊛◌, prop, ◌$◌, ◌∵◌, !, qed, move, drop, use2, split, fsplit, fjoin, regoal, rewrite, suffices, done}
use types.Part.{agg}
use types.Run.{enter, returns, no_more}
use types.ByLocal.{alloc_all, pass_all, free_all, look_at, sets}
use denote.Exit.{yes}
use denote.RattleType.{owns}
use denote.Signature.{plain, types_at}
use denote.Steps.{nothing, heard}
use denote.Triple.Entry.{alive}
use denote.Triple.Walked.{says, Stays, stay_dropped, walk_of, ends_at}
use denote.RawPtr.{block_ptr, in_a_block, ◌+ₚ◌}
use Rattle.raw_range.specs.inside.Ownership.{run_owns, room_owns}
use Rattle.raw_range.proofs.Rooms.{glue-room}
use Rattle.raw_range.proofs.Walks.{none, none_made, none_had}
use Rattle.raw_range.specs.contracts.memory.Run as Run
use Rattle.raw_range.specs.contracts.memory.Unfilled as Unfilled
use Rattle.raw_range.specs.contracts.memory.Unfilled.prepend as f
use Rattle.raw_range.proofs.memory.Unfilled.prepend.Statement.{statement}
use Rattle.raw_range.proofs.memory.Unfilled.prepend.Code as code

abbrev stayed : Stays f.ended.signature.params f.ended.kept
stayed = (stay_dropped (plain (λ _. Unfilled.the_row)) yes, (stay_dropped (plain (λ _. Run.the_row)) yes, tt))

pub prepend_spec : {M : Type 1} → statement M
prepend_spec 𝓤 𝓛 𝓜 𝓡 wired =
    let c = f.clauses 𝓛 𝓜.mem 𝓡.returns in
    let 𝓣 = tables 𝓤 𝓛.H 𝓜 𝓡 𝓡.env in
    proved_at 𝓛 f.ended stayed c 𝓜 𝓡 (Goes-blank 𝓛 0 (plain (λ _. Unfilled.the_row)) yes (λ κs x w. tt), (Goes-blank 𝓛 0 (plain (λ _. Run.the_row)) yes (λ κs x w. tt), tt))
    f.Key.name code.function (code.unfolded 𝓤 𝓛.H 𝓜 𝓡 wired) (λ z are.
    let a = z.0.3 in
    let vss = z.0.4 in
    let u = a.0 in
    let r = a.1.0 in
    let n = length r.items in
    let all : (Unfilled.the_row).Denot = record { ptr = r.ptr; len = n + u.len } in
    let Asked = u.ptr ≡ r.ptr +ₚ n in
    qed 𝓛 ((raw (alive 𝓛 f.signature z.0.0 z.0.1) ⊛ ‵ (owns (types_at f.signature.params z.0.0) a vss)) ∷ raw (fact 𝓤 Asked) ∷ []) ∵
    move ! (1 ∷ []) $ heard ! Asked (λ asked. split ! $ move ! (1 ∷ []) $
    fsplit ! $ fsplit ! $ none_had ! vss.0 (λ is₀. move ! (1 ∷ []) $ fsplit ! $ fsplit ! $ none_had ! vss.1.0 (λ is₁. move ! (1 ∷ []) $ drop ! $
    -- [the run; the places; the tokens]
    in_a_block ! r.ptr (λ p. run_owns p r.items) (id⊢ 𝓤 (never 𝓤)) (λ b o at. move ! (1 ∷ []) $
    rewrite ! 0 (λ p. ‵ (room_owns p u.len)) (asked ∙ ap (λ p. p +ₚ n) at) refl $ move ! (1 ∷ 0 ∷ []) $
    use2 𝓛 (‵ (room_owns (block_ptr b o) (n + u.len))) (glue-room 𝓛 b o u.len r.items) $ rewrite ! 0 (λ p. ‵ (room_owns p (n + u.len))) (sym at) refl $
    regoal ! (λ (us : List Val). prop (WpFn 𝓤 𝓛.H 𝓣.C 𝓣.Λ code.function (us ++ (vss.1.0 ++ [])) ((walk_of 𝓛 f.ended stayed c).post z))) is₀ refl $
    regoal ! (λ (us : List Val). prop (WpFn 𝓤 𝓛.H 𝓣.C 𝓣.Λ code.function ((none ∷ []) ++ (us ++ [])) ((walk_of 𝓛 f.ended stayed c).post z))) is₁ refl $
    enter ! _ _ _ _ _ $ alloc_all ! (λ l. pass_all ! refl ((tt, tt), ((tt, tt), tt)) $
    sets ! (agg ! (no_more !)) refl (tt, tt) $
    none_made ! $ fjoin ! $
    returns ! (look_at ! 0 refl) $ free_all ! refl $
    suffices ! _ (ends_at 𝓛 f.ended stayed c z none all (tt, (tt, tt)) (tt, (tt, tt))) $ says ! (refl, refl) $
    nothing ! $ nothing ! $ fjoin ! $ nothing ! $ fjoin ! $ move ! (2 ∷ 0 ∷ 1 ∷ []) $ done !))))))
