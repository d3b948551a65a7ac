-- Bytes that were never written part at a byte. Assumes `Logic`.
use Rattle.std.proofs.Common.{◌-◌, ◌≤◌, List, [], ◌∷◌, ◌++◌, refl, arith}
use Rattle.std.proofs.raw_atomic.Walks.{proved_at}
use Rattle.std.proofs.alloc.Calls.{Goes-blank}
use mir.Val.{Val}
use prog.Wp.{WpFn}
use contract.Monad.{fact}
use contract.Running.{tables}
use types.Kit.{‵, raw, ◌⊛◌, prop, ◌$◌, ◌∵◌, !, qed, move, drop, use1, split, fsplit, fjoin, feq_l, flt_l, regoal, suffices, done}
use types.Part.{agg}
use types.Run.{enter, returns, and_then, no_more}
use types.ByLocal.{alloc_all, pass_all, free_all, look_at, get, sets}
use denote.Exit.{yes}
use denote.RattleType.{owns}
use denote.Builtin.{usize}
use denote.Signature.{plain, types_at}
use denote.Steps.{nothing, heard}
use denote.Triple.Entry.{alive}
use denote.Triple.Walked.{says, Stays, stay_dropped, walk_of, ends_at}
use denote.RawPtr.{◌+ₚ◌}
use Rattle.raw_range.specs.inside.Ownership.{room_owns}
use Rattle.raw_range.proofs.Rooms.{cut-room}
use Rattle.raw_range.proofs.Walks.{none, two, none_made, two_made, none_had}
use Rattle.raw_range.specs.contracts.memory.Unfilled as Unfilled
use Rattle.raw_range.specs.contracts.memory.Unfilled.split as f
use Rattle.raw_range.proofs.memory.Unfilled.split.Statement.{statement}
use Rattle.raw_range.proofs.memory.Unfilled.split.Code as code

abbrev stayed : Stays f.ended.signature.params f.ended.kept
stayed = (stay_dropped (plain (λ _. Unfilled.the_row)) yes, (stay_dropped (plain (λ _. usize)) yes, tt))

pub split_spec : {M : Type 1} → statement M
split_spec 𝓤 𝓛 𝓜 𝓡 wired =
    let c = f.clauses 𝓛 𝓜.mem 𝓡.returns in
    let 𝓣 = tables 𝓤 𝓛.H 𝓜 𝓡 𝓡.env in
    proved_at 𝓛 f.ended stayed c 𝓜 𝓡 (Goes-blank 𝓛 0 (plain (λ _. Unfilled.the_row)) yes (λ κs x w. tt), (Goes-blank 𝓛 0 (plain (λ _. usize)) yes (λ κs x w. tt), tt))
    f.Key.name code.function (code.unfolded 𝓤 𝓛.H 𝓜 𝓡 wired) (λ z are.
    let a = z.0.3 in
    let vss = z.0.4 in
    let u = a.0 in
    let n = a.1.0 in
    let front : (Unfilled.the_row).Denot = record { ptr = u.ptr; len = n } in
    let back : (Unfilled.the_row).Denot = record { ptr = u.ptr +ₚ n; len = u.len - n } in
    let Asked = n ≤ u.len in
    qed 𝓛 ((raw (alive 𝓛 f.signature z.0.0 z.0.1) ⊛ ‵ (owns (types_at f.signature.params z.0.0) a vss)) ∷ raw (fact 𝓤 Asked) ∷ []) ∵
    move ! (1 ∷ []) $ heard ! Asked (λ asked. split ! $ move ! (1 ∷ []) $
    fsplit ! $ fsplit ! $ none_had ! vss.0 (λ is₀. move ! (1 ∷ []) $ fsplit ! $ fsplit ! $ feq_l ! (λ is₁. flt_l ! (λ fits₁. drop ! $
    regoal ! (λ (us : List Val). prop (WpFn 𝓤 𝓛.H 𝓣.C 𝓣.Λ code.function (us ++ (vss.1.0 ++ [])) ((walk_of 𝓛 f.ended stayed c).post z))) is₀ refl $
    regoal ! (λ (us : List Val). prop (WpFn 𝓤 𝓛.H 𝓣.C 𝓣.Λ code.function ((none ∷ []) ++ (us ++ [])) ((walk_of 𝓛 f.ended stayed c).post z))) is₁ refl $
    enter ! _ _ _ _ _ $ alloc_all ! (λ l. pass_all ! refl ((tt, tt), ((tt, record { fits = fits₁ }), tt)) $
    sets ! (agg ! (no_more !)) refl (tt, tt) $
    sets ! (agg ! (no_more !)) refl (tt, tt) $
    sets ! (agg ! (and_then ! (get ! refl) (and_then ! (get ! refl) (no_more !)))) refl (tt, (tt, (tt, tt))) $
    use1 𝓛 (‵ (room_owns u.ptr n) ⊛ ‵ (room_owns (u.ptr +ₚ n) (u.len - n))) (cut-room 𝓛 u.ptr n u.len asked) $ split ! $
    none_made ! $ fjoin ! $ move ! (1 ∷ []) $ none_made ! $ fjoin ! $ move ! (1 ∷ 0 ∷ []) $ two_made ! Unfilled.the_row Unfilled.the_row front back none none $
    returns ! (look_at ! 0 refl) $ free_all ! refl $
    suffices ! _ (ends_at 𝓛 f.ended stayed c z (two none none) (front, back) (tt, (tt, tt)) (tt, (tt, tt))) $ says ! (refl, refl, refl, omega (arith, asked)) $
    nothing ! $ nothing ! $ fjoin ! $ nothing ! $ fjoin ! $ move ! (2 ∷ 0 ∷ 1 ∷ []) $ done !))))))
