-- The bytes behind the last one join the others. Assumes `Logic`.
use Rattle.std.proofs.Common.{◌≡◌, ◌+◌, List, [], ◌∷◌, ◌++◌, length, refl, ap, ◌∙◌}
use Rattle.std.proofs.raw_atomic.Walks.{proved_at}
use Rattle.std.proofs.alloc.Calls.{Goes-blank}
use mir.Val.{Val}
use base.Fraction.{full_share}
use prog.Wp.{WpFn}
use contract.Monad.{fact}
use contract.Running.{tables}
use types.Kit.{‵, raw, ◌⊛◌, prop, given, learn, ◌$◌, ◌∵◌, !, qed, move, drop, use1, use2, split, fsplit, fjoin, regoal, rewrite, suffices, done}
use types.Part.{agg}
use types.Run.{enter, returns, no_more}
use types.ByLocal.{alloc_all, pass_all, free_all, look_at, sets}
use denote.Exit.{yes}
use denote.RattleType.{owns}
use denote.Signature.{plain, types_at}
use denote.Steps.{nothing, heard}
use denote.Triple.Entry.{alive}
use denote.Triple.Walked.{says, Stays, stay_dropped, walk_of, ends_at}
use denote.RawPtr.{block_ptr, block_of, count_of, ◌+ₚ◌}
use denote.RawPtr.Bytes.{bytes}
use Rattle.layout.specs.Extents.{AreDisjoint}
use Rattle.raw_range.specs.inside.Ownership.{IsPlaced, run_owns, rest_owns}
use Rattle.raw_range.proofs.Places.{is_allocated-behind}
use Rattle.raw_range.proofs.Rest.{rest-append, run-out}
use Rattle.raw_range.proofs.Walks.{none, none_made, none_had}
use Rattle.raw_range.specs.contracts.memory.Run as Run
use Rattle.raw_range.specs.contracts.memory.Unallocated as Unallocated
use Rattle.raw_range.specs.contracts.memory.Unallocated.append as f
use Rattle.raw_range.proofs.memory.Unallocated.append.Statement.{statement}
use Rattle.raw_range.proofs.memory.Unallocated.append.Code as code

abbrev stayed : Stays f.ended.signature.params f.ended.kept
stayed = (stay_dropped (plain (λ _. Unallocated.the_row)) yes, (stay_dropped (plain (λ _. Run.the_row)) yes, tt))

pub append_spec : {M : Type 1} → statement M
append_spec 𝓤 𝓛 𝓜 𝓡 wired =
    let c = f.clauses 𝓛 𝓜.mem 𝓡.returns in
    let 𝓣 = tables 𝓤 𝓛.H 𝓜 𝓡 𝓡.env in
    proved_at 𝓛 f.ended stayed c 𝓜 𝓡 (Goes-blank 𝓛 0 (plain (λ _. Unallocated.the_row)) yes (λ κs x w. tt), (Goes-blank 𝓛 0 (plain (λ _. Run.the_row)) yes (λ κs x w. tt), tt))
    f.Key.name code.function (code.unfolded 𝓤 𝓛.H 𝓜 𝓡 wired) (λ z are.
    let a = z.0.3 in
    let vss = z.0.4 in
    let h = a.0 in
    let r = a.1.0 in
    let n = length h.bytes in
    let b = block_of h.ptr in
    let o = count_of h.ptr in
    let h' : (Unallocated.the_row).Denot = record { ptr = h.ptr; allocated = h.allocated; bytes = h.bytes ++ r.items } in
    let Asked = IsPlaced h.ptr × (r.ptr ≡ h.ptr +ₚ n) × AreDisjoint n h.allocated in
    qed 𝓛 ((raw (alive 𝓛 f.signature z.0.0 z.0.1) ⊛ ‵ (owns (types_at f.signature.params z.0.0) a vss)) ∷ raw (fact 𝓤 Asked) ∷ []) ∵
    move ! (1 ∷ []) $ heard ! Asked (λ asked. split ! $ move ! (1 ∷ []) $
    fsplit ! $ fsplit ! $ none_had ! vss.0 (λ is₀. move ! (1 ∷ []) $ fsplit ! $ fsplit ! $ none_had ! vss.1.0 (λ is₁. move ! (1 ∷ []) $ drop ! $
    -- [the run; the unallocated bytes; the tokens]
    rewrite ! 0 (λ q. ‵ (run_owns q r.items)) (asked.1 ∙ ap (λ q. q +ₚ n) asked.0) refl $
    use1 𝓛 (given (IsPlaced (block_ptr b (o + n))) (‵ (bytes full_share r.items b (o + n)))) (run-out 𝓛 (block_ptr b (o + n)) r.items) $ learn ! (λ placed.
    move ! (1 ∷ 0 ∷ []) $ use2 𝓛 (‵ (rest_owns h.allocated b o 0 (h.bytes ++ r.items)))
    (rest-append 𝓛 h.allocated b o h.bytes r.items (λ k behind. is_allocated-behind n h.allocated k asked.2.0 behind)) $
    regoal ! (λ (us : List Val). prop (WpFn 𝓤 𝓛.H 𝓣.C 𝓣.Λ code.function (us ++ (vss.1.0 ++ [])) ((walk_of 𝓛 f.ended stayed c).post z))) is₀ refl $
    regoal ! (λ (us : List Val). prop (WpFn 𝓤 𝓛.H 𝓣.C 𝓣.Λ code.function ((none ∷ []) ++ (us ++ [])) ((walk_of 𝓛 f.ended stayed c).post z))) is₁ refl $
    enter ! _ _ _ _ _ $ alloc_all ! (λ l. pass_all ! refl ((tt, tt), ((tt, tt), tt)) $
    sets ! (agg ! (no_more !)) refl (tt, tt) $
    none_made ! $ fjoin ! $
    returns ! (look_at ! 0 refl) $ free_all ! refl $
    suffices ! _ (ends_at 𝓛 f.ended stayed c z none h' (tt, (tt, tt)) (tt, (tt, tt))) $ says ! (refl, refl, refl) $
    nothing ! $ nothing ! $ fjoin ! $ nothing ! $ fjoin ! $ move ! (2 ∷ 0 ∷ 1 ∷ []) $ done !))))))
