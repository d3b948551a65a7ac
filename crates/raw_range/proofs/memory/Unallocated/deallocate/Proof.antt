-- The bytes of a place come back to the others. Assumes `Logic`.
use Rattle.std.proofs.Common.{◌≡◌, ◌+◌, List, [], ◌∷◌, ◌++◌, length, refl, sym, ap, ◌∙◌, take, drop-drop, length-take-le, length-drop, arith}
use Rattle.std.proofs.raw_atomic.Walks.{proved_at}
use Rattle.std.proofs.alloc.Calls.{Goes-blank}
use mir.Syntax.{w64}
use mir.Val.{Val, vint}
use base.Fraction.{full_share}
use prog.Wp.{WpFn}
use contract.Monad.{fact}
use contract.Running.{tables}
use types.Kit.{‵, raw, ◌⊛◌, prop, given, learn, ◌$◌, ◌∵◌, !, qed, move, drop, use1, use2, split, fsplit, fjoin, feq_l, regoal, rewrite, suffices, done, flt_l}
use types.Part.{agg}
use types.Run.{enter, returns, no_more}
use types.ByLocal.{alloc_all, pass_all, free_all, look_at, sets}
use denote.Exit.{yes}
use denote.RattleType.{owns}
use denote.Builtin.{usize}
use denote.Signature.{plain, types_at}
use denote.Steps.{nothing, heard}
use denote.Triple.Entry.{alive}
use denote.Triple.Walked.{says, Stays, stay_dropped, walk_of, ends_at}
use Rattle.std.specs.Prelude.{Contains}
use lib.ListN.{drop as drop_l}
use denote.RawPtr.{block_ptr, block_of, count_of, ◌+ₚ◌}
use denote.RawPtr.Bytes.{bytes}
use Rattle.layout.specs.Extents.{extent, AreDisjoint}
use Rattle.raw_range.specs.Memory.{remove_extent, written}
use Rattle.raw_range.specs.inside.Ownership.{IsPlaced, run_owns, rest_owns}
use Rattle.raw_range.proofs.Places.{three_parts, in_place, beside_place, within_blocks, is_allocated-without_in, is_allocated-without_beside}
use Rattle.raw_range.proofs.Rest.{rest-deallocate, run-out}
use Rattle.raw_range.proofs.Walks.{none, none_made, none_had}
use Rattle.raw_range.specs.contracts.memory.Unallocated as Unallocated
use Rattle.raw_range.specs.contracts.memory.Run as Run
use Rattle.raw_range.specs.contracts.memory.Unallocated.deallocate as f
use Rattle.raw_range.proofs.memory.Unallocated.deallocate.Statement.{statement}
use Rattle.raw_range.proofs.memory.Unallocated.deallocate.Code as code

abbrev stayed : Stays f.ended.signature.params f.ended.kept
stayed = (stay_dropped (plain (λ _. Unallocated.the_row)) yes, (stay_dropped (plain (λ _. usize)) yes, (stay_dropped (plain (λ _. Run.the_row)) yes, tt)))

pub deallocate_spec : {M : Type 1} → statement M
deallocate_spec 𝓤 𝓛 𝓜 𝓡 wired =
    let c = f.clauses 𝓛 𝓜.mem 𝓡.returns in
    let 𝓣 = tables 𝓤 𝓛.H 𝓜 𝓡 𝓡.env in
    proved_at 𝓛 f.ended stayed c 𝓜 𝓡 (Goes-blank 𝓛 0 (plain (λ _. Unallocated.the_row)) yes (λ κs x w. tt), (Goes-blank 𝓛 0 (plain (λ _. usize)) yes (λ κs x w. tt), (Goes-blank 𝓛 0 (plain (λ _. Run.the_row)) yes (λ κs x w. tt), tt)))
    f.Key.name code.function (code.unfolded 𝓤 𝓛.H 𝓜 𝓡 wired) (λ z are.
    let a = z.0.3 in
    let vss = z.0.4 in
    let h = a.0 in
    let at = a.1.0 in
    let r = a.1.1.0 in
    let n = length r.items in
    let b = block_of h.ptr in
    let o = count_of h.ptr in
    let p = extent at n in
    let front = take at h.bytes in
    let old = take n (drop_l at h.bytes) in
    let back = drop_l n (drop_l at h.bytes) in
    let h' : (Unallocated.the_row).Denot = record { ptr = h.ptr; allocated = remove_extent p h.allocated; bytes = written h.bytes at r.items } in
    let Asked = IsPlaced h.ptr × (r.ptr ≡ h.ptr +ₚ at) × AreDisjoint (length h.bytes) h.allocated × Contains h.allocated p in
    qed 𝓛 ((raw (alive 𝓛 f.signature z.0.0 z.0.1) ⊛ ‵ (owns (types_at f.signature.params z.0.0) a vss)) ∷ raw (fact 𝓤 Asked) ∷ []) ∵
    move ! (1 ∷ []) $ heard ! Asked (λ asked. split ! $ move ! (1 ∷ []) $
    fsplit ! $ fsplit ! $ none_had ! vss.0 (λ is₀. move ! (1 ∷ []) $ fsplit ! $ fsplit ! $ feq_l ! (λ is₁. flt_l ! (λ fits₁. fsplit ! $ fsplit ! $ none_had ! vss.1.1.0 (λ is₂. move ! (1 ∷ []) $ drop ! $
    -- [the run; the unallocated bytes; the tokens]
    let within = within_blocks (length h.bytes) h.allocated p asked.2 asked.3 in
    let whole : h.bytes ≡ front ++ (old ++ back) = three_parts at n h.bytes in
    let long : length front ≡ at = length-take-le at h.bytes (omega (arith, within.1)) in
    let fills : length old ≡ n = length-take-le n (drop_l at h.bytes) (omega (arith, within.1, length-drop at h.bytes)) in
    let new : front ++ (r.items ++ back) ≡ written h.bytes at r.items = ap (λ ys. front ++ (r.items ++ ys)) (drop-drop n at h.bytes) in
    regoal ! (λ (us : List Val). prop (WpFn 𝓤 𝓛.H 𝓣.C 𝓣.Λ code.function (us ++ (vss.1.0 ++ (vss.1.1.0 ++ []))) ((walk_of 𝓛 f.ended stayed c).post z))) is₀ refl $
    regoal ! (λ (us : List Val). prop (WpFn 𝓤 𝓛.H 𝓣.C 𝓣.Λ code.function ((none ∷ []) ++ (us ++ (vss.1.1.0 ++ []))) ((walk_of 𝓛 f.ended stayed c).post z))) is₁ refl $
    regoal ! (λ (us : List Val). prop (WpFn 𝓤 𝓛.H 𝓣.C 𝓣.Λ code.function ((none ∷ []) ++ ((vint w64 at ∷ []) ++ (us ++ []))) ((walk_of 𝓛 f.ended stayed c).post z))) is₂ refl $
    enter ! _ _ _ _ _ $ alloc_all ! (λ l. pass_all ! refl ((tt, tt), ((tt, record { fits = fits₁ }), ((tt, tt), tt))) $
    sets ! (agg ! (no_more !)) refl (tt, tt) $
    rewrite ! 0 (λ q. ‵ (run_owns q r.items)) (asked.1 ∙ ap (λ q. q +ₚ at) asked.0) refl $
    use1 𝓛 (given (IsPlaced (block_ptr b (o + at))) (‵ (bytes full_share r.items b (o + at)))) (run-out 𝓛 (block_ptr b (o + at)) r.items) $ learn ! (λ placed.
    rewrite ! 0 (λ k. ‵ (bytes full_share r.items b (o + k))) (sym long) refl $ move ! (1 ∷ []) $
    rewrite ! 0 (λ xs. ‵ (rest_owns h.allocated b o 0 xs)) whole refl $
    use2 𝓛 (‵ (rest_owns (remove_extent p h.allocated) b o 0 (front ++ (r.items ++ back))))
    (rest-deallocate 𝓛 h.allocated (remove_extent p h.allocated) b o front old r.items back fills
    (λ k beside. is_allocated-without_beside (length h.bytes) h.allocated p asked.2 asked.3 k (beside_place p k (length front) n long refl beside))
    (λ k low high. is_allocated-without_in (length h.bytes) h.allocated p asked.2 asked.3 k (in_place p k (length front) n long refl low high))) $
    rewrite ! 0 (λ xs. ‵ (rest_owns (remove_extent p h.allocated) b o 0 xs)) new refl $
    none_made ! $ fjoin ! $
    returns ! (look_at ! 0 refl) $ free_all ! refl $
    suffices ! _ (ends_at 𝓛 f.ended stayed c z none h' (tt, (tt, (tt, tt))) (tt, (tt, (tt, tt)))) $ says ! (refl, refl, refl) $
    nothing ! $ nothing ! $ fjoin ! $ nothing ! $ fjoin ! $ nothing ! $ fjoin ! $ move ! (2 ∷ 0 ∷ 1 ∷ []) $ done !))))))))
