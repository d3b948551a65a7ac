-- The bytes of one place part from the others. Assumes `Logic`.
use Rattle.std.proofs.Common.{◌≡◌, ◌+◌, ◌≤◌, List, [], ◌∷◌, ◌++◌, length, refl, sym, ap, take, length-take-le, length-drop, arith}
use Rattle.std.proofs.raw_atomic.Walks.{proved_at}
use Rattle.std.proofs.alloc.Calls.{Goes-blank}
use mir.Syntax.{w64}
use mir.Val.{Val, vint}
use base.Fraction.{full_share}
use prog.Wp.{WpFn}
use contract.Monad.{fact}
use contract.Running.{tables}
use types.Kit.{‵, raw, ◌⊛◌, prop, ◌$◌, ◌∵◌, !, qed, move, drop, use1, split, fsplit, fjoin, feq_l, regoal, rewrite, suffices, done, flt_l}
use types.Part.{agg}
use types.Run.{enter, returns, and_then, no_more}
use types.ByLocal.{alloc_all, pass_all, free_all, look_at, get, sets}
use denote.Exit.{yes}
use denote.RattleType.{owns}
use denote.Builtin.{usize}
use denote.Signature.{plain, types_at}
use denote.Steps.{nothing, heard}
use denote.Triple.Entry.{alive}
use denote.Triple.Walked.{says, Stays, stay_dropped, walk_of, ends_at}
use Rattle.std.specs.Prelude.{All}
use lib.ListN.{drop as drop_l}
use denote.RawPtr.{block_ptr, block_of, count_of, ◌+ₚ◌}
use denote.RawPtr.Bytes.{bytes}
use Rattle.layout.specs.Extents.{extent, Disjoint}
use Rattle.raw_range.specs.inside.Ownership.{IsPlaced, run_owns, rest_owns}
use Rattle.raw_range.proofs.Places.{three_parts, in_place, beside_place, is_allocated-apart, is_allocated-cons_in, is_allocated-cons_beside}
use Rattle.raw_range.proofs.Rest.{rest-allocate, run-in}
use Rattle.raw_range.proofs.Walks.{none, two, none_made, two_made, none_had}
use Rattle.raw_range.specs.contracts.memory.Unallocated as Unallocated
use Rattle.raw_range.specs.contracts.memory.Run as Run
use Rattle.raw_range.specs.contracts.memory.Unallocated.allocate as f
use Rattle.raw_range.proofs.memory.Unallocated.allocate.Statement.{statement}
use Rattle.raw_range.proofs.memory.Unallocated.allocate.Code as code

abbrev stayed : Stays f.ended.signature.params f.ended.kept
stayed = (stay_dropped (plain (λ _. Unallocated.the_row)) yes, (stay_dropped (plain (λ _. usize)) yes, (stay_dropped (plain (λ _. usize)) yes, tt)))

pub allocate_spec : {M : Type 1} → statement M
allocate_spec 𝓤 𝓛 𝓜 𝓡 wired =
    let c = f.clauses 𝓛 𝓜.mem 𝓡.returns in
    let 𝓣 = tables 𝓤 𝓛.H 𝓜 𝓡 𝓡.env in
    proved_at 𝓛 f.ended stayed c 𝓜 𝓡 (Goes-blank 𝓛 0 (plain (λ _. Unallocated.the_row)) yes (λ κs x w. tt), (Goes-blank 𝓛 0 (plain (λ _. usize)) yes (λ κs x w. tt), (Goes-blank 𝓛 0 (plain (λ _. usize)) yes (λ κs x w. tt), tt)))
    f.Key.name code.function (code.unfolded 𝓤 𝓛.H 𝓜 𝓡 wired) (λ z are.
    let a = z.0.3 in
    let vss = z.0.4 in
    let h = a.0 in
    let at = a.1.0 in
    let n = a.1.1.0 in
    let b = block_of h.ptr in
    let o = count_of h.ptr in
    let front = take at h.bytes in
    let part = take n (drop_l at h.bytes) in
    let back = drop_l n (drop_l at h.bytes) in
    let p = extent at n in
    let h' : (Unallocated.the_row).Denot = record { ptr = h.ptr; allocated = p ∷ h.allocated; bytes = h.bytes } in
    let r : (Run.the_row).Denot = record { ptr = h.ptr +ₚ at; items = part } in
    let Asked = IsPlaced h.ptr × (at + n ≤ length h.bytes) × All (Disjoint p) h.allocated in
    qed 𝓛 ((raw (alive 𝓛 f.signature z.0.0 z.0.1) ⊛ ‵ (owns (types_at f.signature.params z.0.0) a vss)) ∷ raw (fact 𝓤 Asked) ∷ []) ∵
    move ! (1 ∷ []) $ heard ! Asked (λ asked. split ! $ move ! (1 ∷ []) $
    fsplit ! $ fsplit ! $ none_had ! vss.0 (λ is₀. move ! (1 ∷ []) $ fsplit ! $ fsplit ! $ feq_l ! (λ is₁. flt_l ! (λ fits₁. fsplit ! $ fsplit ! $ feq_l ! (λ is₂. flt_l ! (λ fits₂. drop ! $
    let whole : h.bytes ≡ front ++ (part ++ back) = three_parts at n h.bytes in
    let long : length front ≡ at = length-take-le at h.bytes (omega (arith, asked.1)) in
    let fills : length part ≡ n = length-take-le n (drop_l at h.bytes) (omega (arith, asked.1, length-drop at h.bytes)) in
    regoal ! (λ (us : List Val). prop (WpFn 𝓤 𝓛.H 𝓣.C 𝓣.Λ code.function (us ++ (vss.1.0 ++ (vss.1.1.0 ++ []))) ((walk_of 𝓛 f.ended stayed c).post z))) is₀ refl $
    regoal ! (λ (us : List Val). prop (WpFn 𝓤 𝓛.H 𝓣.C 𝓣.Λ code.function ((none ∷ []) ++ (us ++ (vss.1.1.0 ++ []))) ((walk_of 𝓛 f.ended stayed c).post z))) is₁ refl $
    regoal ! (λ (us : List Val). prop (WpFn 𝓤 𝓛.H 𝓣.C 𝓣.Λ code.function ((none ∷ []) ++ ((vint w64 at ∷ []) ++ (us ++ []))) ((walk_of 𝓛 f.ended stayed c).post z))) is₂ refl $
    enter ! _ _ _ _ _ $ alloc_all ! (λ l. pass_all ! refl ((tt, tt), ((tt, record { fits = fits₁ }), ((tt, record { fits = fits₂ }), tt))) $
    sets ! (agg ! (no_more !)) refl (tt, tt) $
    sets ! (agg ! (no_more !)) refl (tt, tt) $
    sets ! (agg ! (and_then ! (get ! refl) (and_then ! (get ! refl) (no_more !)))) refl (tt, (tt, (tt, tt))) $
    rewrite ! 0 (λ xs. ‵ (rest_owns h.allocated b o 0 xs)) whole refl $
    use1 𝓛 (‵ (rest_owns (p ∷ h.allocated) b o 0 (front ++ (part ++ back))) ⊛ ‵ (bytes full_share part b (o + length front)))
    (rest-allocate 𝓛 h.allocated (p ∷ h.allocated) b o front part back (λ k beside. is_allocated-cons_beside h.allocated p k (beside_place p k (length front) (length part) long fills beside))
    (λ k low high. is_allocated-apart h.allocated p k asked.2 (in_place p k (length front) (length part) long fills low high))
    (λ k low high. is_allocated-cons_in h.allocated p k (in_place p k (length front) (length part) long fills low high))) $ split ! $
    rewrite ! 0 (λ xs. ‵ (rest_owns (p ∷ h.allocated) b o 0 xs)) (sym whole) refl $
    none_made ! $ fjoin ! $ move ! (1 ∷ []) $
    rewrite ! 0 (λ k. ‵ (bytes full_share part b (o + k))) long refl $
    use1 𝓛 (‵ (run_owns (block_ptr b (o + at)) part)) (run-in 𝓛 b (o + at) part) $
    rewrite ! 0 (λ q. ‵ (run_owns q part)) (sym (ap (λ r. r +ₚ at) asked.0)) refl $
    none_made ! $ fjoin ! $ move ! (1 ∷ 0 ∷ []) $ two_made ! Unallocated.the_row Run.the_row h' r none none $
    returns ! (look_at ! 0 refl) $ free_all ! refl $
    suffices ! _ (ends_at 𝓛 f.ended stayed c z (two none none) (h', r) (tt, (tt, (tt, tt))) (tt, (tt, (tt, tt)))) $ says ! (refl, refl, refl, refl, refl) $
    nothing ! $ nothing ! $ fjoin ! $ nothing ! $ fjoin ! $ nothing ! $ fjoin ! $ move ! (2 ∷ 0 ∷ 1 ∷ []) $ done !))))))))
