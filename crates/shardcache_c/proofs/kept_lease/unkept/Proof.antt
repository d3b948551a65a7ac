-- The pointer that is kept and the allocator are a box again, without its type.
use Rattle.std.proofs.Common.{◌≡◌, true, false, List, [], ◌∷◌, ◌++◌, refl, sym, subst}
use Rattle.std.specs.Prelude.{Option, Some, None, IsSome}
use mir.Syntax.{impl, tnil, dnil}
use mir.Val.{Val, vptr}
use base.Logic.{SProp, ent, emp, id⊢}
use base.Fml.{ftrue}
use prog.Wp.{WpFn}
use types.Kit.{‵, raw, ◌⊛◌, ◌$◌, ◌∵◌, !, qed, by, move, keep, split, fsplit, fjoin, use0, use1, suffices}
use types.Run.{stop, fld, of_opd, no_more, and_then, returns, enter}
use types.ByLocal.{alloc_all, pass_all, free_all, look_at, get, get_in, sets}
use types.Part.{agg, sub, whole}
use contract.Monad.{fact, fact_i}
use contract.Running.{tables}
use denote.Exit.{yes}
use denote.RattleType.{owns}
use denote.RawPtr.{block_ptr}
use denote.Signature.{types_at, plain}
use denote.Steps.{nothing, heard}
use denote.Triple.Walked.{Stays, stay_dropped, walk_of}
use Rattle.core.proofs.alloc.Calls.{Al, Goes-blank, handle_tells}
use Rattle.std.proofs.raw_atomic.Walks.{proved_at, leaves}
use Rattle.std_heap.specs.contracts.Global as heap
use Rattle.std_heap.specs.contracts.GlobalAllocator.TheImpl as impls
use Rattle.std_heap.proofs.Global.TheLaws as heap_laws
use Rattle.shardcache_c.specs.contracts.lease.Lease as shard
use Rattle.shardcache_c.proofs.LeaseWords.{alone, both, Kept, bare_good, bare_in, kept_out}
use Rattle.shardcache_c.specs.contracts.kept_lease.unkept.{ended, clauses}
use Rattle.shardcache_c.specs.contracts.kept_lease.unkept.Key.{name as #self}
use Rattle.shardcache_c.proofs.kept_lease.unkept.Statement.{statement}
use Rattle.shardcache_c.proofs.kept_lease.unkept.Code as code

value_of : {X : Type 0} (o : Option X) → IsSome o → (x : X) × (o ≡ Some x)
value_of (Some x) some = (x, refl)
value_of {X = X} None some = absurd (let clash : false ≡ true = some in cc)

pub unkept_spec : {M : Type 1} → statement M
unkept_spec 𝓤 𝓛 𝓜 𝓡 wired =
    let H = 𝓛.H in let 𝓣 = tables 𝓤 H 𝓜 𝓡 𝓡.env in let c = clauses 𝓛 𝓜.mem 𝓡.returns in let fn = code.function in
    let E : Al = record { row = heap.the_row; laws = heap_laws.the_row_laws; g = impls.ghosts; d = impl [] tnil dnil; drops = impl [] tnil dnil } in
    let hs : Stays ended.signature.params ended.kept = (stay_dropped (plain (λ _. Kept)) yes, (stay_dropped (plain (λ _. E.row)) yes, tt)) in
    proved_at 𝓛 ended hs c 𝓜 𝓡 (Goes-blank 𝓛 0 (plain (λ _. Kept)) yes (λ κs x f. tt), (Goes-blank 𝓛 0 (plain (λ _. E.row)) yes (λ κs x f. tt), tt)) #self fn (code.unfolded 𝓤 H 𝓜 𝓡 wired) (λ z are.
    let κs = z.0.0 in let v = z.0.3.0 in let a = z.0.3.1.0 in let Post : Val → SProp 𝓤 = (walk_of 𝓛 ended hs c).post z in let Run : List Val → SProp 𝓤 = λ ws. WpFn 𝓤 H 𝓣.C 𝓣.Λ fn ws Post in
    qed 𝓛 ((‵ ftrue ⊛ ‵ (owns (types_at ended.signature.params κs) z.0.3 z.0.4)) ∷ raw ((c κs z.0.3).requires z.1) ∷ []) ∵ split ! $ move ! (2 ∷ 1 ∷ []) $
    use1 𝓛 (raw (fact 𝓤 (IsSome v.value))) (id⊢ 𝓤 _) $ heard ! (IsSome v.value) (λ some. let x = (value_of v.value some).0 in let is = (value_of v.value some).1 in
    fsplit ! $ kept_out ! v x z.0.4.0 is (λ b o at ws. move ! (1 ∷ []) $ fsplit ! $ handle_tells E ! a z.0.4.1.0 (λ h told fits.
    let w : Val = alone (vptr b o) in let made = bare_good shard.the_row E b o h fits in
    suffices ! (Run (w ∷ h ∷ [])) (subst (λ (us : List Val). ent 𝓤 (Run (w ∷ h ∷ [])) (Run us)) (sym (λ i. ws i ++ (told i ++ []))) (id⊢ 𝓤 (Run (w ∷ h ∷ [])))) $
    enter ! 𝓣.C 𝓣.Λ fn (w ∷ h ∷ []) Post $ alloc_all ! (λ l. pass_all ! refl ((tt, (tt, tt)), (fits, tt)) $
    sets ! (of_opd ! (get_in ! (fld ! refl (stop !)) (sub ! 0 refl (whole !)))) refl (tt, tt) $
    sets ! (of_opd ! (get ! refl)) refl (tt, tt) $
    sets ! (agg ! (and_then ! (get ! refl) (and_then ! (get ! refl) (no_more !)))) refl made $
    move ! (2 ∷ 0 ∷ []) $ bare_in shard.the_row E ! b o h a x $
    use0 𝓛 (raw (fact 𝓤 (Some x ≡ v.value))) (fact_i 𝓤 (Some x ≡ v.value) (emp 𝓤) (sym is)) $ nothing ! $ nothing ! $ fjoin ! $ nothing ! $ fjoin ! $
    -- [what is had of the parameters; what it ensures; the result; nothing; the tokens]
    returns ! (look_at ! 0 refl) $ free_all ! refl $ keep ! (4 ∷ 0 ∷ 2 ∷ 1 ∷ []) $
    by ! (leaves 𝓛 ended hs c z (both (vptr b o) h) (record { at = block_ptr b o; alloc = a; value = x }) (tt, (tt, tt)) (tt, (tt, tt))))))))
