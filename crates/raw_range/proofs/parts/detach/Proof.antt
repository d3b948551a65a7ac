-- `detach` takes the places away, and leaves the way back. Assumes `Logic`.
use Rattle.std.proofs.Common.{◌≡◌, ◌<◌, List, [], ◌∷◌, ◌++◌, refl}
use Rattle.std.proofs.raw_atomic.Walks.{proved_at}
use Rattle.std.proofs.alloc.Calls.{Goes-blank}
use mir.Syntax.{Dict}
use mir.Val.{Val}
use mir.MapTy.{inst_fn}
use base.Fml.{ftrue}
use prog.Wp.{WpFn}
use contract.Monad.{fact}
use contract.Running.{tables}
use types.Kit.{‵, raw, ◌⊛◌, prop, ◌$◌, ◌∵◌, !, qed, move, drop, use1, split, fsplit, fjoin, fpack, regoal, suffices, done}
use types.Part.{agg}
use types.Run.{enter, returns, of_opd, and_then, no_more}
use types.ByLocal.{alloc_all, pass_all, free_all, look_at, get, sets}
use denote.Exit.{no}
use denote.RattleType.{RattleType, owns}
use denote.Builtin.{u8}
use denote.Param.{param, layout}
use denote.Signature.{plain, types_at}
use denote.Steps.{nothing, heard}
use denote.Triple.Entry.{alive}
use denote.Triple.Walked.{says, Stays, stay_dropped, walk_of, ends_at}
use Rattle.std.specs.declared.alloc.Allocator.{Ghosts}
use Rattle.raw_range.proofs.Walks.{none, one, two, tells, none_made, two_made}
use contract.BorrowLft.{◌⊑◌}
use Rattle.raw_range.specs.contracts.memory.Unfilled as Unfilled
use Rattle.raw_range.specs.contracts.memory.Sole as Sole
use Rattle.std_alloc.specs.contracts.vec.Vec as Vec
use denote.Laws.{Typed}
use denote.Struct.Struct.{as_fields}
use Rattle.raw_range.specs.inside.Ownership.{room_owns}
use Rattle.raw_range.proofs.Vecs.{of_allocator, byte_vec_laws, carve}
use Rattle.raw_range.specs.contracts.parts.detach as f
use Rattle.raw_range.proofs.parts.detach.Statement.{statement}
use Rattle.raw_range.proofs.parts.detach.Code as code

abbrev stayed : (A : RattleType) (g : Ghosts A.Denot) (d dd : Dict) → Stays (f.ended A g d dd).signature.params (f.ended A g d dd).kept
stayed A g d dd = (stay_dropped (plain (λ _. Vec.the_row u8 (param 0 A) g)) no, tt)

pub detach_spec : {M : Type 1} → statement M
detach_spec 𝓤 𝓛 𝓜 𝓡 wired A L g d dd met md =
    let c = f.clauses A g d dd 𝓛 𝓜.mem 𝓡.returns in
    let 𝓣 = tables 𝓤 𝓛.H 𝓜 𝓡 𝓡.env in
    proved_at 𝓛 (f.ended A g d dd) (stayed A g d dd) c 𝓜 𝓡 (Goes-blank 𝓛 1 (plain (λ _. Vec.the_row u8 (param 0 A) g)) no (λ κs x w. tt), tt)
    (f.Key.name (of_allocator A d dd)) (inst_fn (of_allocator A d dd) code.function) (code.unfolded 𝓤 𝓛.H 𝓜 𝓡 wired (A, tt) d dd) (λ z are.
    let a = z.0.3 in
    let vss = z.0.4 in
    let v = a.0 in
    let V = Vec.the_row u8 (param 0 A) g in
    let S = Sole.the_row (param 0 A) g in
    let Asked = (v.len ≡ 0) × (0 < v.cap) in
    let e : S.Denot = record { ptr = v.ptr; len = v.cap } in
    let r : (Unfilled.the_row).Denot = record { ptr = v.ptr; len = v.cap } in
    qed 𝓛 ((raw (alive 𝓛 (f.ended A g d dd).signature z.0.0 z.0.1) ⊛ ‵ (owns (types_at (f.ended A g d dd).signature.params z.0.0) a vss)) ∷ (raw (fact 𝓤 (z.0.0.0 ⊑ A.lives)) ⊛ raw (fact 𝓤 Asked)) ∷ []) ∵
    move ! (1 ∷ []) $ split ! $ drop ! $ heard ! Asked (λ asked. split ! $ move ! (1 ∷ []) $
    fsplit ! $ tells ! V (byte_vec_laws A L g) v vss.0 (λ u is good. move ! (1 ∷ []) $ drop ! $
    let inner = as_fields ((layout V) ∷ []) (u ∷ []) (good, tt) in
    use1 𝓛 (‵ (room_owns v.ptr v.cap) ⊛ ‵ (Sole.the_own (param 0 A) g e (one u ∷ []))) (carve (param 0 A) g 𝓛 v u asked.0 asked.1) $ split ! $
    none_made ! $ fjoin ! $ move ! (1 ∷ []) $ nothing ! $ fpack ! (Typed S.mir (one u ∷ [])) (λ _. ftrue) (inner, tt) $ fjoin ! $ move ! (1 ∷ 0 ∷ []) $
    two_made ! Unfilled.the_row S r e none (one u) $
    regoal ! (λ (us : List Val). prop (WpFn 𝓤 𝓛.H 𝓣.C 𝓣.Λ (inst_fn (of_allocator A d dd) code.function) (us ++ []) ((walk_of 𝓛 (f.ended A g d dd) (stayed A g d dd) c).post z))) is refl $
    enter ! _ _ _ _ _ $ alloc_all ! (λ l. pass_all ! refl (good, tt) $
    sets ! (agg ! (no_more !)) refl (tt, tt) $
    sets ! (of_opd ! (get ! refl)) refl good $
    sets ! (agg ! (and_then ! (get ! refl) (no_more !))) refl inner $
    sets ! (agg ! (and_then ! (get ! refl) (and_then ! (get ! refl) (no_more !)))) refl (as_fields (layout Unfilled.the_row ∷ layout S ∷ []) (none ∷ one u ∷ []) ((tt, tt), (inner, tt))) $
    returns ! (look_at ! 0 refl) $ free_all ! refl $
    suffices ! _ (ends_at 𝓛 (f.ended A g d dd) (stayed A g d dd) c z (two none (one u)) (r, e) ((tt, (tt, (tt, (tt, tt)))), tt) (tt, tt)) $ says ! (refl, refl, refl, refl) $
    nothing ! $ nothing ! $ fjoin ! $ move ! (2 ∷ 0 ∷ 1 ∷ []) $ done !))))
