-- A value that owns nothing. Assumes `Logic`.
use Rattle.std.proofs.Common.{[], ◌∷◌, refl}
use Rattle.std.proofs.raw_atomic.Walks.{proved_at}
use mir.Syntax.{w8, ty_int}
use contract.Running.{tables}
use types.Kit.{‵, raw, ◌⊛◌, ◌$◌, ◌∵◌, !, qed, move, keep, drop, use0, split, fjoin, suffices, done}
use types.Part.{agg}
use types.Run.{enter, returns, no_more}
use types.ByLocal.{alloc_all, pass_all, free_all, look_at, sets}
use denote.RattleType.{owns}
use denote.Signature.{types_at}
use denote.Steps.{nothing}
use denote.Triple.Entry.{alive}
use denote.Triple.Walked.{says, Stays, ends_at}
use denote.RawPtr.{block_ptr}
use Rattle.raw_range.specs.inside.Ownership.{room_owns}
use Rattle.raw_range.proofs.Walks.{none, none_made}
use Rattle.raw_range.specs.contracts.memory.Unfilled as Unfilled
use Rattle.raw_range.specs.contracts.memory.Unfilled.empty as f
use Rattle.raw_range.proofs.memory.Unfilled.empty.Statement.{statement}
use Rattle.raw_range.proofs.memory.Unfilled.empty.Code as code

abbrev stayed : Stays f.ended.signature.params f.ended.kept
stayed = tt

pub empty_spec : {M : Type 1} → statement M
empty_spec 𝓤 𝓛 𝓜 𝓡 wired =
    let c = f.clauses 𝓛 𝓜.mem 𝓡.returns in
    let 𝓣 = tables 𝓤 𝓛.H 𝓜 𝓡 𝓡.env in
    proved_at 𝓛 f.ended stayed c 𝓜 𝓡 tt
    f.Key.name code.function (code.unfolded 𝓤 𝓛.H 𝓜 𝓡 wired) (λ z are.
    let a = z.0.3 in
    let vss = z.0.4 in
    let h : (Unfilled.the_row).Denot = record { ptr = block_ptr 0 0; len = 0 } in
    qed 𝓛 ((raw (alive 𝓛 f.signature z.0.0 z.0.1) ⊛ ‵ (owns (types_at f.signature.params z.0.0) a vss)) ∷ raw ((c z.0.0 a).requires z.1) ∷ []) ∵
    keep ! (0 ∷ []) $ split ! $ move ! (1 ∷ []) $ drop ! $
    enter ! _ _ _ _ _ $ alloc_all ! (λ l. pass_all ! refl tt $
    sets ! (agg ! (no_more !)) refl (tt, tt) $
    use0 𝓛 (‵ (room_owns (block_ptr 0 0) 0)) (𝓛.laws.room_nil (ty_int w8) 0 0) $ none_made ! $ fjoin ! $
    returns ! (look_at ! 0 refl) $ free_all ! refl $
    suffices ! _ (ends_at 𝓛 f.ended stayed c z none h tt tt) $ says ! refl $
    nothing ! $ move ! (2 ∷ 0 ∷ 1 ∷ []) $ done !))
