-- A mark owns nothing, and any places may be its own. Assumes `Logic`.
use Rattle.std.proofs.Common.{List, [], ◌∷◌, refl}
use Rattle.std.proofs.raw_atomic.Walks.{proved_at}
use mir.Val.{Val, vstruct, vnil}
use contract.Running.{tables}
use types.Kit.{‵, raw, ◌⊛◌, ◌$◌, ◌∵◌, !, qed, move, keep, drop, split, fjoin, fpack, feq_i, suffices, done}
use types.Part.{agg}
use types.Run.{enter, returns, no_more}
use types.ByLocal.{alloc_all, pass_all, free_all, look_at, sets}
use denote.RattleType.{Valss, owns}
use denote.Signature.{types_at}
use denote.Steps.{nothing}
use denote.Struct.Struct.{within}
use denote.Triple.Entry.{alive}
use denote.Triple.Walked.{says, Stays, ends_at}
use Rattle.index_tree.specs.contracts.roster.Roster as Roster
use Rattle.index_tree.specs.contracts.roster.Roster.empty as f
use Rattle.index_tree.proofs.roster.Roster.empty.Statement.{statement}
use Rattle.index_tree.proofs.roster.Roster.empty.Code as code

abbrev none : Val
none = vstruct vnil

abbrev stayed : Stays f.ended.signature.params f.ended.kept
stayed = tt

pub empty_spec : {M : Type 1} → statement M
empty_spec 𝓤 𝓛 𝓜 𝓡 wired =
    let c = f.clauses 𝓛 𝓜.mem 𝓡.returns in
    let 𝓣 = tables 𝓤 𝓛.H 𝓜 𝓡 𝓡.env in
    proved_at 𝓛 f.ended stayed c 𝓜 𝓡 tt
    f.Key.name code.function (code.unfolded 𝓤 𝓛.H 𝓜 𝓡 wired) (λ z are.
    let a = z.0.3 in
    let vss = z.0.4 in
    let mark : (Roster.the_row).Denot = record { known = record { places = []; index = [] } } in
    qed 𝓛 ((raw (alive 𝓛 f.signature z.0.0 z.0.1) ⊛ ‵ (owns (types_at f.signature.params z.0.0) a vss)) ∷ raw ((c z.0.0 a).requires z.1) ∷ []) ∵
    keep ! (0 ∷ []) $ split ! $ move ! (1 ∷ []) $
    drop ! $
    enter ! _ _ _ _ _ $ alloc_all ! (λ l. pass_all ! refl tt $
    sets ! (agg ! (no_more !)) refl (tt, tt) $
    nothing ! $
    nothing ! $ feq_i ! (List Val) (none ∷ []) (none ∷ []) refl $ fjoin ! $
    fpack ! (Valss []) (within (record { name = []; args = []; types = []; fields = [] }) tt (none ∷ [])) tt $ fjoin ! $
    returns ! (look_at ! 0 refl) $ free_all ! refl $
    suffices ! _ (ends_at 𝓛 f.ended stayed c z none mark tt tt) $ says ! refl $
    nothing ! $ move ! (2 ∷ 0 ∷ 1 ∷ []) $ done !))
