use Rattle.std.proofs.Common.{◌≡◌, ℕ, ◌*◌, List, length, Option, None, refl, sym, ap, subst, ◌∙◌, arith}
use Rattle.std.specs.Prelude.{IsSome}
use Rattle.regions.specs.Segments.{RegionState}
use Rattle.regions.specs.Contents.{live_at}
use Rattle.regions.specs.declared.place.Place.{Place}
use Rattle.index_tree.specs.Indexes.{Index, number_of, without}
use Rattle.index_tree.specs.Removes.{CanLose}
use Rattle.index_tree.specs.Prunes.{Prunes}
use Rattle.index_tree.specs.Sizes.{node_object}
use Rattle.index_tree.specs.Store.{IndexState, Stay, index_in, levels_if, nodes_of}
use Rattle.index_tree.specs.inside.Rosters.{IsRosterOf, IsSameTree, RosterState}
use Rattle.index_tree.proofs.PrunedRoster.{pruned_roster}
use Rattle.index_tree.proofs.RemovedKey.{can_lose, consistent_now, index_now, number_known, without_none}
use Rattle.index_tree.proofs.States.{low_enough}
use Rattle.index_tree.proofs.Stays.{removal_stays, same_stays}
use Rattle.index_tree.proofs.tree.IndexTree.remove.Goals as goal

pub remove_at_root-requires-clause-below : goal.remove_at_root-requires-clause-below
remove_at_root-requires-clause-below c =
    let f = c.self.inside in
    subst (λ l. CanLose (nodes_of (live_at f.region)) l c.in_ok-root.root c.args.key.now) (sym c.level.ensures)
    (can_lose f.roots (live_at f.region) c.self.invariant.roster c.in_ok-root.root (sym c.root.ensures ∙ c.in_ok-root.was) c.args.key.now)

pub remove_at_root-requires-clause-low : goal.remove_at_root-requires-clause-low
remove_at_root-requires-clause-low c =
    let f = c.self.inside in
    let low = low_enough f.roots f.region f.keys f.segments c.self.invariant in
    let high = ap (λ (o : Option Place). levels_if o f.roots.tree.level) (sym c.root.ensures ∙ c.in_ok-root.was) in
    let is = c.level.ensures in
    omega (arith, low, high, is)

pub returns-in_err-number-clause-had : goal.returns-in_err-number-clause-had
returns-in_err-number-clause-had c =
    let f = c.self.inside in
    c.from_residual-in_err-number.ensures ∙ (c.in_err-number.ensures.number ∙ (number_known f.roots (live_at f.region) c.self.invariant.roster c.in_ok-root.root (sym c.root.ensures ∙ c.in_ok-root.was) c.level.result c.level.ensures c.args.key.now
    ∙ (ap (λ (x : Index). number_of c.args.key.now x) (sym c.self.invariant.roster.index) ∙ ap (λ (s : IndexState). number_of c.args.key.now (index_in s)) c.self.view_is)))

pub returns-in_err-number-clause-index : goal.returns-in_err-number-clause-index
returns-in_err-number-clause-index c =
    let f = c.self.inside in let i = c.self.invariant in
    let none : number_of c.args.key.now f.roots.known.index ≡ None =
    sym (c.in_err-number.ensures.number ∙ number_known f.roots (live_at f.region) c.self.invariant.roster c.in_ok-root.root (sym c.root.ensures ∙ c.in_ok-root.was) c.level.result c.level.ensures c.args.key.now) in
    ap (λ (r : RegionState). index_in (record { tree = f.roots.tree; region = r })) (c.in_err-number.ensures.unchanged refl)
    ∙ (i.roster.index
    ∙ (sym (without_none c.args.key.now f.roots.known.index i.rising none)
    ∙ (ap (λ (x : Index). without c.args.key.now x) (sym i.roster.index) ∙ ap (λ (s : IndexState). without c.args.key.now (index_in s)) c.self.view_is)))

pub returns-in_err-number-clause-stay : goal.returns-in_err-number-clause-stay
returns-in_err-number-clause-stay c =
    let f = c.self.inside in
    same_stays _ _ (ap (λ (r : RegionState). record { tree = f.roots.tree; region = r }) (c.in_err-number.ensures.unchanged refl) ∙ c.self.view_is)

pub returns-in_err-root-clause-stay : goal.returns-in_err-root-clause-stay
returns-in_err-root-clause-stay c = same_stays c.args.self.now c.args.self.now refl

pub release-requires : goal.release-requires
release-requires c =
    let f = c.self.inside in
    let low = low_enough f.roots f.region f.keys f.segments c.self.invariant in
    let high = ap (λ (o : Option Place). levels_if o f.roots.tree.level) (sym c.root.ensures ∙ c.in_ok-root.was) in
    let is = c.level.ensures in let spare = c.self.invariant.spare in let few = c.in_ok-number.ensures.few in
    let same = ap (λ (ps : List Place). length ps) c.as_slice.ensures in
    omega (arith, low, high, is, spare, few, same)

pub trim-requires : goal.trim-requires
trim-requires c =
    let f = c.self.inside in let k = c.remove_at_root in let p = c.in_ok-number.pruned in
    record {
      roster = subst (λ (r : RosterState). IsRosterOf r (live_at k.new.region)) (sym c.release.ensures)
          (pruned_roster f.region k.new.region k.ensures.same k.ensures.nodes f.roots c.self.invariant.roster c.in_ok-root.root (sym c.root.ensures ∙ c.in_ok-root.was)
          p.level p.root c.args.key.now c.as_slice.result.now
          (subst (λ l. Prunes (nodes_of (live_at f.region)) (nodes_of (live_at k.new.region)) l c.in_ok-root.root p.level p.root c.args.key.now c.as_slice.result.now) c.level.ensures
          (subst (λ (ps : List Place). Prunes (nodes_of (live_at f.region)) (nodes_of (live_at k.new.region)) c.level.result c.in_ok-root.root p.level p.root c.args.key.now ps) (sym c.as_slice.ensures)
          c.in_ok-number.ensures.pruned)));
    }

pub invariant_of-self-2 : goal.invariant_of-self-2
invariant_of-self-2 c =
    let f = c.self.inside in let k = c.remove_at_root in let p = c.in_ok-number.pruned in let t = c.trim.ensures in
    let has : IsSome (number_of c.args.key.now f.roots.known.index) =
    subst (λ (o : Option ℕ). IsSome o) (c.in_ok-number.ensures.number ∙ number_known f.roots (live_at f.region) c.self.invariant.roster c.in_ok-root.root (sym c.root.ensures ∙ c.in_ok-root.was) c.level.result c.level.ensures c.args.key.now) refl in
    consistent_now f.roots c.trim.new.self f.region k.new.region c.trim.new.region f.keys f.segments p.level c.in_ok-root.root p.root c.args.key.now c.as_slice.result.now c.self.invariant
    (sym c.root.ensures ∙ c.in_ok-root.was) has
    (subst (λ l. Prunes (nodes_of (live_at f.region)) (nodes_of (live_at k.new.region)) l c.in_ok-root.root p.level p.root c.args.key.now c.as_slice.result.now) c.level.ensures
    (subst (λ (ps : List Place). Prunes (nodes_of (live_at f.region)) (nodes_of (live_at k.new.region)) c.level.result c.in_ok-root.root p.level p.root c.args.key.now ps) (sym c.as_slice.ensures)
    c.in_ok-number.ensures.pruned))
    k.ensures.same
    (subst (λ (r : RosterState). IsSameTree r c.trim.new.self) c.release.ensures t.same)
    t.roster t.spares
    (λ total. t.counted (total ∙ ap (λ (r : RosterState). node_object * length r.known.places) (sym c.release.ensures)))
    t.shape

pub returns-clause-had : goal.returns-clause-had
returns-clause-had c =
    let f = c.self.inside in
    c.in_ok-number.ensures.number ∙ (number_known f.roots (live_at f.region) c.self.invariant.roster c.in_ok-root.root (sym c.root.ensures ∙ c.in_ok-root.was) c.level.result c.level.ensures c.args.key.now
    ∙ (ap (λ (x : Index). number_of c.args.key.now x) (sym c.self.invariant.roster.index) ∙ ap (λ (s : IndexState). number_of c.args.key.now (index_in s)) c.self.view_is))

pub returns-clause-index : goal.returns-clause-index
returns-clause-index c =
    let f = c.self.inside in let k = c.remove_at_root in let p = c.in_ok-number.pruned in let t = c.trim.ensures in
    let has : IsSome (number_of c.args.key.now f.roots.known.index) =
    subst (λ (o : Option ℕ). IsSome o) (c.in_ok-number.ensures.number ∙ number_known f.roots (live_at f.region) c.self.invariant.roster c.in_ok-root.root (sym c.root.ensures ∙ c.in_ok-root.was) c.level.result c.level.ensures c.args.key.now) refl in
    t.roster.index
    ∙ (index_now f.roots c.trim.new.self f.region k.new.region c.trim.new.region f.keys f.segments p.level c.in_ok-root.root p.root c.args.key.now c.as_slice.result.now c.self.invariant
    (sym c.root.ensures ∙ c.in_ok-root.was) has
    (subst (λ l. Prunes (nodes_of (live_at f.region)) (nodes_of (live_at k.new.region)) l c.in_ok-root.root p.level p.root c.args.key.now c.as_slice.result.now) c.level.ensures
    (subst (λ (ps : List Place). Prunes (nodes_of (live_at f.region)) (nodes_of (live_at k.new.region)) c.level.result c.in_ok-root.root p.level p.root c.args.key.now ps) (sym c.as_slice.ensures)
    c.in_ok-number.ensures.pruned))
    k.ensures.same
    (subst (λ (r : RosterState). IsSameTree r c.trim.new.self) c.release.ensures t.same)
    ∙ (ap (λ (x : Index). without c.args.key.now x) (sym c.self.invariant.roster.index) ∙ ap (λ (s : IndexState). without c.args.key.now (index_in s)) c.self.view_is))

pub returns-clause-stay : goal.returns-clause-stay
returns-clause-stay c =
    let f = c.self.inside in let k = c.remove_at_root in let p = c.in_ok-number.pruned in let t = c.trim.ensures in
    subst (λ (s : IndexState). Stay s (record { tree = c.trim.new.self.tree; region = c.trim.new.region })) c.self.view_is
    (removal_stays f.region k.new.region c.trim.new.region f.roots c.trim.new.self c.in_ok-root.root (sym c.root.ensures ∙ c.in_ok-root.was) p.level p.root c.args.key.now c.as_slice.result.now
    (subst (λ l. Prunes (nodes_of (live_at f.region)) (nodes_of (live_at k.new.region)) l c.in_ok-root.root p.level p.root c.args.key.now c.as_slice.result.now) c.level.ensures
    (subst (λ (ps : List Place). Prunes (nodes_of (live_at f.region)) (nodes_of (live_at k.new.region)) c.level.result c.in_ok-root.root p.level p.root c.args.key.now ps) (sym c.as_slice.ensures)
    c.in_ok-number.ensures.pruned))
    k.ensures.same
    (subst (λ (r : RosterState). IsSameTree r c.trim.new.self) c.release.ensures t.same)
    t.roster t.remain)
