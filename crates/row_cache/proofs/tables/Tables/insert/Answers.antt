use Rattle.std.proofs.Common.{◌∷◌, map, refl, sym, ap, subst, ◌∙◌}
use Rattle.regions.specs.Contents.{live_at}
use Rattle.row_cache.specs.inside.Chained as chained
use Rattle.row_cache.specs.inside.Tables as tables
use Rattle.row_cache.specs.contracts.tables.Tables.{the_view}
use Rattle.row_cache.proofs.Numbers.{numbers_kept}
use Rattle.row_cache.proofs.Numbered.{added_front}
use Rattle.row_cache.proofs.Relinked.{relinked_lives, tables_relived}
use Rattle.row_cache.proofs.States.{tables_kept}
use Rattle.row_cache.proofs.tables.Tables.insert.Goals as goal

pub push_front-requires-clause-row : goal.push_front-requires-clause-row
push_front-requires-clause-row c =
    let a = c.requires.adds in record { item = a.adds.item; is = a.adds.adds.here; number = tables.next_number c.args.self.now; row = a.row; is_row = a.adds.is_row }

pub push_front-requires-clause-room : goal.push_front-requires-clause-room
push_front-requires-clause-room c = c.requires.linked.1

pub push_front-requires-clause-chain : goal.push_front-requires-clause-chain
push_front-requires-clause-chain c =
    let t = c.args.self.now in let live = live_at c.args.region.now in let ps = map (chained.place_in t.places) t.recency in
    let same = ap (λ (x : tables.TableState). x.ends) c.self.view_is ∙ c.enter.ensures.ends in
    (ps, subst (λ e. chained.IsChain live e ps) (sym same) c.requires.linked.0, c.requires.linked.2)

pub invariant_of-self : goal.invariant_of-self
invariant_of-self c =
    let i = c.self.invariant in let x : tables.TableState = the_view c.self.inside in
    let u : tables.TableState = record x { ends = c.push_front.new.self } in
    (numbers_kept x u i.0 refl refl refl refl (λ m. refl) refl, i.1, i.2)

pub returns-clause-relinks : goal.returns-clause-relinks
returns-clause-relinks c =
    let t = c.args.self.now in let r = c.args.region.now in let s = c.push_front.new.region in let ends = c.push_front.new.self in let a = c.requires.adds in
    let x : tables.TableState = the_view c.self.inside in let ps = map (chained.place_in t.places) t.recency in
    let u : tables.TableState = record x { ends = ends } in
    let are : tables.AreTablesOf x (live_at r) = subst (λ y. tables.AreTablesOf y (live_at r)) (sym c.self.view_is) c.enter.ensures.tables in
    let same = ap (λ (y : tables.TableState). y.ends) c.self.view_is ∙ c.enter.ensures.ends in
    let chain = subst (λ e. chained.IsChain (live_at r) e ps) (sym same) c.requires.linked.0 in
    let places = ap (λ (y : tables.TableState). y.places) c.self.view_is ∙ c.enter.ensures.places in
    let recency = ap (λ (y : tables.TableState). y.recency) c.self.view_is ∙ c.enter.ensures.recency in
    let front = added_front t c.args.at c.args.place a.row a.old (live_at r) (live_at s) ends a.adds (c.push_front.ensures.chain ps chain c.requires.linked.2) in
    record {
      tables = tables_kept x u (live_at s) (tables_relived x (live_at r) (live_at s) (relinked_lives r s c.push_front.ensures.same) are) (invariant_of-self c).0 (λ m. refl) refl refl;
      linked = subst (λ ns. chained.IsChain (live_at s) ends (map (chained.place_in x.places) ns)) (sym recency)
          (subst (λ ps. chained.IsChain (live_at s) ends (map (chained.place_in ps) (tables.next_number t ∷ t.recency))) (sym places) front);
      same = c.push_front.ensures.same;
    }
