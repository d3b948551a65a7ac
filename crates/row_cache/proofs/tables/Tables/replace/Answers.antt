use Rattle.std.proofs.Common.{◌≡◌, ℕ, ◌∷◌, List, length, map, refl, sym, ap, subst, ◌∙◌}
use Rattle.std.specs.Prelude.{slice_set}
use Rattle.common_lemmas.specs.Lists.{delete, times}
use Rattle.regions.specs.Contents.{live_at}
use Rattle.row_cache.specs.inside.Chained as chained
use Rattle.row_cache.specs.inside.Tables as tables
use Rattle.row_cache.specs.contracts.tables.Tables.{the_view}
use Rattle.row_cache.proofs.Numbers.{numbers_kept, times_front, length_front}
use Rattle.row_cache.proofs.Numbered.{replaced_beside, replaced_front}
use Rattle.row_cache.proofs.Relinked.{relinked_lives, tables_relived}
use Rattle.row_cache.proofs.States.{tables_kept}
use Rattle.row_cache.proofs.tables.Tables.replace.Goals as goal

pub push_front-requires-clause-chain : goal.push_front-requires-clause-chain
push_front-requires-clause-chain c =
    let t = c.args.self.now in let n = c.args.number in let p = c.args.place in let live = live_at c.args.region.now in let a = c.requires.replaces in
    let u : tables.TableState = record t { places = slice_set t.places n p } in
    let are : tables.AreTablesOf u live = subst (λ x. tables.AreTablesOf x live) c.put_at.ensures.state (c.put_at.ensures.tables a.row a.old live a.replaces) in
    let b = replaced_beside t n p a.row a.old live a.replaces c.requires.listed c.requires.linked are in
    let w = c.self.view_is ∙ c.put_at.ensures.state in
    (map (chained.place_in u.places) (delete n t.recency), subst (λ (x : tables.TableState). chained.IsChain live x.ends (map (chained.place_in u.places) (delete n t.recency))) (sym w) b.0, b.1)

pub invariant_of-self : goal.invariant_of-self
invariant_of-self c =
    let i = c.self.invariant in let n = c.args.number in let x : tables.TableState = the_view c.self.inside in
    let w = c.self.view_is ∙ c.put_at.ensures.state in
    let listed : tables.IsListed x n = subst (λ (s : tables.TableState). tables.IsListed s n) (sym w) c.requires.listed in
    let recency : c.with_front-self-inside.result.rows ≡ n ∷ delete n x.recency = c.with_front-self-inside.ensures ∙ ap (λ (ns : List ℕ). n ∷ ns) c.without.ensures in
    let u : tables.TableState = record x { recency = c.with_front-self-inside.result.rows; ends = c.push_front.new.self } in
    (numbers_kept x u i.0 refl refl refl refl (λ m. ap (λ ns. times m ns) recency ∙ times_front m n x.recency listed) (ap (λ ns. length ns) recency ∙ length_front n x.recency listed), i.1, i.2)

pub returns-clause-relinks : goal.returns-clause-relinks
returns-clause-relinks c =
    let t = c.args.self.now in let n = c.args.number in let p = c.args.place in let r = c.args.region.now in let s = c.push_front.new.region in let a = c.requires.replaces in
    let x : tables.TableState = the_view c.self.inside in
    let w = c.self.view_is ∙ c.put_at.ensures.state in let ends = c.push_front.new.self in
    let listed : tables.IsListed x n = subst (λ (y : tables.TableState). tables.IsListed y n) (sym w) c.requires.listed in
    let recency : c.with_front-self-inside.result.rows ≡ n ∷ delete n x.recency = c.with_front-self-inside.ensures ∙ ap (λ (ns : List ℕ). n ∷ ns) c.without.ensures in
    let u : tables.TableState = record x { recency = c.with_front-self-inside.result.rows; ends = ends } in
    let are : tables.AreTablesOf x (live_at r) = subst (λ y. tables.AreTablesOf y (live_at r)) (sym c.self.view_is) (c.put_at.ensures.tables a.row a.old (live_at r) a.replaces) in
    let q : tables.TableState = record t { places = slice_set t.places n p } in
    let those : tables.AreTablesOf q (live_at r) = subst (λ y. tables.AreTablesOf y (live_at r)) c.put_at.ensures.state (c.put_at.ensures.tables a.row a.old (live_at r) a.replaces) in
    let b = replaced_beside t n p a.row a.old (live_at r) a.replaces c.requires.listed c.requires.linked those in
    let ps = map (chained.place_in q.places) (delete n t.recency) in
    let chain = subst (λ (y : tables.TableState). chained.IsChain (live_at r) y.ends ps) (sym w) b.0 in
    let front = replaced_front t n p a.row a.old (live_at r) (live_at s) ends a.replaces c.requires.listed (c.push_front.ensures.chain ps chain b.1) in
    record {
      tables = tables_kept x u (live_at s) (tables_relived x (live_at r) (live_at s) (relinked_lives r s c.push_front.ensures.same) are)
          (invariant_of-self c).0 (λ m. ap (λ ns. times m ns) recency ∙ times_front m n x.recency listed) refl refl;
      linked = subst (λ ns. chained.IsChain (live_at s) ends (map (chained.place_in x.places) ns)) (sym recency)
          (subst (λ (y : tables.TableState). chained.IsChain (live_at s) ends (map (chained.place_in y.places) (n ∷ delete n y.recency))) (sym w) front);
      same = c.push_front.ensures.same;
    }
