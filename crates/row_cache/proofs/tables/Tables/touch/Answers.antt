use Rattle.std.proofs.Common.{◌≡◌, ℕ, ◌∷◌, List, Some, length, map, refl, sym, ap, subst, ◌∙◌}
use Rattle.std.specs.Prelude.{slice_get}
use Rattle.common_lemmas.specs.Lists.{delete, times}
use Rattle.regions.specs.Contents.{live_at}
use Rattle.row_cache.specs.inside.Chained as chained
use Rattle.row_cache.specs.inside.Tables as tables
use Rattle.row_cache.specs.contracts.tables.Tables.{the_view}
use Rattle.row_cache.proofs.Numbers.{numbers_kept, times_front, length_front}
use Rattle.row_cache.proofs.Numbered.{among, brought}
use Rattle.row_cache.proofs.Relinked.{relinked_lives, tables_relived}
use Rattle.row_cache.proofs.States.{tables_kept}
use Rattle.row_cache.proofs.tables.Tables.touch.Goals as goal

pub bring_front-requires : goal.bring_front-requires
bring_front-requires c =
    let r = live_at c.args.region.now in let n = c.args.number in let t : tables.TableState = the_view c.self.inside in let v = c.self.view_is in
    among t r n c.place-place.result (subst (λ s. chained.IsLinked s r) (sym v) c.requires.linked) (subst (λ s. tables.IsListed s n) (sym v) c.requires.listed)
    (subst (λ (s : tables.TableState). slice_get s.places n ≡ Some c.place-place.result) (sym v) c.place-place.ensures)

pub invariant_of-self : goal.invariant_of-self
invariant_of-self c =
    let i = c.self.invariant in let n = c.args.number in let t : tables.TableState = the_view c.self.inside in
    let listed : tables.IsListed t n = subst (λ s. tables.IsListed s n) (sym c.self.view_is) c.requires.listed in
    let recency : c.with_front-self-inside.result.rows ≡ n ∷ delete n t.recency = c.with_front-self-inside.ensures ∙ ap (λ (ns : List ℕ). n ∷ ns) c.without.ensures in
    let u : tables.TableState = record t { recency = c.with_front-self-inside.result.rows; ends = c.bring_front.new.self } in
    (numbers_kept t u i.0 refl refl refl refl (λ m. ap (λ ns. times m ns) recency ∙ times_front m n t.recency listed) (ap (λ ns. length ns) recency ∙ length_front n t.recency listed), i.1, i.2)

pub returns-clause-relinks : goal.returns-clause-relinks
returns-clause-relinks c =
    let n = c.args.number in let t : tables.TableState = the_view c.self.inside in let r = c.args.region.now in let s = c.bring_front.new.region in let v = c.self.view_is in
    let listed : tables.IsListed t n = subst (λ s. tables.IsListed s n) (sym v) c.requires.listed in
    let recency : c.with_front-self-inside.result.rows ≡ n ∷ delete n t.recency = c.with_front-self-inside.ensures ∙ ap (λ (ns : List ℕ). n ∷ ns) c.without.ensures in
    let u : tables.TableState = record t { recency = c.with_front-self-inside.result.rows; ends = c.bring_front.new.self } in
    record {
      tables = tables_kept t u (live_at s) (tables_relived t (live_at r) (live_at s) (relinked_lives r s c.bring_front.ensures.same) (subst (λ x. tables.AreTablesOf x (live_at r)) (sym v) c.requires.tables))
          (invariant_of-self c).0 (λ m. ap (λ ns. times m ns) recency ∙ times_front m n t.recency listed) refl refl;
      linked = subst (λ ns. chained.IsChain (live_at s) c.bring_front.new.self (map (chained.place_in t.places) ns)) (sym recency)
          (brought t (live_at r) (live_at s) c.bring_front.new.self n c.place-place.result (subst (λ x. chained.IsLinked x (live_at r)) (sym v) c.requires.linked) listed
          (subst (λ (x : tables.TableState). slice_get x.places n ≡ Some c.place-place.result) (sym v) c.place-place.ensures) c.bring_front.ensures.chain);
      same = c.bring_front.ensures.same;
    }
