use Rattle.std.proofs.Common.{◌≡◌, ◌++◌, ◌∷◌, List, cond, map, None, refl, sym, ap, subst, ◌∙◌}
use Rattle.std.specs.Prelude.{nat_lt, slice_get, slice_set}
use Rattle.common_lemmas.specs.Lists.{times}
use Rattle.row_bytes.specs.Rows.{number_in}
use Rattle.regions.specs.Contents.{Item, live_at}
use Rattle.regions.specs.Stores.{Live, less}
use Rattle.regions.specs.declared.place.Place.{Place}
use Rattle.row_cache.specs.inside.Chained as chained
use Rattle.row_cache.specs.inside.Tables as tables
use Rattle.row_cache.specs.contracts.tables.Tables.{the_view}
use Rattle.row_cache.proofs.Caches.{of_some}
use Rattle.row_cache.proofs.Moving.{IsMoved, row_moved, names_moved, tables_stand}
use Rattle.row_cache.proofs.Numbers.{numbers_kept}
use Rattle.row_cache.proofs.Numbered.{among, moved_chain}
use Rattle.row_cache.proofs.Relinked.{less_relives, relinked_lives, relinked_same_but, tables_relived}
use Rattle.row_cache.proofs.Referred.{referred}
use Rattle.row_cache.proofs.States.{tables_kept}
use Rattle.row_cache.proofs.tables.TablesMovers.moved.Goals as goal

pub number_at-number-requires : goal.number_at-number-requires
number_at-number-requires c =
    let live : Live = live_at c.args.store.now in let h = c.requires.copied in let t = c.args.self.now in let from = c.args.from in let to = c.args.to in
    let m : IsMoved t live from to h.0 = row_moved t live from to h.0 c.requires.fits.0 c.requires.apart h.2 h.3 in
    record { item = h.0; is = h.3; number = m.n; row = m.row; is_row = m.is_row }

pub put_at-requires : goal.put_at-requires
put_at-requires c =
    let live : Live = live_at c.args.store.now in let h = c.requires.copied in let t = c.args.self.now in let from = c.args.from in let to = c.args.to in
    let m : IsMoved t live from to h.0 = row_moved t live from to h.0 c.requires.fits.0 c.requires.apart h.2 h.3 in
    let is : c.number_at-number.result ≡ m.n = of_some (λ (item : Item). c.number_at-number.result ≡ number_in item.content) (live to) h.0 c.number_at-number.ensures.number h.3 ∙ m.is_row.number in
    subst (λ n. tables.IsListed t n) (sym is) m.listed

pub relocate-requires-clause-row : goal.relocate-requires-clause-row
relocate-requires-clause-row c =
    let live : Live = live_at c.args.store.now in let h = c.requires.copied in let t = c.args.self.now in let from = c.args.from in let to = c.args.to in
    let m : IsMoved t live from to h.0 = row_moved t live from to h.0 c.requires.fits.0 c.requires.apart h.2 h.3 in
    record { item = h.0; is = h.3; number = m.n; row = m.row; is_row = m.is_row }

pub relocate-requires-clause-room : goal.relocate-requires-clause-room
relocate-requires-clause-room c = (c.number_at-number.ensures.fits, c.number_at-number.ensures.inside)

pub relocate-requires-clause-same : goal.relocate-requires-clause-same
relocate-requires-clause-same c = (let h = c.requires.copied in h.3 ∙ sym h.2)

pub relocate-requires-clause-chain : goal.relocate-requires-clause-chain
relocate-requires-clause-chain c =
    let live : Live = live_at c.args.store.now in let h = c.requires.copied in let t = c.args.self.now in let from = c.args.from in let to = c.args.to in
    let m : IsMoved t live from to h.0 = row_moved t live from to h.0 c.requires.fits.0 c.requires.apart h.2 h.3 in
    let w = c.self.view_is ∙ c.put_at.ensures.state in
    subst (λ (x : tables.TableState). chained.IsAmong from (less to live) x.ends) (sym w) (among t (less to live) m.n from c.requires.fits.1 m.listed m.was)

pub invariant_of-self : goal.invariant_of-self
invariant_of-self c =
    let i = c.self.invariant in let x : tables.TableState = the_view c.self.inside in
    let u : tables.TableState = record x { ends = c.relocate.new.self } in
    (numbers_kept x u i.0 refl refl refl refl (λ m. refl) refl, i.1, i.2)

pub returns-clause-stands : goal.returns-clause-stands
returns-clause-stands c = λ m live are. tables_stand m live are.0

pub returns-clause-names : goal.returns-clause-names
returns-clause-names c = λ n.
    (let live : Live = live_at c.args.store.now in let h = c.requires.copied in let t = c.args.self.now in let from = c.args.from in let to = c.args.to in
    let m : IsMoved t live from to h.0 = row_moved t live from to h.0 c.requires.fits.0 c.requires.apart h.2 h.3 in
    let is : c.number_at-number.result ≡ m.n = of_some (λ (item : Item). c.number_at-number.result ≡ number_in item.content) (live to) h.0 c.number_at-number.ensures.number h.3 ∙ m.is_row.number in
    ap (λ (s : tables.TableState). tables.place_of s n) (c.self.view_is ∙ c.put_at.ensures.state)
    ∙ (ap (λ k. cond (nat_lt 0 (times n t.recency)) (slice_get (slice_set t.places k to) n) None) is ∙ names_moved t live from to h.0 m n))

pub returns-clause-fits : goal.returns-clause-fits
returns-clause-fits c =
    let live : Live = live_at c.args.store.now in let h = c.requires.copied in let t = c.args.self.now in let from = c.args.from in let to = c.args.to in
    let m : IsMoved t live from to h.0 = row_moved t live from to h.0 c.requires.fits.0 c.requires.apart h.2 h.3 in
    let is : c.number_at-number.result ≡ m.n = of_some (λ (item : Item). c.number_at-number.result ≡ number_in item.content) (live to) h.0 c.number_at-number.ensures.number h.3 ∙ m.is_row.number in
    let s = c.relocate.new.region in let x : tables.TableState = the_view c.self.inside in
    let u : tables.TableState = record x { ends = c.relocate.new.self } in
    let w = c.self.view_is ∙ c.put_at.ensures.state in
    let placed = c.put_at.ensures.tables m.row (less to live) (less from live) (subst (λ n. tables.ReplacesRow t n to m.row (less to live) (less from live)) (sym is) m.replaces) in
    let are : tables.AreTablesOf x (less from live) = subst (λ y. tables.AreTablesOf y (less from live)) (sym c.self.view_is) placed in
    let lives = less_relives from live (live_at s) (relinked_lives c.args.store.now s c.relocate.ensures.same) in
    let move : (xs ys : List Place) → chained.IsChain (less to live) t.ends (xs ++ from ∷ ys) → chained.IsChain (less from (live_at s)) c.relocate.new.self (xs ++ to ∷ ys) =
    subst (λ (y : tables.TableState). (xs ys : List Place) → chained.IsChain (less to live) y.ends (xs ++ from ∷ ys) → chained.IsChain (less from (live_at s)) c.relocate.new.self (xs ++ to ∷ ys)) w c.relocate.ensures.chain in
    let chain = moved_chain t (less to live) (less from (live_at s)) c.relocate.new.self m.n from to c.requires.fits.1 m.listed m.was c.requires.fits.0.numbers move in (
      tables_kept x u (less from (live_at s)) (tables_relived x (less from live) (less from (live_at s)) lives are) (invariant_of-self c).0 (λ k. refl) refl refl,
      subst (λ (y : tables.TableState). chained.IsChain (less from (live_at s)) c.relocate.new.self (map (chained.place_in y.places) y.recency)) (sym w)
          (subst (λ n. chained.IsChain (less from (live_at s)) c.relocate.new.self (map (chained.place_in (slice_set t.places n to)) t.recency)) (sym is) chain),
    )

pub returns-clause-store : goal.returns-clause-store
returns-clause-store c = relinked_same_but c.args.store.now c.relocate.new.region c.relocate.ensures.same

pub returns-clause-references : goal.returns-clause-references
returns-clause-references c = λ p.
    (let live : Live = live_at c.args.store.now in let h = c.requires.copied in let t = c.args.self.now in let from = c.args.from in let to = c.args.to in
    let m : IsMoved t live from to h.0 = row_moved t live from to h.0 c.requires.fits.0 c.requires.apart h.2 h.3 in
    let s = c.relocate.new.region in let w = c.self.view_is ∙ c.put_at.ensures.state in
    let move : (xs ys : List Place) → chained.IsChain (less to live) t.ends (xs ++ from ∷ ys) → chained.IsChain (less from (live_at s)) c.relocate.new.self (xs ++ to ∷ ys) =
    subst (λ (y : tables.TableState). (xs ys : List Place) → chained.IsChain (less to live) y.ends (xs ++ from ∷ ys) → chained.IsChain (less from (live_at s)) c.relocate.new.self (xs ++ to ∷ ys)) w c.relocate.ensures.chain in
    referred t live (live_at s) c.relocate.new.self m.n from to c.requires.fits.0 c.requires.fits.1 m.listed m.was c.requires.apart (h.3 ∙ sym h.2) (relinked_lives c.args.store.now s c.relocate.ensures.same) move p)

pub returns-clause-bare : goal.returns-clause-bare
returns-clause-bare c = λ i. (refl, refl)
