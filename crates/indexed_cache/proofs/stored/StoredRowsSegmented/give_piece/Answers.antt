-- A segment fewer; no row is left.
use Rattle.std.proofs.Common.{◌≡◌, sym, ap, subst, ◌∙◌}
use Rattle.regions.specs.Shapes.{guards_of}
use Rattle.row_cache.specs.Rows.{CacheState}
use Rattle.segmented_store.specs.Segments.{GivesUp}
use Rattle.indexed_cache.proofs.Kept.{unguarded}
use Rattle.indexed_cache.proofs.stored.StoredRowsSegmented.give_piece.Goals as goal

pub give_up-requires : goal.give_up-requires
give_up-requires c =
    unguarded c.self.inside.cache.region c.self.invariant.0 (ap (λ (s : CacheState). guards_of s.region 0) c.self.view_is ∙ c.requires.guards)

pub invariant_of-self : goal.invariant_of-self
invariant_of-self c =
    let e = c.give_up.ensures in
    (e.groups ∙ c.self.invariant.0, e.room ∙ c.self.invariant.1)

pub returns : goal.returns
returns c =
    let e = c.give_up.ensures in
    let now : guards_of c.self.inside.cache.region 0 ≡ 0 = ap (λ (s : CacheState). guards_of s.region 0) c.self.view_is ∙ c.requires.guards in
    record {
      gives = subst (λ (s : CacheState). GivesUp s.region c.give_up.new.self.region c.give_up.result) c.self.view_is (record {
        none = e.none;
        given = e.given;
        held = e.held;
        most = e.most;
        guards = e.guards 0 ∙ sym now;
      });
    }
