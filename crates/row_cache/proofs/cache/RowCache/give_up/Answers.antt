use Rattle.std.proofs.Common.{◌≡◌, ℕ, List, None, length, map, sym, ap, ◌∙◌, arith}
use Rattle.rows.specs.Row.{live}
use Rattle.regions.specs.Contents.{item_if_live, live_at}
use Rattle.regions.specs.Shapes.{group_count, guards_of, shape}
use Rattle.regions.specs.declared.place.Place.{Place}
use Rattle.row_cache.specs.Links.{follow}
use Rattle.row_cache.specs.Rows.{CacheState, row_there}
use Rattle.row_cache.specs.inside.Consistent.{rows_with}
use Rattle.row_cache.proofs.GivenUp.{given-up}
use Rattle.row_cache.proofs.Groups.{groups_ended, groups_given_up, guards_given_up}
use Rattle.row_cache.proofs.States.{some_none}
use Rattle.row_cache.proofs.cache.RowCache.give_up.Goals as goal

pub invariant_of-self : goal.invariant_of-self
invariant_of-self c =
    let s = c.give_up.new.self in let t = c.clear.new.self in let e = c.clear.ensures in let none = c.give_up.ensures.live_total in
    let gone : (p : Place) → live_at s p ≡ None = λ p. ap item_if_live (c.give_up.ensures.objects p) in
    let groups = groups_given_up c.self.inside.region s (groups_ended c.self.inside.region s c.give_up.result c.give_up.ensures.emptied c.give_up.ensures.given) in
    let some = c.self.invariant.some in
    record {
      some = omega (arith, groups, some);
      counted = record {
        tables = e.none (live_at s) gone;
        sizes = ap (λ (ns : List ℕ). live (rows_with t s ns)) e.empty.0 ∙ sym none;
      };
      chain = e.linked (live_at s);
      grouped = λ p i is. some_none is (gone p);
    }

pub returns-clause-rows : goal.returns-clause-rows
returns-clause-rows c =
    let l = live_at c.give_up.new.self in
    ap (λ (ps : List Place). map (row_there l) (follow (length ps) l c.clear.new.self.ends.front)) c.clear.ensures.empty.1

pub returns-clause-given : goal.returns-clause-given
returns-clause-given c =
    let r = c.self.inside.region in
    given-up c.args.self.now.region r c.give_up.new.self (ap (λ (x : CacheState). shape x.region) c.self.view_is) c.give_up.result c.give_up.ensures.given

pub give_up-requires : goal.give_up-requires
give_up-requires c = λ g. ap (λ (x : CacheState). guards_of x.region g) c.self.view_is ∙ c.requires g

pub returns-clause-guards : goal.returns-clause-guards
returns-clause-guards c = λ g.
    (let r = c.self.inside.region in let s = c.give_up.new.self in
    guards_given_up r s g (groups_ended r s c.give_up.result c.give_up.ensures.emptied c.give_up.ensures.given)
    ∙ (ap (λ (x : CacheState). guards_of x.region g) c.self.view_is ∙ c.requires g))

pub returns-clause-groups : goal.returns-clause-groups
returns-clause-groups c =
    let r = c.self.inside.region in let s = c.give_up.new.self in
    groups_given_up r s (groups_ended r s c.give_up.result c.give_up.ensures.emptied c.give_up.ensures.given) ∙ ap (λ (x : CacheState). group_count x.region) c.self.view_is
