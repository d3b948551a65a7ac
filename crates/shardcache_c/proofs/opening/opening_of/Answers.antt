use Rattle.std.proofs.Common.{ℕ, ◌≤◌, inl, inr, refl, subst, ◌∙◌, arith}
use Rattle.shardcache_c.proofs.opening.opening_of.Goals as goal

pub most_bound-most-requires : goal.most_bound-most-requires
most_bound-most-requires c =
    let pages = c.are_pages.ensures.0 c.if-not-are_pages.false in let least = pages.0 in
    elim (c.are_groups.ensures.0 c.if-not-are_groups.false) [
      | inl one ↦ omega (arith, one, least)
      | inr eight ↦ let all = eight.0 in omega (arith, all, least)
    ]

pub returns-clause-asked : goal.returns-clause-asked
returns-clause-asked c =
    let rows = c.are_rows.ensures.0 c.if-not-are_rows.false in let most = c.most_bound-most.ensures in
    record {
      can = record {
        pages = c.are_pages.ensures.0 c.if-not-are_pages.false;
        some_rows = rows.0;
        rows = rows.1;
        regions = c.are_groups.ensures.0 c.if-not-are_groups.false;
        bound = subst (λ (n : ℕ). c.bound_of.result ≤ n) most c.bound_of.ensures.most;
      };
      shard = refl;
      pages_are = refl;
      rows_are = refl;
      groups_are = refl;
      asked = c.bound_of.ensures.asked;
      default = λ none. c.bound_of.ensures.default none ∙ most;
      waits = c.waiting_of.ensures.asked;
      waits_as_usual = c.waiting_of.ensures.default;
      wide_is = refl;
    }
