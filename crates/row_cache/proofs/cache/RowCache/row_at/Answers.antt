use Rattle.std.proofs.Common.{◌≤◌, ◌⊎◌, inl, inr, refl, sym, subst}
use Rattle.std.specs.Prelude.{IsSome}
use Rattle.regions.specs.Shapes.{guards_at}
use Rattle.regions.specs.Contents.{live_at, standing_at}
use Rattle.row_cache.specs.Rows.{CacheState}
use Rattle.row_cache.proofs.cache.RowCache.row_at.Goals as goal

pub bytes-content-requires : goal.bytes-content-requires
bytes-content-requires c =
    let r = c.self.inside.region in let p = c.args.place in let back = sym c.self.view_is in
    let stands : IsSome (standing_at r p) = (let x = c.requires.row in subst (λ (v : CacheState). IsSome (standing_at v.region p)) back (subst (λ o. IsSome o) (sym x.1.1) refl)) in
    elim (subst (λ (v : CacheState). IsSome (live_at v.region p) ⊎ (1 ≤ guards_at v.region p.segment)) back c.requires.live) [
      | inl live ↦ inl live
      | inr some ↦ inr (some, stands)
    ]
