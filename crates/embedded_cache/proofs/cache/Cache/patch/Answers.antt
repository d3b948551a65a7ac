use Rattle.std.proofs.Common.{◌≡◌, length, Some, None, inl, refl, sym, ap, subst, ◌∙◌, arith}
use Rattle.std.specs.Prelude.{vec_capacity}
use Rattle.rows.specs.Apply as apply
use Rattle.rows.specs.Key.{in_table}
use Rattle.rows.specs.Row.{Row}
use Rattle.row_bytes.specs.Patches.{patch}
use Rattle.embedded_cache.specs.States.{EmbeddedState, IsUnguarded}
use Rattle.embedded_cache.proofs.Kept.{limits_still, same_row}
use Rattle.embedded_cache.proofs.cache.Cache.patch.Goals as goal

pub value_at-len-requires-clause-row : goal.value_at-len-requires-clause-row
value_at-len-requires-clause-row c = let found = c.in-Some.ensures.found in (found.0, found.2)

pub value_at-len-requires-clause-live : goal.value_at-len-requires-clause-live
value_at-len-requires-clause-live c = let found = c.in-Some.ensures.found in inl found.3

pub patch-requires-clause-unguarded : goal.patch-requires-clause-unguarded
patch-requires-clause-unguarded c = subst (λ (s : EmbeddedState). IsUnguarded s) (sym c.self.view_is) c.requires.unguarded

pub patch-requires-clause-fits : goal.patch-requires-clause-fits
patch-requires-clause-fits c =
    let found = c.in-Some.ensures.found in let read = c.value_at-len.ensures in
    let same = same_row c.self.inside.store.region c.in-Some.place read.0 found.0 read.1 found.2 in
    let long = ap length read.2 ∙ ap (λ (r : Row). length r.value) same in let fits = c.has_bytes.ensures.fits c.if-not-has_bytes.false in
    (found.0, found.1, omega (arith, long, fits))

pub returns-in_default-clause-patched : goal.returns-in_default-clause-patched
returns-in_default-clause-patched c =
    (subst (λ (s : EmbeddedState). apply.row_of (in_table c.args.table c.args.key.now) s.store.rows ≡ None) c.self.view_is c.in_default.ensures.found, refl)

pub returns-then-not-has_bytes-clause-patched : goal.returns-then-not-has_bytes-clause-patched
returns-then-not-has_bytes-clause-patched c =
    let found = c.in-Some.ensures.found in let read = c.value_at-len.ensures in
    let same = same_row c.self.inside.store.region c.in-Some.place read.0 found.0 read.1 found.2 in
    let long = ap length read.2 ∙ ap (λ (r : Row). length r.value) same in let short = c.has_bytes.ensures.short c.if-not-has_bytes.true in
    (found.0, subst (λ (s : EmbeddedState). apply.row_of (in_table c.args.table c.args.key.now) s.store.rows ≡ Some found.0) c.self.view_is found.1, omega (arith, long, short), refl)

pub returns-clause-patched : goal.returns-clause-patched
returns-clause-patched c =
    let key = in_table c.args.table c.args.key.now in let found = c.in-Some.ensures.found in let read = c.value_at-len.ensures in
    let same = same_row c.self.inside.store.region c.in-Some.place read.0 found.0 read.1 found.2 in
    let long = ap length read.2 ∙ ap (λ (r : Row). length r.value) same in let fits = c.has_bytes.ensures.fits c.if-not-has_bytes.false in (
      found.0,
      subst (λ (s : EmbeddedState). apply.row_of key s.store.rows ≡ Some found.0) c.self.view_is found.1,
      omega (arith, long, fits),
      subst (λ (s : EmbeddedState). c.patch.new.self.rows ≡ patch key c.args.at c.args.bytes.now s.store.rows) c.self.view_is c.patch.ensures.rows,
    )

pub invariant_of-self : goal.invariant_of-self
invariant_of-self c =
    let i = c.self.inside in let capacity = vec_capacity i.joined in
    limits_still i.limits.room i.limits.bound capacity capacity i.store c.patch.new.self c.patch.ensures.same (omega arith) c.self.invariant
