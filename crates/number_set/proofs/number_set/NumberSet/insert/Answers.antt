use Rattle.std.proofs.Common.{◌≡◌, ◌+◌, ◌*◌, ◌<◌, true, false, length, sym, ap, ◌∙◌, subst, arith}
use Rattle.std.specs.Prelude.{slice_set}
use Rattle.number_set.specs.Numbers.{size}
use Rattle.number_set.specs.inside.Words.{bit_of}
use Rattle.number_set.proofs.Sets.{one-if, long, has-is, low-bit, lacks-if, set-same, bits-set, count-set, consistent}
use Rattle.number_set.proofs.number_set.NumberSet.insert.Goals as goal

pub bit-requires : goal.bit-requires
bit-requires c =
    let i = c.self.inside in
    subst (λ w. c.args.number < 64 * length w) (sym c.deref.ensures.value) (low-bit i.bound i.count i.words.items c.self.invariant c.args.self.now c.self.view_is c.args.number c.requires)

pub set-requires : goal.set-requires
set-requires c = let i = c.self.inside in low-bit i.bound i.count i.words.items c.self.invariant c.args.self.now c.self.view_is c.args.number c.requires

pub overflow_add-self : goal.overflow_add-self
overflow_add-self c =
    let i = c.self.inside in let inv = c.self.invariant in
    let far = long i.bound i.count i.words.items inv c.args.self.now c.self.view_is in
    let was : bit_of i.words.items c.args.number ≡ false = ap (λ w. bit_of w c.args.number) (sym c.deref.ensures.value) ∙ sym c.bit.ensures ∙ c.if-not-bit.true in
    let lacks = lacks-if i.bound i.count i.words.items inv c.args.self.now c.self.view_is c.args.number (omega (arith, far, c.requires)) was in
    let counted : i.count ≡ size c.args.self.now = inv.counted ∙ ap size c.self.view_is in record { fits = omega (arith, lacks, counted, far, inv.few) }

pub invariant_of-self : goal.invariant_of-self
invariant_of-self c =
    let i = c.self.inside in let s = c.set.ensures in
    let low = long i.bound i.count i.words.items c.self.invariant c.args.self.now c.self.view_is in
    let was : bit_of i.words.items c.args.number ≡ false = ap (λ w. bit_of w c.args.number) (sym c.deref.ensures.value) ∙ sym c.bit.ensures ∙ c.if-not-bit.true in
    let counted = count-set i.bound i.count i.words.items c.self.invariant c.set.new.words.items c.args.number true (omega (arith, low, c.requires)) s.long s.here s.others in
    let one : one-if (bit_of i.words.items c.args.number) ≡ 0 = ap one-if was in
    consistent i.bound i.count i.words.items c.self.invariant c.set.new.words.items c.args.number true (omega (arith, low, c.requires)) s.long s.here s.others (i.count + 1) (omega (arith, counted, one))

pub returns-then-not-bit : goal.returns-then-not-bit
returns-then-not-bit c =
    let i = c.self.inside in let s = c.set.ensures in
    let low = long i.bound i.count i.words.items c.self.invariant c.args.self.now c.self.view_is in
    bits-set i.bound i.count i.words.items c.self.invariant c.set.new.words.items c.args.number true (omega (arith, low, c.requires)) s.long s.here s.others ∙ ap (λ xs. slice_set xs c.args.number true) c.self.view_is

pub returns-else-not-bit : goal.returns-else-not-bit
returns-else-not-bit c =
    let i = c.self.inside in
    set-same c.args.self.now c.args.number true (has-is i.bound i.count i.words.items c.self.invariant c.args.self.now c.self.view_is c.args.number
    ∙ ap (λ w. bit_of w c.args.number) (sym c.deref.ensures.value) ∙ sym c.bit.ensures ∙ c.if-not-bit.false)
