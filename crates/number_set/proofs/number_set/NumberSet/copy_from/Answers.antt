use Rattle.std.proofs.Common.{◌≡◌, length, sym, ap, ◌∙◌, arith}
use Rattle.number_set.specs.inside.Words.{bits_below}
use Rattle.number_set.proofs.Sets.{long, copied}
use Rattle.number_set.proofs.number_set.NumberSet.copy_from.Goals as goal

pub copy_from_slice-requires : goal.copy_from_slice-requires
copy_from_slice-requires c =
    let i = c.self.inside in let o = c.other.inside in
    let one = long i.bound i.count i.words.items c.self.invariant c.args.self.now c.self.view_is in
    let two = long o.bound o.count o.words.items c.other.invariant c.args.other.now c.other.view_is in
    omega (arith, one, two, c.requires, c.self.invariant.long, c.other.invariant.long, i.words.ok.0, ap length c.deref.ensures.value)

pub invariant_of-self : goal.invariant_of-self
invariant_of-self c =
    let i = c.self.inside in let o = c.other.inside in
    let same : i.bound ≡ o.bound = sym (long i.bound i.count i.words.items c.self.invariant c.args.self.now c.self.view_is) ∙ c.requires ∙ long o.bound o.count o.words.items c.other.invariant c.args.other.now c.other.view_is in
    copied i.bound o.bound o.count c.copy_from_slice.new.self.items o.words.items c.other.invariant same (c.copy_from_slice.ensures.items ∙ c.deref.ensures.value)

pub returns : goal.returns
returns c =
    let i = c.self.inside in let o = c.other.inside in
    let same : i.bound ≡ o.bound = sym (long i.bound i.count i.words.items c.self.invariant c.args.self.now c.self.view_is) ∙ c.requires ∙ long o.bound o.count o.words.items c.other.invariant c.args.other.now c.other.view_is in
    ap (λ b. bits_below b c.copy_from_slice.new.self.items) same ∙ ap (bits_below o.bound) (c.copy_from_slice.ensures.items ∙ c.deref.ensures.value) ∙ c.other.view_is
