use Rattle.std.proofs.Common.{ℕ, ◌∷◌, length, sym, ap, ◌∙◌, arith}
use Rattle.regions.specs.Contents.{live_at}
use Rattle.fragments.specs.Chains.{TableShape, chain_at}
use Rattle.fragments.proofs.Compacted.{parts_compacted, same_length}
use Rattle.fragments.proofs.store.writing.add_part.Goals as goal

pub grow-requires-clause-few : goal.grow-requires-clause-few
grow-requires-clause-few c =
    let t = c.args.tables.now in let m = c.make_room.new.movers in let rest = c.make_room.ensures.rest in let few = c.requires.few in
    let names = ap (λ (s : TableShape). s.names) rest in
    let same = ap (λ (n : ℕ). length (chain_at m.chains n)) names ∙ same_length t m rest t.names in
    omega (arith, same, few)

pub returns-clause-longer : goal.returns-clause-longer
returns-clause-longer c =
    let t = c.args.tables.now in let m = c.make_room.new.movers in let u = c.grow.new.self in let rest = c.make_room.ensures.rest in
    let names = ap (λ (s : TableShape). s.names) rest in
    let longer = c.grow.ensures.longer in
    let one = ap (λ (n : ℕ). length (chain_at u.chains n)) names in
    let two = ap (λ (n : ℕ). length (chain_at m.chains n)) names in
    let same = same_length t m rest t.names in
    omega (arith, longer, one, two, same)

pub returns-clause-parts : goal.returns-clause-parts
returns-clause-parts c = λ all more hold here rest.
    (let t = c.args.tables.now in let m = c.make_room.new.movers in let e = c.make_room.ensures in
    let names = ap (λ (s : TableShape). s.names) e.rest in
    c.grow.ensures.parts all more
    (parts_compacted t m (live_at c.args.region.now) (live_at c.make_room.new.region) c.requires.chains e.fits e.rest e.store all hold)
    (ap more names ∙ (here ∙ ap (λ (n : ℕ). c.args.part.now ∷ all n) (sym names))) (λ x far. rest x (λ y. far (y ∙ sym names))))
