use Rattle.std.proofs.Common.{◌≡◌, ◌≤◌, length, sym, ap, ◌∙◌, subst, is_some}
use Rattle.slab.specs.Slab.{get}
use Rattle.byteorder.specs.Endian.{little_number}
use Rattle.regions.specs.Contents.{standing_at, live_at}
use Rattle.rows_tests.specs.Names.{name_in}
use Rattle.rows_tests.proofs.Named.{live-content, stands-named, was-found, was-long, names-moved, named-moved}
use Rattle.rows_tests.proofs.compaction_tests.names.NamesMovers.moved.Goals as goal

pub read_u64-name-requires : goal.read_u64-name-requires
read_u64-name-requires c =
    let k = c.requires.copied in let live = live_at c.args.store.now in let old = get c.args.self.now.places in
    subst (λ xs. 8 ≤ length xs) (live-content (standing_at c.args.store.now c.args.from) k.0 c.bytes.result.now k.2 c.bytes.ensures.content) (was-long old old live c.args.from c.args.to k.0 c.requires.apart k.2 k.3 c.requires.fits)

pub set_place-requires : goal.set_place-requires
set_place-requires c =
    let k = c.requires.copied in let live = live_at c.args.store.now in let old = get c.args.self.now.places in
    let name : c.read_u64-name.result ≡ name_in k.0 =
    c.read_u64-name.ensures ∙ ap (little_number 8) (sym (live-content (standing_at c.args.store.now c.args.from) k.0 c.bytes.result.now k.2 c.bytes.ensures.content))
    in
    ap (λ n. is_some (old n)) name ∙ ap is_some (was-found old old live c.args.from c.args.to k.0 c.requires.apart k.2 k.3 c.requires.fits)

pub returns-clause-stands : goal.returns-clause-stands
returns-clause-stands c m live h = stands-named (get m.places) live h

pub returns-clause-names : goal.returns-clause-names
returns-clause-names c =
    let k = c.requires.copied in let live = live_at c.args.store.now in let old = get c.args.self.now.places in let new = get c.set_place.new.places in
    let name : c.read_u64-name.result ≡ name_in k.0 =
    c.read_u64-name.ensures ∙ ap (little_number 8) (sym (live-content (standing_at c.args.store.now c.args.from) k.0 c.bytes.result.now k.2 c.bytes.ensures.content))
    in
    names-moved old new live c.args.from c.args.to k.0 c.requires.apart k.2 k.3 c.requires.fits (ap new (sym name) ∙ c.set_place.ensures.changed) (λ n far. c.set_place.ensures.others n (λ e. far (e ∙ name)))

pub returns-clause-fits : goal.returns-clause-fits
returns-clause-fits c =
    let k = c.requires.copied in let live = live_at c.args.store.now in let old = get c.args.self.now.places in let new = get c.set_place.new.places in
    let name : c.read_u64-name.result ≡ name_in k.0 =
    c.read_u64-name.ensures ∙ ap (little_number 8) (sym (live-content (standing_at c.args.store.now c.args.from) k.0 c.bytes.result.now k.2 c.bytes.ensures.content))
    in
    named-moved old new live c.args.from c.args.to k.0 c.requires.apart k.2 k.3 c.requires.fits (ap new (sym name) ∙ c.set_place.ensures.changed) (λ n far. c.set_place.ensures.others n (λ e. far (e ∙ name)))
