use Rattle.std.proofs.Common.{◌≡◌, ℕ, ◌+◌, length, Option, Some, None, sym, ◌∙◌, arith}
use Rattle.std.specs.Prelude.{IfSome}
use Rattle.regions.specs.Contents.{Item, live_at, size_of}
use Rattle.regions.specs.Counts.{live_total}
use Rattle.regions.specs.Stores.{Live}
use Rattle.regions.specs.declared.place.Place.{Place}
use Rattle.fragments.specs.Sizes.{object_size}
use Rattle.fragments.specs.Chains as chains
use Rattle.fragments.specs.inside.Linking.{HoldsAFragment}
use Rattle.fragments.proofs.Dropped.{chains_dropped, chain_shorter, part_there, parts_dropped, stays_dropped, second_is, size_of_part}
use Rattle.fragments.proofs.Lives.{holds_too, linked_holds, same_live, same_total}
use Rattle.fragments.proofs.tables.Tables.drop_front.Goals as goal

first_holds : (t : chains.TableState) (old : Live) (n : ℕ) (p : Place) → chains.AreChains t old → chains.first_at t.firsts n ≡ Some p → HoldsAFragment (old p)
first_holds t old n p are first = linked_holds old p None (chains.place_at t.chains n 1) (chains.owner t n) (are.linked n 0 p (sym (are.firsts n) ∙ first))

second_holds : (t : chains.TableState) (old : Live) (n : ℕ) (o : Option Place) → chains.AreChains t old → o ≡ chains.place_at t.chains n 1 → IfSome o (λ q. HoldsAFragment (old q))
second_holds t old n None are is = tt
second_holds t old n (Some q) are is = linked_holds old q (chains.place_at t.chains n 0) (chains.place_at t.chains n 2) (chains.owner t n) (are.linked n 1 q (sym is))

counted : (o : Option Item) (after before total size : ℕ) → IfSome o (λ item. after + size_of item ≡ before) → IfSome o (λ item. size_of item ≡ size) → (HoldsAFragment o) → before ≡ total → after + size ≡ total
counted None after before total size kill is h same = absurd (let e = h.is in let clash : None ≡ Some h.item = e in cc)
counted (Some item) after before total size kill is h same = omega (arith, kill, is, same)

pub next_of-next-requires : goal.next_of-next-requires
next_of-next-requires c = first_holds c.args.self.now (live_at c.args.region.now) c.args.entry c.args.place c.requires.chains c.requires.first

pub lead_back-requires : goal.lead_back-requires
lead_back-requires c =
    let t = c.args.self.now in let r = live_at c.args.region.now in
    second_holds t r c.args.entry c.next_of-next.result c.requires.chains (second_is t r c.args.entry c.args.place c.next_of-next.result c.requires.chains c.requires.first c.next_of-next.ensures)

pub kill_fragment-requires : goal.kill_fragment-requires
kill_fragment-requires c =
    let r = c.args.region.now in let m = c.lead_back.new.region in
    holds_too (live_at r c.args.place) (live_at m c.args.place) (same_live r m c.lead_back.ensures.same c.args.place)
    (first_holds c.args.self.now (live_at r) c.args.entry c.args.place c.requires.chains c.requires.first)

pub returns-clause-chains : goal.returns-clause-chains
returns-clause-chains c =
    let t = c.args.self.now in let r = c.args.region.now in let m = c.lead_back.new.region in let s = c.kill_fragment.new.region in let n = c.args.entry in let p = c.args.place in
    let entries = c.take_front.ensures.entries in
    let more = entries.chains in let most = entries.firsts in let within = c.requires.entry in let k = c.kill_fragment.ensures in
    chains_dropped t c.take_front.new.self (live_at r) (live_at m) (live_at s) n p c.next_of-next.result c.requires.chains (omega (arith, more, within)) (omega (arith, most, within))
    c.take_front.ensures.state c.requires.first (second_is t (live_at r) n p c.next_of-next.result c.requires.chains c.requires.first c.next_of-next.ensures) c.lead_back.ensures.links
    (same_live r m c.lead_back.ensures.same) k.gone k.others

pub returns-clause-parts : goal.returns-clause-parts
returns-clause-parts c =
    let t = c.args.self.now in let r = c.args.region.now in let m = c.lead_back.new.region in let s = c.kill_fragment.new.region in let n = c.args.entry in let p = c.args.place in
    let entries = c.take_front.ensures.entries in
    let more = entries.chains in let most = entries.firsts in let within = c.requires.entry in let k = c.kill_fragment.ensures in
    parts_dropped t c.take_front.new.self (live_at r) (live_at m) (live_at s) n p c.next_of-next.result c.requires.chains (omega (arith, more, within)) (omega (arith, most, within))
    c.take_front.ensures.state c.requires.first (second_is t (live_at r) n p c.next_of-next.result c.requires.chains c.requires.first c.next_of-next.ensures) c.lead_back.ensures.links
    (same_live r m c.lead_back.ensures.same) k.gone k.others

pub returns-clause-shorter : goal.returns-clause-shorter
returns-clause-shorter c =
    let t = c.args.self.now in let r = c.args.region.now in let m = c.lead_back.new.region in let s = c.kill_fragment.new.region in let n = c.args.entry in let p = c.args.place in
    let entries = c.take_front.ensures.entries in
    let more = entries.chains in let most = entries.firsts in let within = c.requires.entry in let k = c.kill_fragment.ensures in
    chain_shorter t c.take_front.new.self (live_at r) (live_at m) (live_at s) n p c.next_of-next.result c.requires.chains (omega (arith, more, within)) (omega (arith, most, within))
    c.take_front.ensures.state c.requires.first (second_is t (live_at r) n p c.next_of-next.result c.requires.chains c.requires.first c.next_of-next.ensures) c.lead_back.ensures.links
    (same_live r m c.lead_back.ensures.same) k.gone k.others

pub returns-clause-stay : goal.returns-clause-stay
returns-clause-stay c =
    let t = c.args.self.now in let r = c.args.region.now in let m = c.lead_back.new.region in let s = c.kill_fragment.new.region in let n = c.args.entry in let p = c.args.place in
    let entries = c.take_front.ensures.entries in
    let more = entries.chains in let most = entries.firsts in let within = c.requires.entry in let k = c.kill_fragment.ensures in
    stays_dropped t c.take_front.new.self (live_at r) (live_at m) (live_at s) n p c.next_of-next.result c.requires.chains (omega (arith, more, within)) (omega (arith, most, within))
    c.take_front.ensures.state c.requires.first (second_is t (live_at r) n p c.next_of-next.result c.requires.chains c.requires.first c.next_of-next.ensures) c.lead_back.ensures.links
    (same_live r m c.lead_back.ensures.same) k.gone k.others

pub returns-clause-live_total : goal.returns-clause-live_total
returns-clause-live_total c = λ all part rest hold now.
    (let t = c.args.self.now in let r = c.args.region.now in let m = c.lead_back.new.region in let s = c.kill_fragment.new.region in let n = c.args.entry in let p = c.args.place in
    let entries = c.take_front.ensures.entries in
    let more = entries.chains in let most = entries.firsts in let within = c.requires.entry in let k = c.kill_fragment.ensures in
    let there = part_there t c.take_front.new.self (live_at r) (live_at m) (live_at s) n p c.next_of-next.result c.requires.chains (omega (arith, more, within)) (omega (arith, most, within))
    c.take_front.ensures.state c.requires.first (second_is t (live_at r) n p c.next_of-next.result c.requires.chains c.requires.first c.next_of-next.ensures) c.lead_back.ensures.links
    (same_live r m c.lead_back.ensures.same) k.gone k.others all part rest hold now in
    counted (live_at m p) (live_total s) (live_total m) (live_total r) (object_size (length part)) k.live_total (size_of_part (live_at m p) (chains.owner t n) part there)
    (holds_too (live_at r p) (live_at m p) (same_live r m c.lead_back.ensures.same p) (first_holds t (live_at r) n p c.requires.chains c.requires.first)) (same_total r m c.lead_back.ensures.same))
