use Rattle.std.proofs.Common.{◌≡◌, ◌≢◌, ℕ, ◌∷◌, Option, Some, None, sym, ap, subst, ◌∙◌, arith}
use Rattle.std.specs.Prelude.{IfSome, slice_set}
use Rattle.regions.specs.Contents.{live_at}
use Rattle.regions.specs.Stores.{Live}
use Rattle.regions.specs.declared.place.Place.{Place}
use Rattle.fragments.specs.Chains as chains
use Rattle.fragments.specs.inside.Consistent.{AreEntries}
use Rattle.fragments.specs.inside.Linking.{HoldsAFragment, IsPlaced, LeadsBack}
use Rattle.place_lemmas.proofs.Places.{some_none}
use Rattle.fragments.proofs.Grown.{chains_grown, parts_grown}
use Rattle.fragments.proofs.Lives.{linked_holds, same_live}
use Rattle.fragments.proofs.tables.Tables.grow.Goals as goal

-- the first fragment of an entry, if there is one
first_holds : (t : chains.TableState) (old now : Live) (n : ℕ) (p : Place) (o : Option Place) → chains.AreChains t old → o ≡ chains.first_at t.firsts n
    → old p ≡ None → ((q : Place) → q ≢ p → now q ≡ old q) → IfSome o (λ q. HoldsAFragment (now q))
first_holds t old now n p None are is absent others = tt
first_holds t old now n p (Some q) are is absent others =
    let l = are.linked n 0 q (sym (are.firsts n) ∙ sym is) in
    let far : q ≢ p = λ e. some_none l.is_live (ap old e ∙ absent) in
    subst (λ o. HoldsAFragment o) (sym (others q far)) (linked_holds old q None (chains.place_at t.chains n 1) (chains.owner t n) l)

pub lead_back-requires : goal.lead_back-requires
lead_back-requires c =
    let e = c.place_fragment-place.ensures in
    first_holds c.args.self.now (live_at c.args.region.now) (live_at c.place_fragment-place.new.region) c.self.inside.names c.place_fragment-place.result c.first-first.result
    c.requires.chains c.first-first.ensures.place e.absent e.others

pub returns-clause-chains : goal.returns-clause-chains
returns-clause-chains c =
    let t = c.args.self.now in let e = c.place_fragment-place.ensures in let p = c.place_fragment-place.result in
    let names = ap (λ (x : chains.TableState). x.names) c.self.view_is in
    let grows = ap (λ (x : chains.TableState). x.grows) c.self.view_is in
    let entries : AreEntries t = subst (λ (x : chains.TableState). AreEntries x) c.self.view_is c.self.invariant in
    let first = c.first-first.ensures.place ∙ ap (λ (k : ℕ). chains.first_at t.firsts k) names in
    let more = entries.chains in let most = entries.firsts in
    let r = live_at c.args.region.now in let m = live_at c.place_fragment-place.new.region in let s = live_at c.lead_back.new.region in
    chains_grown t c.put_front.new.self r m s p c.args.bytes.now c.requires.chains (omega (arith, more)) (omega (arith, most))
    (subst (λ (k : ℕ). c.put_front.new.self ≡ record t { firsts = slice_set t.firsts k (Some p); chains = slice_set t.chains k (p ∷ chains.chain_at t.chains k) }) names c.put_front.ensures)
    e.absent (subst (λ o. IsPlaced (m p) o t.grows c.args.bytes.now) first (subst (λ k. IsPlaced (m p) c.first-first.result k c.args.bytes.now) grows e.added)) e.others
    e.room (subst (λ o. LeadsBack o (Some p) m s) first c.lead_back.ensures.links) (λ q. same_live c.place_fragment-place.new.region c.lead_back.new.region c.lead_back.ensures.same q)
    c.requires.few c.requires.name

pub returns-clause-parts : goal.returns-clause-parts
returns-clause-parts c =
    let t = c.args.self.now in let e = c.place_fragment-place.ensures in let p = c.place_fragment-place.result in
    let names = ap (λ (x : chains.TableState). x.names) c.self.view_is in
    let grows = ap (λ (x : chains.TableState). x.grows) c.self.view_is in
    let entries : AreEntries t = subst (λ (x : chains.TableState). AreEntries x) c.self.view_is c.self.invariant in
    let first = c.first-first.ensures.place ∙ ap (λ (k : ℕ). chains.first_at t.firsts k) names in
    let more = entries.chains in let most = entries.firsts in
    let r = live_at c.args.region.now in let m = live_at c.place_fragment-place.new.region in let s = live_at c.lead_back.new.region in
    parts_grown t c.put_front.new.self r m s p c.args.bytes.now c.requires.chains (omega (arith, more)) (omega (arith, most))
    (subst (λ (k : ℕ). c.put_front.new.self ≡ record t { firsts = slice_set t.firsts k (Some p); chains = slice_set t.chains k (p ∷ chains.chain_at t.chains k) }) names c.put_front.ensures)
    e.absent (subst (λ o. IsPlaced (m p) o t.grows c.args.bytes.now) first (subst (λ k. IsPlaced (m p) c.first-first.result k c.args.bytes.now) grows e.added)) e.others
    e.room (subst (λ o. LeadsBack o (Some p) m s) first c.lead_back.ensures.links) (λ q. same_live c.place_fragment-place.new.region c.lead_back.new.region c.lead_back.ensures.same q)
    c.requires.few c.requires.name
