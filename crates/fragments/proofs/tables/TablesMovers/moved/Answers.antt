use Rattle.std.proofs.Common.{◌≡◌, ◌≢◌, ℕ, ◌<◌, inl, inr, List, length, map, Option, Some, None, sym, ap, subst, ◌∙◌}
use Rattle.std.specs.Prelude.{option_map}
use Rattle.regions.specs.Contents.{live_at}
use Rattle.regions.specs.Stores.{Live, less, renamed}
use Rattle.regions.specs.declared.place.Place.{Place}
use Rattle.fragments.specs.Chains as chains
use Rattle.fragments.specs.inside.Consistent.{AreEntries}
use Rattle.fragments.specs.inside.Linking.{IsMended, LeadsBack, LeadsOn}
use Rattle.fragments.proofs.Lives.{same_live}
use Rattle.fragments.proofs.Mended as mended
use Rattle.fragments.proofs.Mended.{IsAt, found_at}
use Rattle.place_lemmas.proofs.Places.{option_cases, some_none}
use Rattle.fragments.proofs.Moved.{chains_moved, chains_stand, names_moved, references_moved}
use Rattle.fragments.proofs.tables.TablesMovers.moved.Goals as goal

abbrev shape : ℕ → ℕ → List ℕ → chains.TableShape
shape names grows lengths = record { names = names; grows = grows; lengths = lengths }

-- the first fragments of all entries
firsts_now : (t u : chains.TableState) (live : Live) (from to : Place) (f j : ℕ) → chains.AreChains t (less to live) → chains.place_at t.chains f j ≡ Some from → AreEntries t
    → (back : Option Place) (name : ℕ) → back ≡ chains.place_before t.chains f j → name ≡ chains.owner t f → (back ≡ None → IsMended t name from to u.firsts) → (back ≢ None → u.firsts ≡ t.firsts)
    → from ≢ to → live to ≡ live from → (e : ℕ) → chains.first_at u.firsts e ≡ option_map (renamed from to) (chains.first_at t.firsts e)
firsts_now t u live from to f j are at entries back name back_is named first behind apart copied = elim (option_cases back) [
  | inl none ↦ mended.first_mended t live from to f j are apart copied at entries name u.firsts named (mended.is_first t live from to f j are apart copied at back back_is none) (first none)
  | inr some ↦
      (let far : back ≢ None = λ e. some_none some.1 e in
      mended.first_kept t live from to f j are apart copied at u.firsts (mended.is_later t live from to f j are apart copied at back back_is far) (behind far))
]

pub name_of-name-requires : goal.name_of-name-requires
name_of-name-requires c =
    let t = c.args.self.now in let r = live_at c.args.store.now in let h = c.requires.copied in let from = c.args.from in let to = c.args.to in
    let w : IsAt t r from to = found_at t r from to h.0 c.requires.fits c.requires.apart h.2 h.3 in
    mended.copy_holds t r from to w.entry w.number c.requires.fits c.requires.apart w.copied w.at

pub back_of-back-requires : goal.back_of-back-requires
back_of-back-requires c =
    let t = c.args.self.now in let r = live_at c.args.store.now in let h = c.requires.copied in let from = c.args.from in let to = c.args.to in
    let w : IsAt t r from to = found_at t r from to h.0 c.requires.fits c.requires.apart h.2 h.3 in
    mended.copy_holds t r from to w.entry w.number c.requires.fits c.requires.apart w.copied w.at

pub next_of-next-requires : goal.next_of-next-requires
next_of-next-requires c =
    let t = c.args.self.now in let r = live_at c.args.store.now in let h = c.requires.copied in let from = c.args.from in let to = c.args.to in
    let w : IsAt t r from to = found_at t r from to h.0 c.requires.fits c.requires.apart h.2 h.3 in
    mended.copy_holds t r from to w.entry w.number c.requires.fits c.requires.apart w.copied w.at

pub relocate-requires : goal.relocate-requires
relocate-requires c = λ none.
    (let t = c.args.self.now in let r = live_at c.args.store.now in let h = c.requires.copied in let from = c.args.from in let to = c.args.to in
    let w : IsAt t r from to = found_at t r from to h.0 c.requires.fits c.requires.apart h.2 h.3 in
    subst (λ k. k < t.names) (sym (mended.copy_name t r from to w.entry w.number c.requires.fits c.requires.apart w.copied w.at c.name_of-name.result c.name_of-name.ensures.name))
    (mended.copy_small t r from to w.entry w.number c.requires.fits c.requires.apart w.copied w.at))

pub lead_around-requires-clause-back : goal.lead_around-requires-clause-back
lead_around-requires-clause-back c =
    let t = c.args.self.now in let r = live_at c.args.store.now in let h = c.requires.copied in let from = c.args.from in let to = c.args.to in
    let w : IsAt t r from to = found_at t r from to h.0 c.requires.fits c.requires.apart h.2 h.3 in
    mended.before_holds t r from to w.entry w.number c.requires.fits c.requires.apart w.copied w.at c.back_of-back.result
    (mended.copy_back t r from to w.entry w.number c.requires.fits c.requires.apart w.copied w.at c.back_of-back.result c.back_of-back.ensures)

pub lead_around-requires-clause-next : goal.lead_around-requires-clause-next
lead_around-requires-clause-next c =
    let t = c.args.self.now in let r = live_at c.args.store.now in let h = c.requires.copied in let from = c.args.from in let to = c.args.to in
    let w : IsAt t r from to = found_at t r from to h.0 c.requires.fits c.requires.apart h.2 h.3 in
    mended.next_holds t r from to w.entry w.number c.requires.fits c.requires.apart w.copied w.at c.next_of-next.result
    (mended.copy_next t r from to w.entry w.number c.requires.fits c.requires.apart w.copied w.at c.next_of-next.result c.next_of-next.ensures)

pub returns-clause-stands : goal.returns-clause-stands
returns-clause-stands c = λ m live are. chains_stand m live are

pub returns-clause-rest : goal.returns-clause-rest
returns-clause-rest c =
    let e = c.relocate.ensures in
    ap (λ (n : ℕ). shape n c.relocate.new.self.grows (map length c.relocate.new.self.chains)) e.names
    ∙ (ap (λ (g : ℕ). shape c.args.self.now.names g (map length c.relocate.new.self.chains)) e.grows
    ∙ ap (λ (ls : List ℕ). shape c.args.self.now.names c.args.self.now.grows ls) (ap (λ (cs : List (List Place)). map length cs) e.chains ∙ mended.lengths_mapped (renamed c.args.from c.args.to) c.args.self.now.chains))

pub returns-clause-fits : goal.returns-clause-fits
returns-clause-fits c =
    (let t = c.args.self.now in let r = live_at c.args.store.now in let h = c.requires.copied in let from = c.args.from in let to = c.args.to in
    let w : IsAt t r from to = found_at t r from to h.0 c.requires.fits c.requires.apart h.2 h.3 in let u = c.relocate.new.self in
    let entries : AreEntries t = subst (λ (x : chains.TableState). AreEntries x) c.self.view_is c.self.invariant in
    let links = c.lead_around.ensures.links in let m = links.between in let s = live_at c.lead_around.new.region in let e = c.relocate.ensures in
    let before = mended.copy_back t r from to w.entry w.number c.requires.fits c.requires.apart w.copied w.at c.back_of-back.result c.back_of-back.ensures in
    let next = mended.copy_next t r from to w.entry w.number c.requires.fits c.requires.apart w.copied w.at c.next_of-next.result c.next_of-next.ensures in
    let name = mended.copy_name t r from to w.entry w.number c.requires.fits c.requires.apart w.copied w.at c.name_of-name.result c.name_of-name.ensures.name in
    chains_moved t u r m s from to w.entry w.number c.requires.fits c.requires.apart w.copied w.at (c.name_of-name.ensures.segment, c.name_of-name.ensures.inside)
    (subst (λ o. LeadsOn o (Some to) r m) before links.on) (subst (λ o. LeadsBack o (Some to) m s) next links.back_is)
    (same_live c.args.store.now c.lead_around.new.region c.lead_around.ensures.same) e.names e.grows e.chains
    (firsts_now t u r from to w.entry w.number c.requires.fits w.at entries c.back_of-back.result c.name_of-name.result before name e.first e.behind c.requires.apart w.copied))

pub returns-clause-names : goal.returns-clause-names
returns-clause-names c = λ n.
    (let t = c.args.self.now in let r = live_at c.args.store.now in let h = c.requires.copied in let from = c.args.from in let to = c.args.to in
    let w : IsAt t r from to = found_at t r from to h.0 c.requires.fits c.requires.apart h.2 h.3 in let u = c.relocate.new.self in
    let entries : AreEntries t = subst (λ (x : chains.TableState). AreEntries x) c.self.view_is c.self.invariant in
    let links = c.lead_around.ensures.links in let m = links.between in let s = live_at c.lead_around.new.region in let e = c.relocate.ensures in
    let before = mended.copy_back t r from to w.entry w.number c.requires.fits c.requires.apart w.copied w.at c.back_of-back.result c.back_of-back.ensures in
    let next = mended.copy_next t r from to w.entry w.number c.requires.fits c.requires.apart w.copied w.at c.next_of-next.result c.next_of-next.ensures in
    let name = mended.copy_name t r from to w.entry w.number c.requires.fits c.requires.apart w.copied w.at c.name_of-name.result c.name_of-name.ensures.name in
    names_moved t u r m s from to w.entry w.number c.requires.fits c.requires.apart w.copied w.at (c.name_of-name.ensures.segment, c.name_of-name.ensures.inside)
    (subst (λ o. LeadsOn o (Some to) r m) before links.on) (subst (λ o. LeadsBack o (Some to) m s) next links.back_is)
    (same_live c.args.store.now c.lead_around.new.region c.lead_around.ensures.same) e.names e.grows e.chains
    (firsts_now t u r from to w.entry w.number c.requires.fits w.at entries c.back_of-back.result c.name_of-name.result before name e.first e.behind c.requires.apart w.copied) n)

pub returns-clause-references : goal.returns-clause-references
returns-clause-references c = λ p.
    (let t = c.args.self.now in let r = live_at c.args.store.now in let h = c.requires.copied in let from = c.args.from in let to = c.args.to in
    let w : IsAt t r from to = found_at t r from to h.0 c.requires.fits c.requires.apart h.2 h.3 in let u = c.relocate.new.self in
    let entries : AreEntries t = subst (λ (x : chains.TableState). AreEntries x) c.self.view_is c.self.invariant in
    let links = c.lead_around.ensures.links in let m = links.between in let s = live_at c.lead_around.new.region in let e = c.relocate.ensures in
    let before = mended.copy_back t r from to w.entry w.number c.requires.fits c.requires.apart w.copied w.at c.back_of-back.result c.back_of-back.ensures in
    let next = mended.copy_next t r from to w.entry w.number c.requires.fits c.requires.apart w.copied w.at c.next_of-next.result c.next_of-next.ensures in
    let name = mended.copy_name t r from to w.entry w.number c.requires.fits c.requires.apart w.copied w.at c.name_of-name.result c.name_of-name.ensures.name in
    references_moved t u r m s from to w.entry w.number c.requires.fits c.requires.apart w.copied w.at (c.name_of-name.ensures.segment, c.name_of-name.ensures.inside)
    (subst (λ o. LeadsOn o (Some to) r m) before links.on) (subst (λ o. LeadsBack o (Some to) m s) next links.back_is)
    (same_live c.args.store.now c.lead_around.new.region c.lead_around.ensures.same) e.names e.grows e.chains
    (firsts_now t u r from to w.entry w.number c.requires.fits w.at entries c.back_of-back.result c.name_of-name.result before name e.first e.behind c.requires.apart w.copied) p)
