use Rattle.std.proofs.Common.{◌≡◌, ℕ, ◌++◌, ◌∷◌, [], List, cond, Bool, length, replicate, sym, ap, subst, ◌∙◌, arith}
use Rattle.std.specs.Result.{is_ok}
use Rattle.std.proofs.lemmas.Bool.{eqb-true}
use Rattle.std.proofs.lemmas.List.{nil_from_length, length-replicate}
use Rattle.key_index.specs.declared.entries.Entry.{Entry}
use Rattle.key_index.specs.inside.Stock.{AreStocked, standing}
use Rattle.key_index.proofs.Stocked.{standing_grown, stocked_grown}
use Rattle.key_index.proofs.blocks.make_place.Goals as goal

-- the entries of a place where no block has stood yet
abbrev none_yet : Entry
none_yet = record { lead = 0; row = 0; skip = 0 }

abbrev fresh : List Entry
fresh = replicate 256 none_yet

pub returns-then-is_empty-clause-stocked : goal.returns-then-is_empty-clause-stocked
returns-then-is_empty-clause-stocked c =
    let store = c.args.store.now.items in
    let order = c.args.order.now in
    let free = c.args.free.now.items in
    let none : free ≡ [] = nil_from_length free (omega (arith, c.args.free.now.ok, eqb-true _ 0 (sym c.if-is_empty.ensures))) in
    let grown : c.push.new.self.items ≡ store ++ fresh ∷ [] = c.push.ensures.items ∙ ap (λ (b : Bool). cond b (store ++ fresh ∷ []) store) (ap is_ok c.unwrap.ensures) in
    let place : c.len-place.result ≡ length store = omega (arith, c.len-place.ensures, c.args.store.now.ok) in
    let given = c.give_back.ensures.places ∙ ap (λ (ps : List ℕ). ps ++ c.len-place.result ∷ []) none ∙ ap (λ (p : ℕ). p ∷ []) place in
    subst (λ (bs : List (List Entry)). AreStocked bs order c.give_back.new.free.items) (sym grown)
    (subst (λ (ps : List ℕ). AreStocked (store ++ fresh ∷ []) order ps) (sym given)
    (stocked_grown store order fresh (subst (λ (ps : List ℕ). AreStocked store order ps) none c.requires.stocked) (length-replicate 256 none_yet)))

pub returns-then-is_empty-clause-same : goal.returns-then-is_empty-clause-same
returns-then-is_empty-clause-same c =
    let store = c.args.store.now.items in
    let grown : c.push.new.self.items ≡ store ++ fresh ∷ [] = c.push.ensures.items ∙ ap (λ (b : Bool). cond b (store ++ fresh ∷ []) store) (ap is_ok c.unwrap.ensures) in
    ap (λ (bs : List (List Entry)). standing bs c.args.order.now) grown ∙ standing_grown store c.args.order.now fresh c.requires.stocked.stand
