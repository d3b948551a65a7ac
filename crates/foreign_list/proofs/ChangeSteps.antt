-- Each step keeps the fact of changes.
use Rattle.std.proofs.Common.{◌≡◌, ◌≢◌, ℕ, zero, suc, ◌<◌, ◌≤◌, List, [], ◌∷◌, ◌++◌, set, sym, refl, ap, ◌∙◌, subst, arith, length-set, length-append}
use mathlib.Core.Option.{some}
use lib.ListN.{get_elem?}
use Rattle.foreign_list.specs.declared.piece_id.PieceId.{PieceId}
use Rattle.foreign_list.specs.declared.views.Holder.{Holder}
use Rattle.foreign_list.specs.declared.views.Ledger.{Ledger}
use Rattle.foreign_list.specs.declared.views.View.{View}
use Rattle.foreign_list.specs.declared.views.View.TheVariants.{Owner, Pass, Spent}
use Rattle.foreign_list.specs.declared.views.Stage.{Stage}
use Rattle.foreign_list.specs.declared.views.Stage.TheVariants.{Carry, Looked, Linked}
use Rattle.foreign_list.specs.inside.Words.{link_to}
use Rattle.foreign_list.specs.inside.Views.{changes_in, lends_in, owner_in, changes_of, lends_of, carry, at_stage, sent_back, lent_out, took_whole, idle_ledger}
use Rattle.foreign_list.specs.inside.Changes.{Expects, IsFresh, EachFresh, Changes}
use Rattle.foreign_list.proofs.Counts.{each_set, each_snoc, sum_set, sum_snoc}

-- after one more change nobody has seen them all
later : (head head' changes changes' : ℕ) (stage : Stage) (seen : ℕ) → seen ≤ changes → changes < changes' → Expects head' (seen ≡ changes') stage
later head head' changes changes' Carry seen a b = tt
later head head' changes changes' (Looked x) seen a b = λ e. absurd (omega arith)
later head head' changes changes' (Linked x) seen a b = λ e. absurd (omega arith)

fresh_later : (head head' changes changes' : ℕ) (v : View) → changes < changes' → IsFresh head changes v → IsFresh head' changes' v
fresh_later head head' changes changes' (Owner d) more f = tt
fresh_later head head' changes changes' (Pass e) more f = let a = f.0 in (omega arith, later head head' changes changes' e.stage e.seen f.0 more)
fresh_later head head' changes changes' Spent more f = tt

-- a view that counts as much as the one before
pub counts_same : (head : ℕ) (views : List View) (id : ℕ) (v w : View) → Changes head views → get_elem? views id ≡ some v → owner_in w ≡ owner_in v → lends_in w ≡ lends_in v → changes_in w ≡ changes_in v
    → IsFresh head (changes_of views) w → Changes head (set views id w)
counts_same head views id v w c at owner lends changes mine =
    let a = sum_set owner_in views id v w at in let b = sum_set lends_in views id v w at in let d = sum_set changes_in views id v w at in
    let p = c.one_owner in let q = c.counted in let n = length-set views id w in
    let same : changes_of (set views id w) ≡ changes_of views = omega arith in record {
      one_owner = omega arith;
      counted = n ∙ q ∙ ap suc (let g : lends_of views ≡ lends_of (set views id w) = omega arith in g);
      each = subst (λ (k : ℕ). EachFresh head k (set views id w)) (sym same) (each_set (λ _. IsFresh head (changes_of views)) views id w mine (λ j u _ e. c.each j u e));
    }

-- a view that counts one change more, under any head
pub counts_change : (head head' : ℕ) (views : List View) (id : ℕ) (v w : View) → Changes head views → get_elem? views id ≡ some v → owner_in w ≡ owner_in v → lends_in w ≡ lends_in v → changes_in w ≡ suc (changes_in v)
    → IsFresh head' (suc (changes_of views)) w → Changes head' (set views id w)
counts_change head head' views id v w c at owner lends changes mine =
    let a = sum_set owner_in views id v w at in let b = sum_set lends_in views id v w at in let d = sum_set changes_in views id v w at in
    let p = c.one_owner in let q = c.counted in let n = length-set views id w in
    let one_more : changes_of (set views id w) ≡ suc (changes_of views) = omega arith in record {
      one_owner = omega arith;
      counted = n ∙ q ∙ ap suc (let g : lends_of views ≡ lends_of (set views id w) = omega arith in g);
      each = subst (λ (k : ℕ). EachFresh head' k (set views id w)) (sym one_more)
          (each_set (λ _. IsFresh head' (suc (changes_of views))) views id w mine (λ j u _ e. fresh_later head head' (changes_of views) (suc (changes_of views)) u (omega arith) (c.each j u e)));
    }

pub begins : Changes 0 (Owner idle_ledger ∷ [])
begins = record { one_owner = refl; counted = refl; each = λ j v e. go j v e }
  where
    go : EachFresh 0 (changes_of (Owner idle_ledger ∷ [])) (Owner idle_ledger ∷ [])
    go = each_set (λ _. IsFresh 0 0) (Owner idle_ledger ∷ []) 0 (Owner idle_ledger) tt (λ j u n e. nowhere j u n e)
      where
        nowhere : (j : ℕ) (u : View) → j ≢ 0 → get_elem? (Owner idle_ledger ∷ []) j ≡ some u → IsFresh 0 0 u
        nowhere zero u n e = absurd (n refl)
        nowhere (suc j) u n e = absurd (mathlib.Core.Option.some-ne-none u (sym e))

-- 1: a pass is split off
pub lends : (head : ℕ) (views : List View) (id : ℕ) (d : Ledger) (t : ℕ) (piece_id : PieceId) → Changes head views → get_elem? views id ≡ some (Owner d)
    → Changes head (set views id (Owner (lent_out t piece_id d)) ++ Pass (carry t piece_id) ∷ [])
lends head views id d t piece_id c at =
    let v : View = Owner d in let w : View = Owner (lent_out t piece_id d) in let x : View = Pass (carry t piece_id) in let vs : List View = set views id w in
    let a = sum_set owner_in views id v w at in let b = sum_set lends_in views id v w at in let e = sum_set changes_in views id v w at in
    let a' = sum_snoc owner_in vs x in let b' = sum_snoc lends_in vs x in let e' = sum_snoc changes_in vs x in
    let p = c.one_owner in let q = c.counted in let n = length-set views id w in let m = length-append vs (x ∷ []) in
    let same : changes_of (vs ++ x ∷ []) ≡ changes_of views = omega arith in record {
      one_owner = omega arith;
      counted = omega arith;
      each = subst (λ (k : ℕ). EachFresh head k (vs ++ x ∷ [])) (sym same)
          (each_snoc (λ _. IsFresh head (changes_of views)) vs x (λ _. (omega arith, tt)) (each_set (λ _. IsFresh head (changes_of views)) views id w tt (λ j u _ h. c.each j u h)));
    }

-- 2 and 3: a look
pub looks : (head : ℕ) (views : List View) (id : ℕ) (e : Holder) → Changes head views → get_elem? views id ≡ some (Pass e) → Changes head (set views id (Pass (at_stage e (Looked head))))
looks head views id e c at = counts_same head views id (Pass e) (Pass (at_stage e (Looked head))) c at refl refl refl ((c.each id (Pass e) at).0, λ _. refl)

-- 4: the next word is linked
pub links : (head : ℕ) (views : List View) (id : ℕ) (e : Holder) (x : ℕ) → Changes head views → get_elem? views id ≡ some (Pass e) → e.stage ≡ Looked x → Changes head (set views id (Pass (at_stage e (Linked x))))
links head views id e x c at is = let f = c.each id (Pass e) at in
    counts_same head views id (Pass e) (Pass (at_stage e (Linked x))) c at refl refl refl (f.0, subst (Expects head (e.seen ≡ changes_of views)) is f.1)

-- 5: a swing that is won
pub wins : (head head' : ℕ) (views : List View) (id : ℕ) (e : Holder) → Changes head views → get_elem? views id ≡ some (Pass e) → Changes head' (set views id Spent)
wins head head' views id e c at = counts_change head head' views id (Pass e) Spent c at refl refl refl tt

-- 6: a swing that is lost
pub loses : (head : ℕ) (views : List View) (id : ℕ) (e : Holder) (x : ℕ) → Changes head views → get_elem? views id ≡ some (Pass e)
    → e.stage ≡ Linked x → head ≢ x → Changes head (set views id (Pass (sent_back e head)))
loses head views id e x c at is other = let f = c.each id (Pass e) at in let a = f.0 in
    let unseen : e.seen ≢ changes_of views = λ all. other (subst (Expects head (e.seen ≡ changes_of views)) is f.1 all) in
    counts_same head views id (Pass e) (Pass (sent_back e head)) c at refl refl refl (omega arith, tt)

-- 7: the list is taken whole
pub takes_whole : (head : ℕ) (views : List View) (id : ℕ) (d : Ledger) (listed : List ℕ) → head ≡ link_to listed → Changes head views
    → get_elem? views id ≡ some (Owner d) → Changes 0 (set views id (Owner (took_whole listed d)))
takes_whole head views id d [] is c at =
    counts_same 0 views id (Owner d) (Owner (took_whole [] d)) (subst (λ h. Changes h views) is c) at refl refl (omega arith) tt
takes_whole head views id d (t ∷ ts) is c at =
    counts_change (suc t) 0 views id (Owner d) (Owner (took_whole (t ∷ ts) d)) (subst (λ h. Changes h views) is c) at refl refl (omega arith) tt

-- 8 and 9: the owner's steps that count nothing
pub walks : (head : ℕ) (views : List View) (id : ℕ) (d d' : Ledger) → Changes head views → get_elem? views id ≡ some (Owner d) → d'.lends ≡ d.lends → d'.changes ≡ d.changes → Changes head (set views id (Owner d'))
walks head views id d d' c at lends changes = counts_same head views id (Owner d) (Owner d') c at refl lends changes tt
