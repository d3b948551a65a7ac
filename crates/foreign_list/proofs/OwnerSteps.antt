-- The steps of the owner keep the fact of places.
use Rattle.std.proofs.Common.{◌≡◌, ◌≢◌, ℕ, zero, suc, ◌+◌, ◌<◌, ◌≤◌, cond, nat_lt, List, [], ◌∷◌, ◌++◌, length, map, set, replicate, Option, Some, None, slice_get, sym, refl, ap, ◌∙◌, subst, arith}
use Rattle.std.proofs.Common.{length-set, get_or-set_other, get_or-set_same, lt-ltb, le-ltb}
use mathlib.Core.Option.{some, none, some-ne-none}
use mathlib.Core.Logic.{dite}
use Rattle.layout.specs.Sizes as sizes
use native.Mathlib.Decide.{ℕ_discrete, dec_le}
use lib.ListN.{get_elem?}
use Rattle.std.proofs.lemmas.Option.{slice_get_within}
use Rattle.atomic_table.proofs.Lists.{set_else, set_here, at_longer}
use Rattle.raw_range.specs.Memory.{Lent}
use Rattle.foreign_list.specs.declared.piece_id.PieceId.{PieceId}
use Rattle.foreign_list.specs.declared.views.Holder.{Holder}
use Rattle.foreign_list.specs.declared.views.Ledger.{Ledger}
use Rattle.foreign_list.specs.declared.views.View.{View}
use Rattle.foreign_list.specs.declared.views.View.TheVariants.{Owner, Pass}
use Rattle.foreign_list.specs.inside.Words.{Homes, word_at, link_to, IsChain, same, times}
use Rattle.foreign_list.specs.inside.Views.{none_there, idle_times, hand_times, pass_times, carry, lent_out, took_whole, walked, put_home, idle_ledger}
use Rattle.foreign_list.specs.inside.Places.{IsEmpty, Stands, HandStands, Places}
use Rattle.foreign_list.proofs.Counts.{Each, each_set, each_snoc, sum_set, sum_snoc, sum_at}
use Rattle.foreign_list.proofs.Chains.{same_here, same_is, same_not, chain_head, chain_link, chain_rest}
use Rattle.foreign_list.proofs.Once.{most, no_pass, below, word_low}
use Rattle.foreign_list.proofs.PlaceSteps.{Agree, Others, IsHome, view_kept, home_kept, hand_kept}

-- lent, after one is written
pub record_here : {A : Type 0} (l : List A) (i : ℕ) (a : A) → i < length l → slice_get (set l i a) i ≡ Some a
record_here [] i a h = absurd (omega arith)
record_here (x ∷ l) zero a h = refl
record_here (x ∷ l) (suc i) a h = record_here l i a (omega arith)

pub record_else : {A : Type 0} (l : List A) (i j : ℕ) (a : A) → j ≢ i → slice_get (set l i a) j ≡ slice_get l j
record_else [] i j a n = refl
record_else (x ∷ l) zero zero a n = absurd (n refl)
record_else (x ∷ l) zero (suc j) a n = refl
record_else (x ∷ l) (suc i) zero a n = refl
record_else (x ∷ l) (suc i) (suc j) a n = record_else l i j a (λ e. n (ap suc e))

idle_here : (lent : List (Option PieceId)) (t u : ℕ) (x : Option PieceId) → t < length lent → u ≡ t → idle_times u (set lent t x) ≡ none_there (Some x)
idle_here lent t u x h e = ap (λ k. none_there (slice_get (set lent t x) k)) e ∙ ap none_there (record_here lent t x h)

idle_else : (lent : List (Option PieceId)) (t u : ℕ) (x : Option PieceId) → u ≢ t → idle_times u (set lent t x) ≡ idle_times u lent
idle_else lent t u x n = ap none_there (record_else lent t u x n)

-- the table that is made
pub fresh_within : (n t : ℕ) → t < n → slice_get {X = Option PieceId} (replicate n None) t ≡ Some None
fresh_within zero t h = absurd (omega arith)
fresh_within (suc n) zero h = refl
fresh_within (suc n) (suc t) h = fresh_within n t (omega arith)

fresh_past : (n t : ℕ) → n ≤ t → slice_get {X = Option PieceId} (replicate n None) t ≡ None
fresh_past zero t h = refl
fresh_past (suc n) zero h = absurd (omega arith)
fresh_past (suc n) (suc t) h = fresh_past n t (omega arith)

idle_fresh : (n t : ℕ) → idle_times t (replicate n None) ≡ cond (nat_lt t n) 1 0
idle_fresh n t = dite (dec_le (suc t) n) (λ h. ap none_there (fresh_within n t h) ∙ sym (ap (λ b. cond b 1 0) (lt-ltb t n h)))
    (λ h. ap none_there (fresh_past n t (omega arith)) ∙ sym (ap (λ b. cond b 1 0) (le-ltb t n (omega arith))))

empty_fresh : (n t : ℕ) → slice_get {X = Option PieceId} (replicate n None) t ≡ Some None → get_elem? (map (λ (x : Option Lent). some x) (replicate n None)) t ≡ some (some None)
empty_fresh zero t e = absurd (let h = slice_get_within {A = Option PieceId} [] t None e in omega arith)
empty_fresh (suc n) zero e = refl
empty_fresh (suc n) (suc t) e = empty_fresh n t e

pub begins : Places idle_ledger [] (replicate sizes.list_words 0) (map (λ (x : Option Lent). some x) (replicate sizes.tickets None)) (Owner idle_ledger ∷ [])
begins = record {
  is_ledger = refl;
  word_count = refl;
  slot_count = refl;
  lent_count = refl;
  on_list = refl;
  on_walk = refl;
  once = λ t. let f = idle_fresh sizes.tickets t in omega arith;
  each_view = λ j v e. each j v e;
  each_idle = λ t e. empty_fresh sizes.tickets t e;
  in_hand = tt;
  list_home = λ t p. absurd (omega arith);
  walk_home = λ t p. absurd (omega arith);
}
  where
    nowhere : (j : ℕ) (u : View) → j ≢ 0 → get_elem? (Owner idle_ledger ∷ []) j ≡ some u → Stands (replicate sizes.list_words 0) (map (λ (x : Option Lent). some x) (replicate sizes.tickets None)) idle_ledger.lent j u
    nowhere zero u n e = absurd (n refl)
    nowhere (suc j) u n e = absurd (some-ne-none u (sym e))

    each : Each (Stands (replicate sizes.list_words 0) (map (λ (x : Option Lent). some x) (replicate sizes.tickets None)) idle_ledger.lent) (Owner idle_ledger ∷ [])
    each = each_set (Stands (replicate sizes.list_words 0) (map (λ (x : Option Lent). some x) (replicate sizes.tickets None)) idle_ledger.lent) (Owner idle_ledger ∷ []) 0 (Owner idle_ledger) refl nowhere

module _ (ledger : Ledger) (listed words : List ℕ) (homes : Homes) (views : List View) (r : Places ledger listed words homes views) where
  abbrev all : ℕ → ℕ
  all u = idle_times u ledger.lent + hand_times u ledger.hand + times u ledger.walk + times u listed

  -- the passes stand where their tickets did not move
  passes_stay : (t : ℕ) (words' : List ℕ) (homes' : Homes) (ledger' : Ledger) → Others words words' homes homes' ledger.lent ledger'.lent t → ((j : ℕ) (f : Holder) → get_elem? views j ≡ some (Pass f) → f.ticket ≢ t)
      → Each (Stands words' homes' ledger'.lent) (set views 0 (Owner ledger'))
  passes_stay t words' homes' ledger' others free = each_set (Stands words' homes' ledger'.lent) views 0 (Owner ledger') refl
      (λ j v _ e. view_kept words words' homes homes' ledger.lent ledger'.lent t j v others (λ f is. free j f (subst (λ x. get_elem? views j ≡ some x) is e)) (r.each_view j v e))

  has_views : 0 < length views
  has_views = go views r.is_ledger
    where
      go : (vs : List View) → get_elem? vs 0 ≡ some (Owner ledger) → 0 < length vs
      go [] e = absurd (some-ne-none (Owner ledger) (sym e))
      go (x ∷ vs) e = omega arith

  -- 1: an idle ticket is lent
  pub lend_kept : (t : ℕ) (piece_id : PieceId) → slice_get ledger.lent t ≡ Some None → Places (lent_out t piece_id ledger) listed words homes (set views 0 (Owner (lent_out t piece_id ledger)) ++ Pass (carry t piece_id) ∷ [])
  lend_kept t piece_id is =
      let d : Ledger = lent_out t piece_id ledger in let w : View = Owner d in let x : View = Pass (carry t piece_id) in let vs : List View = set views 0 w in
      let within : t < length ledger.lent = slice_get_within ledger.lent t None is in
      let idle_one : idle_times t ledger.lent ≡ 1 = ap none_there is in
      let others : Others words words homes homes ledger.lent d.lent t = λ u n. record { next = refl; home = refl; recorded = record_else ledger.lent t u (Some piece_id) n } in
      let m = most ledger listed views r.once t in
      let hand0 : hand_times t ledger.hand ≡ 0 = omega arith in let walk0 : times t ledger.walk ≡ 0 = omega arith in let list0 : times t listed ≡ 0 = omega arith in record {
        is_ledger = at_longer vs (x ∷ []) 0 w (set_here views 0 w has_views);
        word_count = r.word_count;
        slot_count = r.slot_count;
        lent_count = length-set ledger.lent t (Some piece_id) ∙ r.lent_count;
        on_list = r.on_list;
        on_walk = r.on_walk;
        once = λ u. let o = r.once u in let a = sum_set (pass_times u) views 0 (Owner ledger) w r.is_ledger in let b = sum_snoc (pass_times u) vs x in dite (ℕ_discrete u t)
            (λ e. let p = idle_here ledger.lent t u (Some piece_id) within e in let s = same_is u t e in let q : idle_times u ledger.lent ≡ 1 = ap (λ k. idle_times k ledger.lent) e ∙ idle_one in omega arith)
            (λ n. let p = idle_else ledger.lent t u (Some piece_id) n in let s = same_not u t n in omega arith);
        each_view = each_snoc (Stands words homes d.lent) vs x (λ _. record { next = tt; slot = r.each_idle t is; recorded = record_here ledger.lent t (Some piece_id) within })
            (passes_stay t words homes d others (no_pass ledger listed views r.once t (omega arith)));
        each_idle = λ u e. dite (ℕ_discrete u t) (λ here. subst (IsEmpty homes) (sym here) (r.each_idle t is)) (λ n. r.each_idle u (sym (record_else ledger.lent t u (Some piece_id) n) ∙ e));
        in_hand = hand_kept words words homes homes ledger.lent d.lent t ledger.hand others hand0 r.in_hand;
        list_home = λ u p. home_kept words words homes homes ledger.lent d.lent u (others u (λ e. let z : times u listed ≡ 0 = ap (λ k. times k listed) e ∙ list0 in absurd (omega arith))) (r.list_home u p);
        walk_home = λ u p. home_kept words words homes homes ledger.lent d.lent u (others u (λ e. let z : times u ledger.walk ≡ 0 = ap (λ k. times k ledger.walk) e ∙ walk0 in absurd (omega arith))) (r.walk_home u p);
      }

  pub list_link : word_at words 0 ≡ link_to listed
  list_link = chain_link words (word_at words 0) listed r.on_list

  -- 7: the list becomes the walk
  pub take_kept : ledger.walk ≡ []
      → Places (took_whole listed ledger) [] (set words 0 0) homes (set views 0 (Owner (took_whole listed ledger)))
  take_kept empty =
      let d : Ledger = took_whole listed ledger in let w : View = Owner d in
      let others : (u : ℕ) → Agree words (set words 0 0) homes homes ledger.lent ledger.lent u = λ u. record {
        next = get_or-set_other words 0 (suc u) 0 0 (λ (e : suc u ≡ 0). absurd (omega arith));
        home = refl;
        recorded = refl;
      } in record {
        is_ledger = set_here views 0 w has_views;
        word_count = length-set words 0 0 ∙ r.word_count;
        slot_count = r.slot_count;
        lent_count = r.lent_count;
        on_list = get_or-set_same words 0 0 0 (let c = r.word_count in omega arith);
        on_walk = subst (λ k. IsChain (set words 0 0) k listed) list_link (chain_head words (word_at words 0) 0 listed r.on_list);
        once = λ u. let o = r.once u in let a = sum_set (pass_times u) views 0 (Owner ledger) w r.is_ledger in
            let z : times u ledger.walk ≡ 0 = ap (times u) empty in omega arith;
        each_view = each_set (Stands (set words 0 0) homes ledger.lent) views 0 w refl
            (λ j v _ e. view_kept words (set words 0 0) homes homes ledger.lent ledger.lent sizes.tickets j v (λ u _. others u)
            (λ f is. nowhere j f (subst (λ x. get_elem? views j ≡ some x) is e)) (r.each_view j v e));
        each_idle = r.each_idle;
        in_hand = r.in_hand;
        list_home = λ u p. absurd (omega arith);
        walk_home = r.list_home;
      }
    where
      nowhere : (j : ℕ) (f : Holder) → get_elem? views j ≡ some (Pass f) → f.ticket ≢ sizes.tickets
      nowhere j f e is = let a = sum_at (pass_times f.ticket) views j (Pass f) e in let s = same_here f.ticket in
          let b = below ledger listed views r.once f.ticket (omega arith) in absurd (omega arith)

  -- the first of the walk is at home with its piece, and the chain goes on behind it
  pub first_home : (t : ℕ) (left : List ℕ) → ledger.walk ≡ t ∷ left → IsHome homes ledger.lent t
  first_home t left is =
      let c : times t ledger.walk ≡ same t t + times t left = ap (times t) is in let s = same_here t in r.walk_home t (omega arith)

  first_chain : (t : ℕ) (left : List ℕ) → ledger.walk ≡ t ∷ left → IsChain words (suc t) (t ∷ left)
  first_chain t left is = subst (λ (ts : List ℕ). IsChain words (link_to ts) ts) is r.on_walk

  pub next_link : (t : ℕ) (left : List ℕ) → ledger.walk ≡ t ∷ left → word_at words (suc t) ≡ link_to left
  next_link t left is = chain_link words (word_at words (suc t)) left (first_chain t left is).1

  pub next_low : (t : ℕ) (left : List ℕ) → ledger.walk ≡ t ∷ left → word_at words (suc t) ≤ sizes.tickets
  next_low t left is = word_low ledger listed views r.once words (word_at words (suc t)) left (first_chain t left is).1
      (λ u p. below ledger listed views r.once u (let c : times u ledger.walk ≡ same u t + times u left = ap (times u) is in omega arith))

  -- 8: the first of the walk comes in hand
  pub walk_kept : (t : ℕ) (left : List ℕ) → ledger.walk ≡ t ∷ left → ledger.hand ≡ None
      → Places (walked t left ledger) listed words (set homes t none) (set views 0 (Owner (walked t left ledger)))
  walk_kept t left is free =
      let d : Ledger = walked t left ledger in let w : View = Owner d in
      let counted : (u : ℕ) → times u ledger.walk ≡ same u t + times u left = λ u. ap (times u) is in
      let one = counted t in let here = same_here t in let m = most ledger listed views r.once t in
      let list0 : times t listed ≡ 0 = omega arith in let walk0 : times t left ≡ 0 = omega arith in
      let idle0 : idle_times t ledger.lent ≡ 0 = omega arith in
      let home : IsHome homes ledger.lent t = r.walk_home t (omega arith) in
      let others : Others words words homes (set homes t none) ledger.lent ledger.lent t =
      λ u n. record { next = refl; home = set_else homes t u none n; recorded = refl } in
      let low : t < sizes.tickets = below ledger listed views r.once t (omega arith) in let count = r.slot_count in record {
        is_ledger = set_here views 0 w has_views;
        word_count = r.word_count;
        slot_count = length-set homes t none ∙ r.slot_count;
        lent_count = r.lent_count;
        on_list = r.on_list;
        on_walk = chain_rest words t left (first_chain t left is);
        once = λ u. let o = r.once u in let a = sum_set (pass_times u) views 0 (Owner ledger) w r.is_ledger in let c = counted u in
            let h : hand_times u ledger.hand ≡ 0 = ap (hand_times u) free in omega arith;
        each_view = passes_stay t words (set homes t none) d others (no_pass ledger listed views r.once t (omega arith));
        each_idle = λ u e. (others u (λ e'. let one' : idle_times t ledger.lent ≡ 1 = ap (λ k. idle_times k ledger.lent) (sym e') ∙ ap none_there e in absurd (omega arith))).home
            ∙ r.each_idle u e;
        in_hand = (set_here homes t none (omega arith), (home.0, home.1));
        list_home = λ u p. home_kept words words homes (set homes t none) ledger.lent ledger.lent u
            (others u (λ e. let z : times u listed ≡ 0 = ap (λ k. times k listed) e ∙ list0 in absurd (omega arith))) (r.list_home u p);
        walk_home = λ u p. home_kept words words homes (set homes t none) ledger.lent ledger.lent u
            (others u (λ e. let z : times u left ≡ 0 = ap (λ k. times k left) e ∙ walk0 in absurd (omega arith)))
            (r.walk_home u (let c = counted u in omega arith));
      }

  -- 9: the ticket in hand is idle
  pub home_kept_idle : (t : ℕ) → ledger.hand ≡ Some t → Places (put_home t ledger) listed words (set homes t (some None)) (set views 0 (Owner (put_home t ledger)))
  home_kept_idle t has =
      let d : Ledger = put_home t ledger in let w : View = Owner d in
      let mine : HandStands homes ledger.lent (Some t) = subst (HandStands homes ledger.lent) has r.in_hand in
      let within : t < length ledger.lent = slice_get_within ledger.lent t (Some mine.1.0) mine.1.1 in
      let handed : (u : ℕ) → hand_times u ledger.hand ≡ same u t = λ u. ap (hand_times u) has in
      let one = handed t in let here = same_here t in let m = most ledger listed views r.once t in
      let list0 : times t listed ≡ 0 = omega arith in let walk0 : times t ledger.walk ≡ 0 = omega arith in let idle0 : idle_times t ledger.lent ≡ 0 = omega arith in
      let others : Others words words homes (set homes t (some None)) ledger.lent d.lent t = λ u n. record { next = refl; home = set_else homes t u (some None) n; recorded = record_else ledger.lent t u None n } in
      let a = r.lent_count in let b = r.slot_count in record {
        is_ledger = set_here views 0 w has_views;
        word_count = r.word_count;
        slot_count = length-set homes t (some None) ∙ r.slot_count;
        lent_count = length-set ledger.lent t None ∙ r.lent_count;
        on_list = r.on_list;
        on_walk = r.on_walk;
        once = λ u. let o = r.once u in let s = sum_set (pass_times u) views 0 (Owner ledger) w r.is_ledger in let h = handed u in dite (ℕ_discrete u t)
            (λ e. let p = idle_here ledger.lent t u None within e in let q = same_is u t e in let i : idle_times u ledger.lent ≡ 0 = ap (λ k. idle_times k ledger.lent) e ∙ idle0 in omega arith)
            (λ n. let p = idle_else ledger.lent t u None n in let q = same_not u t n in omega arith);
        each_view = passes_stay t words (set homes t (some None)) d others (no_pass ledger listed views r.once t (omega arith));
        each_idle = λ u e. dite (ℕ_discrete u t) (λ here'. subst (IsEmpty (set homes t (some None))) (sym here') (set_here homes t (some None) (omega arith)))
            (λ n. set_else homes t u (some None) n ∙ r.each_idle u (sym (record_else ledger.lent t u None n) ∙ e));
        in_hand = tt;
        list_home = λ u p. home_kept words words homes (set homes t (some None)) ledger.lent d.lent u (others u (λ e. let z : times u listed ≡ 0 = ap (λ k. times k listed) e ∙ list0 in absurd (omega arith))) (r.list_home u p);
        walk_home = λ u p. home_kept words words homes (set homes t (some None)) ledger.lent d.lent u (others u (λ e. let z : times u ledger.walk ≡ 0 = ap (λ k. times k ledger.walk) e ∙ walk0 in absurd (omega arith))) (r.walk_home u p);
      }
