-- Pools that hold nothing.
use Rattle.std.proofs.Common.{◌≡◌, ◌≢◌, ℕ, zero, suc, ◌*◌, ◌/◌, ◌≤◌, List, [], length, get_or, replicate, Option, Some, None, refl, sym, ap, subst, ◌∙◌}
use Rattle.std.proofs.lemmas.List.{length-replicate}
use Rattle.std.specs.Ordering.{nat_cmp}
use Rattle.std.specs.FinMap as map
use Rattle.layout.specs.Sizes.{page, most_pages}
use Rattle.common_lemmas.specs.Lists.{times}
use Rattle.common_lemmas.proofs.Maps.{maps_same}
use Rattle.common_lemmas.proofs.Options.{some_or_none}
use Rattle.small_pools.specs.inside.Tables.{Tables, class_at, first_of, mask_at, object_at, object_in, objects_of, list_of, stands_on, IsConsistent}
use Rattle.small_pools.proofs.Maps.{get-map_below}

pub all_alike : {A : Type 0} (n x : ℕ) (d : A) → get_or (replicate n d) x d ≡ d
all_alike zero x d = refl
all_alike (suc n) zero d = refl
all_alike (suc n) (suc x) d = all_alike n x d

abbrev pub fresh : ℕ → List ℕ → List ℕ → Tables
fresh pages firsts masks = record { pages = pages; classes = replicate pages None; firsts = firsts; masks = masks; lists = record { indices = pages; lists = replicate 37 [] } }

consistent_fresh : (pages : ℕ) (firsts masks : List ℕ) → pages ≤ most_pages → length firsts ≡ pages → length masks ≡ pages → IsConsistent (fresh pages firsts masks)
consistent_fresh pages firsts masks small fl ml =
    let none : (x : ℕ) → get_or (replicate pages None) x None ≡ None = λ x. all_alike pages x None in
    let clash : (x c : ℕ) → get_or (replicate pages None) x None ≢ Some c = λ x c e. some_or_none e (none x) in
    record {
      small = small;
      classes_len = length-replicate {A = Option ℕ} pages None;
      firsts_len = fl;
      masks_len = ml;
      indices = refl;
      lists_len = length-replicate {A = List ℕ} 37 [];
      spans = λ f c e. absurd (clash f c e);
      apart = λ p q a b e. absurd (clash p a e);
      owners = λ f c x e. absurd (clash f c e);
      within = λ f c s e. absurd (clash f c e);
      listed = λ k x s. ap (times x) (all_alike {A = List ℕ} 37 k []) ∙ sym (ap (λ o. stands_on (list_of o (get_or masks x 0)) k) (none x));
    }

pub consistent_new : (t : Tables) → t.pages ≤ most_pages → t.classes ≡ replicate t.pages None → t.firsts ≡ replicate t.pages 0 → t.masks ≡ replicate t.pages 0 → t.lists ≡ record { indices = t.pages; lists = replicate 37 [] } → IsConsistent t
consistent_new t small ec ef em el =
    subst (λ l. IsConsistent (record { pages = t.pages; classes = t.classes; firsts = t.firsts; masks = t.masks; lists = l })) (sym el)
    (subst (λ l. IsConsistent (record { pages = t.pages; classes = l; firsts = t.firsts; masks = t.masks; lists = record { indices = t.pages; lists = replicate 37 [] } })) (sym ec)
    (consistent_fresh t.pages t.firsts t.masks small (ap length ef ∙ length-replicate t.pages 0) (ap length em ∙ length-replicate t.pages 0)))

pub nothing_held : (t : Tables) → t.classes ≡ replicate t.pages None → (objects_of t).held ≡ map.empty
nothing_held t e =
    let none : (x : ℕ) → class_at t x ≡ None = λ x. ap (λ l. get_or l x None) e ∙ all_alike t.pages x None in
    maps_same _ _ (λ q. get-map_below t.pages (class_at t) (λ x _. none x) q ∙ none q ∙ sym (map.get-empty nat_cmp q))

pub nothing_allocated : (t : Tables) → t.classes ≡ replicate t.pages None → (objects_of t).allocated ≡ map.empty
nothing_allocated t e =
    let none : (x : ℕ) → object_at t x ≡ None = λ x. ap (object_in (mask_at t (first_of t (x / page))) x (first_of t (x / page))) (ap (λ l. get_or l (first_of t (x / page)) None) e ∙ all_alike t.pages (first_of t (x / page)) None) in
    maps_same _ _ (λ q. get-map_below (page * t.pages) (object_at t) (λ x _. none x) q ∙ none q ∙ sym (map.get-empty nat_cmp q))
