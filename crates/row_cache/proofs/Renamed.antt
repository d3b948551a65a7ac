-- What the links of rows refer to, where a row is moved.
use Rattle.std.proofs.Common.{◌≡◌, ◌⊎◌, inl, inr, List, [], ◌∷◌, ◌++◌, map, Option, Some, None, refl, sym, ap, subst, ◌∙◌}
use Rattle.std.specs.Prelude.{option_map}
use Rattle.regions.specs.Stores.{Live, renamed}
use Rattle.regions.specs.declared.place.Place.{Place}
use Rattle.regions.specs.Places.{leads_to, link_to}
use Rattle.row_cache.specs.Links.{AreLinked, HaveRoom, Lacks, first_or, newer_at, older_at}
use Rattle.row_cache.specs.declared.ends.Ends.{Ends}
use Rattle.row_cache.specs.inside.Chained.{IsChain}
use Rattle.row_cache.proofs.Chains.{lacks_split}
use Rattle.place_lemmas.proofs.Places.{HasRoomIf, leads, listed, renamed_here, renamed_past}

abbrev pub refs : Live → Place → List Place
refs live p = leads_to (newer_at live p) (leads_to (older_at live p) [])

refs_are : (live : Live) (p : Place) (a b : Option Place) → newer_at live p ≡ link_to a → older_at live p ≡ link_to b → HasRoomIf a → HasRoomIf b → refs live p ≡ listed a (listed b [])
refs_are live p a b na ob ra rb =
    ap (λ n. leads_to n (leads_to (older_at live p) [])) na
    ∙ (ap (λ n. leads_to (link_to a) (leads_to n [])) ob ∙ (ap (λ ps. leads_to (link_to a) ps) (leads b [] rb) ∙ leads a (listed b []) ra))

listed_map : (f : Place → Place) (a b : Option Place) → listed (option_map f a) (listed (option_map f b) []) ≡ map f (listed a (listed b []))
listed_map f None None = refl
listed_map f None (Some b) = refl
listed_map f (Some a) None = refl
listed_map f (Some a) (Some b) = refl

first_map : (f : Place → Place) (o : Option Place) (ps : List Place) → first_or (option_map f o) (map f ps) ≡ option_map f (first_or o ps)
first_map f o [] = refl
first_map f o (p ∷ ps) = refl

first_room : (o : Option Place) (ps : List Place) → HasRoomIf o → HaveRoom ps → HasRoomIf (first_or o ps)
first_room o [] h k = h
first_room o (p ∷ ps) h k = k.0

abbrev pub IsIn : Place → List Place → Type 0
IsIn p [] = ⊥
IsIn p (q ∷ qs) = (q ≡ p) ⊎ IsIn p qs

-- each row's links lead to where they led, by new names
renamed_links : (f : Place → Place) (old new : Live) (before : Option Place) (ps : List Place) → AreLinked old before ps None → AreLinked new (option_map f before) (map f ps) None
    → HasRoomIf before → HasRoomIf (option_map f before) → HaveRoom ps → HaveRoom (map f ps) → (p : Place) → IsIn p ps → refs new (f p) ≡ map f (refs old p)
renamed_links f old new before [] l k rb sb rp sp p h = absurd h
renamed_links f old new before (q ∷ qs) l k rb sb rp sp p (inl e) =
    let next = first_or None qs in
    let was = refs_are old q before next l.0 l.1 rb (first_room None qs tt rp.1) in
    let is = refs_are new (f q) (option_map f before) (option_map f next) k.0 (k.1 ∙ ap link_to (first_map f None qs)) sb (subst HasRoomIf (first_map f None qs) (first_room None (map f qs) tt sp.1)) in
    subst (λ x. refs new (f x) ≡ map f (refs old x)) e (is ∙ (listed_map f before next ∙ sym (ap (λ ps. map f ps) was)))
renamed_links f old new before (q ∷ qs) l k rb sb rp sp p (inr h) = renamed_links f old new (Some q) qs l.2 k.2 rp.0 sp.0 rp.1 sp.1 p h

renamed_others : (from to : Place) (ps : List Place) → Lacks from ps → map (renamed from to) ps ≡ ps
renamed_others from to [] l = refl
renamed_others from to (p ∷ ps) l =
    ap (λ (q : Place). q ∷ map (renamed from to) ps) (renamed_past from to p (λ e. l.0 (sym e))) ∙ ap (λ (qs : List Place). p ∷ qs) (renamed_others from to ps l.1)

renamed_append : (f : Place → Place) (xs ys : List Place) → map f (xs ++ ys) ≡ map f xs ++ map f ys
renamed_append f [] ys = refl
renamed_append f (x ∷ xs) ys = ap (λ (ps : List Place). f x ∷ ps) (renamed_append f xs ys)

renamed_chain : (from to : Place) (xs ys : List Place) → Lacks from (xs ++ ys) → map (renamed from to) (xs ++ from ∷ ys) ≡ xs ++ to ∷ ys
renamed_chain from to xs ys l =
    let s = lacks_split from xs ys l in let f = renamed from to in
    renamed_append f xs (from ∷ ys)
    ∙ (ap (λ (ps : List Place). ps ++ f from ∷ map f ys) (renamed_others from to xs s.0)
    ∙ (ap (λ (q : Place). xs ++ q ∷ map f ys) (renamed_here from to) ∙ ap (λ (ps : List Place). xs ++ to ∷ ps) (renamed_others from to ys s.1)))

-- the links of the row at each place
pub chain_refs : (old new : Live) (ends after : Ends) (from to : Place) (xs ys : List Place) → IsChain old ends (xs ++ from ∷ ys) → IsChain new after (xs ++ to ∷ ys) → Lacks from (xs ++ ys)
    → (p : Place) → IsIn p (xs ++ from ∷ ys) → refs new (renamed from to p) ≡ map (renamed from to) (refs old p)
chain_refs old new ends after from to xs ys c d l p h =
    let e = renamed_chain from to xs ys l in
    renamed_links (renamed from to) old new None (xs ++ from ∷ ys) c.linked (subst (λ ps. AreLinked new None ps None) (sym e) d.linked) tt tt c.room (subst HaveRoom (sym e) d.room) p h
