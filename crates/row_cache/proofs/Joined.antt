-- The ends of a chain and the links of its rows, where two rows are linked to one another.
use Rattle.std.proofs.Common.{◌≡◌, ◌≢◌, ℕ, zero, suc, ◌≤◌, inl, inr, true, false, List, [], ◌∷◌, ◌++◌, length, Option, Some, None, refl, sym, ap, subst, ◌∙◌, arith}
use Rattle.std.specs.List.{last_or}
use Rattle.std.specs.Option.{option_eq}
use Rattle.row_bytes.specs.Rows.{newer_in, older_in}
use Rattle.regions.specs.Stores.{Live, is_place}
use Rattle.regions.specs.declared.place.Place.{Place}
use Rattle.regions.specs.Places.{led_to, link_to}
use Rattle.row_cache.specs.Links.{AreLinked, HaveRoom, content_of, first_or, follow, newer_at, older_at}
use Rattle.row_cache.specs.declared.ends.Ends.{Ends}
use Rattle.row_cache.specs.inside.Chained.{HoldRows, IsChain, JoinsLinks, LinksBefore, LinksBehind, SetsLinks}
use Rattle.row_cache.proofs.States.{place_cases}
use Rattle.place_lemmas.proofs.Places.{HasRoomIf, leads_on, place_tells}
use Rattle.row_cache.proofs.Chains.{some_is, last_append, linked_split, none_some, room_split}

-- ---- two writes

pub joined : (a b : Option Place) (old middle new : Live) → LinksBehind a b old middle → LinksBefore a b middle new → JoinsLinks a b old new
joined a b old middle new f g = record {
  older = λ p e. g.older p ∙ f.here p e;
  newer = λ p e. g.here p e;
  older_others = λ p far. g.older p ∙ f.others p far;
  newer_others = λ p far. g.others p far ∙ f.newer p;
}

pub behind_none : (b : Option Place) (live : Live) → LinksBehind None b live live
behind_none b live = record { here = λ p e. absurd (none_some p e); others = λ p far. refl; newer = λ p. refl }

pub before_none : (a : Option Place) (live : Live) → LinksBefore a None live live
before_none a live = record { here = λ p e. absurd (none_some p e); others = λ p far. refl; older = λ p. refl }

pub behind_some : (at : Place) (b : Option Place) (old new : Live) → older_at new at ≡ link_to b → newer_at new at ≡ newer_at old at → ((p : Place) → p ≢ at → new p ≡ old p)
    → LinksBehind (Some at) b old new
behind_some at b old new here kept others = record {
  here = λ p e. subst (λ q. older_at new q ≡ link_to b) (some_is e) here;
  others = λ p far. ap (λ o. older_in (content_of o)) (others p (λ e. far (ap (λ q. Some q) (sym e))));
  newer = λ p. elim (place_cases p at) [
    | inl e ↦ subst (λ q. newer_at new q ≡ newer_at old q) (sym e) kept
    | inr far ↦ ap (λ o. newer_in (content_of o)) (others p far)
  ];
}

pub behind_by : (o : Option Place) (at : Place) (b : Option Place) (link : ℕ) (old new : Live) → o ≡ Some at → older_at new at ≡ link → link ≡ link_to b
    → newer_at new at ≡ newer_at old at → ((p : Place) → p ≢ at → new p ≡ old p) → LinksBehind o b old new
behind_by o at b link old new is here to kept others = subst (λ q. LinksBehind q b old new) (sym is) (behind_some at b old new (here ∙ to) kept others)

pub before_some : (at : Place) (a : Option Place) (old new : Live) → newer_at new at ≡ link_to a → older_at new at ≡ older_at old at → ((p : Place) → p ≢ at → new p ≡ old p)
    → LinksBefore a (Some at) old new
before_some at a old new here kept others = record {
  here = λ p e. subst (λ q. newer_at new q ≡ link_to a) (some_is e) here;
  others = λ p far. ap (λ o. newer_in (content_of o)) (others p (λ e. far (ap (λ q. Some q) (sym e))));
  older = λ p. elim (place_cases p at) [
    | inl e ↦ subst (λ q. older_at new q ≡ older_at old q) (sym e) kept
    | inr far ↦ ap (λ o. older_in (content_of o)) (others p far)
  ];
}

pub followed : (k : ℕ) (live : Live) (before : Option Place) (ps : List Place) → length ps ≤ k → AreLinked live before ps None → HaveRoom ps → follow k live (first_or None ps) ≡ ps
followed zero live before [] h l room = refl
followed (suc k) live before [] h l room = refl
followed zero live before (p ∷ ps) h l room = absurd (omega (arith, h))
followed (suc k) live before (p ∷ []) h l room =
    ap (λ link. p ∷ follow k live (led_to link)) l.1 ∙ ap (λ (qs : List Place). p ∷ qs) (followed k live (Some p) [] (omega arith) tt tt)
followed (suc k) live before (p ∷ q ∷ ps) h l room =
    ap (λ link. p ∷ follow k live (led_to link)) l.1
    ∙ (ap (λ o. p ∷ follow k live o) (leads_on (Some q) (room.1).0)
    ∙ ap (λ (qs : List Place). p ∷ qs) (followed k live (Some p) (q ∷ ps) (omega (arith, h)) l.2 room.1))

-- ---- the neighbours of a row

pub rows_split : (live : Live) (xs ys : List Place) → HoldRows live (xs ++ ys) → HoldRows live xs × HoldRows live ys
rows_split live [] ys h = (tt, h)
rows_split live (x ∷ xs) ys h = (let r = rows_split live xs ys h.1 in ((h.0, r.0), r.1))

pub rows_merge : (live : Live) (xs ys : List Place) → HoldRows live xs → HoldRows live ys → HoldRows live (xs ++ ys)
rows_merge live [] ys h k = k
rows_merge live (x ∷ xs) ys h k = (h.0, rows_merge live xs ys h.1 k)

last_room : (o : Option Place) (xs : List Place) → HasRoomIf o → HaveRoom xs → HasRoomIf (last_or o xs)
last_room o [] h k = h
last_room o (x ∷ xs) h k = last_room (Some x) xs k.0 k.1

first_room : (ys : List Place) → HaveRoom ys → HasRoomIf (first_or None ys)
first_room [] h = tt
first_room (y ∷ ys) h = h.0

pub newer_is : (live : Live) (ends : Ends) (at : Place) (xs ys : List Place) → IsChain live ends (xs ++ at ∷ ys) → newer_at live at ≡ link_to (last_or None xs)
newer_is live ends at xs ys c = (linked_split live None xs (at ∷ ys) None c.linked).1.0

pub older_is : (live : Live) (ends : Ends) (at : Place) (xs ys : List Place) → IsChain live ends (xs ++ at ∷ ys) → older_at live at ≡ link_to (first_or None ys)
older_is live ends at xs ys c = (linked_split live None xs (at ∷ ys) None c.linked).1.1

pub newer_led : (live : Live) (ends : Ends) (at : Place) (xs ys : List Place) → IsChain live ends (xs ++ at ∷ ys) → led_to (newer_at live at) ≡ last_or None xs
newer_led live ends at xs ys c =
    ap led_to (newer_is live ends at xs ys c) ∙ leads_on (last_or None xs) (last_room None xs tt (room_split xs (at ∷ ys) c.room).0)

pub older_led : (live : Live) (ends : Ends) (at : Place) (xs ys : List Place) → IsChain live ends (xs ++ at ∷ ys) → led_to (older_at live at) ≡ first_or None ys
older_led live ends at xs ys c =
    ap led_to (older_is live ends at xs ys c) ∙ leads_on (first_or None ys) (first_room ys (room_split xs (at ∷ ys) c.room).1.1)

-- the same of a row that has the links of another one
pub newer_like : (live : Live) (ends : Ends) (from to : Place) (xs ys : List Place) (o : Option Place) → o ≡ led_to (newer_at live to) → live to ≡ live from
    → IsChain live ends (xs ++ from ∷ ys) → o ≡ last_or None xs
newer_like live ends from to xs ys o is alike c = is ∙ (ap (λ x. led_to (newer_in (content_of x))) alike ∙ newer_led live ends from xs ys c)

pub older_like : (live : Live) (ends : Ends) (from to : Place) (xs ys : List Place) (o : Option Place) → o ≡ led_to (older_at live to) → live to ≡ live from
    → IsChain live ends (xs ++ from ∷ ys) → o ≡ first_or None ys
older_like live ends from to xs ys o is alike c = is ∙ (ap (λ x. led_to (older_in (content_of x))) alike ∙ older_led live ends from xs ys c)

-- both links of a row are written
pub both_set : (at : Place) (a b : Option Place) (old new : Live) → newer_at new at ≡ link_to a → older_at new at ≡ link_to b → ((p : Place) → p ≢ at → new p ≡ old p)
    → SetsLinks at a b old new
both_set at a b old new newer older others = record {
  newer = newer;
  older = older;
  newer_others = λ p far. ap (λ o. newer_in (content_of o)) (others p far);
  older_others = λ p far. ap (λ o. older_in (content_of o)) (others p far);
}

-- what comes last behind others
pub last_behind : (o : Option Place) (xs : List Place) (at : Place) (ys : List Place) → last_or o (xs ++ at ∷ ys) ≡ last_or (Some at) ys
last_behind o xs at ys = last_append o xs (at ∷ ys)

-- ---- a test of an end

pub end_there : (o : Option Place) (at : Place) → option_eq is_place o (Some at) ≡ true → o ≡ Some at
end_there None at e = absurd (let clash : false ≡ true = e in cc)
end_there (Some p) at e = elim (place_tells p at) [
  | inl h ↦ ap (λ q. Some q) h.1
  | inr h ↦ absurd (let clash : false ≡ true = sym h.0 ∙ e in cc)
]

pub end_elsewhere : (o : Option Place) (at : Place) → option_eq is_place o (Some at) ≡ false → o ≢ Some at
end_elsewhere None at e = none_some at
end_elsewhere (Some p) at e = elim (place_tells p at) [
  | inl h ↦ absurd (let clash : true ≡ false = sym h.0 ∙ e in cc)
  | inr h ↦ λ q. h.1 (some_is q)
]
