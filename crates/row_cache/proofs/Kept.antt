-- A chain of rows, where one is taken out, comes in front, or stands elsewhere.
use Rattle.std.proofs.Common.{◌≡◌, ◌≢◌, List, [], ◌∷◌, ◌++◌, Option, Some, None, refl, sym, ap, subst, ◌∙◌}
use Rattle.std.specs.Prelude.{⊤, MatchOption, IfSome}
use Rattle.std.specs.List.{last_or}
use Rattle.row_bytes.specs.Rows.{newer_in, older_in}
use Rattle.regions.specs.Stores.{Live, less}
use Rattle.regions.specs.declared.place.Place.{Place}
use Rattle.regions.specs.Places.{HasRoom, link_to}
use Rattle.row_cache.specs.Links.{AreLinked, Lacks, content_of, first_or}
use Rattle.row_cache.specs.declared.ends.Ends.{Ends}
use Rattle.row_cache.specs.inside.Tables.{HoldsARow}
use Rattle.row_cache.specs.inside.Chained.{HoldRows, IsChain, JoinsLinks, LinksBefore, LinksBehind, SetsLinks}
use Rattle.row_cache.proofs.States.{some_none}
use Rattle.row_cache.proofs.Relinked.{Relives, holds_still}
use Rattle.place_lemmas.proofs.Places.{less_here, less_past}
use Rattle.row_cache.proofs.Chains.{some_is, apart_split, apart_merge, disjoint_rest, disjoint_more, last_append, last_past, none_some, fronted, joined_before, joined_behind, lacks_split, lacks_merge, room_split, room_merge, unlinked, relocated}
use Rattle.row_cache.proofs.Joined.{rows_split, rows_merge, last_behind, newer_is, older_is}

pub match_some : (A B : Type 0) (o : Option Place) (z : Place) → o ≡ Some z → MatchOption o A (λ _. B) → B
match_some A B o z e h = subst (λ q. MatchOption q A (λ _. B)) e h

pub match_none : (A B : Type 0) (o : Option Place) → o ≡ None → MatchOption o A (λ _. B) → A
match_none A B o e h = subst (λ q. MatchOption q A (λ _. B)) e h

last_there : (x : Place) (xs : List Place) → (z : Place) × (last_or (Some x) xs ≡ Some z)
last_there x [] = (x, refl)
last_there x (y ∷ ys) = last_there y ys

-- ---- rows

pub rows_still : (old new : Live) (ps : List Place) → Relives old new → HoldRows old ps → HoldRows new ps
rows_still old new [] a h = tt
rows_still old new (p ∷ ps) a h = (holds_still old new p a h.0, rows_still old new ps a h.1)

abbrev pub IsRowIf : Live → Option Place → Type 0
IsRowIf live o = IfSome o (λ p. HoldsARow (live p))

pub some_still : (old new : Live) (o : Option Place) → Relives old new → IsRowIf old o → IsRowIf new o
some_still old new None a h = tt
some_still old new (Some p) a h = holds_still old new p a h

last_row_if : (live : Live) (o : Option Place) (xs : List Place) → IsRowIf live o → HoldRows live xs → IsRowIf live (last_or o xs)
last_row_if live o [] h k = h
last_row_if live o (x ∷ xs) h k = last_row_if live (Some x) xs k.0 k.1

first_row_if : (live : Live) (ys : List Place) → HoldRows live ys → IsRowIf live (first_or None ys)
first_row_if live [] h = tt
first_row_if live (y ∷ ys) h = h.0

pub before_has : (live : Live) (ends : Ends) (xs : List Place) (y : Place) (ys : List Place) (o : Option Place) → IsChain live ends (xs ++ y ∷ ys) → o ≡ last_or None xs → IsRowIf live o
before_has live ends xs y ys o c e = subst (λ q. IsRowIf live q) (sym e) (last_row_if live None xs tt (rows_split live xs (y ∷ ys) c.rows).0)

pub behind_has : (live : Live) (ends : Ends) (xs : List Place) (y : Place) (ys : List Place) (o : Option Place) → IsChain live ends (xs ++ y ∷ ys) → o ≡ first_or None ys → IsRowIf live o
behind_has live ends xs y ys o c e = subst (λ q. IsRowIf live q) (sym e) (first_row_if live ys (rows_split live xs (y ∷ ys) c.rows).1.1)

pub front_has : (live : Live) (ends : Ends) (ps : List Place) → IsChain live ends ps → IsRowIf live ends.front
front_has live ends ps c = subst (λ q. IsRowIf live q) (sym c.front) (first_row_if live ps c.rows)

pub here_has : (live : Live) (ends : Ends) (xs : List Place) (y : Place) (ys : List Place) → IsChain live ends (xs ++ y ∷ ys) → HoldsARow (live y) × HasRoom y × Lacks y (xs ++ ys)
here_has live ends xs y ys c =
    let s = apart_split xs (y ∷ ys) c.apart in
    ((rows_split live xs (y ∷ ys) c.rows).1.0, (room_split xs (y ∷ ys) c.room).1.0, lacks_merge y xs ys (disjoint_rest xs y ys s.2).1 (s.1).0)

-- ---- other live objects

abbrev pub SameOn : Live → Live → List Place → Type 0
SameOn old new [] = ⊤
SameOn old new (p ∷ ps) = (new p ≡ old p) × SameOn old new ps

rows_on : (old new : Live) (ps : List Place) → SameOn old new ps → HoldRows old ps → HoldRows new ps
rows_on old new [] s h = tt
rows_on old new (p ∷ ps) s h = (subst (λ o. HoldsARow o) (sym s.0) h.0, rows_on old new ps s.1 h.1)

linked_on : (old new : Live) (before : Option Place) (ps : List Place) (behind : Option Place) → SameOn old new ps → AreLinked old before ps behind → AreLinked new before ps behind
linked_on old new before [] behind s h = tt
linked_on old new before (p ∷ ps) behind s h =
    (ap (λ o. newer_in (content_of o)) s.0 ∙ h.0, ap (λ o. older_in (content_of o)) s.0 ∙ h.1, linked_on old new (Some p) ps behind s.1 h.2)

pub chain_on : (old new : Live) (ends : Ends) (ps : List Place) → SameOn old new ps → IsChain old ends ps → IsChain new ends ps
chain_on old new ends ps s c = record {
  front = c.front;
  last = c.last;
  linked = linked_on old new None ps None s c.linked;
  apart = c.apart;
  room = c.room;
  rows = rows_on old new ps s c.rows;
}

-- where only one place has another object
pub same_past : (p : Place) (old new : Live) (ps : List Place) → ((q : Place) → q ≢ p → new q ≡ old q) → Lacks p ps → SameOn old new ps
same_past p old new [] others l = tt
same_past p old new (q ∷ qs) others l = (others q l.0, same_past p old new qs others l.1)

pub same_past_both : (p q : Place) (old new : Live) (ps : List Place) → ((x : Place) → x ≢ p → x ≢ q → new x ≡ old x) → Lacks p ps → Lacks q ps → SameOn old new ps
same_past_both p q old new [] others l k = tt
same_past_both p q old new (x ∷ xs) others l k = (others x l.0 k.0, same_past_both p q old new xs others l.1 k.1)

-- where what is a row stays
pub same_of_rows : (old new : Live) (ps : List Place) → ((q : Place) → HoldsARow (old q) → new q ≡ old q) → HoldRows old ps → SameOn old new ps
same_of_rows old new [] stays h = tt
same_of_rows old new (q ∷ qs) stays h = (stays q h.0, same_of_rows old new qs stays h.1)

-- a place without a row is none of the chain's
pub lacks_dead : (live : Live) (p : Place) (ps : List Place) → live p ≡ None → HoldRows live ps → Lacks p ps
lacks_dead live p [] dead h = tt
lacks_dead live p (q ∷ qs) dead h = (λ e. some_none (h.0).is (ap live e ∙ dead), lacks_dead live p qs dead h.1)

-- ---- the chain after a call

out_front : (xs ys : List Place) (y : Place) (ends after : Ends) → ends.front ≡ first_or None (xs ++ y ∷ ys)
    → MatchOption (last_or None xs) (after.front ≡ first_or None ys) (λ _. after.front ≡ ends.front) → after.front ≡ first_or None (xs ++ ys)
out_front [] ys y ends after was now = now
out_front (x ∷ xs) ys y ends after was now = (let z = last_there x xs in match_some _ _ (last_or (Some x) xs) z.0 z.1 now ∙ was)

out_last : (xs ys : List Place) (y : Place) (ends after : Ends) → ends.last ≡ last_or None (xs ++ y ∷ ys)
    → MatchOption (first_or None ys) (after.last ≡ last_or None xs) (λ _. after.last ≡ ends.last) → after.last ≡ last_or None (xs ++ ys)
out_last xs [] y ends after was now = now ∙ sym (last_append None xs [])
out_last xs (z ∷ zs) y ends after was now = now ∙ (was ∙ (last_behind None xs y (z ∷ zs) ∙ sym (last_behind None xs z zs)))

pub chain_without : (old new : Live) (ends after : Ends) (a b : Option Place) (xs : List Place) (y : Place) (ys : List Place) → IsChain old ends (xs ++ y ∷ ys)
    → a ≡ last_or None xs → b ≡ first_or None ys → JoinsLinks a b old new → MatchOption a (after.front ≡ b) (λ _. after.front ≡ ends.front)
    → MatchOption b (after.last ≡ a) (λ _. after.last ≡ ends.last) → Relives old new → IsChain new after (xs ++ ys)
chain_without old new ends after a b xs y ys c is_a is_b joins front last lives =
    let j : JoinsLinks (last_or None xs) (first_or None ys) old new = subst (λ p. JoinsLinks p (first_or None ys) old new) is_a (subst (λ q. JoinsLinks a q old new) is_b joins) in
    let f : MatchOption (last_or None xs) (after.front ≡ first_or None ys) (λ _. after.front ≡ ends.front) =
    subst (λ p. MatchOption p (after.front ≡ first_or None ys) (λ _. after.front ≡ ends.front)) is_a (subst (λ q. MatchOption a (after.front ≡ q) (λ _. after.front ≡ ends.front)) is_b front) in
    let l : MatchOption (first_or None ys) (after.last ≡ last_or None xs) (λ _. after.last ≡ ends.last) =
    subst (λ q. MatchOption q (after.last ≡ last_or None xs) (λ _. after.last ≡ ends.last)) is_b (subst (λ p. MatchOption b (after.last ≡ p) (λ _. after.last ≡ ends.last)) is_a last) in
    let s = apart_split xs (y ∷ ys) c.apart in let d = disjoint_rest xs y ys s.2 in
    let room = room_split xs (y ∷ ys) c.room in let rows = rows_split old xs (y ∷ ys) c.rows in
    record {
      front = out_front xs ys y ends after c.front f;
      last = out_last xs ys y ends after c.last l;
      linked = unlinked old new xs y ys j c.apart c.linked;
      apart = apart_merge xs ys s.0 (s.1).1 d.0;
      room = room_merge xs ys room.0 (room.1).1;
      rows = rows_still old new (xs ++ ys) lives (rows_merge old xs ys rows.0 (rows.1).1);
    }

in_last : (ps : List Place) (p : Place) (ends middle : Ends) → ends.front ≡ first_or None ps → ends.last ≡ last_or None ps
    → MatchOption ends.front (middle.last ≡ Some p) (λ _. middle.last ≡ ends.last) → middle.last ≡ last_or (Some p) ps
in_last [] p ends middle front last now = match_none _ _ ends.front front now
in_last (q ∷ qs) p ends middle front last now = match_some _ _ ends.front q front now ∙ last

pub chain_with : (old middle new : Live) (ends after : Ends) (p : Place) (ps : List Place) → IsChain old ends ps → Lacks p ps → HasRoom p → HoldsARow (old p)
    → SetsLinks p None ends.front old middle → LinksBefore (Some p) ends.front middle new → MatchOption ends.front (after.last ≡ Some p) (λ _. after.last ≡ ends.last)
    → after.front ≡ Some p → Relives old new → IsChain new after (p ∷ ps)
chain_with old middle new ends after p ps c lacks room row first second last front lives = record {
  front = front;
  last = in_last ps p ends after c.front c.last last;
  linked = fronted old middle new p ps (subst (λ o. SetsLinks p None o old middle) c.front first) (subst (λ o. LinksBefore (Some p) o middle new) c.front second) lacks c.apart c.linked;
  apart = (lacks, c.apart);
  room = (room, c.room);
  rows = (holds_still old new p lives row, rows_still old new ps lives c.rows);
}

moved_front : (xs ys : List Place) (from to : Place) (ends between : Ends) → ends.front ≡ first_or None (xs ++ from ∷ ys)
    → MatchOption (last_or None xs) (between.front ≡ Some to) (λ _. between.front ≡ ends.front) → between.front ≡ first_or None (xs ++ to ∷ ys)
moved_front [] ys from to ends between was now = now
moved_front (x ∷ xs) ys from to ends between was now = (let z = last_there x xs in match_some _ _ (last_or (Some x) xs) z.0 z.1 now ∙ was)

moved_last : (xs ys : List Place) (from to : Place) (ends between after : Ends) → ends.last ≡ last_or None (xs ++ from ∷ ys) → between.last ≡ ends.last
    → MatchOption (first_or None ys) (after.last ≡ Some to) (λ _. after.last ≡ between.last) → after.last ≡ last_or None (xs ++ to ∷ ys)
moved_last xs [] from to ends between after was kept now = now ∙ sym (last_behind None xs to [])
moved_last xs (y ∷ ys) from to ends between after was kept now = now ∙ (kept ∙ (was ∙ (last_behind None xs from (y ∷ ys) ∙ sym (last_behind None xs to (y ∷ ys)))))

-- the object at the second place has the links of the one at the first
pub chain_moved : (old middle new : Live) (ends between after : Ends) (a b : Option Place) (from to : Place) (xs ys : List Place) → IsChain old ends (xs ++ from ∷ ys)
    → old to ≡ old from → Lacks to xs → Lacks to ys → HasRoom to → HoldsARow (old to) → a ≡ last_or None xs → b ≡ first_or None ys
    → LinksBehind a (Some to) old middle → MatchOption a (between.front ≡ Some to) (λ _. between.front ≡ ends.front) → between.last ≡ ends.last
    → LinksBefore (Some to) b middle new → after.front ≡ between.front → MatchOption b (after.last ≡ Some to) (λ _. after.last ≡ between.last)
    → Relives old new → IsChain new after (xs ++ to ∷ ys)
chain_moved old middle new ends between after a b from to xs ys c alike to_xs to_ys room_to row is_a is_b behind front kept before same last lives =
    let first : JoinsLinks a (Some to) old middle = joined_behind a to old middle behind (ap (λ o. newer_in (content_of o)) alike ∙ (newer_is old ends from xs ys c ∙ ap link_to (sym is_a))) in
    let far : a ≢ Some to = λ e. last_past to None xs (none_some to) to_xs (sym is_a ∙ e) in
    let second : JoinsLinks (Some to) b middle new = joined_before to b middle new before
    (behind.others to far ∙ (ap (λ o. older_in (content_of o)) alike ∙ (older_is old ends from xs ys c ∙ ap link_to (sym is_b)))) in
    let f : MatchOption (last_or None xs) (between.front ≡ Some to) (λ _. between.front ≡ ends.front) = subst (λ p. MatchOption p (between.front ≡ Some to) (λ _. between.front ≡ ends.front)) is_a front in
    let l : MatchOption (first_or None ys) (after.last ≡ Some to) (λ _. after.last ≡ between.last) = subst (λ q. MatchOption q (after.last ≡ Some to) (λ _. after.last ≡ between.last)) is_b last in
    let s = apart_split xs (from ∷ ys) c.apart in let d = disjoint_rest xs from ys s.2 in
    let room = room_split xs (from ∷ ys) c.room in let rows = rows_split old xs (from ∷ ys) c.rows in
    record {
      front = same ∙ moved_front xs ys from to ends between c.front f;
      last = moved_last xs ys from to ends between after c.last kept l;
      linked = relocated old middle new from to xs ys (subst (λ p. JoinsLinks p (Some to) old middle) is_a first) (subst (λ q. JoinsLinks (Some to) q middle new) is_b second)
          c.apart to_xs to_ys c.linked;
      apart = apart_merge xs (to ∷ ys) s.0 (to_ys, (s.1).1) (disjoint_more xs to ys d.0 to_xs);
      room = room_merge xs (to ∷ ys) room.0 (room_to, (room.1).1);
      rows = rows_still old new (xs ++ to ∷ ys) lives (rows_merge old xs (to ∷ ys) rows.0 (row, (rows.1).1));
    }

-- where the row is the first already
pub chain_first : (live : Live) (ends : Ends) (xs : List Place) (y : Place) (ys : List Place) → IsChain live ends (xs ++ y ∷ ys) → ends.front ≡ Some y → IsChain live ends (y ∷ (xs ++ ys))
chain_first live ends [] y ys c e = c
chain_first live ends (x ∷ xs) y ys c e =
    let same : x ≡ y = some_is (sym c.front ∙ e) in
    absurd ((lacks_split x xs (y ∷ ys) (c.apart).0).1.0 (sym same))

-- one object less
pub chain_whole : (live : Live) (p : Place) (ends : Ends) (ps : List Place) → IsChain (less p live) ends ps → IsChain live ends ps × Lacks p ps
chain_whole live p ends ps c =
    let lacks = lacks_dead (less p live) p ps (less_here p live) c.rows in
    (chain_on (less p live) live ends ps (same_past p (less p live) live ps (λ q far. sym (less_past p q live (λ e. far (sym e)))) lacks) c, lacks)

pub chain_less : (live : Live) (p : Place) (ends : Ends) (ps : List Place) → Lacks p ps → IsChain live ends ps → IsChain (less p live) ends ps
chain_less live p ends ps lacks c = chain_on live (less p live) ends ps (same_past p live (less p live) ps (λ q far. less_past p q live (λ e. far (sym e))) lacks) c
