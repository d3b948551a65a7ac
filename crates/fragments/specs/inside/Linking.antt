-- What becomes of the links where one is written.
use Rattle.std.specs.Prelude.{◌≡◌, ◌≢◌, ℕ, List, Option, Some, slice_set}
use Rattle.regions.specs.Contents.{Item}
use Rattle.regions.specs.Stores.{Live}
use Rattle.regions.specs.declared.place.Place.{Place}
use Rattle.regions.specs.Places.{link_to, no_link}
use Rattle.fragments.specs.Fragment.{HoldsFragment, IsFragment, back_in, fragment_kind, next_in}
use Rattle.fragments.specs.Chains.{TableState, first_at}
use Rattle.fragments.specs.Store.{content_of}

-- the links of the fragment at a place
abbrev pub back_link : Live → Place → ℕ
back_link live p = back_in (content_of (live p))

abbrev pub next_link : Live → Place → ℕ
next_link live p = next_in (content_of (live p))

-- the live object is a fragment
pub record HoldsAFragment (o : Option Item) : Type 0 where
  pub item : Item
  pub is : o ≡ Some item
  pub fragment : IsFragment item.content

-- the fragment at the first place, if there is one, leads back to the second, and no other link is another
pub record LeadsBack (at to : Option Place) (old new : Live) : Type 0 where
  pub here : (p : Place) → at ≡ Some p → back_link new p ≡ link_to to
  pub others : (p : Place) → at ≢ Some p → back_link new p ≡ back_link old p
  pub next : (p : Place) → next_link new p ≡ next_link old p

-- the same of the link to the next fragment
pub record LeadsOn (at to : Option Place) (old new : Live) : Type 0 where
  pub here : (p : Place) → at ≡ Some p → next_link new p ≡ link_to to
  pub others : (p : Place) → at ≢ Some p → next_link new p ≡ next_link old p
  pub back : (p : Place) → back_link new p ≡ back_link old p

-- the one, and then the other: the fragments around one that stands at the place lead to it
pub record LeadAround (back next : Option Place) (to : Place) (old new : Live) : Type 0 where
  pub between : Live
  pub on : LeadsOn back (Some to) old between
  pub back_is : LeadsBack next (Some to) between new

-- the live object is a fragment of the name with these bytes, the first of its chain
pub record IsPlaced (o : Option Item) (next : Option Place) (name : ℕ) (bytes : List ℕ) : Type 0 where
  pub item : Item
  pub is : o ≡ Some item
  pub group : item.group ≡ Some 0
  pub kind : item.kind ≡ fragment_kind
  pub holds : HoldsFragment item.content name bytes
  pub back : back_in item.content ≡ no_link
  pub next_is : next_in item.content ≡ link_to next

-- the first fragments once the one of the name's value, or else of the value that is being written, stands at another place
pub record IsMended (t : TableState) (name : ℕ) (from to : Place) (firsts : List (Option Place)) : Type 0 where
  pub there : first_at t.firsts name ≡ Some from → firsts ≡ slice_set t.firsts name (Some to)
  pub elsewhere : first_at t.firsts name ≢ Some from → firsts ≡ slice_set t.firsts t.names (Some to)
