-- What is the same where nothing changed but links.
use Rattle.std.proofs.Common.{◌≡◌, ◌≢◌, ℕ, ◌+◌, inl, inr, Bool, true, false, List, length, Option, Some, None, refl, sym, ap, subst, ◌∙◌, arith}
use Rattle.std.specs.Prelude.{option_map}
use Rattle.std.specs.List.{sum}
use Rattle.byteorder.specs.Endian.{little_number}
use Rattle.regions.specs.Segments.{RegionState}
use Rattle.regions.specs.Shapes.{shape}
use Rattle.regions.specs.Counts.{live_counts, live_total, used_counts}
use Rattle.regions.specs.Contents.{Item, Standing, ChangesAt, if_live, item_if_live, live_at, size_of, standing_at, with_bytes}
use Rattle.regions.specs.Stores.{Live, SameBut, without_references}
use Rattle.regions.specs.declared.place.Place.{Place}
use Rattle.regions.specs.Places.{link_to, HasRoom}
use Rattle.fragments.specs.Fragment.{IsFragment, back_in, bare, body_in, name_in, next_in, HasLinks}
use Rattle.fragments.specs.Chains.{IsLinked}
use Rattle.fragments.specs.Store.{content_of}
use Rattle.fragments.specs.inside.Linking.{HoldsAFragment, LeadsBack, LeadsOn, back_link, next_link}
use Rattle.place_lemmas.proofs.Places.{place_cases, some_is, some_none}
use Rattle.fragments.proofs.Read.{length_held}

-- ---- regions

pub same_again : (r s t : RegionState) → SameBut bare r s → SameBut bare s t → SameBut bare r t
same_again r s t a b = record { objects = λ p. b.objects p ∙ a.objects p; used = b.used ∙ a.used; live = b.live ∙ a.live; shape = b.shape ∙ a.shape }

pub same_self : (r : RegionState) → SameBut bare r r
same_self r = record { objects = λ p. refl; used = refl; live = refl; shape = refl }

pub same_total : (r s : RegionState) → SameBut bare r s → live_total s ≡ live_total r
same_total r s a = ap (λ ns. sum ns) a.live

bare_if : (l : Bool) (i : Item) → option_map bare (if_live l i) ≡ if_live l (bare i)
bare_if true i = refl
bare_if false i = refl

size_if : (l : Bool) (i : Item) → option_map size_of (if_live l i) ≡ option_map (λ (n : ℕ). n) (option_map size_of (if_live l i))
size_if true i = refl
size_if false i = refl

same_items : (a b : Option Standing) → option_map (without_references bare) b ≡ option_map (without_references bare) a
    → (option_map bare (item_if_live b) ≡ option_map bare (item_if_live a)) × (option_map size_of (item_if_live b) ≡ option_map size_of (item_if_live a))
same_items None None e = (refl, refl)
same_items None (Some y) e = some_none (sym e) refl
same_items (Some x) None e = some_none e refl
same_items (Some x) (Some y) e =
    let three = some_is e in
    both x.live y.live x.item y.item (ap (λ (t : Bool × (Item × ℕ)). t.0) three) (ap (λ (t : Bool × (Item × ℕ)). t.1.0) three) (ap (λ (t : Bool × (Item × ℕ)). t.1.1) three)
  where
    both : (l m : Bool) (i j : Item) → m ≡ l → bare j ≡ bare i → size_of j ≡ size_of i
        → (option_map bare (if_live m j) ≡ option_map bare (if_live l i)) × (option_map size_of (if_live m j) ≡ option_map size_of (if_live l i))
    both true true i j e b s = (ap (λ x. Some x) b, ap (λ x. Some x) s)
    both false false i j e b s = (refl, refl)
    both true false i j e b s = absurd cc
    both false true i j e b s = absurd cc

pub same_live : (r s : RegionState) → SameBut bare r s → (p : Place) → option_map bare (live_at s p) ≡ option_map bare (live_at r p)
same_live r s a p = (same_items (standing_at r p) (standing_at s p) (a.objects p)).0

pub same_sizes : (r s : RegionState) → SameBut bare r s → (p : Place) → option_map size_of (live_at s p) ≡ option_map size_of (live_at r p)
same_sizes r s a p = (same_items (standing_at r p) (standing_at s p) (a.objects p)).1

-- a content is written over with the same body
rewritten_same : (a b : Option Standing) (bytes ws : List ℕ) → option_map (λ (s : Standing). s.item.content) a ≡ Some bytes → body_in ws ≡ body_in bytes → length ws ≡ length bytes
    → b ≡ option_map (with_bytes ws) a → option_map (without_references bare) b ≡ option_map (without_references bare) a
rewritten_same None b bytes ws e same long is = some_none e refl
rewritten_same (Some s) b bytes ws e same long is =
    let content : s.item.content ≡ bytes = some_is e in
    ap (option_map (without_references bare)) is
    ∙ (ap (λ (c : List ℕ). Some (s.live, (made s.item.group s.item.kind c, length ws + 8))) (same ∙ sym (ap (λ (c : List ℕ). body_in c) content))
    ∙ ap (λ (n : ℕ). Some (s.live, (made s.item.group s.item.kind (body_in s.item.content), n + 8))) (long ∙ sym (ap (λ (c : List ℕ). length c) content)))
  where
    made : Option ℕ → ℕ → List ℕ → Item
    made group kind content = record { group = group; kind = kind; content = content }

pub same_by : (r s : RegionState) (p : Place) (bytes ws : List ℕ) → option_map (λ (x : Standing). x.item.content) (standing_at r p) ≡ Some bytes → body_in ws ≡ body_in bytes
    → length ws ≡ length bytes → ChangesAt p (option_map (with_bytes ws) (standing_at r p)) r s → used_counts s ≡ used_counts r → live_counts s ≡ live_counts r
    → shape s ≡ shape r → SameBut bare r s
same_by r s p bytes ws is same long change used live shapes = record {
  objects = λ q. elim (place_cases q p) [
    | inl e ↦ subst (λ x. option_map (without_references bare) (standing_at s x) ≡ option_map (without_references bare) (standing_at r x)) (sym e)
        (rewritten_same (standing_at r p) (standing_at s p) bytes ws is same long change.here)
    | inr far ↦ ap (option_map (without_references bare)) (change.others q far)
  ];
  used = used;
  live = live;
  shape = shapes;
}

-- ---- one object

-- an object with the same body is there too
pub there_too : (o n : Option Item) (item : Item) → option_map bare n ≡ option_map bare o → o ≡ Some item → (now : Item) × (n ≡ Some now) × (bare now ≡ bare item)
there_too o None item e is = some_none (e ∙ ap (option_map bare) is) refl
there_too o (Some now) item e is = (now, refl, some_is (e ∙ ap (option_map bare) is))

pub fragment_too : (item now : Item) → bare now ≡ bare item → IsFragment item.content → IsFragment now.content
fragment_too item now same (name, bytes, h) = (name, bytes, record { name_fits = h.name_fits; short = h.short; body = ap (λ (i : Item). i.content) same ∙ h.body })

pub name_too : (item now : Item) → bare now ≡ bare item → name_in now.content ≡ name_in item.content
name_too item now same = ap (λ (i : Item). name_in_body i.content) same
  where
    name_in_body : List ℕ → ℕ
    name_in_body body = little_number 4 body

pub holds_too : (o n : Option Item) → option_map bare n ≡ option_map bare o → HoldsAFragment o → HoldsAFragment n
holds_too o n same h = (let t = there_too o n h.item same h.is in record { item = t.0; is = t.1; fragment = fragment_too h.item t.0 t.2 h.fragment })

pub long_enough : (content : List ℕ) → IsFragment content → HasLinks content
long_enough content (name, bytes, h) = (let whole = length_held content name bytes h in omega (arith, whole))

-- ---- a linked fragment

pub linked_holds : (live : Live) (p : Place) (back next : Option Place) (name : ℕ) → IsLinked live p back next name → HoldsAFragment (live p)
linked_holds live p back next name l = record { item = l.item; is = l.is_live; fragment = l.fragment }

pub back_link_is : (live : Live) (p : Place) (back next : Option Place) (name : ℕ) → IsLinked live p back next name → back_link live p ≡ link_to back
back_link_is live p back next name l = ap (λ o. back_in (content_of o)) l.is_live ∙ l.back_is

pub next_link_is : (live : Live) (p : Place) (back next : Option Place) (name : ℕ) → IsLinked live p back next name → next_link live p ≡ link_to next
next_link_is live p back next name l = ap (λ o. next_in (content_of o)) l.is_live ∙ l.next_is

-- the object that stands elsewhere, or with other links
pub linked_now : (old new : Live) (p q : Place) (back next to_back to_next : Option Place) (name : ℕ) → IsLinked old p back next name → HasRoom q
    → option_map bare (new q) ≡ option_map bare (old p) → back_link new q ≡ link_to to_back → next_link new q ≡ link_to to_next → IsLinked new q to_back to_next name
linked_now old new p q back next to_back to_next name l room same back_now next_now =
    let t = there_too (old p) (new q) l.item same l.is_live in
    record {
      item = t.0;
      is_live = t.1;
      room = room;
      fragment = fragment_too l.item t.0 t.2 l.fragment;
      back_is = sym (ap (λ o. back_in (content_of o)) t.1) ∙ back_now;
      next_is = sym (ap (λ o. next_in (content_of o)) t.1) ∙ next_now;
      name_is = name_too l.item t.0 t.2 ∙ l.name_is;
    }

-- ---- one link is written

pub back_none : (to : Option Place) (live : Live) → LeadsBack None to live live
back_none to live = record { here = λ p e. some_none e refl; others = λ p far. refl; next = λ p. refl }

pub next_none : (to : Option Place) (live : Live) → LeadsOn None to live live
next_none to live = record { here = λ p e. some_none e refl; others = λ p far. refl; back = λ p. refl }

pub back_some : (at : Place) (to : Option Place) (old new : Live) → back_link new at ≡ link_to to → next_link new at ≡ next_link old at → ((p : Place) → p ≢ at → new p ≡ old p)
    → LeadsBack (Some at) to old new
back_some at to old new here kept others = record {
  here = λ p e. subst (λ q. back_link new q ≡ link_to to) (some_is e) here;
  others = λ p far. ap (λ o. back_in (content_of o)) (others p (λ e. far (ap (λ q. Some q) (sym e))));
  next = λ p. elim (place_cases p at) [
    | inl e ↦ subst (λ q. next_link new q ≡ next_link old q) (sym e) kept
    | inr far ↦ ap (λ o. next_in (content_of o)) (others p far)
  ];
}

pub next_some : (at : Place) (to : Option Place) (old new : Live) → next_link new at ≡ link_to to → back_link new at ≡ back_link old at → ((p : Place) → p ≢ at → new p ≡ old p)
    → LeadsOn (Some at) to old new
next_some at to old new here kept others = record {
  here = λ p e. subst (λ q. next_link new q ≡ link_to to) (some_is e) here;
  others = λ p far. ap (λ o. next_in (content_of o)) (others p (λ e. far (ap (λ q. Some q) (sym e))));
  back = λ p. elim (place_cases p at) [
    | inl e ↦ subst (λ q. back_link new q ≡ back_link old q) (sym e) kept
    | inr far ↦ ap (λ o. back_in (content_of o)) (others p far)
  ];
}
