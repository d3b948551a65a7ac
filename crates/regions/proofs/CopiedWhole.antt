-- An object with the content of a live one.
use Rattle.std.proofs.Common.{◌≡◌, ◌≢◌, ℕ, ◌+◌, ◌-◌, ◌≤◌, Bool, true, false, List, ◌++◌, length, replicate, refl, sym, ap, ◌∙◌, subst, arith, append-nil}
use Rattle.std.specs.Prelude.{Option, None, Some, IsSome, IfSome, option_map}
use Rattle.layout.specs.Sizes.{segment}
use Rattle.object_log.specs.Contents.{padded}
use Rattle.regions.specs.Segments.{SegmentState, GroupState}
use Rattle.regions.specs.Shapes.{Slot, slot_of, slot_at, group_in, active_in, is_number, is_closed}
use Rattle.regions.specs.Counts.{used_in}
use Rattle.regions.specs.Contents.{Item, Standing, if_live, item_if_live, size_of}
use Rattle.regions.proofs.Groups.{closed-parts, is-number}

live-long : (b : Bool) (i : Item) (size : ℕ) → option_map size_of (if_live b i) ≡ Some size → length i.content + 8 ≡ size
live-long true i size e = (let both : Some (length i.content + 8) ≡ Some size = e in cc)
live-long false i size e = absurd (let clash : None ≡ Some size = e in cc)

-- the content of a live object has the bytes that its descriptor leaves
pub content-long : (s : Option Standing) (xs : List ℕ) (size : ℕ) → option_map (λ t. t.item.content) s ≡ Some xs → option_map size_of (item_if_live s) ≡ Some size → length xs + 8 ≡ size
content-long None xs size e live = absurd (let clash : None ≡ Some xs = e in cc)
content-long (Some s) xs size e live =
    let both : Some s.item.content ≡ Some xs = e in let same : s.item.content ≡ xs = cc in
    subst (λ (ws : List ℕ). length ws + 8 ≡ size) same (live-long s.live s.item size live)

-- what fills its object is not padded
pub whole-padded : (n : ℕ) (xs : List ℕ) → length xs ≡ n → padded n xs ≡ xs
whole-padded n xs is = let none : n - length xs ≡ 0 = omega (arith, is) in ap (λ k. xs ++ replicate k 0) none ∙ append-nil xs

-- something is where a part of it is told
pub some-there : {X Y : Type 0} (f : X → Y) (o : Option X) (y : Y) → option_map f o ≡ Some y → IsSome o
some-there f None y e = absurd (let clash : None ≡ Some y = e in cc)
some-there f (Some x) y e = refl

-- a segment of a group with so much room
pub begun-room : (s : Option SegmentState) (size : ℕ) → IsSome (group_in (option_map slot_of s)) → used_in s + size ≤ segment → IfSome s (λ h. IsSome h.group × (h.used + size ≤ segment))
begun-room None size begun room = tt
begun-room (Some h) size begun room = (begun, room)

pub begun-there : (s : Option SegmentState) → IsSome (group_in (option_map slot_of s)) → IsSome s
begun-there None begun = begun
begun-there (Some h) begun = refl

-- what is asked of the segment, where it is told which that is
pub room-told : (s : Option SegmentState) (h : SegmentState) (size : ℕ) → s ≡ Some h → IfSome s (λ h. IsSome h.group × (h.used + size ≤ segment)) → IsSome h.group × (h.used + size ≤ segment)
room-told s h size is room = subst (λ o. IfSome o (λ h. IsSome h.group × (h.used + size ≤ segment))) is room

-- a closed segment is not the active one of a group
pub closed-apart : (groups : List GroupState) (slots : List (Option Slot)) (g m n : ℕ) → is_closed groups slots m ≡ true → active_in groups g ≡ Some n → group_in (slot_at slots n) ≡ Some g → m ≢ n
closed-apart groups slots g m n closed active of same =
    let parts = closed-parts groups slots m closed in let other = parts.0 in
    let both : Some other ≡ Some g = sym parts.1 ∙ ap (λ k. group_in (slot_at slots k)) same ∙ of in
    let one : other ≡ g = cc in
    let clash : true ≡ false = sym (is-number (active_in groups g) m (active ∙ ap (λ k. Some k) (sym same))) ∙ ap (λ k. is_number (active_in groups k) m) (sym one) ∙ parts.2 in
    cc

-- what is there, and what is said of it
pub if-there : {X : Type 0} (o : Option X) (P : X → Type 0) → IsSome o → IfSome o P → (x : X) × (o ≡ Some x) × P x
if-there None P some h = absurd (let clash : false ≡ true = some in cc)
if-there (Some x) P some h = (x, refl, h)
