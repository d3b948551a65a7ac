-- Steps that drain a segment, one after the other.
use Rattle.std.proofs.Common.{◌≡◌, ◌≢◌, ℕ, ◌+◌, ◌<◌, ◌≤◌, inl, inr, get_or, true, false, length, refl, sym, ap, ◌∙◌, subst, arith}
use Rattle.std.specs.Prelude.{Bool, Option, None, Some, IsSome, IfSome, is_some, option_map}
use Rattle.std.proofs.lemmas.List.{get_or-set_same, get_or-set_other}
use Rattle.regions.specs.Segments.{RegionState, group_at}
use Rattle.std.specs.List.{sum, count_by}
use Rattle.regions.specs.Shapes.{activated, is_free, slot_at, Shape, shape, is_closed, is_closed_in, is_held, group_of, active_in, active_of, pieces_in, IsClosed, IsClosedIn}
use Rattle.regions.specs.Counts.{used_counts, live_counts, live_bytes_at, used_total, live_total, plus}
use Rattle.regions.specs.Contents.{Item, Standing, IsLiveAt, size_of, live_at, standing_at, item_if_live, if_live, ChangesAt, Keeps}
use Rattle.regions.specs.Stores.{Bare, SameBut, without_references}
use Rattle.regions.specs.declared.place.Place.{Place}
use Rattle.compaction.specs.Emptied.{IsSameAt, HoldsTheSame}
use Rattle.compaction.specs.Sparse.{IsSparse}
use Rattle.compaction.specs.inside.Drained.{IsDrained, HasRoomFor, BeginsNext, Took, TookOne}
use Rattle.compaction.proofs.Shut.{closed-kept, not-active, within-live}

pub some-same : (bare : Bare) (a b : Option Standing) → option_map (without_references bare) b ≡ option_map (without_references bare) a → IsSome a → IsSome b
some-same bare a None e there = subst (λ o. IsSome o) (sym e) (mapped a there) where
  mapped : (s : Option Standing) → IsSome s → IsSome (option_map (without_references bare) s)
  mapped None h = h
  mapped (Some s) h = refl
some-same bare a (Some s) e there = refl

pub holds-same : (old new : RegionState) → shape new ≡ shape old → live_total new ≡ live_total old → HoldsTheSame old new
holds-same old new shapes total = record {
  most = ap (λ (s : Shape). s.most) shapes;
  groups = ap (λ (s : Shape). length s.groups) shapes;
  active = λ g. subst (λ (s : Shape). IsSome (active_in s.groups g)) (sym shapes);
  pieces = ap (λ (s : Shape). pieces_in s.slots) shapes;
  held = ap (λ (s : Shape). count_by is_held s.slots) shapes;
  guards = λ g. ap (λ (s : Shape). (group_at s.groups g).guards) shapes;
  live_total = total;
}

pub holds-on : (a b c : RegionState) → HoldsTheSame a b → HoldsTheSame b c → HoldsTheSame a c
holds-on a b c h k = record {
  most = k.most ∙ h.most;
  groups = k.groups ∙ h.groups;
  active = λ g some. k.active g (h.active g some);
  pieces = k.pieces ∙ h.pieces;
  held = k.held ∙ h.held;
  guards = λ g. k.guards g ∙ h.guards g;
  live_total = k.live_total ∙ h.live_total;
}

pub drained-none : (bare : Bare) (n : ℕ) (r : RegionState) → IsDrained bare n r r
drained-none bare n r = record {
  holds = holds-same r r refl refl;
  closed = λ h m shut. shut;
  same = λ p far shut. refl;
  kept = λ p far there. refl;
  live = λ m far shut. refl;
  end = refl;
  used = refl;
}

pub drained-on : (bare : Bare) (n : ℕ) (a b c : RegionState) → IsDrained bare n a b → IsDrained bare n b c → IsDrained bare n a c
drained-on bare n a b c h k = record {
  holds = holds-on a b c h.holds k.holds;
  closed = λ g m shut. k.closed g m (h.closed g m shut);
  same = λ p far shut. k.same p far (closed-kept a b h.closed p.segment shut) ∙ h.same p far shut;
  kept = λ p far there. k.kept p far (some-same bare (standing_at a p) (standing_at b p) (h.kept p far there) there) ∙ h.kept p far there;
  live = λ m far shut. k.live m far (closed-kept a b h.closed m shut) ∙ h.live m far shut;
  end = k.end ∙ h.end;
  used = let x = h.used in let y = k.used in omega (arith, x, y);
}

-- the next segment became the active one
pub drained-begun : (bare : Bare) (n : ℕ) (old new : RegionState) → HoldsTheSame old new → ((g m : ℕ) → IsClosedIn old g m → IsClosedIn new g m) → Keeps old new
    → used_counts new ≡ used_counts old → live_counts new ≡ live_counts old → IsDrained bare n old new
drained-begun bare n old new holds closed keeps used live = record {
  holds = holds;
  closed = closed;
  same = λ p far shut. ap (option_map (without_references bare)) (keeps p);
  kept = λ p far there. ap (option_map (without_references bare)) (keeps p);
  live = λ m far shut. ap (λ xs. get_or xs m 0) live;
  end = ap (λ xs. get_or xs n 0) used;
  used = let all : used_total new ≡ used_total old = ap (λ xs. sum xs) used in let here : live_bytes_at new n ≡ live_bytes_at old n = ap (λ xs. get_or xs n 0) live in omega (arith, all, here);
}

-- where an object is live, what is the same but for reference fields has its size
pub size-there : (bare : Bare) (a b : Option Standing) (kind size : ℕ) (P : ℕ → Type 0) → IsLiveAt (item_if_live a) kind size → option_map (without_references bare) b ≡ option_map (without_references bare) a
    → IfSome b (λ s. P (size_of s.item)) → P size
size-there bare None b kind size P live e told = absurd (let clash : None ≡ Some live.item = live.is in cc)
size-there bare (Some s) None kind size P live e told = absurd (let clash : None ≡ Some (without_references bare s) = e in cc)
size-there bare (Some s) (Some t) kind size P live e told =
    let both : without_references bare t ≡ without_references bare s = (let some : Some (without_references bare t) ≡ Some (without_references bare s) = e in cc) in
    subst P (ap (λ x. x.1.1) both ∙ ap size_of (item-is s.live s.item live.item live.is) ∙ live.size_is) told where
      item-is : (b : Bool) (i j : Item) → if_live b i ≡ Some j → i ≡ j
      item-is true i j h = (let both : Some i ≡ Some j = h in cc)
      item-is false i j h = absurd (let clash : None ≡ Some j = h in cc)

begins-from : (g : ℕ) (old now new : RegionState) → shape now ≡ shape old → BeginsNext g now new → BeginsNext g old new
begins-from g old now new same b = record {
  number = b.number;
  least = subst (λ (s : Shape). (is_free (slot_at s.slots b.number) ≡ true) × ((k : ℕ) → k < b.number → ¬ (is_free (slot_at s.slots k) ≡ true))) same b.least;
  shape = b.shape ∙ ap (activated g b.number) same;
  free = b.free ∙ ap (λ (s : Shape). count_by is_free s.slots) same;
}

begins-on : (g : ℕ) (old now new : RegionState) → BeginsNext g old now → shape new ≡ shape now → BeginsNext g old new
begins-on g old now new b same = record {
  number = b.number;
  least = b.least;
  shape = same ∙ b.shape;
  free = ap (λ (s : Shape). count_by is_free s.slots + 1) same ∙ b.free;
}

-- one object of the size was taken besides
pub took-on : (g n size : ℕ) (old now new : RegionState) → Took g n old now → TookOne g size now new → live_bytes_at new n + size ≡ live_bytes_at now n → IsSparse now n → size ≤ live_bytes_at now n → Took g n old new
took-on g n size old now new (inl (f, all)) (inl (e, l)) less sparse counted = inl (e ∙ f, omega (arith, all, l, less))
took-on g n size old now new (inl (f, all)) (inr (low, e, l)) less sparse counted =
    inr (omega (arith, all, low, counted), begins-from g old now new f e, omega (arith, l, less, sparse))
took-on g n size old now new (inr (high, f, fits)) (inl (e, l)) less sparse counted = inr (high, begins-on g old now new f e, omega (arith, fits, l, less))
took-on g n size old now new (inr (high, f, fits)) (inr (low, e, l)) less sparse counted = absurd (omega (arith, low, fits, counted))

-- what is still live has room
pub room-for : (g n : ℕ) (old now : RegionState) → HasRoomFor g n old → Took g n old now → HasRoomFor g n now
room-for g n old now (inl some) (inl (f, all)) = inl (subst (λ (s : Shape). 1 ≤ count_by is_free s.slots) (sym f) some)
room-for g n old now (inr room) (inl (f, all)) = inr (omega (arith, room, all))
room-for g n old now room (inr (high, f, fits)) = inr fits

-- an object of the size was copied to the active segment of the group, and died in its own
module _ (bare : Bare) (from to : Place) (size g : ℕ) (old copied told new : RegionState) (shut : IsClosed old from.segment) (active : active_of old g ≡ Some to.segment) (of : group_of old to.segment ≡ Some g)
    (copy : ChangesAt to (standing_at old from) old copied) (unused : standing_at old to ≡ None) (but : SameBut bare copied told)
    (dies : Option Standing) (kill : ChangesAt from dies told new) where
  pub same-at : (p : Place) → p ≢ from → p ≢ to → IsSameAt bare old new p
  same-at p far away = ap (option_map (without_references bare)) (kill.others p far) ∙ but.objects p ∙ ap (option_map (without_references bare)) (copy.others p away)

  other-segment : (p : Place) → p.segment ≢ from.segment → p ≢ from
  other-segment p far e = far (ap (λ (x : Place). x.segment) e)

  pub closed-elsewhere : (p : Place) → IsClosed old p.segment → p ≢ to
  closed-elsewhere p closed e = not-active old g p.segment to.segment closed active of (ap (λ (x : Place). x.segment) e)

  standing-elsewhere : (p : Place) → IsSome (standing_at old p) → p ≢ to
  standing-elsewhere p there e = absurd (let clash : false ≡ true = sym (ap is_some (ap (standing_at old) e ∙ unused)) ∙ there in cc)

  -- what stands in the closed segments but at its place
  pub same-behind : (p : Place) → p ≢ from → IsClosed old p.segment → IsSameAt bare old new p
  same-behind p far closed = same-at p far (closed-elsewhere p closed)

  module _ (shapes : (shape copied ≡ shape old) × (shape new ≡ shape told)) (used-copied : used_counts copied ≡ plus to.segment size (used_counts old)) (used-new : used_counts new ≡ used_counts told)
      (live-copied : live_counts copied ≡ plus to.segment size (live_counts old)) (live-killed : IfSome (standing_at told from) (λ s. live_counts told ≡ plus from.segment (size_of s.item) (live_counts new)))
      (used-sum : used_total copied ≡ used_total old + size) (live-sum : live_total copied ≡ live_total old + size) (live-lost : IfSome (standing_at told from) (λ s. live_total new + size_of s.item ≡ live_total told))
      (kind : ℕ) (alive : IsLiveAt (live_at old from) kind size) where
    still-there : IsSameAt bare old told from
    still-there = but.objects from ∙ ap (option_map (without_references bare)) (copy.others from (closed-elsewhere from shut))

    live-new : live_counts told ≡ plus from.segment size (live_counts new)
    live-new = size-there bare (standing_at old from) (standing_at told from) kind size (λ k. live_counts told ≡ plus from.segment k (live_counts new)) alive still-there live-killed

    live-less : live_total new + size ≡ live_total told
    live-less = size-there bare (standing_at old from) (standing_at told from) kind size (λ k. live_total new + k ≡ live_total told) alive still-there live-lost

    shapes-same : shape new ≡ shape old
    shapes-same = shapes.1 ∙ but.shape ∙ shapes.0

    pub live-elsewhere : (m : ℕ) → m ≢ from.segment → IsClosed old m → live_bytes_at new m ≡ live_bytes_at old m
    live-elsewhere m far closed =
        sym (ap (λ xs. get_or xs m 0) live-new ∙ get_or-set_other (live_counts new) from.segment m _ 0 far) ∙ ap (λ xs. get_or xs m 0) (but.live ∙ live-copied)
        ∙ get_or-set_other (live_counts old) to.segment m _ 0 (not-active old g m to.segment closed active of)

    still : IsClosed new from.segment
    still = subst (λ (s : Shape). is_closed s.groups s.slots from.segment ≡ true) (sym shapes-same) shut

    pub live-here : live_bytes_at new from.segment + size ≡ live_bytes_at old from.segment
    live-here =
        sym (ap (λ xs. get_or xs from.segment 0) live-new ∙ get_or-set_same (live_counts new) from.segment _ 0 (within-live new from.segment still)) ∙ ap (λ xs. get_or xs from.segment 0) (but.live ∙ live-copied)
        ∙ get_or-set_other (live_counts old) to.segment from.segment _ 0 (not-active old g from.segment to.segment shut active of)

    pub drained-moved : IsDrained bare from.segment old new
    drained-moved = record {
      holds = holds-same old new shapes-same (let told-sum : live_total told ≡ live_total copied = ap (λ xs. sum xs) but.live in omega (arith, live-sum, live-less, told-sum));
      closed = λ h m closed. subst (λ (s : Shape). is_closed_in s.groups s.slots h m ≡ true) (sym shapes-same) closed;
      same = λ p far closed. same-behind p (other-segment p far) closed;
      kept = λ p far there. same-at p (other-segment p far) (standing-elsewhere p there);
      live = live-elsewhere;
      end =
          ap (λ xs. get_or xs from.segment 0) (used-new ∙ but.used ∙ used-copied)
          ∙ get_or-set_other (used_counts old) to.segment from.segment _ 0 (not-active old g from.segment to.segment shut active of);
      used = let all : used_total new ≡ used_total copied = ap (λ xs. sum xs) (used-new ∙ but.used) in omega (arith, all, used-sum, live-here);
    }
