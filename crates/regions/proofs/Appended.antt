-- A segment once an object is behind the others.
use Rattle.std.proofs.Common.{◌≡◌, ℕ, ◌+◌, ◌-◌, true, List, [], ◌∷◌, ◌++◌, length, take, drop, refl, sym, ap, ◌∙◌, subst, arith}
use Rattle.std.specs.Prelude.{Option, None, Some, option_map}
use Rattle.std.specs.List.{refill}
use Rattle.object_log.specs.Objects.{objects, live, IsSegment}
use Rattle.raw_range.specs.Memory.{Lent}
use Rattle.regions.specs.Segments.{SegmentState}
use Rattle.regions.specs.Shapes.{identity, slot_of}
use Rattle.regions.specs.Counts.{live_bytes, live_in}
use Rattle.regions.specs.Contents.{Standing, standing, standing_among, standing_in, holding, ChangesIn}
use Rattle.regions.proofs.Objects.{standing-below, none-behind, with-added, added-there, live-added}
use Rattle.std.proofs.lemmas.Grind.{common_steps}

pub refill-same : (n : ℕ) (xs ws : List ℕ) → length xs ≡ n → length ws ≡ n → refill n xs ws ≡ ws
refill-same n xs ws e f = grind (arith, common_steps)

module _ (p : Lent) (g : Option ℕ) (now new content : List ℕ) (used kind size r : ℕ) (long : length p.bytes ≡ 131072) (is-now : now ≡ p.bytes) (same-long : length new ≡ length now) (segment : IsSegment p.bytes used) (ends : r ≡ used + size)
    (grown : objects new r ≡ objects now used ++ live used kind size ∷ []) (laid : take (size - 8) (drop (used + 8) new) ≡ content)
    (kept : take used new ≡ take used now) (old : SegmentState) (is-old : record { piece = p; used = used; group = g } ≡ old) where
  added : objects new r ≡ objects p.bytes used ++ live used kind size ∷ []
  added = rw is-now at grown

  below : take used new ≡ take used p.bytes
  below = rw is-now at kept

  as-long : length new ≡ length p.bytes
  as-long = rw is-now at same-long

  pub is-new : refill (length p.bytes) p.bytes new ≡ new
  is-new = refill-same (length p.bytes) p.bytes new refl as-long

  abbrev after : List ℕ → SegmentState
  after bytes = record { piece = record p { bytes = bytes }; used = r; group = g }

  pub live-grown : live_in (Some (after (refill (length p.bytes) p.bytes new))) ≡ live_in (Some old) + size
  live-grown =
      subst (λ h. live_in (Some (after (refill (length p.bytes) p.bytes new))) ≡ live_in (Some h) + size) is-old
      (ap (λ b. live_in (Some (after b))) is-new ∙ ap live_bytes added ∙ live-added (objects p.bytes used) used kind size)

  pub slot-same : slot_of (after (refill (length p.bytes) p.bytes new)) ≡ slot_of old
  slot-same =
      subst (λ h. slot_of (after (refill (length p.bytes) p.bytes new)) ≡ slot_of h) is-old
      (ap (λ n. record { piece = record (identity p) { length = n }; group = g }) (ap length is-new ∙ as-long))

  pub unused : standing_in (Some old) used ≡ None
  unused = subst (λ h. standing_in (Some h) used ≡ None) is-old (ap (option_map (standing g p.bytes)) (none-behind p.bytes 0 used used (objects p.bytes used) segment.objects (omega arith)))

  pub changed : ChangesIn used (Some (holding old.group kind content)) (Some old) (Some (record { piece = record p { bytes = refill (length p.bytes) p.bytes new }; used = r; group = g }))
  changed =
      subst (λ h. ChangesIn used (Some (holding h.group kind content)) (Some h) (Some (after (refill (length p.bytes) p.bytes new)))) is-old (subst (λ b. ChangesIn used (Some (holding g kind content)) (Some (record { piece = p; used = used; group = g })) (Some (after b))) (sym is-new)
      (record {
        here =
            ap (λ os. standing_among g new used os) added
            ∙ ap (option_map (standing g new)) (added-there (objects p.bytes used) (live used kind size) used refl (none-behind p.bytes 0 used used (objects p.bytes used) segment.objects (omega arith)))
            ∙ ap (λ c. let s : Standing = record { live = true; item = record { group = g; kind = kind; content = c } } in Some s) laid;
        others = λ a ne.
            ap (λ os. standing_among g new a os) added
            ∙ ap (option_map (standing g new)) (with-added (objects p.bytes used) (live used kind size) a (λ e. ne (sym e)))
            ∙ standing-below g p.bytes new 0 used a (objects p.bytes used) segment.objects below;
      }))
