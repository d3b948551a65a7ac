-- One step, and then another.
use Rattle.std.proofs.Common.{ℕ, List, Option, Some, None}
use Rattle.std.specs.Prelude.{IfSome}
use Rattle.regions.specs.Segments.{RegionState}
use Rattle.regions.specs.Contents.{live_at}
use Rattle.regions.specs.Stores.{Live, SameBut}
use Rattle.regions.specs.declared.place.Place.{Place}
use Rattle.fragments.specs.Fragment.{bare}
use Rattle.fragments.specs.Chains.{TableState}
use Rattle.fragments.specs.inside.Linking.{HoldsAFragment, LeadAround, LeadsBack, LeadsOn}
use Rattle.fragments.specs.inside.Setting.{Replaces, Sets, Writes}
use Rattle.fragments.proofs.Lives.{holds_too, same_live}

pub written_then_replaced : (t m u : TableState) (r q s : RegionState) (name : ℕ) (bytes : List ℕ) → Writes t m r q name bytes → Replaces m u q s name → Sets t u r s name bytes
written_then_replaced t m u r q s name bytes w d = record { tables = m; between = q; written = w; replaced = d }

pub led_around : (back next : Option Place) (to : Place) (old between new : Live) → LeadsOn back (Some to) old between → LeadsBack next (Some to) between new → LeadAround back next to old new
led_around back next to old between new on at = record { between = between; on = on; back_is = at }

pub holds_still : (o : Option Place) (r s : RegionState) → SameBut bare r s → IfSome o (λ q. HoldsAFragment (live_at r q)) → IfSome o (λ q. HoldsAFragment (live_at s q))
holds_still None r s same h = tt
holds_still (Some q) r s same h = holds_too (live_at r q) (live_at s q) (same_live r s same q) h
