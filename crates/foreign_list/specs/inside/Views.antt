-- What the seats at the table know, and what each step makes of it.
use Rattle.std.specs.Prelude.{◌≡◌, ℕ, suc, ◌+◌, true, false, List, [], ◌∷◌, Option, Some, None, slice_get, slice_set, replicate, sum_by}
use Rattle.layout.specs.Sizes as sizes
use denote.RawPtr.{null_ptr}
use Rattle.foreign_list.specs.declared.piece_id.PieceId.{PieceId}
use Rattle.foreign_list.specs.declared.views.Holder.{Holder}
use Rattle.foreign_list.specs.declared.views.Ledger.{Ledger}
use Rattle.foreign_list.specs.declared.views.View.{View}
use Rattle.foreign_list.specs.declared.views.View.TheVariants.{Owner, Pass, Spent}
use Rattle.foreign_list.specs.declared.views.Stage.{Stage}
use Rattle.foreign_list.specs.declared.views.Stage.TheVariants.{Carry}
use Rattle.foreign_list.specs.inside.Words.{same}

-- How often a ticket is idle, in the owner's hand, and in a pass.

abbrev pub none_there : Option (Option PieceId) → ℕ
none_there (Some None) = 1
none_there (Some (Some piece_id)) = 0
none_there None = 0

abbrev pub idle_times : ℕ → List (Option PieceId) → ℕ
idle_times t lent = none_there (slice_get lent t)

abbrev pub hand_times : ℕ → Option ℕ → ℕ
hand_times t (Some u) = same t u
hand_times t None = 0

abbrev pub pass_times : ℕ → View → ℕ
pass_times t (Owner ledger) = 0
pass_times t (Pass holder) = same t holder.ticket
pass_times t Spent = 0

-- What the views count, each in its own place.

abbrev pub changes_in : View → ℕ
changes_in (Owner ledger) = ledger.changes
changes_in (Pass holder) = 0
changes_in Spent = 1

abbrev pub lends_in : View → ℕ
lends_in (Owner ledger) = ledger.lends
lends_in (Pass holder) = 0
lends_in Spent = 0

abbrev pub owner_in : View → ℕ
owner_in (Owner ledger) = 1
owner_in (Pass holder) = 0
owner_in Spent = 0

abbrev pub spent_in : View → ℕ
spent_in (Owner ledger) = 0
spent_in (Pass holder) = 0
spent_in Spent = 1

-- how often the head was changed: by each pass that is spent, and by each take-whole that found a head other than none
abbrev pub changes_of : List View → ℕ
changes_of views = sum_by changes_in views

abbrev pub lends_of : List View → ℕ
lends_of views = sum_by lends_in views

-- The new views.

-- a pass with this ticket and this piece, which has seen no change
abbrev pub carry : ℕ → PieceId → Holder
carry t piece_id = record { stage = Carry; ticket = t; piece_id = piece_id; has_slot = false; seen = 0; met = 0 }

abbrev pub at_stage : Holder → Stage → Holder
at_stage e stage = record { stage = stage; ticket = e.ticket; piece_id = e.piece_id; has_slot = true; seen = e.seen; met = e.met }

-- a swing found this head, and is lost
abbrev pub sent_back : Holder → ℕ → Holder
sent_back e found = record { stage = Carry; ticket = e.ticket; piece_id = e.piece_id; has_slot = true; seen = suc e.seen; met = found }

abbrev pub idle_ledger : Ledger
idle_ledger = record { lent = replicate sizes.tickets None; walk = []; hand = None; lends = 0; take_wholes = 0; changes = 0 }

abbrev pub lent_out : ℕ → PieceId → Ledger → Ledger
lent_out t piece_id d = record { lent = slice_set d.lent t (Some piece_id); walk = d.walk; hand = d.hand; lends = suc d.lends; take_wholes = d.take_wholes; changes = d.changes }

-- 1 where there is a first ticket
abbrev pub some_first : List ℕ → ℕ
some_first [] = 0
some_first (t ∷ ts) = 1

abbrev pub took_whole : List ℕ → Ledger → Ledger
took_whole listed d = record { lent = d.lent; walk = listed; hand = d.hand; lends = d.lends; take_wholes = suc d.take_wholes; changes = d.changes + some_first listed }

abbrev pub walked : ℕ → List ℕ → Ledger → Ledger
walked t rest d = record { lent = d.lent; walk = rest; hand = Some t; lends = d.lends; take_wholes = d.take_wholes; changes = d.changes }

abbrev pub put_home : ℕ → Ledger → Ledger
put_home t d = record { lent = slice_set d.lent t None; walk = d.walk; hand = None; lends = d.lends; take_wholes = d.take_wholes; changes = d.changes }

-- What a view has, where it is of that kind.

abbrev pub no_piece : PieceId
no_piece = record { range = null_ptr; owner = 0; at = 0; len = 0 }

abbrev pub holder_of : View → Holder
holder_of (Owner ledger) = carry 0 no_piece
holder_of (Pass holder) = holder
holder_of Spent = carry 0 no_piece

abbrev pub ledger_of : View → Ledger
ledger_of (Owner ledger) = ledger
ledger_of (Pass holder) = idle_ledger
ledger_of Spent = idle_ledger

abbrev pub IsPass : View → Type 0
IsPass v = v ≡ Pass (holder_of v)

abbrev pub IsOwner : View → Type 0
IsOwner v = v ≡ Owner (ledger_of v)

-- the owner's view after it lends
abbrev pub lending : ℕ → PieceId → View → View
lending t piece_id (Owner ledger) = Owner (lent_out t piece_id ledger)
lending t piece_id (Pass holder) = Pass holder
lending t piece_id Spent = Spent
