-- Replies without a body.
use Rattle.rows.specs.Apply.{Reply, Stored, Replaced, Value, Missing, Erased, Keys}

abbrev pub IsBare : Reply → Type 0
IsBare Stored = Unit {0}
IsBare Replaced = Unit {0}
IsBare Missing = Unit {0}
IsBare Erased = Unit {0}
IsBare (Value value) = ⊥
IsBare (Keys keys) = ⊥
