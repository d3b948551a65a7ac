-- How a cause is printed.
use Rattle.std.specs.Prelude.{ℕ, List, codes}
use Rattle.trace_text.specs.declared.refusal.Cause.{Cause}
use Rattle.trace_text.specs.declared.refusal.Cause.TheVariants.{UnknownWord, MissingField, KeyLength, KeyByte, ValueLength, ValueByte, Count, ExtraField, TooManyCommands, Table, RepliesTooLarge}

abbrev pub cause_name : Cause → List ℕ
cause_name UnknownWord = codes "UnknownWord"
cause_name MissingField = codes "MissingField"
cause_name KeyLength = codes "KeyLength"
cause_name KeyByte = codes "KeyByte"
cause_name ValueLength = codes "ValueLength"
cause_name ValueByte = codes "ValueByte"
cause_name Count = codes "Count"
cause_name ExtraField = codes "ExtraField"
cause_name TooManyCommands = codes "TooManyCommands"
cause_name Table = codes "Table"
cause_name RepliesTooLarge = codes "RepliesTooLarge"
