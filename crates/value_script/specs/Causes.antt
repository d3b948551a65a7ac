-- How a cause is printed.
use Rattle.std.specs.Prelude.{ℕ, List, codes}
use Rattle.value_script.specs.declared.refusal.Cause.{Cause}
use Rattle.value_script.specs.declared.refusal.Cause.TheVariants.{TooManyCommands, UnknownWord, MissingField, Number, ExtraField, ValueLength, ValueByte}

abbrev pub cause_name : Cause → List ℕ
cause_name TooManyCommands = codes "TooManyCommands"
cause_name UnknownWord = codes "UnknownWord"
cause_name MissingField = codes "MissingField"
cause_name Number = codes "Number"
cause_name ExtraField = codes "ExtraField"
cause_name ValueLength = codes "ValueLength"
cause_name ValueByte = codes "ValueByte"
