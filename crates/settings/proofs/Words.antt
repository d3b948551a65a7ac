-- From what clap says of a parse to what the words ask.
use Rattle.std.proofs.Common.{◌≡◌, ◌∙◌, true, false, List, [], ◌∷◌, Option, None, arith, refl, sym, ap, inl, inr}
use Rattle.std.proofs.lemmas.Bool.Decides.{nat_tests}
use Rattle.clap.specs.Faults.{fault_of, is_simple_and_free}
use Rattle.clap.specs.Kinds.{HasKind, IsAmong, Kinds}
use Rattle.clap.specs.Simple.{App, HasMatchesOf, is_simple, matches_of}
use Rattle.clap.specs.Matches.{found_of}
use Rattle.clap.specs.Values.{kind_of}
use Rattle.clap.specs.Walk.{Text, is_empty, rows_of}
use Rattle.clap.specs.declared.error.Error.{Error}
use Rattle.clap.specs.declared.error.kind.ErrorKind.{ErrorKind}
use Rattle.clap.specs.declared.error.kind.ErrorKind.TheVariants.{OutOfMemory}
use Rattle.clap.specs.declared.parser.matches.ArgMatches.{ArgMatches}
use Rattle.settings.specs.Settings.{Settings, settings_in, command, settings}

simple : is_simple command ≡ true
unfolding command
simple = refl

simple_and_free : is_simple_and_free command ≡ true
unfolding command
simple_and_free = refl

-- what was found asks what the words ask
pub found_in : (app : App) (words : List Text) (matches : ArgMatches) (settled : Option Settings) → app ≡ command
    → HasMatchesOf app words matches → (is_simple_and_free app ≡ true → fault_of app words ≡ [])
    → settled ≡ settings_in (rows_of (found_of matches)) → settled ≡ settings words
unfolding settings
found_in app words matches settled is matched faultless seen =
    let none : fault_of command words ≡ [] = ap (λ (a : App). fault_of a words) (sym is) ∙ faultless (ap is_simple_and_free is ∙ simple_and_free) in
    let rows : rows_of (found_of matches) ≡ matches_of command words = (matched (ap is_simple is ∙ simple)).0 ∙ ap (λ (a : App). matches_of a words) is in
    seen ∙ ap settings_in rows ∙ rw none refl

-- a fault is one of those that the words have
among : (kind : ErrorKind) (kinds : Kinds) → IsAmong kind kinds → is_empty kinds ≡ false
among kind [] is = absurd is
among kind (first ∷ rest) is = grind (arith, nat_tests)

-- what is refused, and not for want of memory, asks nothing
pub refused_in : (app : App) (words : List Text) (error : Error) → app ≡ command → (is_simple_and_free app ≡ true → HasKind (fault_of app words) error)
    → (kind_of error ≡ OutOfMemory → ⊥) → settings words ≡ None
unfolding settings
refused_in app words error is faulty other =
    elim (faulty (ap is_simple_and_free is ∙ simple_and_free)) [
      | inl memory ↦ absurd (other memory)
      | inr fault ↦
          let some : is_empty (fault_of command words) ≡ false = ap (λ (a : App). is_empty (fault_of a words)) (sym is) ∙ among (kind_of error) (fault_of app words) fault in
          rw some refl
    ]
