-- Where commands go, as it is written down while a trace is read.
use Rattle.std.specs.Prelude.{◌≡◌, ℕ, ◌<◌, List, length, map, slice_index_or}
use Rattle.trace_text.specs.declared.command.Command.{Command}
use Rattle.rows.specs.declared.kind.Kind.{Kind}
use Rattle.trace_text.specs.declared.route.Route.{Route}
use Rattle.rows.specs.Operation.{Operation}
use Rattle.trace_text.specs.Operation.{operation, operations}
use Rattle.trace_text.specs.Parsed.{IsConsistent, Parsed}
use Rattle.trace_text.specs.Parts.{origin, owner}
use Rattle.trace_text.specs.inside.Found.{LiesAt}
use Rattle.trace_text.specs.inside.ShardCounts.{AreCountsBy}

-- of n shards: a command's kind, and the owner of its key
abbrev pub route_of : ℕ → Kind → List ℕ → Route
route_of n kind key = record { kind = kind; owner = owner key n }

abbrev pub route : ℕ → Operation → Route
route n operation = route_of n operation.kind operation.key.bytes

abbrev pub routes : ℕ → List Operation → List Route
routes n operations = map (route n) operations

-- a line that adds a command adds its route
abbrev pub AddsRoute : ℕ → List ℕ → ℕ → List Command → List Route → List Command → List Route → Type 0
AddsRoute n text start commands old more new = (bytes : List ℕ) → LiesAt bytes start text
    → old ≡ routes n (operations bytes commands) → new ≡ routes n (operations bytes more)

-- each command's route stands at its place
abbrev pub AreRoutedAt : List ℕ → List Command → ℕ → List Route → Type 0
AreRoutedAt bytes commands n where_to = (k : ℕ) (d : Command) (e : Route) → k < length where_to
    → slice_index_or where_to k e ≡ route n (operation bytes (slice_index_or commands k d))

-- the counts by the shard that owns the key, and by the one that issues the command, of n shards
abbrev pub AreOwned : ℕ → List Operation → List ℕ → Type 0
AreOwned n operations counts = AreCountsBy (λ operation. owner operation.key.bytes n) operations counts

abbrev pub AreIssued : ℕ → List Operation → List ℕ → Type 0
AreIssued n operations counts = AreCountsBy (λ operation. origin operation.number n) operations counts

-- a trace with the routes of its commands, and their counts
pub record IsRouted (trace : Parsed) (where_to : List Route) (owned issued : List ℕ) : Type 0 where
  pub consistent : IsConsistent trace
  pub routes_are : where_to ≡ routes trace.shards (operations trace.bytes trace.commands)
  pub owned_are : AreOwned trace.shards (operations trace.bytes trace.commands) owned
  pub issued_are : AreIssued trace.shards (operations trace.bytes trace.commands) issued
