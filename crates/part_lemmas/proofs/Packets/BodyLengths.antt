-- How long the body of a reply is that a message can carry, or that fits a command.
use Rattle.std.proofs.Common.{ℕ, ◌*◌, ◌<◌, ◌≤◌, ◌^◌, List, [], ◌∷◌, length, flat_map, arith}
use Rattle.std.specs.List.{All}
use Rattle.std.proofs.lemmas.List.{length-append}
use Rattle.std.proofs.lemmas.List.Elements.{All-head, All-tail}
use Rattle.rows.specs.declared.kind.Kind.TheVariants.{Put, Get, Erase, Scan}
use Rattle.rows.specs.declared.kind.Kind.{Kind}
use Rattle.rows.specs.Apply.{Reply, Stored, Replaced, Value, Missing, Erased, Keys}
use Rattle.rows.specs.Bodies.{most_of_kind}
use Rattle.rows.specs.Fits.{FitsKind}
use Rattle.rows.specs.Key.{Key}
use Rattle.rows.specs.Spelled.{IsKey, key_field, spelled}
use Rattle.shard_rings.specs.Reply.{IsSendable}

keys_length : (keys : List (List ℕ)) → All IsKey keys → length (flat_map key_field keys) ≤ 258 * length keys
keys_length [] all = omega arith
keys_length (key ∷ keys) all =
    let few = (All-head IsKey key keys all).short in
    let rest = keys_length keys (All-tail IsKey key keys all) in
    omega (arith, length-append (key_field key) (flat_map key_field keys), rest, few)

pub sendable_short : (reply : Reply) → IsSendable reply → length (spelled reply).1 < 2 ^ 32
sendable_short Stored sendable = omega arith
sendable_short Replaced sendable = omega arith
sendable_short (Value value) sendable = omega (arith, sendable)
sendable_short Missing sendable = omega arith
sendable_short Erased sendable = omega arith
sendable_short (Keys keys) sendable = let e = keys_length keys sendable.1 in let few = sendable.0 in omega (arith, e, few)

pub fits_short : (kind : Kind) (longest : ℕ) (key : Key) (count : ℕ) (reply : Reply) → FitsKind kind longest key count reply → length (spelled reply).1 ≤ most_of_kind kind longest count
fits_short Put longest key count Stored fits = omega arith
fits_short Put longest key count Replaced fits = omega arith
fits_short Put longest key count (Value value) fits = absurd fits
fits_short Put longest key count Missing fits = absurd fits
fits_short Put longest key count Erased fits = absurd fits
fits_short Put longest key count (Keys keys) fits = absurd fits
fits_short Get longest key count Stored fits = absurd fits
fits_short Get longest key count Replaced fits = absurd fits
fits_short Get longest key count (Value value) fits = fits
fits_short Get longest key count Missing fits = omega arith
fits_short Get longest key count Erased fits = absurd fits
fits_short Get longest key count (Keys keys) fits = absurd fits
fits_short Erase longest key count Stored fits = absurd fits
fits_short Erase longest key count Replaced fits = absurd fits
fits_short Erase longest key count (Value value) fits = absurd fits
fits_short Erase longest key count Missing fits = omega arith
fits_short Erase longest key count Erased fits = omega arith
fits_short Erase longest key count (Keys keys) fits = absurd fits
fits_short Scan longest key count Stored fits = absurd fits
fits_short Scan longest key count Replaced fits = absurd fits
fits_short Scan longest key count (Value value) fits = absurd fits
fits_short Scan longest key count Missing fits = absurd fits
fits_short Scan longest key count Erased fits = absurd fits
fits_short Scan longest key count (Keys keys) fits = let e = keys_length keys fits.lengths in let few = fits.few in omega (arith, e, few)
