-- The puts are flushed in order.
use Rattle.std.proofs.Common.{◌≡◌, ℕ, ◌+◌, Bool, true, false, cond, leb, List, [], ◌∷◌, ◌++◌, map, refl, sym, ap, ◌∙◌, append_assoc, append-nil}
use Rattle.std.specs.Prelude.{filter, Option, Some, None}
use Rattle.std.proofs.lemmas.List.Elements.{filter_map-append}
use Rattle.rows.specs.declared.kind.Kind.{Kind}
use Rattle.rows.specs.declared.kind.Kind.TheVariants.{Put, Get, Erase, Scan}
use Rattle.rows.specs.Operation.{Operation, is_put}
use Rattle.trace_text.specs.Trace.{Trace}
use Rattle.rows.specs.Row.{Row, live, size}
use Rattle.dirty_mode.specs.DirtyText.{Flushed, get_line, going, staying, row_of, lines_of, puts_after, lines_from}
use Rattle.dirty_mode.specs.FlushedPuts.{put_in, flushed, puts}
use Rattle.dirty_region.specs.Queues.{newest}

put_back : (rows : List Row) → flushed (map Flushed rows) ≡ rows
put_back [] = refl
put_back (row ∷ rows) = ap (λ l. row ∷ l) (put_back rows)

-- those that go, and then those that stay, are all
both_by : (b : Bool) (put : Row) (puts go stay : List Row) → go ++ stay ≡ puts → cond b [] (put ∷ go) ++ cond b (put ∷ puts) stay ≡ put ∷ puts
both_by true put puts go stay all = refl
both_by false put puts go stay all = ap (λ l. put ∷ l) all

both : (most bytes : ℕ) (rows : List Row) → going most bytes rows ++ staying most bytes rows ≡ rows
both most bytes [] = refl
both most bytes (put ∷ rows) = both_by (leb (live (put ∷ rows) + bytes) most) put rows (going most bytes rows) (staying most bytes rows) (both most bytes rows)

no_put : (number : ℕ) (value : Option (List ℕ)) → flushed (get_line number value ∷ []) ≡ []
no_put number None = refl
no_put number (Some value) = refl

-- the command's put, if it is one
abbrev put_of : Kind → Operation → List Row
put_of kind o = cond (is_put kind) (row_of o ∷ []) []

-- what a command flushes, and what is held behind it, is what was held and its put
step : (kind : Kind) (most : ℕ) (o : Operation) (rows : List Row) → flushed (lines_of kind most o rows) ++ puts_after kind most o rows ≡ rows ++ put_of kind o
step Put most o rows =
    ap (λ l. l ++ (staying most (size o.key.bytes o.value) rows ++ row_of o ∷ [])) (put_back (going most (size o.key.bytes o.value) rows))
    ∙ (sym (append_assoc (going most (size o.key.bytes o.value) rows) (staying most (size o.key.bytes o.value) rows) (row_of o ∷ []))
    ∙ ap (λ l. l ++ row_of o ∷ []) (both most (size o.key.bytes o.value) rows))
step Get most o rows = ap (λ l. l ++ rows) (no_put o.number (newest o.key.bytes rows)) ∙ sym (append-nil rows)
step Erase most o rows = sym (append-nil rows)
step Scan most o rows = sym (append-nil rows)

first_put : (b : Bool) (o : Operation) (rest : List Operation) → cond b (row_of o ∷ []) [] ++ map row_of rest ≡ map row_of (cond b (o ∷ rest) rest)
first_put true o rest = refl
first_put false o rest = refl

abbrev puts_of : List Operation → List Row
puts_of operations = map row_of (filter (λ (o : Operation). is_put o.kind) operations)

all_flushed : (most : ℕ) (operations : List Operation) (rows : List Row) → flushed (lines_from most operations rows) ≡ rows ++ puts_of operations
all_flushed most [] rows = put_back rows ∙ sym (append-nil rows)
all_flushed most (o ∷ operations) rows =
    filter_map-append put_in (lines_of o.kind most o rows) (lines_from most operations (puts_after o.kind most o rows))
    ∙ (ap (λ l. flushed (lines_of o.kind most o rows) ++ l) (all_flushed most operations (puts_after o.kind most o rows))
    ∙ (sym (append_assoc (flushed (lines_of o.kind most o rows)) (puts_after o.kind most o rows) (puts_of operations))
    ∙ (ap (λ l. l ++ puts_of operations) (step o.kind most o rows)
    ∙ (append_assoc rows (put_of o.kind o) (puts_of operations)
    ∙ ap (λ l. rows ++ l) (first_put (is_put o.kind) o (filter (λ (p : Operation). is_put p.kind) operations))))))

pub in_order : (most : ℕ) (trace : Trace) → flushed (lines_from most trace.operations []) ≡ puts trace
in_order most trace = all_flushed most trace.operations []
