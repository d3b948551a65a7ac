-- The version of a trace, and what stands behind the line that says it.
use Rattle.std.proofs.Common.{◌≡◌, ◌≢◌, ℕ, ◌+◌, ◌-◌, ◌≤◌, Bool, true, false, cond, eqb, bytes_eq, codes, List, [], ◌∷◌, length, drop, length-drop, slice_get, position, Option, Some, None, arith, refl, subst, sym, ap, ◌∙◌}
use Rattle.std.proofs.lemmas.List.{drop_all}
use Rattle.trace_text.specs.Line.{cut_at, cut_where}
use Rattle.trace_text.specs.Reading.{command_lines, is_two, lines, lines_from, operations_of, strip_cr, version_in}
use Rattle.trace_text.specs.inside.Found.{IsRestOf}
use Rattle.trace_text.specs.inside.Version.{Begins, reading_in}
use Rattle.trace_text.proofs.Cuts.{lines_cut, tail_lines}

-- what the first line says, which stands before the first LF
first_says : (bytes line : List ℕ) (behind : Option (List ℕ)) → (line, behind) ≡ cut_at 10 bytes
    → lines bytes ≡ strip_cr line ∷ tail_lines behind
first_says bytes line behind parts =
    lines_cut bytes ∙ ap (λ (p : List ℕ × Option (List ℕ)). strip_cr p.0 ∷ tail_lines p.1) (sym parts)

pub version_said : (bytes line : List ℕ) (behind : Option (List ℕ)) (said : Bool) → (line, behind) ≡ cut_at 10 bytes
    → bytes_eq (strip_cr line) (codes "version 2") ≡ said → version_in bytes ≡ cond said 2 1
version_said bytes line behind said parts says =
    ap (λ texts. cond (is_two (slice_get texts 0)) 2 1) (first_says bytes line behind parts) ∙ ap (λ b. cond b 2 1) says

-- a trace of version 1 begins with its first line
pub begins_one : (bytes : List ℕ) (version : ℕ) → version ≡ version_in bytes → version ≡ 1 → Begins bytes version bytes
begins_one bytes version is one =
    let none : length bytes - length bytes ≡ 0 = omega arith in
    record {
      version_is = is;
      is_rest = (omega arith, rw none refl);
      counted = omega (arith, one);
      lines_are = rw one refl;
    }

-- of version 2 is one whose first line says so, and so it has a byte
says : (b : Bool) (version : ℕ) → version ≡ cond b 2 1 → version ≢ 1 → b ≡ true
says true version is other = refl
says false version is other = absurd (other is)

has_byte : (bytes : List ℕ) → is_two (slice_get (lines bytes) 0) ≡ true → 1 ≤ length bytes
has_byte [] e = let never : false ≡ true = e in cc
has_byte (b ∷ bytes) e = omega arith

-- what stands behind a cut, or else the end
abbrev rest_of : Option (List ℕ) → List ℕ
rest_of None = []
rest_of (Some rest) = rest

rest_shorter : (bytes : List ℕ) (o : Option ℕ) → 1 ≤ length bytes → length (rest_of (cut_where o bytes).1) + 1 ≤ length bytes
rest_shorter bytes None some = some
rest_shorter bytes (Some i) some = let short : length (drop (i + 1) bytes) + 1 ≤ length bytes = rw length-drop (omega (arith, some)) in short

-- behind the last line there is an empty one, which is passed over
tails : (behind : Option (List ℕ)) → lines_from 2 (tail_lines behind) ≡ lines_from 2 (lines (rest_of behind))
tails None = refl
tails (Some rest) = refl

begins_behind : (bytes line : List ℕ) (behind : Option (List ℕ)) (version : ℕ) → (line, behind) ≡ cut_at 10 bytes
    → version ≡ version_in bytes → version ≢ 1 → IsRestOf bytes (rest_of behind) → Begins bytes version (rest_of behind)
begins_behind bytes line behind version parts is other is_rest =
    let said : is_two (slice_get (lines bytes) 0) ≡ true = says (is_two (slice_get (lines bytes) 0)) version is other in
    let two : version ≡ 2 = is ∙ ap (λ b. cond b 2 1) said in
    let short : length (rest_of behind) + 1 ≤ length bytes =
    subst (λ (o : Option (List ℕ)). length (rest_of o) + 1 ≤ length bytes)
    (sym (ap (λ (p : List ℕ × Option (List ℕ)). p.1) parts))
    (rest_shorter bytes (position (λ b. eqb b 10) bytes) (has_byte bytes said)) in
    record {
      version_is = is;
      is_rest = is_rest;
      counted = omega (arith, two, short);
      lines_are = rw two (ap (command_lines 2) (first_says bytes line behind parts) ∙ tails behind);
    }

-- the line that says the version is the last one, or others stand behind it
pub begins_end : (bytes line : List ℕ) (version : ℕ) → (line, None) ≡ cut_at 10 bytes → version ≡ version_in bytes → version ≢ 1
    → Begins bytes version []
begins_end bytes line version parts is other =
    let all : drop (length bytes - 0) bytes ≡ [] = drop_all (length bytes - 0) bytes (omega arith) in
    let none : 0 ≤ length bytes = omega arith in
    begins_behind bytes line None version parts is other (none, all)

pub begins_rest : (bytes line rest : List ℕ) (version : ℕ) → (line, Some rest) ≡ cut_at 10 bytes → version ≡ version_in bytes → version ≢ 1
    → IsRestOf bytes rest → Begins bytes version rest
begins_rest bytes line rest version parts is other is_rest = begins_behind bytes line (Some rest) version parts is other is_rest

-- what the lines behind it are read to be is what the trace is
pub begins_lines : (bytes behind : List ℕ) (version : ℕ) → Begins bytes version behind
    → command_lines (version_in bytes) (lines bytes) ≡ lines_from version (lines behind)
begins_lines bytes behind version begins = ap (λ v. command_lines v (lines bytes)) (sym begins.version_is) ∙ begins.lines_are

pub begins_read : (bytes behind : List ℕ) (version : ℕ) → Begins bytes version behind
    → reading_in bytes ≡ operations_of version 1 (lines_from version (lines behind))
begins_read bytes behind version begins =
    ap (λ v. operations_of v 1 (command_lines v (lines bytes))) (sym begins.version_is) ∙ ap (operations_of version 1) begins.lines_are
