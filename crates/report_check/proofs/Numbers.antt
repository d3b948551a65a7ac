-- The entries of a legal journal have the numbers of commands.
use Rattle.std.proofs.Common.{◌≡◌, ℕ, ◌-◌, ◌≤◌, ◌==◌, Bool, true, false, not, cond, List, [], ◌∷◌, length, take, Option, Some, None, arith, refl, sym, ap, subst, ◌∙◌}
use Rattle.std.specs.List.{All, find, last_or}
use Rattle.std.specs.Option.{IsSome, option_and_then, option_map}
use Rattle.std.proofs.lemmas.Bool.{and_parts, eqb-true}
use Rattle.std.proofs.lemmas.List.Elements.{All-cons, All-filter, All-head, All-nil, All-tail, All-take}
use Rattle.rows.specs.declared.kind.Kind.{Kind}
use Rattle.rows.specs.declared.kind.Kind.TheVariants as kinds
use Rattle.rows.specs.Apply.{apply, apply_kind, get_where, is_of, row_of, without}
use Rattle.rows.specs.Key.{Key}
use Rattle.rows.specs.Operation.{Operation}
use Rattle.rows.specs.Row.{Row, is_of_put}
use Rattle.trace_text.specs.Trace.{Trace, regions}
use Rattle.cache_model.specs.declared.entry.Entry.{Entry}
use Rattle.cache_model.specs.declared.entry.Entry.TheVariants.{Done, Evicted}
use Rattle.cache_model.specs.Legal.{IsLegal, cache_from, can_evict, command_of}
use Rattle.cache_lemmas.proofs.Along.{All-find}
use Rattle.part_lemmas.proofs.Cursors.Places.{IsNumbered}
use Rattle.report_check.proofs.Decoding.{IsOf}

-- a number of a command, of so many
abbrev IsNumber : ℕ → ℕ → Type 0
IsNumber count i = (1 ≤ i) × (i ≤ count)

abbrev AreStored : ℕ → List Row → Type 0
AreStored count rows = All (λ (row : Row). IsNumber count row.number) rows

-- ---- the rows of a cache have the numbers of their puts

without-stored : (count : ℕ) (key : Key) (rows : List Row) → AreStored count rows → AreStored count (without key rows)
without-stored count key rows all = All-filter (λ (row : Row). not (is_of key row)) (λ (row : Row). IsNumber count row.number) rows all

got-stored : (count : ℕ) (key : Key) (rows : List Row) (found : Option Row) → row_of key rows ≡ found → AreStored count rows → AreStored count (get_where found key rows).0
got-stored count key rows None is all = all
got-stored count key rows (Some row) is all =
    All-cons (λ (r : Row). IsNumber count r.number) row (without key rows) (All-find (λ (r : Row). IsNumber count r.number) (is_of key) rows row all is) (without-stored count key rows all)

kind-stored : (kind : Kind) (count : ℕ) (operation : Operation) (rows : List Row) → IsNumber count operation.number → AreStored count rows
    → AreStored count (apply_kind kind operation rows).0
kind-stored kinds.Put count operation rows of all =
    All-cons (λ (row : Row). IsNumber count row.number) (record { key = operation.key; value = operation.value; number = operation.number })
    (without operation.key rows) of (without-stored count operation.key rows all)
kind-stored kinds.Get count operation rows of all = got-stored count operation.key rows (row_of operation.key rows) refl all
kind-stored kinds.Erase count operation rows of all = without-stored count operation.key rows all
kind-stored kinds.Scan count operation rows of all = all

-- the last row is one of them
last-stored : (count q : ℕ) (rows : List Row) (o : Option Row) → ((row : Row) → o ≡ Some row → IsNumber count row.number) → AreStored count rows
    → is_of_put q (last_or o rows) ≡ true → IsNumber count q
last-stored count q [] None here all is = absurd (let clash : false ≡ true = is in cc)
last-stored count q [] (Some row) here all is = subst (IsNumber count) (eqb-true row.number q is) (here row refl)
last-stored count q (row ∷ rows) o here all is =
    last-stored count q rows (Some row)
    (λ other same. let one : row ≡ other = cc in subst (λ (r : Row). IsNumber count r.number) one (All-head (λ (r : Row). IsNumber count r.number) row rows all))
    (All-tail (λ (r : Row). IsNumber count r.number) row rows all) is

evicted-number : (count pages g q : ℕ) (rows : List Row) → AreStored count rows → can_evict pages g q rows ≡ true → IsNumber count q
evicted-number count pages g q rows all can =
    last-stored count q rows None (λ row e. absurd (let clash : None ≡ Some row = e in cc)) all (and_parts (is_of_put q (last_or None rows)) _ can).0

-- ---- along a journal

module _ (trace : Trace) (pages count : ℕ) (of : All (λ (operation : Operation). IsNumber count operation.number) trace.operations) where
  -- the operation that is found by a number has it
  named : (i : ℕ) (operation : Operation) → command_of trace i ≡ Some operation → (operation.number ≡ i) × IsNumber count operation.number
  named i operation is = (eqb-true operation.number i (passes trace.operations is), All-find (λ (o : Operation). IsNumber count o.number) (λ o. o.number == i) trace.operations operation of is)
    where
      here : (first : Operation) (later : Option Operation) → (later ≡ Some operation → (operation.number == i) ≡ true)
          → (b : Bool) → (first.number == i) ≡ b → cond b (Some first) later ≡ Some operation → (operation.number == i) ≡ true
      here first later others true test found = let same : first ≡ operation = cc in ap (λ (o : Operation). o.number == i) (sym same) ∙ test
      here first later others false test found = others found

      passes : (operations : List Operation) → find (λ (o : Operation). o.number == i) operations ≡ Some operation → (operation.number == i) ≡ true
      passes [] e = absurd (let clash : None ≡ Some operation = e in cc)
      passes (first ∷ operations) e = here first (find (λ (o : Operation). o.number == i) operations) (passes operations) (first.number == i) refl e

  pub numbers-of : (rows : List Row) (journal : List Entry) → AreStored count rows → IsSome (cache_from trace pages rows journal) → All (IsOf count) journal
  numbers-of rows [] all some = All-nil (IsOf count)
  numbers-of rows (Done i ∷ journal) all some = go (λ next. numbers-of next journal) (command_of trace i) refl some
    where
      go : ((next : List Row) → AreStored count next → IsSome (cache_from trace pages next journal) → All (IsOf count) journal)
          → (o : Option Operation) → command_of trace i ≡ o → IsSome (option_and_then (λ next. cache_from trace pages next journal) (option_map (λ operation. (apply operation rows).0) o))
          → All (IsOf count) (Done i ∷ journal)
      go later None is more = absurd (let clash : false ≡ true = more in cc)
      go later (Some operation) is more =
          let one = named i operation is in
          All-cons (IsOf count) (Done i) journal (subst (IsNumber count) one.0 one.1)
          (later (apply operation rows).0 (kind-stored operation.kind count operation rows one.1 all) more)
  numbers-of rows (Evicted q ∷ journal) all some = go (numbers-of (take (length rows - 1) rows) journal) (can_evict pages (regions trace) q rows) refl some
    where
      go : (AreStored count (take (length rows - 1) rows) → IsSome (cache_from trace pages (take (length rows - 1) rows) journal) → All (IsOf count) journal)
          → (b : Bool) → can_evict pages (regions trace) q rows ≡ b
          → IsSome (option_and_then (λ next. cache_from trace pages next journal) (cond b (Some (take (length rows - 1) rows)) None)) → All (IsOf count) (Evicted q ∷ journal)
      go later false is more = absurd (let clash : false ≡ true = more in cc)
      go later true is more =
          All-cons (IsOf count) (Evicted q) journal (evicted-number count pages (regions trace) q rows all is)
          (later (All-take (λ (row : Row). IsNumber count row.number) (length rows - 1) rows all) more)

  pub legal-numbers : (journal : List Entry) → IsLegal trace pages journal → All (IsOf count) journal
  legal-numbers journal legal = numbers-of [] journal (All-nil (λ (row : Row). IsNumber count row.number)) legal

-- commands are numbered from 1
pub commands-numbered : (trace : Trace) → IsNumbered trace.operations → All (λ (operation : Operation). IsNumber (length trace.operations) operation.number) trace.operations
commands-numbered trace are k d below = let is = are k d below in (omega (arith, is), omega (arith, is, below))
