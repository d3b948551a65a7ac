-- One entry more of a journal that is walked.
use Rattle.std.proofs.Common.{◌≡◌, ◌≢◌, ℕ, zero, suc, ◌<◌, ◌==◌, true, false, List, [], ◌∷◌, ◌++◌, length, map, take, slice_get, append_assoc, Some, None, arith, refl, sym, ap, ◌∙◌, inl, inr, ◌-◌}
use Rattle.std.specs.List.{filter}
use Rattle.std.specs.Option.{option_and_then}
use Rattle.std.proofs.lemmas.Bool.{cases_eq}
use Rattle.std.proofs.lemmas.Bool.Decides.{nat_tests}
use Rattle.std.proofs.lemmas.List.Elements.{filter-append}
use Rattle.rows.specs.Apply.{apply}
use Rattle.rows.specs.Operation.{Operation}
use Rattle.rows.specs.Row.{Row}
use Rattle.trace_text.specs.Parts.{origin, parts}
use Rattle.trace_text.specs.Trace.{Trace, regions}
use Rattle.cache_model.specs.declared.entry.Entry.{Entry}
use Rattle.cache_model.specs.declared.entry.Entry.TheVariants.{Done, Evicted}
use Rattle.cache_model.specs.Legal.{cache_after, can_evict, command_of, done, reply_at}
use Rattle.cache_model.specs.OwnParts.{part_reply}
use Rattle.cache_lemmas.proofs.Laws.{a_journal_goes_on-leads}
use Rattle.part_lemmas.specs.Exchange.{done_for}
use Rattle.part_lemmas.proofs.OwnParts.Growth.{done_for-evicted, done_for-more, done_for-other, reply-evicted, reply-other}
use Rattle.report_check.specs.Verdict.{is_sound}
use Rattle.report_check.proofs.Sound.{unsound-leads, unsound-parts}

-- ---- journals behind others

pub get-last : {X : Type 0} (xs : List X) (x : X) (k : ℕ) → k ≡ length xs → slice_get (xs ++ x ∷ []) k ≡ Some x
get-last [] x k is = rw is refl
get-last (y ∷ xs) x zero is = absurd (omega (arith, is))
get-last (y ∷ xs) x (suc k) is = get-last xs x k (omega (arith, is))

pub get-others : {X : Type 0} (xs : List X) (x y : X) (k : ℕ) → k ≢ length xs → slice_get (xs ++ x ∷ []) k ≡ slice_get (xs ++ y ∷ []) k
get-others [] x y zero other = absurd (other refl)
get-others [] x y (suc k) other = refl
get-others (z ∷ xs) x y zero other = refl
get-others (z ∷ xs) x y (suc k) other = get-others xs x y k (λ e. other (ap suc e))

module _ (trace : Trace) (pages : ℕ) (walked : List (List Entry)) where
  -- the reply to a part of the shard whose journal is the last
  pub reply-last : (entries : List Entry) (i s : ℕ) → s ≡ length walked → part_reply trace pages (walked ++ entries ∷ []) (i, s) ≡ reply_at trace pages entries i
  reply-last entries i s is = ap (option_and_then (λ journal. reply_at trace pages journal i)) (get-last walked entries s is)

  -- and of another
  pub reply-before : (entries entries' : List Entry) (i s : ℕ) → s ≢ length walked
      → part_reply trace pages (walked ++ entries' ∷ []) (i, s) ≡ part_reply trace pages (walked ++ entries ∷ []) (i, s)
  reply-before entries entries' i s other = ap (option_and_then (λ journal. reply_at trace pages journal i)) (get-others walked entries' entries s other)

  -- an eviction more leaves all replies
  pub reply-stays : (entries : List Entry) (q : ℕ) (part : ℕ × ℕ)
      → part_reply trace pages (walked ++ (entries ++ Evicted q ∷ []) ∷ []) part ≡ part_reply trace pages (walked ++ entries ∷ []) part
  reply-stays entries q (i, s) = elim (cases_eq s (length walked)) [
    | inl is ↦ reply-last (entries ++ Evicted q ∷ []) i s is ∙ reply-evicted trace pages entries (q ∷ []) i ∙ sym (reply-last entries i s is)
    | inr other ↦ reply-before entries (entries ++ Evicted q ∷ []) i s other
  ]

  -- a command that is done leaves the replies to the others
  pub reply-others : (entries : List Entry) (i j s : ℕ) → s ≡ length walked → j ≢ i
      → part_reply trace pages (walked ++ (entries ++ Done i ∷ []) ∷ []) (j, s) ≡ part_reply trace pages (walked ++ entries ∷ []) (j, s)
  reply-others entries i j s is other =
      reply-last (entries ++ Done i ∷ []) j s is ∙ reply-other trace pages entries [] i j other ∙ sym (reply-last entries j s is)

-- ---- where a journal leads with one entry more

module _ (trace : Trace) (pages : ℕ) (entries : List Entry) (rows : List Row) (leads : cache_after trace pages entries ≡ Some rows) where
  pub leads-evicted : (q : ℕ) → can_evict pages (regions trace) q rows ≡ true
      → cache_after trace pages (entries ++ Evicted q ∷ []) ≡ Some (take (length rows - 1) rows)
  leads-evicted q can = a_journal_goes_on-leads trace pages entries (Evicted q ∷ []) rows leads ∙ rw can refl

  pub leads-done : (i : ℕ) (operation : Operation) → command_of trace i ≡ Some operation
      → cache_after trace pages (entries ++ Done i ∷ []) ≡ Some (apply operation rows).0
  leads-done i operation command = a_journal_goes_on-leads trace pages entries (Done i ∷ []) rows leads ∙ rw command refl

  -- an eviction that may not be there
  pub leads-nowhere : (q : ℕ) (later : List Entry) → can_evict pages (regions trace) q rows ≡ false
      → cache_after trace pages (entries ++ Evicted q ∷ later) ≡ None
  leads-nowhere q later can = a_journal_goes_on-leads trace pages entries (Evicted q ∷ later) rows leads ∙ rw can refl

  pub unsound-evicted : (n s q : ℕ) (later : List Entry) → can_evict pages (regions trace) q rows ≡ false
      → is_sound trace n pages (s, entries ++ Evicted q ∷ later) ≡ false
  unsound-evicted n s q later can = unsound-leads trace n pages s (entries ++ Evicted q ∷ later) (leads-nowhere q later can)

-- ---- a command that is not the next of its origin

-- what is behind a common front
pub same-behind : (front xs ys : List ℕ) → front ++ xs ≡ front ++ ys → xs ≡ ys
same-behind [] xs ys e = e
same-behind (x ∷ front) xs ys e = same-behind front xs ys (let rest : front ++ xs ≡ front ++ ys = cc in rest)

first-same : (x : ℕ) (xs ys : List ℕ) (first : ℕ) (others : List ℕ) → x ∷ xs ≡ ys → ys ≡ first ∷ others → first ≡ x
first-same x xs ys first others e is = let both : x ∷ xs ≡ first ∷ others = e ∙ is in let same : x ≡ first = cc in sym same

done-behind : (n o i : ℕ) (entries later : List Entry) → origin i n ≡ o → done_for n o (entries ++ Done i ∷ later) ≡ done_for n o entries ++ (i ∷ done_for n o later)
done-behind n o i entries later is =
    let tested : (origin i n == o) ≡ true = ap (λ k. origin i n == k) (sym is) ∙ same-eqb (origin i n) in
    ap (filter (λ j. origin j n == o)) (done-append entries (Done i ∷ later))
    ∙ filter-append (λ j. origin j n == o) (done entries) (i ∷ done later)
    ∙ ap (λ list. done_for n o entries ++ list) (rw tested refl)
  where
    same-eqb : (k : ℕ) → (k == k) ≡ true
    same-eqb k = grind (arith, nat_tests)

    done-append : (xs ys : List Entry) → done (xs ++ ys) ≡ done xs ++ done ys
    done-append [] ys = refl
    done-append (Done j ∷ xs) ys = ap (λ list. j ∷ list) (done-append xs ys)
    done-append (Evicted q ∷ xs) ys = done-append xs ys

pub unsound-done : (trace : Trace) (n pages s o i : ℕ) (entries later : List Entry) (left : List Operation) → o < n → origin i n ≡ o
    → done_for n o entries ++ map (λ (operation : Operation). operation.number) left ≡ parts trace n o s
    → ((operation : Operation) (others : List Operation) → left ≡ operation ∷ others → operation.number ≢ i)
    → is_sound trace n pages (s, entries ++ Done i ∷ later) ≡ false
unsound-done trace n pages s o i entries later left below is passed other =
    unsound-parts trace n pages s (entries ++ Done i ∷ later) o below
    (λ e. go left refl (same-behind (done_for n o entries) (i ∷ done_for n o later) (map (λ (operation : Operation). operation.number) left)
    (sym (done-behind n o i entries later is) ∙ e ∙ sym passed)))
  where
    go : (list : List Operation) → left ≡ list → i ∷ done_for n o later ≡ map (λ (operation : Operation). operation.number) left → ⊥
    go [] none e = let clash : i ∷ done_for n o later ≡ [] = e ∙ ap (map (λ (operation : Operation). operation.number)) none in cc
    go (operation ∷ others) first e =
        other operation others first
        (first-same i (done_for n o later) (map (λ (x : Operation). x.number) left) operation.number (map (λ (x : Operation). x.number) others) e
        (ap (map (λ (x : Operation). x.number)) first))

-- ---- the parts of each origin that are left

pub passed-evicted : (trace : Trace) (n o s q : ℕ) (entries : List Entry) (numbers : List ℕ) → done_for n o entries ++ numbers ≡ parts trace n o s
    → done_for n o (entries ++ Evicted q ∷ []) ++ numbers ≡ parts trace n o s
passed-evicted trace n o s q entries numbers passed = ap (λ list. list ++ numbers) (done_for-evicted n o entries (q ∷ [])) ∙ passed

pub passed-done : (trace : Trace) (n o s i : ℕ) (entries : List Entry) (numbers : List ℕ) → origin i n ≡ o
    → done_for n o entries ++ (i ∷ numbers) ≡ parts trace n o s → done_for n o (entries ++ Done i ∷ []) ++ numbers ≡ parts trace n o s
passed-done trace n o s i entries numbers is passed =
    ap (λ list. list ++ numbers) (done_for-more n o entries [] i is) ∙ append_assoc (done_for n o entries) (i ∷ []) numbers ∙ passed

pub passed-other : (trace : Trace) (n o s i : ℕ) (entries : List Entry) (numbers : List ℕ) → origin i n ≢ o
    → done_for n o entries ++ numbers ≡ parts trace n o s → done_for n o (entries ++ Done i ∷ []) ++ numbers ≡ parts trace n o s
passed-other trace n o s i entries numbers other passed = ap (λ list. list ++ numbers) (done_for-other n o entries [] i other) ∙ passed
