-- The commands of a trace, one after the other.
use Rattle.std.proofs.Common.{◌≡◌, ℕ, suc, ◌+◌, ◌<◌, ◌≤◌, Bool, true, false, true≢false, cond, leb, List, [], ◌∷◌, ◌++◌, length, drop, map, take, get_or, Option, Some, None, Result, Ok, Err, refl, sym, ap, ◌∙◌, subst, arith, append_assoc}
use Rattle.std.specs.Prelude.{All, ◌↔◌, IfOk, IfErr, IsErr, OnOk, decimal, codes}
use Rattle.std.proofs.lemmas.Bool.{lt-leb, leb-false}
use Rattle.std.specs.Ordering.{is_le}
use Rattle.std.proofs.lemmas.List.Folds.{flat_map-map}
use Rattle.std.proofs.lemmas.List.Elements.{All-filter, All-get_or, All-map, All-take, All-weaker}
use Rattle.std.proofs.lemmas.List.{get_or-map, length-map, drop-map, drop_more, drop_all}
use Rattle.trace_text.specs.declared.command.Command.{Command}
use Rattle.rows.specs.declared.kind.Kind.TheVariants.{Put}
use Rattle.rows.specs.Operation.{Operation}
use Rattle.trace_text.specs.Operation.{operation, operations}
use Rattle.trace_text.specs.Parsed.{IsWellFormed}
use Rattle.regions.specs.Segments.{RegionState}
use Rattle.index_tree.specs.Sizes.{most}
use Rattle.index_mode.specs.inside.Held.{IsServing}
use Rattle.segmented_store.specs.Segments.{HoldsSegments}
use Rattle.index_tree.specs.Store.{IndexState, index_in}
use Rattle.rows.specs.KeyBody.{AreKeys}
use Rattle.rows.specs.Spelled.{key_field, IsKey}
use Rattle.tree_nodes.specs.Nodes.{Entry, IsEntry}
use Rattle.tree_nodes.specs.Order.{key_cmp}
use Rattle.index_tree.specs.Indexes.{Index, from, number_of, with_number}
use Rattle.index_tree.specs.Scans.{scanned}
use Rattle.index_mode.specs.IndexText.{Answer, put, scanned_keys, put_answer, done, answer_line, index_after, text_from, last_line}
use Rattle.text_lemmas.specs.Writing.{Output, Writes, Goes}
use Rattle.index_mode.proofs.Keys.{key_text}
use Rattle.text_lemmas.proofs.Written.{Goes-next, Goes-stop}

-- ---- lines

pub at_line : (number at : ℕ) → (decimal number ++ codes " at ") ++ (decimal at ++ codes "\n") ≡ answer_line number (Answer.At at)
at_line number at =
    sym (append_assoc (decimal number ++ codes " at ") (decimal at) (codes "\n"))
    ∙ ap (λ l. l ++ codes "\n") (append_assoc (decimal number) (codes " at ") (decimal at) ∙ sym (append_assoc (decimal number) (codes " ") (codes "at " ++ decimal at)))

pub keys_line : (number : ℕ) (keys : List (List ℕ)) → ((decimal number ++ codes " keys") ++ key_text keys) ++ codes "\n" ≡ answer_line number (Answer.Keys keys)
keys_line number keys =
    ap (λ l. l ++ codes "\n") (append_assoc (decimal number) (codes " keys") (key_text keys) ∙ sym (append_assoc (decimal number) (codes " ") (codes "keys" ++ key_text keys)))

-- ---- a scan

-- what a scan wrote is a body of its keys
pub keys_are : (o : Operation) (index : Index) (body : List ℕ) → All IsEntry index → body ≡ scanned o.key.bytes o.count index → AreKeys body (scanned_keys o index)
keys_are o index body all is =
    let chosen : List Entry = take o.count (from o.key.bytes index) in
    record {
      spelled = is ∙ sym (flat_map-map key_field (λ (e : Entry). e.key) chosen);
      lengths = All-map IsKey (λ (e : Entry). e.key) chosen (All-weaker IsEntry (λ (e : Entry). IsKey e.key) (λ e h. record { some = h.some_key; short = h.short_key }) chosen
          (All-take IsEntry o.count (from o.key.bytes index) (All-filter (λ (e : Entry). is_le (key_cmp o.key.bytes e.key)) IsEntry index all)));
    }

-- ---- a put

-- an insertion that was done, or had no room, is what the definition says
pub put_is : {E : Type 0} (r : Result (Option ℕ) E) (bound : ℕ) (o : Operation) (old new : Index)
    → IsErr r ↔ ((number_of o.key.bytes old ≡ None) × (bound ≤ length old)) → IfErr r (λ _. new ≡ old)
    → IfOk r (λ had. had ≡ number_of o.key.bytes old) → IfOk r (λ _. new ≡ with_number o.key.bytes o.number old)
    → (new ≡ (put bound o old (number_of o.key.bytes old)).0) × (put_answer r ≡ (put bound o old (number_of o.key.bytes old)).1)
put_is (Err e) bound o old new full same had is =
    let why = full.0 refl in
    let past = lt-leb (suc (length old)) bound (let many = why.1 in omega (arith, many)) in
    let e : put bound o old (number_of o.key.bytes old) ≡ (old, Answer.Full) = ap (put bound o old) why.0 ∙ ap (λ b. cond b (with_number o.key.bytes o.number old, Answer.Stored) (old, Answer.Full)) past in
    (same ∙ sym (ap (λ (x : Index × Answer). x.0) e), sym (ap (λ (x : Index × Answer). x.1) e))
put_is (Ok (Some n)) bound o old new full same had is =
    let e : put bound o old (number_of o.key.bytes old) ≡ (with_number o.key.bytes o.number old, Answer.Replaced) = ap (put bound o old) (sym had) in
    (is ∙ sym (ap (λ (x : Index × Answer). x.0) e), sym (ap (λ (x : Index × Answer). x.1) e))
put_is (Ok None) bound o old new full same had is = by_room (leb (suc (length old)) bound) refl where
  by_room : (b : Bool) → leb (suc (length old)) bound ≡ b
      → (new ≡ (put bound o old (number_of o.key.bytes old)).0) × (Answer.Stored ≡ (put bound o old (number_of o.key.bytes old)).1)
  by_room true low =
      let e : put bound o old (number_of o.key.bytes old) ≡ (with_number o.key.bytes o.number old, Answer.Stored) = ap (put bound o old) (sym had) ∙ ap (λ b. cond b (with_number o.key.bytes o.number old, Answer.Stored) (old, Answer.Full)) low in
      (is ∙ sym (ap (λ (x : Index × Answer). x.0) e), sym (ap (λ (x : Index × Answer). x.1) e))
  by_room false past = absurd (true≢false (sym (full.1 (sym had, let far = leb-false (suc (length old)) bound past in omega (arith, far)))))

-- the same of a key that is the command's
pub put_at : {E : Type 0} (r : Result (Option ℕ) E) (bound : ℕ) (o : Operation) (old new : Index) (key : List ℕ) → key ≡ o.key.bytes
    → IsErr r ↔ ((number_of key old ≡ None) × (bound ≤ length old)) → IfErr r (λ _. new ≡ old)
    → IfOk r (λ had. had ≡ number_of key old) → IfOk r (λ _. new ≡ with_number key o.number old)
    → (new ≡ (put bound o old (number_of o.key.bytes old)).0) × (put_answer r ≡ (put bound o old (number_of o.key.bytes old)).1)
put_at r bound o old new key e full same had is =
    put_is r bound o old new (subst (λ k. IsErr r ↔ ((number_of k old ≡ None) × (bound ≤ length old))) e full) same
    (subst (λ k. IfOk r (λ had. had ≡ number_of k old)) e had) (subst (λ k. IfOk r (λ _. new ≡ with_number k o.number old)) e is)

-- where nothing changed, the index is as it was
pub same_index : {T E : Type 0} (r : Result T E) (old new : IndexState) → IfErr r (λ _. new ≡ old) → IfErr r (λ _. index_in new ≡ index_in old)
same_index (Ok v) old new same = tt
same_index (Err e) old new same = ap index_in same

-- ---- the list of commands

-- what stands where there is no command
abbrev pub none : Command
none = record { number = 0; line = 0; kind = Put; table = 0; key = record { start = 0; len = 0 }; value = record { start = 0; len = 0 }; count = 0 }

-- the commands that are gone over are those of a trace, and there is another one
module _ (bytes : List ℕ) (items commands : List Command) (same : items ≡ commands) (i : ℕ) (low : i < length items) where
  abbrev now : Command
  now = get_or items i none

  -- what is left begins with the command at hand
  left_now : drop i (operations bytes commands) ≡ operation bytes now ∷ drop (i + 1) (operations bytes commands)
  left_now = subst (λ cs. drop i (operations bytes cs) ≡ operation bytes now ∷ drop (i + 1) (operations bytes cs)) same (
      drop-map (operation bytes) i items
      ∙ (ap (map (operation bytes)) (drop_more items i none low) ∙ ap (λ os. operation bytes now ∷ os) (sym (drop-map (operation bytes) (i + 1) items))))

  abbrev now_done : ℕ → Index → Index × Answer
  now_done bound index = done now.kind bound (operation bytes now) index

  -- it is well formed
  pub well_formed_now : All IsWellFormed (operations bytes commands) → IsWellFormed (operation bytes now)
  well_formed_now all =
      let each : All IsWellFormed (map (operation bytes) items) = subst (λ cs. All IsWellFormed (operations bytes cs)) (sym same) all in
      subst IsWellFormed (get_or-map (operation bytes) items i none (operation bytes none) low)
      (All-get_or IsWellFormed (map (operation bytes) items) i (operation bytes none) (let long = length-map items (operation bytes) in omega (arith, low, long)) each)

  -- with another name for the most keys
  pub index_by : (h k : ℕ) (index later : Index) → h ≡ k → later ≡ (now_done (most h) index).0 → later ≡ (now_done (most k) index).0
  index_by h k index later e is = is ∙ ap (λ n. (now_done (most n) index).0) e

  pub line_by : (h k : ℕ) (index : Index) → h ≡ k → answer_line now.number (now_done (most h) index).1 ≡ answer_line now.number (now_done (most k) index).1
  line_by h k index e = ap (λ n. answer_line now.number (now_done (most n) index).1) e

  text_now : (bound : ℕ) (index : Index) → text_from bound index (drop i (operations bytes commands))
      ≡ answer_line now.number (now_done bound index).1 ++ text_from bound (now_done bound index).0 (drop (i + 1) (operations bytes commands))
  text_now bound index = ap (text_from bound index) left_now

  -- the index behind the commands that are left is the same
  pub behind_next : (bound : ℕ) (index later : Index) → later ≡ (now_done bound index).0
      → index_after bound later (drop (i + 1) (operations bytes commands)) ≡ index_after bound index (drop i (operations bytes commands))
  behind_next bound index later is =
      ap (λ (x : Index). index_after bound x (drop (i + 1) (operations bytes commands))) is ∙ sym (ap (index_after bound index) left_now)

  pub command_next : {T E : Type 0} {u : T} {a b c : Output} {t : List ℕ} (bound : ℕ) (index later : Index) → later ≡ (now_done bound index).0
      → Goes a b t (text_from bound index (drop i (operations bytes commands)))
      → Writes {T = T} {E = E} (Ok u) b c (answer_line now.number (now_done bound index).1)
      → Goes a c t (text_from bound later (drop (i + 1) (operations bytes commands)))
  command_next {a = a} {b = b} {c = c} {t = t} bound index later is gone wrote =
      subst (λ x. Goes a c t (text_from bound x (drop (i + 1) (operations bytes commands)))) (sym is)
      (Goes-next (subst (Goes a b t) (text_now bound index) gone) wrote)

  pub command_stop : {T E : Type 0} {e : E} {a b c : Output} {t : List ℕ} (bound : ℕ) (index : Index)
      → Goes a b t (text_from bound index (drop i (operations bytes commands)))
      → Writes {T = T} {E = E} (Err e) b c (answer_line now.number (now_done bound index).1)
      → Writes {T = T} {E = E} (Err e) a c t
  command_stop {a = a} {b = b} {t = t} bound index gone wrote =
      Goes-stop (text_from bound (now_done bound index).0 (drop (i + 1) (operations bytes commands))) (subst (Goes a b t) (text_now bound index) gone) wrote

-- ---- what stays

pub segments_then : {a b c : RegionState} → HoldsSegments a b → HoldsSegments b c → HoldsSegments a c
segments_then p q = record {
  most = q.most ∙ p.most;
  groups = q.groups ∙ p.groups;
  pieces = q.pieces ∙ p.pieces;
  held = q.held ∙ p.held;
  guards = λ g. q.guards g ∙ p.guards g;
}

pub served_still : {a b : IndexState} → IsServing a → HoldsSegments a.region b.region → IsServing b
served_still p q = record { held = (let held = q.held in let before = p.held in omega (arith, held, before)); unguarded = q.guards 0 ∙ p.unguarded }

-- at the end no command is left
none_left : (bytes : List ℕ) (items commands : List Command) (i : ℕ) → items ≡ commands → length items ≤ i → drop i (operations bytes commands) ≡ []
none_left bytes items commands i same past = drop-map (operation bytes) i commands ∙ ap (map (operation bytes)) (ap (drop i) (sym same) ∙ drop_all i items past)

-- but the last line
pub text_end : {a b : Output} {t : List ℕ} (bytes : List ℕ) (items commands : List Command) (bound i : ℕ) (index : Index) → items ≡ commands → length items ≤ i
    → Goes a b t (text_from bound index (drop i (operations bytes commands))) → Goes a b t (last_line index)
text_end {a} {b} {t} bytes items commands bound i index same past gone =
    subst (λ os. Goes a b t (text_from bound index os)) (none_left bytes items commands i same past) gone

pub behind_end : (bytes : List ℕ) (items commands : List Command) (bound i : ℕ) (index : Index) → items ≡ commands → length items ≤ i
    → index_after bound index (drop i (operations bytes commands)) ≡ index
behind_end bytes items commands bound i index same past = ap (index_after bound index) (none_left bytes items commands i same past)

-- what holds in any case holds where a result is Ok
pub where_ok : {T E P : Type 0} (r : Result T E) → P → OnOk r P
where_ok (Ok v) p = p
where_ok (Err e) p = tt
