-- A store that serves commands.
use Rattle.std.proofs.Common.{◌≡◌, ℕ, ◌+◌, ◌<◌, Ok, Err, List, ◌∷◌, ◌++◌, Bool, true, false, cond, ltb, length, drop, get_or, refl, sym, ap, ◌∙◌, arith, subst}
use Rattle.std.specs.Prelude.{Option, None, Some, slice_set}
use Rattle.std.proofs.lemmas.List.{drop_more, get_or-map, length-map, length-set}
use Rattle.regions.specs.Contents.{live_at}
use Rattle.regions.specs.Segments.{RegionState}
use Rattle.fragments.specs.Sizes.{size}
use Rattle.segmented_store.specs.Segments.{HoldsSegments}
use Rattle.fragments.specs.Store.{StoreState, read, values_of}
use Rattle.fragments.specs.Values.{Values, live}
use Rattle.value_script.specs.declared.command.Command.{Command}
use Rattle.value_script.specs.Order as asked
use Rattle.value_script.specs.Order.{Order}
use Rattle.value_script.specs.Commands.{order, orders}
use Rattle.text_lemmas.specs.Writing.{Output, Writes, Goes}
use Rattle.text_lemmas.proofs.Written.{Goes-next, Goes-stop}
use Rattle.values_mode.specs.Text as texts
use Rattle.values_mode.specs.Text.{Answer, answer_line, done, text_from}
use Rattle.values_mode.specs.Left.{values_after}
use Rattle.values_mode.specs.inside.Steps.{IsServing}

set_long : (full : Bool) (values : Values) (n : ℕ) (o : Option (List ℕ)) (x y : Answer) → length (cond {A = Values × Answer} full (values, x) (slice_set values n o, y)).0 ≡ length values
set_long true values n o x y = refl
set_long false values n o x y = length-set values n o

-- no command changes how many names there are
done_long : (room : ℕ) (values : Values) (o : Order) → length (done room values o).0 ≡ length values
done_long room values (asked.Set name value) =
    set_long (ltb room (live values + size (length value))) values name (Some value) texts.Full texts.WasSet
done_long room values (asked.Read name at count) = refl
done_long room values (asked.Drop name) = length-set values name None

long : (s : StoreState) → length (values_of s) ≡ length s.firsts
long s = length-map s.firsts (read (live_at s.region))

pub serving_kept : (s t : StoreState) (room : ℕ) (o : Order) → IsServing s → HoldsSegments s.region t.region → values_of t ≡ (done room (values_of s) o).0 → IsServing t
serving_kept s t room o serving holds values = record {
  many = sym (long t) ∙ ap length values ∙ done_long room (values_of s) o ∙ long s ∙ serving.many;
  held = (let h = serving.held in let e = holds.held in omega (arith, h, e));
  unguarded = holds.guards 0 ∙ serving.unguarded;
}

pub holds_then : (a b c : RegionState) → HoldsSegments a b → HoldsSegments b c → HoldsSegments a c
holds_then a b c p q = record {
  most = q.most ∙ p.most;
  groups = q.groups ∙ p.groups;
  pieces = q.pieces ∙ p.pieces;
  held = q.held ∙ p.held;
  guards = λ g. q.guards g ∙ p.guards g;
}

-- the next command, and those behind it
orders_next : (i : ℕ) (bytes : List ℕ) (commands : List Command) (d : Command) → i < length commands
    → drop i (orders bytes commands) ≡ order bytes (get_or commands i d) ∷ drop (i + 1) (orders bytes commands)
orders_next i bytes commands d within =
    let many : i < length (orders bytes commands) = rw (length-map commands (order bytes)) within in
    let here : get_or (orders bytes commands) i (order bytes d) ≡ order bytes (get_or commands i d) = get_or-map (order bytes) commands i d (order bytes d) within in
    drop_more (orders bytes commands) i (order bytes d) many ∙ ap (λ o. o ∷ drop (i + 1) (orders bytes commands)) here

-- the answer to the next command, and the text of those behind it
text_next : (room number i : ℕ) (values : Values) (bytes : List ℕ) (commands : List Command) (d : Command) → i < length commands
    → text_from room number values (drop i (orders bytes commands))
    ≡ answer_line number (done room values (order bytes (get_or commands i d))).1
    ++ text_from room (number + 1) (done room values (order bytes (get_or commands i d))).0 (drop (i + 1) (orders bytes commands))
text_next room number i values bytes commands d within = ap (text_from room number values) (orders_next i bytes commands d within)

-- the text of the commands that are left, of which those of a script are the same
module _ (room number i : ℕ) (values : Values) (bytes : List ℕ) (items commands : List Command) (same : items ≡ commands) (d : Command) (within : i < length items) where
  abbrev now_done : Values × Answer
  now_done = done room values (order bytes (get_or items i d))

  text_now : text_from room number values (drop i (orders bytes commands)) ≡ answer_line number now_done.1 ++ text_from room (number + 1) now_done.0 (drop (i + 1) (orders bytes commands))
  text_now =
      subst (λ cs. text_from room number values (drop i (orders bytes cs)) ≡ answer_line number now_done.1 ++ text_from room (number + 1) now_done.0 (drop (i + 1) (orders bytes cs))) same
      (text_next room number i values bytes items d within)

  -- the sink failed in the next answer
  pub answer_stops : {T E : Type 0} {e : E} {a b c : Output} {t : List ℕ} → Goes a b t (text_from room number values (drop i (orders bytes commands)))
      → Writes {T = T} {E = E} (Err e) b c (answer_line number now_done.1) → Writes {T = T} {E = E} (Err e) a c t
  answer_stops {a = a} {b = b} {t = t} gone wrote =
      Goes-stop (text_from room (number + 1) now_done.0 (drop (i + 1) (orders bytes commands))) (subst (Goes a b t) text_now gone) wrote

-- the next answer was written
pub answered : {T E : Type 0} {u : T} {a b c : Output} {t : List ℕ} (room number i : ℕ) (values later : Values) (bytes : List ℕ) (items commands : List Command)
    (same : items ≡ commands) (d : Command) (within : i < length items) → later ≡ (done room values (order bytes (get_or items i d))).0
    → Goes a b t (text_from room number values (drop i (orders bytes commands)))
    → Writes {T = T} {E = E} (Ok u) b c (answer_line number (done room values (order bytes (get_or items i d))).1)
    → Goes a c t (text_from room (number + 1) later (drop (i + 1) (orders bytes commands)))
answered {a = a} {b = b} {c = c} {t = t} room number i values later bytes items commands same d within is gone wrote =
    subst (λ v. Goes a c t (text_from room (number + 1) v (drop (i + 1) (orders bytes commands)))) (sym is)
    (Goes-next (subst (Goes a b t) (text_now room number i values bytes items commands same d within) gone) wrote)

-- what the next command makes of the values, and those behind it
pub values_next : (room i : ℕ) (values : Values) (bytes : List ℕ) (commands : List Command) (d : Command) → i < length commands
    → values_after room values (drop i (orders bytes commands))
    ≡ values_after room (done room values (order bytes (get_or commands i d))).0 (drop (i + 1) (orders bytes commands))
values_next room i values bytes commands d within = ap (values_after room values) (orders_next i bytes commands d within)
