-- With one shard nothing is joined.
use Rattle.std.proofs.Common.{Bool, List, Option, Some, [], ap, append-nil, arith, cond, eqb, false, filter, map, refl, sym, take, true, ℕ, ◌%◌, ◌++◌, ◌-◌, ◌∙◌, ◌∷◌, ◌≡◌}
use Rattle.std.proofs.lemmas.List.{take-take, take_all}
use Rattle.std.specs.List.{flat_map}
use Rattle.rows.specs.declared.kind.Kind.{Kind}
use Rattle.rows.specs.declared.kind.Kind.TheVariants as kinds
use Rattle.rows.specs.Apply.{Reply, Stored, Replaced, Value, Missing, Erased, Keys, apply, apply_kind, in_order, is_at_most, keys_in}
use Rattle.rows.specs.Fits.{AreFound, FitsKind}
use Rattle.rows.specs.Operation.{Operation, is_scan}
use Rattle.rows.specs.Row.{Row}
use Rattle.trace_text.specs.Parts.{hash, origin, owner}
use Rattle.trace_text.specs.Trace.{Trace}
use Rattle.cache_model.specs.declared.entry.Entry.{Entry}
use Rattle.cache_model.specs.OwnParts.{parts_of}
use Rattle.cache_model.specs.Legal.{command_of, reply_at}
use Rattle.cache_model.specs.Answer.{answer, answer_from, answer_kind, join}
use Rattle.cache_lemmas.proofs.Along.{replied}
use Rattle.cache_lemmas.proofs.RowLaws.{FirstStay, RisingStay}

mod-one : (n : ℕ) → n % 1 ≡ 0
mod-one n = omega arith

-- the reply of one shard to a scan, joined
joined_stays : FirstStay → (count : ℕ) (keys : List (List ℕ)) → join count (take count (in_order keys) ∷ []) ≡ take count (in_order keys)
joined_stays stay count keys = rw (append-nil (take count (in_order keys)), stay count keys) (take-take count count (in_order keys) (omega arith))

one_answer : FirstStay → (kind : Kind) (operation : Operation) (cache : List Row) → answer_kind kind 1 operation (Some (apply_kind kind operation cache).1 ∷ []) ≡ Some (apply_kind kind operation cache).1
one_answer stay kinds.Put operation cache = rw (mod-one (hash operation.key.bytes)) refl
one_answer stay kinds.Get operation cache = rw (mod-one (hash operation.key.bytes)) refl
one_answer stay kinds.Erase operation cache = rw (mod-one (hash operation.key.bytes)) refl
one_answer stay kinds.Scan operation cache =
    ap (λ keys. Some (Keys keys)) (joined_stays stay operation.count (filter (is_at_most operation.key.bytes) (keys_in operation.key.table cache)))

pub answer_is_reply : FirstStay → (trace : Trace) (pages : ℕ) (journal : List Entry) (operation : Operation) (reply : Reply)
    → command_of trace operation.number ≡ Some operation → reply_at trace pages journal operation.number ≡ Some reply
    → answer trace 1 pages (journal ∷ []) operation ≡ Some reply
answer_is_reply stay trace pages journal operation reply is e =
    let r = replied trace pages operation.number journal reply e in
    let same : r.operation ≡ operation = cc in
    let made : reply ≡ (apply operation r.cache).1 = r.is ∙ ap (λ (o : Operation). (apply o r.cache).1) same in
    ap (λ (o : Option Reply). answer_from 1 operation (o ∷ [])) (e ∙ ap Some made) ∙ one_answer stay operation.kind operation r.cache ∙ ap Some (sym made)

-- ---- a reply that fits

fitting_answer-keys : RisingStay → (operation : Operation) (keys : List (List ℕ)) → AreFound operation.key.bytes operation.count keys → answer_kind kinds.Scan 1 operation (Some (Keys keys) ∷ []) ≡ Some (Keys keys)
fitting_answer-keys rising operation keys found =
    ap (λ (list : List (List ℕ)). Some (Keys (take operation.count (in_order list)))) (append-nil keys)
    ∙ ap (λ (list : List (List ℕ)). Some (Keys (take operation.count list))) (rising keys found.rising)
    ∙ ap (λ (list : List (List ℕ)). Some (Keys list)) (take_all operation.count keys found.few)

pub fitting_answer : RisingStay → (kind : Kind) (longest : ℕ) (operation : Operation) (reply : Reply) → FitsKind kind longest operation.key operation.count reply → answer_kind kind 1 operation (Some reply ∷ []) ≡ Some reply
fitting_answer rising kinds.Put longest operation reply fits = rw (mod-one (hash operation.key.bytes)) refl
fitting_answer rising kinds.Get longest operation reply fits = rw (mod-one (hash operation.key.bytes)) refl
fitting_answer rising kinds.Erase longest operation reply fits = rw (mod-one (hash operation.key.bytes)) refl
fitting_answer rising kinds.Scan longest operation (Keys keys) fits = fitting_answer-keys rising operation keys fits
fitting_answer rising kinds.Scan longest operation Stored fits = absurd fits
fitting_answer rising kinds.Scan longest operation Replaced fits = absurd fits
fitting_answer rising kinds.Scan longest operation (Value value) fits = absurd fits
fitting_answer rising kinds.Scan longest operation Missing fits = absurd fits
fitting_answer rising kinds.Scan longest operation Erased fits = absurd fits

-- ---- one part of each command

one_part : (scan : Bool) (i owner : ℕ) → owner ≡ 0 → cond {A = List (ℕ × ℕ)} scan ((i, 0) ∷ []) ((i, owner) ∷ []) ≡ (i, 0) ∷ []
one_part true i owner is = refl
one_part false i owner is = rw is refl

pub one_part_of : (operation : Operation) → parts_of 1 operation ≡ (operation.number, 0) ∷ []
one_part_of operation = one_part (is_scan operation.kind) operation.number (owner operation.key.bytes 1) (mod-one (hash operation.key.bytes))

pub one_part_each : (operations : List Operation)
    → flat_map (parts_of 1) (filter (λ operation. eqb (origin operation.number 1) 0) operations) ≡ map (λ operation. (operation.number, 0)) operations
one_part_each [] = refl
one_part_each (operation ∷ operations) =
    let here : eqb (origin operation.number 1) 0 ≡ true = rw (mod-one (operation.number - 1)) refl in
    let part : parts_of 1 operation ≡ (operation.number, 0) ∷ [] = one_part_of operation in
    rw here (ap (λ front. front ++ flat_map (parts_of 1) (filter (λ x. eqb (origin x.number 1) 0) operations)) part ∙ ap (λ rest. (operation.number, 0) ∷ rest) (one_part_each operations))
