-- Replies of the parts of commands, and evictions.
use Rattle.std.proofs.Common.{◌≡◌, ℕ, ◌≤◌, ◌<◌, ◌==◌, ◌&&◌, nat_lt, Bool, true, false, List, [], ◌++◌, Option, Some, None, Result, Ok, Err, refl, sym, ap, subst, ◌∙◌, append-nil}
use Rattle.std.specs.List.{flat_map}
use Rattle.std.specs.Result.{IfOk}
use Rattle.std.proofs.lemmas.Bool.{eqb-true, le-ltb, lt-ltb}
use Rattle.rows.specs.Apply.{Reply, apply, apply_kind, erase, get_where, put, Keys, Missing}
use Rattle.rows.specs.Key.{Key, in_table}
use Rattle.rows.specs.Row.{Row, is_of_put}
use Rattle.rows.specs.Spelled.{key_field, spelled, with_body}
use Rattle.rows.specs.declared.kind.Kind.{Kind}
use Rattle.rows.specs.declared.kind.Kind.TheVariants as asked
use Rattle.rows.specs.declared.reply_kind.ReplyKind.{ReplyKind}
use Rattle.rows.specs.declared.reply_kind.ReplyKind.TheVariants as kinds
use Rattle.trace_text.specs.declared.command.Command.{Command}
use Rattle.trace_text.specs.Operation.{operation, part}

-- a reply without a body
pub no-body : (front : List ℕ) (kind : ReplyKind) (reply : Reply) → (kind, []) ≡ spelled reply → (kind, front) ≡ with_body front (spelled reply)
no-body front kind reply is = ap (λ (b : List ℕ). (kind, b)) (sym (append-nil front)) ∙ ap (with_body front) is

pub no-bodies : {E : Type 0} (front : List ℕ) (reply : Reply) (r : Result ReplyKind E) → IfOk r (λ kind. (kind, []) ≡ spelled reply)
    → IfOk r (λ kind. (kind, front) ≡ with_body front (spelled reply))
no-bodies front reply (Ok kind) is = no-body front kind reply is
no-bodies front reply (Err e) is = tt

-- the row of a key was found, or none was
pub got-some : {E : Type 0} (key : Key) (rows : List Row) (found : Option Row) (row : Row) (value before after : List ℕ) (r : Result ReplyKind E) → found ≡ Some row → value ≡ row.value
    → IfOk r (λ kind. ◌≡◌ {A = ReplyKind × List ℕ} (kind, after) (kinds.Value, before ++ value))
    → IfOk r (λ kind. (kind, after) ≡ with_body before (spelled (get_where found key rows).1))
got-some key rows found row value before after r is same told =
    subst (λ (o : Option Row). IfOk r (λ kind. (kind, after) ≡ with_body before (spelled (get_where o key rows).1))) (sym is)
    (subst (λ (v : List ℕ). IfOk r (λ kind. ◌≡◌ {A = ReplyKind × List ℕ} (kind, after) (kinds.Value, before ++ v))) same told)

pub got-none : (key : Key) (rows : List Row) (found : Option Row) (front : List ℕ) → found ≡ None
    → (kinds.Missing, front) ≡ with_body front (spelled (get_where found key rows).1)
got-none key rows found front is = rw is (no-body front kinds.Missing Missing refl)

-- the keys that were found, each behind its length
pub found-keys : {E : Type 0} (keys : List (List ℕ)) (bytes before after : List ℕ) (r : Result ReplyKind E) → bytes ≡ flat_map key_field keys
    → IfOk r (λ kind. ◌≡◌ {A = ReplyKind × List ℕ} (kind, after) (kinds.Keys, before ++ bytes)) → IfOk r (λ kind. (kind, after) ≡ with_body before (spelled (Keys keys)))
found-keys keys bytes before after r is told = subst (λ (b : List ℕ). IfOk r (λ kind. ◌≡◌ {A = ReplyKind × List ℕ} (kind, after) (kinds.Keys, before ++ b))) is told

-- a command of a trace is a put, or an erase
module _ (front bytes : List ℕ) (command : Command) (rows : List Row) (key : List ℕ) (key-is : key ≡ part bytes command.key) where
  pub put-replied : {E : Type 0} (value : List ℕ) (r : Result ReplyKind E) → command.kind ≡ asked.Put → value ≡ part bytes command.value
      → IfOk r (λ kind. (kind, []) ≡ spelled (put (in_table command.table key) value command.number rows).1)
      → IfOk r (λ kind. (kind, front) ≡ with_body front (spelled (apply (operation bytes command) rows).1))
  put-replied value r is value-is told =
      subst (λ (k : Kind). IfOk r (λ kind. (kind, front) ≡ with_body front (spelled (apply_kind k (operation bytes command) rows).1))) (sym is)
      (no-bodies front (put (in_table command.table (part bytes command.key)) (part bytes command.value) command.number rows).1 r
      (subst (λ (v : List ℕ). IfOk r (λ kind. (kind, []) ≡ spelled (put (in_table command.table (part bytes command.key)) v command.number rows).1)) value-is
      (subst (λ (k : List ℕ). IfOk r (λ kind. (kind, []) ≡ spelled (put (in_table command.table k) value command.number rows).1)) key-is told)))

  pub erase-replied : (kind : ReplyKind) → command.kind ≡ asked.Erase → (kind, []) ≡ spelled (erase (in_table command.table key) rows).1
      → (kind, front) ≡ with_body front (spelled (apply (operation bytes command) rows).1)
  erase-replied kind is told =
      subst (λ (k : Kind). (kind, front) ≡ with_body front (spelled (apply_kind k (operation bytes command) rows).1)) (sym is)
      (no-body front kind (erase (in_table command.table (part bytes command.key)) rows).1
      (subst (λ (k : List ℕ). (kind, []) ≡ spelled (erase (in_table command.table k) rows).1) key-is told))

-- the number of the last row's put is one alone
pub last-is : (last : Option Row) (gone put : ℕ) → is_of_put gone last ≡ true → (gone == put) ≡ is_of_put put last
last-is None gone put is = absurd (let clash : false ≡ true = is in cc)
last-is (Some row) gone put is = let same : row.number ≡ gone = eqb-true row.number gone is in ap (λ (n : ℕ). n == put) (sym same)

-- no eviction at the floor or below it; above it wherever the row is the last
pub not-above : (is : Bool) (floor live : ℕ) → live ≤ floor → false ≡ (is && nat_lt floor live)
not-above is floor live low = rw (le-ltb floor live low) (sym (and-false is))
  where
    and-false : (b : Bool) → (b && false) ≡ false
    and-false true = refl
    and-false false = refl

pub above : (is : Bool) (floor live : ℕ) → floor < live → is ≡ (is && nat_lt floor live)
above is floor live high = rw (lt-ltb floor live high) (sym (and-true is))
  where
    and-true : (b : Bool) → (b && true) ≡ b
    and-true true = refl
    and-true false = refl
