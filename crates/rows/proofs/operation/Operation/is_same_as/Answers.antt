-- Operations are equal where they mean the same.
use Rattle.std.proofs.Common.{◌≡◌, ℕ, ◌&&◌, Bool, true, false, List, [], eqb, bytes_eq, refl, sym, ap, ap₂, subst, arith}
use Rattle.std.specs.Bool.{Decides}
use Rattle.std.proofs.lemmas.Bool.Decides.{Decides-eqb}
use Rattle.std.proofs.lemmas.Slice.Eq.{bytes_eq-Decides}
use Rattle.rows.specs.Key.{Key, is_same_key, key_shown}
use Rattle.rows.specs.declared.kind.Kind.TheVariants as kinds
use Rattle.rows.specs.declared.kind.Kind.{Kind}
use Rattle.rows.specs.Operation.{Operation}
use Rattle.rows.specs.declared.operation.Operation.{Operation as Operations}
use Rattle.rows.specs.declared.operation.Operation.TheVariants.{Put, Get, Erase, Scan}
use Rattle.rows.specs.contracts.operation.OperationPartialEq.TheImpl.{ghosts}
use Rattle.rows.specs.Operations.{numbered}
use Rattle.rows.proofs.Keys.{is_same_key-Decides}
use Rattle.rows.proofs.operation.Operation.is_same_as.Goals as goal

-- tells kinds apart
abbrev kind_byte : Kind → ℕ
kind_byte kinds.Put = 1
kind_byte kinds.Get = 2
kind_byte kinds.Erase = 3
kind_byte kinds.Scan = 4

abbrev meaning : Kind → ℕ → Key → List ℕ → ℕ → Operation
meaning kind number key value count = record { number = number; kind = kind; key = key; value = value; count = count }

-- two fields are the same, each of them tested
both : (a b : Bool) (P Q R : Type 0) → Decides a P → Decides b Q → (P → Q → R) → (R → P) → (R → Q) → Decides (a && b) R
both true true P Q R p q join left right = (λ h. join (p.0 refl) (q.0 refl), λ r. refl)
both true false P Q R p q join left right = (λ h. absurd (let clash : false ≡ true = h in cc), λ r. q.1 (right r))
both false b P Q R p q join left right = (λ h. absurd (let clash : false ≡ true = h in cc), λ r. p.1 (left r))

one : (a : Bool) (P R : Type 0) → Decides a P → (P → R) → (R → P) → Decides a R
one a P R p to from = (λ h. to (p.0 h), λ r. p.1 (from r))

apart : (number : ℕ) (a b : Operations) → (kind_byte (numbered number a).kind ≡ kind_byte (numbered number b).kind → ⊥) → Decides false (numbered number a ≡ numbered number b)
apart number a b other = (λ h. absurd (let clash : false ≡ true = h in cc), λ e. absurd (other (ap (λ (o : Operation). kind_byte o.kind) e)))

key_same : (kind : Kind) (number : ℕ) (k l : Key) → Decides (is_same_key k l) (meaning kind number k [] 0 ≡ meaning kind number l [] 0)
key_same kind number k l =
    one (is_same_key k l) (k ≡ l) _ (is_same_key-Decides k l) (ap (λ (t : Key). meaning kind number t [] 0)) (ap (λ (o : Operation). o.key))

same : (number : ℕ) (a b : Operations) → Decides (ghosts.eq a b) (numbered number a ≡ numbered number b)
same number (Put k v) (Put l w) =
    both (is_same_key (key_shown k) (key_shown l)) (bytes_eq v.now w.now) (key_shown k ≡ key_shown l) (v.now ≡ w.now) _
    (is_same_key-Decides (key_shown k) (key_shown l)) (bytes_eq-Decides v.now w.now)
    (ap₂ (λ (s : Key) (t : List ℕ). meaning kinds.Put number s t 0)) (ap (λ (o : Operation). o.key)) (ap (λ (o : Operation). o.value))
same number (Put k v) (Get l) = apart number (Put k v) (Get l) (λ e. let clash : 1 ≡ 2 = e in omega (arith, clash))
same number (Put k v) (Erase l) = apart number (Put k v) (Erase l) (λ e. let clash : 1 ≡ 3 = e in omega (arith, clash))
same number (Put k v) (Scan l n) = apart number (Put k v) (Scan l n) (λ e. let clash : 1 ≡ 4 = e in omega (arith, clash))
same number (Get k) (Put l w) = apart number (Get k) (Put l w) (λ e. let clash : 2 ≡ 1 = e in omega (arith, clash))
same number (Get k) (Get l) = key_same kinds.Get number (key_shown k) (key_shown l)
same number (Get k) (Erase l) = apart number (Get k) (Erase l) (λ e. let clash : 2 ≡ 3 = e in omega (arith, clash))
same number (Get k) (Scan l n) = apart number (Get k) (Scan l n) (λ e. let clash : 2 ≡ 4 = e in omega (arith, clash))
same number (Erase k) (Put l w) = apart number (Erase k) (Put l w) (λ e. let clash : 3 ≡ 1 = e in omega (arith, clash))
same number (Erase k) (Get l) = apart number (Erase k) (Get l) (λ e. let clash : 3 ≡ 2 = e in omega (arith, clash))
same number (Erase k) (Erase l) = key_same kinds.Erase number (key_shown k) (key_shown l)
same number (Erase k) (Scan l n) = apart number (Erase k) (Scan l n) (λ e. let clash : 3 ≡ 4 = e in omega (arith, clash))
same number (Scan k m) (Put l w) = apart number (Scan k m) (Put l w) (λ e. let clash : 4 ≡ 1 = e in omega (arith, clash))
same number (Scan k m) (Get l) = apart number (Scan k m) (Get l) (λ e. let clash : 4 ≡ 2 = e in omega (arith, clash))
same number (Scan k m) (Erase l) = apart number (Scan k m) (Erase l) (λ e. let clash : 4 ≡ 3 = e in omega (arith, clash))
same number (Scan k m) (Scan l n) =
    both (is_same_key (key_shown k) (key_shown l)) (eqb m n) (key_shown k ≡ key_shown l) (m ≡ n) _
    (is_same_key-Decides (key_shown k) (key_shown l)) (Decides-eqb m n)
    (ap₂ (λ (s : Key) (t : ℕ). meaning kinds.Scan number s [] t)) (ap (λ (o : Operation). o.key)) (ap (λ (o : Operation). o.count))

pub returns : goal.returns
returns c = λ number.
    subst (λ (r : Bool). Decides r (numbered number c.args.self.now ≡ numbered number c.args.other.now)) (sym c.eq.ensures) (same number c.args.self.now c.args.other.now)
