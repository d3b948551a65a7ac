-- The keys of a scan, written one behind another.
use Rattle.std.proofs.Common.{◌≡◌, ℕ, ◌+◌, ◌-◌, ◌≤◌, List, [], ◌∷◌, length, take, drop, arith, Ok, Err, subst}
use Rattle.std.specs.List.{flat_map}
use Rattle.rows.specs.KeyBody.{AreKeys, AreKeysAt}
use Rattle.text_lemmas.specs.Writing.{Output, Writes, Goes}
use Rattle.text_lemmas.proofs.Written.{Goes-next, Goes-stop, Goes-done}

abbrev pub key_text : List (List ℕ) → List ℕ
key_text keys = flat_map (λ (key : List ℕ). 32 ∷ key) keys

-- the keys of the rest of the body are written still
pub record AreLeft (a b : Output) (rest : List ℕ) (keys : List (List ℕ)) : Type 0 where
  pub others : List (List ℕ)
  pub are : AreKeys rest others
  pub gone : Goes a b (key_text keys) (key_text others)

-- the rest of the body has a key and others behind it, whichever keys it is
abbrev pub Cuts : List ℕ → List ℕ → List ℕ → Type 0
Cuts rest key behind = (keys : List (List ℕ)) → AreKeys rest keys → (others : List (List ℕ)) × (keys ≡ key ∷ others) × AreKeys behind others

pub left_next : {T E : Type 0} {u : T} (a b c : Output) (rest key behind : List ℕ) (keys : List (List ℕ)) → AreLeft a b rest keys → Cuts rest key behind
    → Writes {T = T} {E = E} (Ok u) b c (32 ∷ key) → AreLeft a c behind keys
left_next a b c rest key behind keys p cuts q =
    let cut = cuts p.others p.are in
    record {
      others = cut.0;
      are = cut.2;
      gone = Goes-next (subst (λ ks. Goes a b (key_text keys) (key_text ks)) cut.1 p.gone) q;
    }

pub left_stop : {T E : Type 0} {e : E} (a b c : Output) (rest key behind : List ℕ) (keys : List (List ℕ)) → AreLeft a b rest keys → Cuts rest key behind
    → Writes {T = T} {E = E} (Err e) b c (32 ∷ key) → Writes {T = T} {E = E} (Err e) a c (key_text keys)
left_stop a b c rest key behind keys p cuts q =
    let cut = cuts p.others p.are in
    Goes-stop (key_text cut.0) (subst (λ ks. Goes a b (key_text keys) (key_text ks)) cut.1 p.gone) q

pub left_none : {T E : Type 0} {u : T} (a b : Output) (rest : List ℕ) (keys : List (List ℕ)) → AreLeft a b rest keys → ((ks : List (List ℕ)) → AreKeys rest ks → ks ≡ [])
    → Writes {T = T} {E = E} (Ok u) a b (key_text keys)
left_none a b rest keys p none = Goes-done (subst (λ ks. Goes a b (key_text keys) (key_text ks)) (none p.others p.are) p.gone)

-- the next key from an offset on, whose span begins at `start`
pub cuts_at : (body : List ℕ) (at start len : ℕ) → at ≤ length body
    → ((keys : List (List ℕ)) → AreKeysAt body at keys → (rest : List (List ℕ)) × (keys ≡ take len (drop start body) ∷ rest) × AreKeysAt body (start + len) rest)
    → Cuts (drop at body) (take (start + len - start) (drop start body)) (drop (start + len) body)
cuts_at body at start len within next keys are =
    let cut = next keys (record { within = within; rest = are }) in
    let many : start + len - start ≡ len = omega arith in
    (cut.0, rw many cut.1, cut.2.rest)
