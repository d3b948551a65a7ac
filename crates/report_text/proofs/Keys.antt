-- The keys of a body as they are put, one behind another.
use Rattle.std.proofs.Common.{◌≡◌, ℕ, ◌+◌, ◌-◌, ◌≤◌, List, [], ◌∷◌, ◌++◌, length, take, drop, arith, Err, sym, ap, ◌∙◌, subst, append_assoc, append-nil}
use Rattle.std.specs.List.{flat_map}
use Rattle.outside.specs.declared.failure.Failed.{Failed}
use Rattle.rows.specs.KeyBody.{AreKeys, AreKeysAt}
use Rattle.text_lemmas.specs.Writing.{Output, Writes}
use Rattle.text_lemmas.proofs.Written.{Writes-then, Writes-stop}
use Rattle.report_text.proofs.Outputs.{Added}
use Rattle.report_text.proofs.LineTexts.{key_piece}

-- a front of the keys was put, and the others are the rest of the body
pub record AreAdded (a b : Output) (rest : List ℕ) (keys : List (List ℕ)) : Type 0 where
  pub others : List (List ℕ)
  pub text : List ℕ
  pub are : AreKeys rest others
  pub all : text ++ flat_map key_piece others ≡ flat_map key_piece keys
  pub added : Added a b text

-- the rest of the body has a key and others behind it, whichever keys it is
abbrev pub Cuts : List ℕ → List ℕ → List ℕ → Type 0
Cuts rest key behind = (keys : List (List ℕ)) → AreKeys rest keys → (others : List (List ℕ)) × (keys ≡ key ∷ others) × AreKeys behind others

with_key : (text key : List ℕ) (others rest keys : List (List ℕ)) → text ++ flat_map key_piece others ≡ flat_map key_piece keys → others ≡ key ∷ rest
    → (text ++ key_piece key) ++ flat_map key_piece rest ≡ flat_map key_piece keys
with_key text key others rest keys all is = append_assoc text (key_piece key) (flat_map key_piece rest) ∙ ap (λ ks. text ++ flat_map key_piece ks) (sym is) ∙ all

pub added_next : (a b c : Output) (rest key behind : List ℕ) (keys : List (List ℕ)) → AreAdded a b rest keys → Cuts rest key behind → Added b c (key_piece key) → AreAdded a c behind keys
added_next a b c rest key behind keys p cuts q =
    let cut = cuts p.others p.are in
    record {
      others = cut.0;
      text = p.text ++ key_piece key;
      are = cut.2;
      all = with_key p.text key p.others cut.0 keys p.all cut.1;
      added = Writes-then p.added q;
    }

pub added_broken : (e : Failed) (a b c : Output) (rest key behind : List ℕ) (keys : List (List ℕ)) → AreAdded a b rest keys → Cuts rest key behind
    → Writes {T = Unit {0}} {E = Failed} (Err e) b c (key_piece key) → Writes {T = Unit {0}} {E = Failed} (Err e) a c (flat_map key_piece keys)
added_broken e a b c rest key behind keys p cuts q =
    let cut = cuts p.others p.are in
    subst (Writes (Err e) a c) (with_key p.text key p.others cut.0 keys p.all cut.1) (Writes-stop _ (Writes-then p.added q))

pub added_all : (a b : Output) (rest : List ℕ) (keys : List (List ℕ)) → AreAdded a b rest keys → ((ks : List (List ℕ)) → AreKeys rest ks → ks ≡ []) → Added a b (flat_map key_piece keys)
added_all a b rest keys p none =
    let all : p.text ≡ flat_map key_piece keys = sym (append-nil p.text) ∙ ap (λ ks. p.text ++ flat_map key_piece ks) (sym (none p.others p.are)) ∙ p.all in
    subst (Added a b) all p.added

-- the next key from an offset on, whose span begins at `start`
pub cuts_at : (body : List ℕ) (at start len : ℕ) → at ≤ length body
    → ((keys : List (List ℕ)) → AreKeysAt body at keys → (rest : List (List ℕ)) × (keys ≡ take len (drop start body) ∷ rest) × AreKeysAt body (start + len) rest)
    → Cuts (drop at body) (take (start + len - start) (drop start body)) (drop (start + len) body)
cuts_at body at start len within next keys are =
    let cut = next keys (record { within = within; rest = are }) in
    let many : start + len - start ≡ len = omega arith in
    (cut.0, rw many cut.1, cut.2.rest)
