-- The keys of a body as they are taken, one behind another.
use Rattle.std.proofs.Common.{◌≡◌, ℕ, ◌+◌, ◌≤◌, ◌<◌, List, [], ◌∷◌, ◌++◌, length, map, arith, sym, ap, ◌∙◌, append_assoc, length-append}
use Rattle.std.specs.Prelude.{All}
use Rattle.std.proofs.lemmas.List.{length-map, map-append}
use denote.Ref.{Bor}
use Rattle.rows.specs.Apply.{Keys}
use Rattle.rows.specs.KeyBody.{AreKeys}
use Rattle.rows.specs.Spelled.{IsKey, spelled}
use Rattle.report_text.proofs.Keys.{Cuts}

abbrev pub texts : List (Bor (List ℕ)) → List (List ℕ)
texts found = map (λ key. key.now) found

-- a front of the keys was taken, and the others are the rest of the body
pub record AreGathered (found : List (Bor (List ℕ))) (rest : List ℕ) (keys : List (List ℕ)) : Type 0 where
  pub others : List (List ℕ)
  pub are : AreKeys rest others
  pub all : texts found ++ others ≡ keys

pub gathered_next : (found after : List (Bor (List ℕ))) (key : Bor (List ℕ)) (rest behind : List ℕ) (keys : List (List ℕ))
    → AreGathered found rest keys → Cuts rest key.now behind → after ≡ found ++ key ∷ [] → AreGathered after behind keys
gathered_next found after key rest behind keys p cuts is =
    let cut = cuts p.others p.are in
    record {
      others = cut.0;
      are = cut.2;
      all =
          ap (λ list. texts list ++ cut.0) is ∙ ap (λ list. list ++ cut.0) (map-append (λ (k : Bor (List ℕ)). k.now) found (key ∷ []))
          ∙ append_assoc (texts found) (key.now ∷ []) cut.0 ∙ ap (λ list. texts found ++ list) (sym cut.1) ∙ p.all;
    }

-- there is room for the next key
pub gathered_room : (found : List (Bor (List ℕ))) (key rest behind : List ℕ) (keys : List (List ℕ)) (most : ℕ)
    → AreGathered found rest keys → Cuts rest key behind → length keys ≤ most → length found < most
gathered_room found key rest behind keys most p cuts few =
    let cut = cuts p.others p.are in
    let many : length (texts found) + length p.others ≡ length keys = sym (length-append (texts found) p.others) ∙ ap length p.all in
    let more : length p.others ≡ length cut.0 + 1 = ap length cut.1 ∙ omega arith in
    omega (arith, many, more, few, length-map found (λ (k : Bor (List ℕ)). k.now))

-- the body of a reply of keys
pub body_is : (body : List ℕ) (keys : List (List ℕ)) → body ≡ (spelled (Keys keys)).1 → All IsKey keys → AreKeys body keys
body_is body keys is legal = record { spelled = is; lengths = legal }
