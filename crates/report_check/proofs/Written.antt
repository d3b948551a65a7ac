-- What a text in memory has that was written into it.
use Rattle.std.proofs.Common.{◌≡◌, ◌++◌, true, false, ℕ, List, [], Result, Ok, Err, Some, ap, ◌∙◌}
use Rattle.std.specs.Prelude.{is_ok, OnOk}
use Rattle.std.specs.Io.KnownBytes.{Appends}

pub on-ok : {T E P : Type 0} (result : Result T E) → is_ok result ≡ true → OnOk result P → P
on-ok (Ok x) ok held = held
on-ok (Err e) ok held = absurd (let clash : false ≡ true = ok in cc)

pub added : (before after text : List ℕ) → before ≡ [] → Appends (Some before) (Some after) text → after ≡ text
added before after text none wrote = wrote ∙ ap (λ (bytes : List ℕ). bytes ++ text) none
