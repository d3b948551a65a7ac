-- What a write leaves of the entries.
use Rattle.std.proofs.Common.{◌≡◌, ℕ, suc, ◌+◌, ◌-◌, ◌<◌, ◌≤◌, ◌++◌, ◌∷◌, [], List, length, replicate, set, length-append, refl, sym, ap, ◌∙◌, arith}
use Rattle.std.proofs.Math.ListN.{length-set}
use Rattle.std.proofs.lemmas.List.{append_assoc, length-replicate, replicate-append-replicate, set-append_left}
use Rattle.std.proofs.Math.Seq.{set-append_seam}
use Rattle.index_lists.specs.Table.{Table, with_entry, reaching}
use Rattle.index_lists.specs.inside.Entries.{entries, table_of}

same_table : {A : Type 0} (t u : Table A) → t.entries ≡ u.entries → t.written ≡ u.written → t ≡ u
same_table {A} t u es ws =
    ap (λ e. let r : Table A = record { entries = e; written = t.written } in r) es ∙ ap (λ w. let r : Table A = record { entries = u.entries; written = w } in r) ws

pub entries_len : {A : Type 0} (written : List A) (len : ℕ) (rest : A) → length written ≤ len → length (entries written len rest) ≡ len
entries_len written len rest most = (let l = length-append written (replicate (len - length written) rest) in let r = length-replicate (len - length written) rest in omega (arith, l, r))

-- an entry that is written is written anew
pub rewritten : {A : Type 0} (written : List A) (len at : ℕ) (rest value : A) → at < length written → table_of (set written at value) len rest ≡ with_entry (table_of written len rest) at value
rewritten written len at rest value inside = same_table _ _
    (ap (λ n. set written at value ++ replicate (len - n) rest) (length-set written at value) ∙ sym (set-append_left written (replicate (len - length written) rest) at value inside))
    (length-set written at value)

pub rewritten_reaching : {A : Type 0} (written : List A) (len at : ℕ) (rest value : A) → at < length written → table_of (set written at value) len rest ≡ with_entry (reaching (table_of written len rest) (at + 1)) at value
rewritten_reaching written len at rest value inside = rewritten written len at rest value inside ∙ same_table _ _ refl (omega arith)

-- more entries are written
pub reached : {A : Type 0} (written : List A) (len end : ℕ) (rest : A) → length written ≤ end → end ≤ len → table_of (written ++ replicate (end - length written) rest) len rest ≡ reaching (table_of written len rest) end
reached {A} written len end rest behind inside =
    let front : List A = written ++ replicate (end - length written) rest in
    let long : length front ≡ end = (let f = length-append written (replicate (end - length written) rest) in let r = length-replicate (end - length written) rest in omega (arith, f, r)) in
    let count : (end - length written) + (len - end) ≡ len - length written = omega arith in
    same_table _ _
    (ap (λ n. front ++ replicate (len - n) rest) long
    ∙ append_assoc written (replicate (end - length written) rest) (replicate (len - end) rest)
    ∙ ap (λ l. written ++ l) (replicate-append-replicate (end - length written) (len - end) rest)
    ∙ ap (λ n. written ++ replicate n rest) count)
    (omega (arith, long))

-- an entry behind the written ones is written, and each before it
pub written_behind : {A : Type 0} (written : List A) (len at : ℕ) (rest value : A) → length written ≤ at → at < len
    → table_of (written ++ replicate (at - length written) rest ++ value ∷ []) len rest ≡ with_entry (reaching (table_of written len rest) (at + 1)) at value
written_behind {A} written len at rest value behind inside =
    let front : List A = written ++ replicate (at - length written) rest in
    let more : length (front ++ value ∷ []) ≡ at + 1 = (let l = length-append front (value ∷ []) in let f = length-append written (replicate (at - length written) rest) in let r = length-replicate (at - length written) rest in omega (arith, l, f, r)) in
    let at_is : length front ≡ at = (let f = length-append written (replicate (at - length written) rest) in let r = length-replicate (at - length written) rest in omega (arith, f, r)) in
    let behind_it : List A = replicate (len - (at + 1)) rest in
    let count : (at - length written) + suc (len - (at + 1)) ≡ len - length written = omega arith in
    let before : entries written len rest ≡ front ++ rest ∷ behind_it =
    ap (λ n. written ++ replicate n rest) (sym count)
    ∙ ap (λ l. written ++ l) (sym (replicate-append-replicate (at - length written) (suc (len - (at + 1))) rest))
    ∙ sym (append_assoc written (replicate (at - length written) rest) (rest ∷ behind_it)) in
    same_table _ _
    (ap (λ n. (front ++ value ∷ []) ++ replicate (len - n) rest) more
    ∙ append_assoc front (value ∷ []) behind_it
    ∙ sym (set-append_seam front rest behind_it value)
    ∙ ap (λ n. set (front ++ rest ∷ behind_it) n value) at_is
    ∙ ap (λ l. set l at value) (sym before))
    (omega (arith, more))

-- what the table that callers see tells
pub written_same : {A : Type 0} {t u : Table A} → t ≡ u → t.written ≡ u.written
written_same {A} e = ap (λ (t : Table A). t.written) e

pub length_same : {A : Type 0} {t u : Table A} → t ≡ u → length t.entries ≡ length u.entries
length_same {A} e = ap (λ (t : Table A). length t.entries) e

pub entry_same : {A : Type 0} {t u : Table A} (at : ℕ) (value : A) → t ≡ u → with_entry t at value ≡ with_entry u at value
entry_same {A} at value e = ap (λ (t : Table A). with_entry t at value) e

pub reaching_same : {A : Type 0} {t u : Table A} (end : ℕ) → t ≡ u → reaching t end ≡ reaching u end
reaching_same {A} end e = ap (λ (t : Table A). reaching t end) e
