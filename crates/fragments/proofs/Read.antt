-- What is read from the bytes of a fragment.
use Rattle.std.proofs.Common.{◌≡◌, ℕ, ◌+◌, ◌-◌, ◌<◌, ◌^◌, List, [], ◌++◌, length, take, drop, replicate, refl, ap, sym, ◌∙◌, arith, append_assoc, length-append, length-drop}
use Rattle.std.proofs.lemmas.List.{take_at, drop-drop, length-replicate}
use Rattle.byteorder.specs.Endian.{little_number, little_bytes}
use Rattle.byteorder.specs.Numbers.{little_number-reads_back}
use Rattle.fragments.specs.Sizes.{object_size}
use Rattle.fragments.specs.Fragment.{HoldsFragment, back_in, body, body_in, bytes_in, filled, fragment, length_in, name_in, next_in}

abbrev pub padding : ℕ → List ℕ
padding len = replicate (object_size len - (32 + len)) 0

abbrev pub head : ℕ → ℕ → ℕ → ℕ → List ℕ
head back next name len = little_bytes 8 back ++ little_bytes 8 next ++ little_bytes 4 name ++ little_bytes 4 len

-- a header with the bytes behind it, and zero bytes behind them, is the fragment
pub pieces_together : (back next name : ℕ) (bytes text : List ℕ) → length text ≡ 24 → text ≡ head back next name (length bytes) → filled text bytes ≡ fragment back next name bytes
pieces_together back next name bytes text long is =
    let both = length-append text bytes in
    let end : object_size (length bytes) - 8 - length (text ++ bytes) ≡ object_size (length bytes) - (32 + length bytes) = omega (arith, both, long) in
    ap (λ (n : ℕ). (text ++ bytes) ++ replicate n 0) end ∙ (append_assoc text bytes (padding (length bytes)) ∙ ap (λ (t : List ℕ). t ++ (bytes ++ padding (length bytes))) is)

pub back_of_bytes : (back next name : ℕ) (bytes : List ℕ) → back < 2 ^ 64 → back_in (fragment back next name bytes) ≡ back
back_of_bytes back next name bytes small = little_number-reads_back 8 back [] small

pub next_of_bytes : (back next name : ℕ) (bytes : List ℕ) → next < 2 ^ 64 → next_in (fragment back next name bytes) ≡ next
next_of_bytes back next name bytes small = little_number-reads_back 8 next [] small

-- ---- what a body says

pub name_read : (content : List ℕ) (name : ℕ) (bytes : List ℕ) → HoldsFragment content name bytes → name_in content ≡ name
name_read content name bytes h = ap (λ (b : List ℕ). little_number 4 b) h.body ∙ little_number-reads_back 4 name [] h.name_fits

behind : (content : List ℕ) (name : ℕ) (bytes : List ℕ) → HoldsFragment content name bytes → drop 24 content ≡ bytes ++ padding (length bytes)
behind content name bytes h = sym (drop-drop 8 16 content) ∙ ap (λ (b : List ℕ). drop 8 b) h.body

pub length_read : (content : List ℕ) (name : ℕ) (bytes : List ℕ) → HoldsFragment content name bytes → length_in content ≡ length bytes
length_read content name bytes h =
    let few = h.short in
    ap (λ (b : List ℕ). little_number 4 b) (sym (drop-drop 4 16 content) ∙ ap (λ (b : List ℕ). drop 4 b) h.body)
    ∙ little_number-reads_back 4 (length bytes) [] (omega (arith, few))

pub bytes_read : (content : List ℕ) (name : ℕ) (bytes : List ℕ) → HoldsFragment content name bytes → bytes_in content ≡ bytes
bytes_read content name bytes h =
    ap (λ k. take k (drop 24 content)) (length_read content name bytes h)
    ∙ (ap (λ (b : List ℕ). take (length bytes) b) (behind content name bytes h) ∙ take_at bytes (padding (length bytes)) (length bytes) refl)

pub length_of_body : (name : ℕ) (bytes : List ℕ) → length (body name bytes) + 24 ≡ object_size (length bytes)
length_of_body name bytes =
    let tail : length (bytes ++ padding (length bytes)) ≡ length bytes + (object_size (length bytes) - (32 + length bytes)) = rw (length-append, length-replicate) refl in
    omega (arith, tail)

-- the content is as long as its object's size says
pub length_by_body : (content : List ℕ) (name : ℕ) (bytes : List ℕ) → body_in content ≡ body name bytes → length content + 8 ≡ object_size (length bytes)
length_by_body content name bytes is =
    let behind = ap (λ (b : List ℕ). length b) is in
    let all = length_of_body name bytes in
    let cut = length-drop 16 content in
    omega (arith, behind, all, cut)

pub length_held : (content : List ℕ) (name : ℕ) (bytes : List ℕ) → HoldsFragment content name bytes → length content + 8 ≡ object_size (length bytes)
length_held content name bytes h = length_by_body content name bytes h.body
