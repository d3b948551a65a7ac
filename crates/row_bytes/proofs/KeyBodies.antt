-- The first key of a body of keys, and the keys behind it.
use Rattle.std.proofs.Common.{◌≡◌, ℕ, ◌-◌, ◌<◌, ◌≤◌, ◌^◌, List, [], ◌∷◌, ◌++◌, length, take, drop, get_or, sym, ap, ◌∙◌, subst, refl, arith, length-append}
use Rattle.std.specs.List.{flat_map}
use Rattle.std.specs.Int.{w16, to_le_bytes, from_le_bytes}
use Rattle.std.proofs.lemmas.List.{take_rest}
use Rattle.std.proofs.lemmas.List.Elements.{All-head, All-tail}
use Rattle.std.proofs.lemmas.Nat.{from_le_bytes-to_le_bytes_2}
use Rattle.std.proofs.Math.Seq.{take-append_seam, drop-append_seam}
use Rattle.rows.specs.Spelled.{key_field, IsKey}
use Rattle.rows.specs.KeyBody.{AreKeys}

-- the length that two bytes spell
abbrev pub len_of : ℕ → ℕ → ℕ
len_of low high = from_le_bytes w16 (low ∷ high ∷ [])

-- The keys behind the first one, where its length is in these bytes.
pub record HasFirst (low high : ℕ) (behind : List ℕ) (keys : List (List ℕ)) : Type 0 where
  pub rest : List (List ℕ)
  pub within : len_of low high ≤ length behind
  pub keys_are : keys ≡ take (len_of low high) behind ∷ rest
  pub is_key : IsKey (take (len_of low high) behind)
  pub others : AreKeys (drop (len_of low high) behind) rest

cut_after : (key others behind : List ℕ) (n : ℕ) → n ≡ length key → behind ≡ key ++ others
    → (n ≤ length behind) × (take n behind ≡ key) × (drop n behind ≡ others)
cut_after key others behind n long is = (
  omega (arith, long, ap length is, length-append key others),
  rw (long, is) (take-append_seam key others),
  rw (long, is) (drop-append_seam key others),
)

pub has_first : (low high : ℕ) (behind : List ℕ) (keys : List (List ℕ)) → AreKeys (low ∷ high ∷ behind) keys → HasFirst low high behind keys
has_first low high behind [] p =
    let e : low ∷ high ∷ behind ≡ [] = p.spelled in
    absurd (cc e)
has_first low high behind (key ∷ keys) p =
    let is : low ∷ high ∷ behind ≡ to_le_bytes w16 (length key) ++ (key ++ flat_map key_field keys) = p.spelled in
    let first = All-head IsKey key keys p.lengths in
    let few : length key ≤ 256 = first.short in
    let fits : length key < 2 ^ 16 = omega (arith, few) in
    let long : len_of low high ≡ length key = ap (λ (bytes : List ℕ). from_le_bytes w16 (take 2 bytes)) is ∙ from_le_bytes-to_le_bytes_2 (length key) fits in
    let cut = cut_after key (flat_map key_field keys) behind (len_of low high) long (ap (drop 2) is) in
    record {
      rest = keys;
      within = cut.0;
      keys_are = ap (λ front. front ∷ keys) (sym cut.1);
      is_key = subst IsKey (sym cut.1) first;
      others = record { spelled = cut.2; lengths = All-tail IsKey key keys p.lengths };
    }

two_up : (body : List ℕ) → 2 ≤ length body → body ≡ get_or body 0 0 ∷ get_or body 1 0 ∷ drop 2 body
two_up [] long = absurd (omega (arith, long))
two_up (low ∷ []) long = absurd (omega (arith, long))
two_up (low ∷ high ∷ behind) long = refl

-- The body behind the two bytes is cut behind the key.
pub first_cut : (body key behind : List ℕ) (n : ℕ) → 2 ≤ length body → n ≡ len_of (get_or body 0 0) (get_or body 1 0)
    → key ≡ take n (take (length body - 2) (drop 2 body)) → behind ≡ drop n (take (length body - 2) (drop 2 body))
    → (keys : List (List ℕ)) → AreKeys body keys → (rest : List (List ℕ)) × (keys ≡ key ∷ rest) × IsKey key × AreKeys behind rest
first_cut body key behind n long n_is key_is behind_is keys p =
    let low = get_or body 0 0 in
    let high = get_or body 1 0 in
    let first = has_first low high (drop 2 body) keys (subst (λ bytes. AreKeys bytes keys) (two_up body long) p) in
    let key_there : take (len_of low high) (drop 2 body) ≡ key = ap (λ k. take k (drop 2 body)) (sym n_is) ∙ sym (key_is ∙ ap (take n) (take_rest body 2)) in (
      first.rest,
      first.keys_are ∙ ap (λ front. front ∷ first.rest) key_there,
      subst IsKey key_there first.is_key,
      subst (λ bytes. AreKeys bytes first.rest) (ap (λ k. drop k (drop 2 body)) (sym n_is) ∙ sym (behind_is ∙ ap (drop n) (take_rest body 2))) first.others,
    )

-- a body of less than two bytes has no keys
pub no_keys : (body : List ℕ) (keys : List (List ℕ)) → length body < 2 → AreKeys body keys → (keys ≡ []) × (body ≡ [])
no_keys body [] few p = (refl, p.spelled)
no_keys body (key ∷ keys) few p = absurd (omega (arith, few, ap length p.spelled))
