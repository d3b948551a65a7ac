use Rattle.std.proofs.Common.{◌≡◌, ℕ, ◌+◌, ◌*◌, ◌/◌, List, length, sym, ap, ◌∙◌, arith}
use Rattle.rows.specs.Row.{Row, size}
use Rattle.row_bytes.specs.Patches.{with_patch}
use Rattle.row_bytes.specs.Rows.{links_in, number_in, row_in, value_length_in}
use Rattle.row_bytes.proofs.Fields.{fields_in, length_of_bytes, links_of_bytes, number_of_bytes, row_of_bytes, value_length_of_bytes}
use Rattle.row_bytes.proofs.Patched.{bytes_are, long_still, storable_still}
use Rattle.row_bytes.proofs.patching.set_value.Goals as goal

pub put_bytes-requires : goal.put_bytes-requires
put_bytes-requires c =
    let content = c.args.content.now in let n = c.requires.row.0 in let row = c.requires.row.1 in let h = c.requires.row.2 in
    let key = c.key_length-key_len.ensures in
    let all = fields_in content c.requires.row in
    let long = ap value_length_in h.bytes ∙ value_length_of_bytes n h.links row h.storable in
    let read = ap (λ (r : Row). length r.value) (ap row_in h.bytes ∙ row_of_bytes n h.links row h.storable) in
    let fits = c.requires.within in
    omega (arith, key, all, long, read, fits)

pub returns-clause-holds : goal.returns-clause-holds
returns-clause-holds c = λ number row h.
    (let content = c.args.content.now in let new = c.put_bytes.new.content in let k = c.key_length-key_len.result in let at = c.args.at in let bytes = c.args.bytes.now in
    let key = c.key_length-key_len.ensures in let fits = c.requires.within in let is = c.put_bytes.ensures in
    record {
      storable = storable_still content new k at bytes key fits is number row h;
      small = h.small;
      links = h.links;
      are_links = h.are_links;
      bytes = bytes_are content new k at bytes key fits is number row h;
    })

pub returns-clause-row : goal.returns-clause-row
unfolding returns-clause-holds
returns-clause-row c =
    let n = c.requires.row.0 in let row = c.requires.row.1 in let h = c.requires.row.2 in let now = returns-clause-holds c n row h in
    ap row_in now.bytes
    ∙ (row_of_bytes n now.links (with_patch row c.args.at c.args.bytes.now) now.storable
    ∙ ap (λ (r : Row). with_patch r c.args.at c.args.bytes.now) (sym (ap row_in h.bytes ∙ row_of_bytes n h.links row h.storable)))

pub returns-clause-links : goal.returns-clause-links
unfolding returns-clause-holds
returns-clause-links c =
    let n = c.requires.row.0 in let row = c.requires.row.1 in let h = c.requires.row.2 in let now = returns-clause-holds c n row h in
    (ap links_in now.bytes ∙ links_of_bytes n now.links (with_patch row c.args.at c.args.bytes.now) now.are_links) ∙ sym (ap links_in h.bytes ∙ links_of_bytes n h.links row h.are_links)

pub returns-clause-number : goal.returns-clause-number
unfolding returns-clause-holds
returns-clause-number c =
    let n = c.requires.row.0 in let row = c.requires.row.1 in let h = c.requires.row.2 in let now = returns-clause-holds c n row h in
    (ap number_in now.bytes ∙ number_of_bytes n now.links (with_patch row c.args.at c.args.bytes.now) now.small) ∙ sym (ap number_in h.bytes ∙ number_of_bytes n h.links row h.small)

pub returns-clause-value : goal.returns-clause-value
returns-clause-value c =
    let n = c.requires.row.0 in let row = c.requires.row.1 in let h = c.requires.row.2 in
    ap (λ (r : Row). length r.value) (returns-clause-row c)
    ∙ (ap (λ (r : Row). length (with_patch r c.args.at c.args.bytes.now).value) (ap row_in h.bytes ∙ row_of_bytes n h.links row h.storable)
    ∙ (long_still c.args.content.now c.put_bytes.new.content c.key_length-key_len.result c.args.at c.args.bytes.now c.key_length-key_len.ensures c.requires.within c.put_bytes.ensures n row h
    ∙ sym (ap (λ (r : Row). length r.value) (ap row_in h.bytes ∙ row_of_bytes n h.links row h.storable))))

pub returns-clause-size : goal.returns-clause-size
unfolding returns-clause-holds
returns-clause-size c = λ number row h.
    (let now = returns-clause-holds c number row h in
    ap (λ (b : List ℕ). length b + 8) now.bytes ∙ length_of_bytes number now.links (with_patch row c.args.at c.args.bytes.now))

pub returns-clause-length : goal.returns-clause-length
returns-clause-length c =
    let n = c.requires.row.0 in let row = c.requires.row.1 in let h = c.requires.row.2 in
    let now = returns-clause-size c n row h in
    let before : length c.args.content.now + 8 ≡ size row.key.bytes row.value = ap (λ (b : List ℕ). length b + 8) h.bytes ∙ length_of_bytes n h.links row in
    let long = long_still c.args.content.now c.put_bytes.new.content c.key_length-key_len.result c.args.at c.args.bytes.now c.key_length-key_len.ensures c.requires.within c.put_bytes.ensures n row h in
    let same : size row.key.bytes (with_patch row c.args.at c.args.bytes.now).value ≡ size row.key.bytes row.value = ap (λ (len : ℕ). (40 + length row.key.bytes + len + 7) / 8 * 8) long in
    omega (arith, now, before, same)
