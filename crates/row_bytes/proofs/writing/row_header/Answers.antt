use Rattle.std.proofs.Common.{◌≡◌, ◌+◌, ℕ, List, length, ap, sym, subst, ◌∙◌}
use Rattle.rows.specs.Key.{in_table}
use Rattle.rows.specs.Row.{Row}
use Rattle.row_bytes.specs.Rows.{number_in, row_in, links_in}
use Rattle.row_bytes.proofs.Fields.{length_of_bytes, number_of_bytes, row_of_bytes, links_of_bytes}
use Rattle.row_bytes.proofs.Pieces.{pieces_together}
use Rattle.row_bytes.proofs.writing.row_header.Goals as goal

pub returns-clause-bytes : goal.returns-clause-bytes
returns-clause-bytes c =
    pieces_together c.args.number c.args.links (record { key = in_table c.args.table c.args.key.now; value = c.args.value.now; number = c.args.put }) c.header_of.result
    c.header_of.ensures.long c.header_of.ensures.bytes

pub returns-clause-size : goal.returns-clause-size
returns-clause-size c =
    ap (λ (bytes : List ℕ). length bytes + 8) (returns-clause-bytes c)
    ∙ length_of_bytes c.args.number c.args.links (record { key = in_table c.args.table c.args.key.now; value = c.args.value.now; number = c.args.put })

pub returns-clause-holds : goal.returns-clause-holds
returns-clause-holds c = record {
  storable = record { table = c.requires.table; some_key = c.requires.some_key; short_key = c.requires.short_key; short_value = c.requires.short_value; put = c.ranges.put.fits };
  small = c.ranges.number.fits;
  links = c.args.links;
  are_links = c.header_of.ensures.fit;
  bytes = returns-clause-bytes c;
}

pub returns-clause-read : goal.returns-clause-read
unfolding returns-clause-holds
returns-clause-read c =
    let h = returns-clause-holds c in let row : Row = record { key = in_table c.args.table c.args.key.now; value = c.args.value.now; number = c.args.put } in
    subst (λ bytes. row_in bytes ≡ row) (sym h.bytes) (row_of_bytes c.args.number c.args.links row h.storable)

pub returns-clause-number : goal.returns-clause-number
unfolding returns-clause-holds
returns-clause-number c =
    let h = returns-clause-holds c in let row : Row = record { key = in_table c.args.table c.args.key.now; value = c.args.value.now; number = c.args.put } in
    subst (λ bytes. number_in bytes ≡ c.args.number) (sym h.bytes) (number_of_bytes c.args.number c.args.links row h.small)

pub returns-clause-links : goal.returns-clause-links
unfolding returns-clause-holds
returns-clause-links c =
    let h = returns-clause-holds c in let row : Row = record { key = in_table c.args.table c.args.key.now; value = c.args.value.now; number = c.args.put } in
    subst (λ bytes. links_in bytes ≡ c.args.links) (sym h.bytes) (links_of_bytes c.args.number c.args.links row h.are_links)
