use Rattle.std.proofs.Common.{◌≡◌, ◌+◌, ◌≤◌, length, sym, ap, subst, ◌∙◌}
use Rattle.row_bytes.specs.Rows.{header, key_length_in, value_length_in, row_in, links_in}
use Rattle.row_bytes.proofs.Fields.{row_of_bytes, key_length_of_bytes, value_length_of_bytes, fields_within, links_of_bytes, bare_row}
use Rattle.row_bytes.proofs.law.a_row_is_read_as_it_is_written.Goals as goal

pub returns-clause-row : goal.returns-clause-row
returns-clause-row c = λ content number row holds.
    subst (λ bytes. row_in bytes ≡ row) (sym holds.bytes) (row_of_bytes number holds.links row holds.storable)

pub returns-clause-lengths : goal.returns-clause-lengths
returns-clause-lengths c = λ content number row holds.
    subst (λ bytes. (key_length_in bytes ≡ length row.key.bytes) × (value_length_in bytes ≡ length row.value)) (sym holds.bytes)
    (key_length_of_bytes number holds.links row holds.storable, value_length_of_bytes number holds.links row holds.storable)

pub returns-clause-within : goal.returns-clause-within
returns-clause-within c = λ content number row holds.
    subst (λ bytes. header + key_length_in bytes + value_length_in bytes ≤ length bytes) (sym holds.bytes) (fields_within number holds.links row holds.storable)

pub returns-clause-links : goal.returns-clause-links
returns-clause-links c = λ content number row holds. ap links_in holds.bytes ∙ links_of_bytes number holds.links row holds.are_links

pub returns-clause-others : goal.returns-clause-others
returns-clause-others c = λ content number row holds. bare_row content number row holds
