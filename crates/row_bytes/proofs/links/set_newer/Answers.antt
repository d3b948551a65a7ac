use Rattle.std.proofs.Common.{◌≡◌, ℕ, List, ◌++◌, length, take, drop, sym, ap, ◌∙◌, arith}
use Rattle.byteorder.specs.Endian.{little_bytes}
use Rattle.rows.specs.Row.{Row}
use Rattle.row_bytes.specs.declared.links.Links.{Links}
use Rattle.row_bytes.specs.Rows.{HoldsRow, row_bytes, links_in, number_in, row_in, without_links}
use Rattle.row_bytes.proofs.Fields.{with_links, newer_written, links_of_bytes, length_of_bytes, number_of_bytes, row_of_bytes}
use Rattle.row_bytes.proofs.links.set_newer.Goals as goal

-- what is written over a row
over : (content new : List ℕ) (link : ℕ) → new ≡ take 16 content ++ (little_bytes 8 link ++ drop 8 (drop 16 content)) → (number : ℕ) (row : Row) (h : HoldsRow content number row)
    → new ≡ row_bytes number (with_links link h.links.older) row
over content new link is number row h =
    is ∙ (ap (λ bytes. take 16 bytes ++ (little_bytes 8 link ++ drop 8 (drop 16 bytes))) h.bytes ∙ newer_written number h.links row link)

pub returns-clause-holds : goal.returns-clause-holds
returns-clause-holds c = λ number row h. record {
  storable = h.storable;
  small = h.small;
  links = with_links c.args.link h.links.older;
  are_links = record { newer = c.ranges.link.fits; older = h.are_links.older };
  bytes = over c.args.content.now c.put_link.new.content c.args.link c.put_link.ensures number row h;
}

pub returns-clause-links : goal.returns-clause-links
unfolding returns-clause-holds
returns-clause-links c =
    let n = c.requires.0 in let row = c.requires.1 in let h = c.requires.2 in let now = returns-clause-holds c n row h in
    (ap links_in now.bytes ∙ links_of_bytes n now.links row now.are_links)
    ∙ sym (ap {A = List ℕ} {B = Links} (λ bytes. record (links_in bytes) { newer = c.args.link }) h.bytes ∙ ap {A = Links} {B = Links} (λ l. record l { newer = c.args.link }) (links_of_bytes n h.links row h.are_links))

pub returns-clause-others : goal.returns-clause-others
returns-clause-others c =
    let n = c.requires.0 in let row = c.requires.1 in let h = c.requires.2 in
    ap without_links (returns-clause-holds c n row h).bytes ∙ sym (ap without_links h.bytes)

pub returns-clause-length : goal.returns-clause-length
returns-clause-length c =
    let n = c.requires.0 in let row = c.requires.1 in let h = c.requires.2 in let now = returns-clause-holds c n row h in
    let a = length_of_bytes n h.links row in let b = length_of_bytes n now.links row in
    let before : length c.args.content.now ≡ length (row_bytes n h.links row) = ap (λ bytes. length bytes) h.bytes in
    let after : length c.put_link.new.content ≡ length (row_bytes n now.links row) = ap (λ bytes. length bytes) now.bytes in
    omega (arith, a, b, before, after)

pub returns-clause-number : goal.returns-clause-number
returns-clause-number c =
    let n = c.requires.0 in let row = c.requires.1 in let h = c.requires.2 in let now = returns-clause-holds c n row h in
    (ap number_in now.bytes ∙ number_of_bytes n now.links row now.small) ∙ sym (ap number_in h.bytes ∙ number_of_bytes n h.links row h.small)

pub returns-clause-row : goal.returns-clause-row
returns-clause-row c =
    let n = c.requires.0 in let row = c.requires.1 in let h = c.requires.2 in let now = returns-clause-holds c n row h in
    (ap row_in now.bytes ∙ row_of_bytes n now.links row now.storable) ∙ sym (ap row_in h.bytes ∙ row_of_bytes n h.links row h.storable)
