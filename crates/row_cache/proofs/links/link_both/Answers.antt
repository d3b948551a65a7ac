use Rattle.std.proofs.Common.{List, ℕ, sym, ap, subst, ◌∙◌}
use Rattle.row_bytes.specs.declared.links.Links.{Links}
use Rattle.row_bytes.specs.Rows.{HoldsRow, newer_in, older_in}
use Rattle.regions.specs.Contents.{item_if_live, standing_at}
use Rattle.regions.specs.Lends.{with_content}
use Rattle.row_cache.proofs.States.{content_standing}
use Rattle.row_cache.proofs.Relinked.{read_written, relinked_by, row_kept}
use Rattle.row_cache.proofs.links.link_both.Goals as goal

pub returns-clause-newer : goal.returns-clause-newer
returns-clause-newer c =
    let r = c.args.region.now in let p = c.args.at in let h = c.requires in let ws = c.set_older.new.content in
    ap newer_in (read_written r (with_content r p ws) p h.item ws h.is (c.bytes_mut-content.ensures.left ws (c.set_older.ensures.length ∙ c.set_newer.ensures.length)))
    ∙ (ap (λ (l : Links). l.newer) c.set_older.ensures.links ∙ ap (λ (l : Links). l.newer) c.set_newer.ensures.links)

pub returns-clause-older : goal.returns-clause-older
returns-clause-older c =
    let r = c.args.region.now in let p = c.args.at in let h = c.requires in let ws = c.set_older.new.content in
    ap older_in (read_written r (with_content r p ws) p h.item ws h.is (c.bytes_mut-content.ensures.left ws (c.set_older.ensures.length ∙ c.set_newer.ensures.length)))
    ∙ ap (λ (l : Links). l.older) c.set_older.ensures.links

pub returns-clause-same : goal.returns-clause-same
returns-clause-same c =
    let r = c.args.region.now in let p = c.args.at in let h = c.requires in let ws = c.set_older.new.content in
    let b = c.bytes_mut-content.ensures in let n = c.set_newer.ensures in let o = c.set_older.ensures in
    let same = content_standing (standing_at r p) h.item c.bytes_mut-content.result.now h.is b.value in
    relinked_by r (with_content r p ws) p h.item ws h.is (b.left ws (o.length ∙ n.length))
    (row_kept h.item h.number h.row h.is_row c.bytes_mut-content.result.now ws same (o.number ∙ n.number) (o.row ∙ n.row) (λ m row holds. o.holds m row (n.holds m row holds))) (b.used ws) (b.live ws) (b.shape ws)

pub set_older-requires : goal.set_older-requires
set_older-requires c =
    let r = c.args.region.now in let p = c.args.at in let h = c.requires in
    let same = content_standing (standing_at r p) h.item c.bytes_mut-content.result.now h.is c.bytes_mut-content.ensures.value in
    (h.number, h.row, c.set_newer.ensures.holds h.number h.row (subst (λ (b : List ℕ). HoldsRow b h.number h.row) (sym same) h.is_row.holds))

pub returns-clause-others : goal.returns-clause-others
returns-clause-others c = λ p far.
    ap item_if_live ((c.bytes_mut-content.ensures.left c.set_older.new.content (c.set_older.ensures.length ∙ c.set_newer.ensures.length)).others p far)
