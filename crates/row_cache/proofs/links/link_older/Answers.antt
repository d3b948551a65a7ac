use Rattle.std.proofs.Common.{sym, ap, ◌∙◌}
use Rattle.row_bytes.specs.declared.links.Links.{Links}
use Rattle.row_bytes.specs.Rows.{newer_in, older_in}
use Rattle.regions.specs.Contents.{standing_at}
use Rattle.regions.specs.Lends.{with_content}
use Rattle.row_cache.specs.Links.{content_of}
use Rattle.row_cache.proofs.States.{content_standing}
use Rattle.row_cache.proofs.Relinked.{read_written, relinked_by, row_kept}
use Rattle.row_cache.proofs.links.link_older.Goals as goal

pub returns-clause-older : goal.returns-clause-older
returns-clause-older c =
    let r = c.args.region.now in let p = c.args.at in let h = c.requires in let ws = c.set_older.new.content in
    ap older_in (read_written r (with_content r p ws) p h.item ws h.is (c.bytes_mut.ensures.left ws c.set_older.ensures.length))
    ∙ ap (λ (l : Links). l.older) c.set_older.ensures.links

pub returns-clause-newer : goal.returns-clause-newer
returns-clause-newer c =
    let r = c.args.region.now in let p = c.args.at in let h = c.requires in let ws = c.set_older.new.content in
    let same = content_standing (standing_at r p) h.item c.bytes_mut.result.now h.is c.bytes_mut.ensures.value in
    ap newer_in (read_written r (with_content r p ws) p h.item ws h.is (c.bytes_mut.ensures.left ws c.set_older.ensures.length))
    ∙ (ap (λ (l : Links). l.newer) c.set_older.ensures.links ∙ (ap newer_in same ∙ sym (ap (λ o. newer_in (content_of o)) h.is)))

pub returns-clause-same : goal.returns-clause-same
returns-clause-same c =
    let r = c.args.region.now in let p = c.args.at in let h = c.requires in let ws = c.set_older.new.content in let b = c.bytes_mut.ensures in let e = c.set_older.ensures in
    let same = content_standing (standing_at r p) h.item c.bytes_mut.result.now h.is b.value in
    relinked_by r (with_content r p ws) p h.item ws h.is (b.left ws e.length)
    (row_kept h.item h.number h.row h.is_row c.bytes_mut.result.now ws same e.number e.row e.holds) (b.used ws) (b.live ws) (b.shape ws)
