use Rattle.regions.specs.Lends.{with_content}
use Rattle.fragments.proofs.Lives.{same_by}
use Rattle.fragments.proofs.links.write_back.Goals as goal

pub returns-clause-same : goal.returns-clause-same
returns-clause-same c =
    let r = c.args.region.now in let p = c.args.at in let ws = c.set_back.new.content in let b = c.bytes_mut.ensures in let e = c.set_back.ensures in
    same_by r (with_content r p ws) p c.bytes_mut.result.now ws b.value e.body e.length (b.left ws e.length) (b.used ws) (b.live ws) (b.shape ws)
