use Rattle.regions.specs.Contents.{live_at}
use Rattle.part_examples.proofs.Only.{stands-only, named-moved, only-moved}
use Rattle.part_examples.proofs.bookmark.BookmarkMovers.moved.Goals as goal

pub returns-clause-stands : goal.returns-clause-stands
returns-clause-stands c m live only = stands-only m.place live only

pub returns-clause-names : goal.returns-clause-names
returns-clause-names c =
    let k = c.requires.copied in named-moved c.args.self.now.place (live_at c.args._store.now) c.args._from c.args.to k.0 c.requires.apart k.2 k.3 c.requires.fits

pub returns-clause-fits : goal.returns-clause-fits
returns-clause-fits c =
    let k = c.requires.copied in only-moved c.args.self.now.place (live_at c.args._store.now) c.args._from c.args.to k.0 c.requires.apart k.2 k.3 c.requires.fits
