use Rattle.std.proofs.Common.{◌≢◌, [], sym, ap, ◌∙◌, arith}
use Rattle.regions.specs.Contents.{live_at}
use Rattle.fragments.proofs.Dropping.{parts_here, parts_past, with_parts}
use Rattle.fragments.proofs.store.writing.replace_value.Goals as goal

pub returns : goal.returns
returns c =
    let t = c.args.tables.now in let n = c.args.name in let d = c.drop_value.ensures in let e = c.settle.ensures in let below = c.requires.name in let same = d.names in record {
      chains = e.chains (live_at c.drop_value.new.region) d.chains;
      parts_are = λ all replaced hold here none rest.
          (let between = d.parts all (with_parts n [] all) hold (parts_here n [] all) (λ e far. parts_past n e [] all far) in
          let other : t.names ≢ n = λ e. (omega (arith, e, below)) in
          e.parts (live_at c.drop_value.new.region) (with_parts n [] all) replaced between
          (here ∙ (sym (parts_past n t.names [] all other) ∙ ap (with_parts n [] all) (sym same)))
          (ap replaced same ∙ none) (λ e far away. rest e far (λ x. away (x ∙ sym same)) ∙ sym (parts_past n e [] all far)));
      entries = e.entries;
      names = e.names ∙ same;
      total = d.live_total;
      shape_is = d.shape;
      stay = d.stay;
    }
