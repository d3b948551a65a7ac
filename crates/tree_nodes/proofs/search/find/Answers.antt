use Rattle.std.proofs.Common.{List}
use Rattle.tree_nodes.specs.Nodes.{Entry, node_in}
use Rattle.tree_nodes.proofs.FirstBytes.{bytes_from, high_enough, high_within, keys_of, low_enough}
use Rattle.tree_nodes.proofs.search.find.Goals as goal

pub find_among-requires : goal.find_among-requires
find_among-requires c =
    let es : List Entry = (node_in c.args.node.now).entries in
    let bytes = bytes_from c.args.key.now (λ i. (c.type_inv.key i).fits) in
    let keys = keys_of c.args.node.now (bytes_from c.args.node.now (λ i. (c.type_inv.node i).fits)) in
    record {
      node = c.requires.node;
      rising = c.requires.rising;
      least = low_enough c.args.key.now es c.lead_of.result c.count_leads-low.result.0 bytes keys c.lead_of.ensures c.count_leads-low.ensures.below;
      most = high_enough c.args.key.now es c.lead_of.result c.count_leads-low.result.1 bytes keys c.lead_of.ensures c.count_leads-low.ensures.upto;
      within = high_within es c.lead_of.result c.count_leads-low.result.1 c.count_leads-low.ensures.upto;
    }
