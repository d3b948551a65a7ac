use Rattle.std.proofs.Common.{ℕ, ◌∙◌, None, inl, inr, refl, subst, sym}
use Rattle.shard_node.specs.declared.shard.Shard.{Shard}
use Rattle.shard_node.specs.Links.{IsUnused}
use Rattle.shard_node.proofs.Standing.Opened.{IsOpened, opens-consistent}
use Rattle.part_lemmas.proofs.OwnParts.OpenedPeers.{all-of}
use Rattle.shard_node.proofs.Standing.OpenedStands.{opens-standing}
use Rattle.shard_node.proofs.shard.Shard.open.Given.{Over}
use Rattle.cache_lemmas.proofs.Laws.{issued_parts_are_counted-count, issued_parts_are_counted-peer}
use Rattle.shard_node.proofs.shard.Shard.open.Goals as goal

-- there is one region, or one for each table, for which the pages are enough
pub open-requires-clause-regions : goal.open-requires-clause-regions
open-requires-clause-regions g c = elim c.regions-regions.ensures.one_or_tables [
  | inl one ↦ inl one
  | inr each ↦ inr (each, c.requires.tables (sym c.regions-regions.ensures.value ∙ each))
]

-- the shard, of so many
abbrev made_of : (g : Over) → goal.After-new-2 g → ℕ → Shard g.row.L.Denot g.row.G.Denot
made_of g c n = record {
  shard = c.args.shard;
  shards = n;
  pages = c.args.pages;
  trace = c.args.trace;
  longest = c.longest_value.result;
  store = c.in-Ok-open.store;
  journal = c.in-Ok.room.journal;
  log = c.in-Ok.room.log;
  keys = c.in-Ok.room.keys;
  peers = c.peers_over.result;
  own = c.of.result;
  here = c.of-2.result;
  request = None;
  gate = c.args.gate;
  tally = c.new-2.result;
  turns = 0;
}

abbrev made : (g : Over) → goal.After-new-2 g → Shard g.row.L.Denot g.row.G.Denot
made g c = made_of g c c.shards-shards.result

opened_of : (g : Over) (c : goal.After-new-2 g) → IsOpened g.L.Link.traffic (made_of g c c.args.trace.now.shards)
opened_of g c = record {
  read = c.shards-shards.ensures.consistent;
  parsed_for = refl;
  within = c.requires.within;
  of_shard = c.in-Ok-open.ensures.numbers.0;
  pages = c.in-Ok-open.ensures.numbers.1;
  of_regions = c.in-Ok-open.ensures.regions ∙ c.regions-regions.ensures.value;
  unguarded = c.in-Ok-open.ensures.unguarded;
  longest = c.longest_value.ensures;
  rows = c.in-Ok-open.ensures.rows;
  room = c.in-Ok-open.ensures.numbers.2 ∙ c.in-Ok.ensures.rows;
  lends = c.in-Ok-open.ensures.lent.1;
  backs = c.in-Ok-open.ensures.lent.2;
  idle = c.in-Ok-open.ensures.idle;
  journal = c.in-Ok.ensures.journal;
  log = c.in-Ok.ensures.log;
  keys = c.in-Ok.ensures.keys;
  numbers = c.peers_over.ensures.numbers;
  new = c.peers_over.ensures.new;
  unused = all-of (IsUnused g.L.Link.traffic) (λ peer. peer.link) c.peers_over.result.items c.args.links.items c.peers_over.ensures.links c.requires.unused;
  own_trace = c.of.ensures.trace;
  own_shard = c.of.ensures.shard;
  begun = c.of.ensures.begun;
  here_trace = c.of-2.ensures.trace;
  here_origin = c.of-2.ensures.origin;
  here_shard = c.of-2.ensures.shard;
  here = c.of-2.ensures.left;
  request = refl;
  tally = c.new-2.ensures;
}

opened : (g : Over) (c : goal.After-new-2 g) → IsOpened g.L.Link.traffic (made g c)
opened g c = subst (λ n. IsOpened g.L.Link.traffic (made_of g c n)) (sym c.shards-shards.ensures.value) (opened_of g c)

pub returns-clause-consistent : goal.returns-clause-consistent
returns-clause-consistent g c =
    opens-consistent g.L.Link.traffic (made g c) (opened g c) issued_parts_are_counted-count issued_parts_are_counted-peer c.shards-shards.ensures.well_formed

pub returns-clause-standing : goal.returns-clause-standing
returns-clause-standing g c =
    opens-standing g.L.Link.traffic (made g c) (opened g c) issued_parts_are_counted-count issued_parts_are_counted-peer c.shards-shards.ensures.well_formed
