-- The definitions compute on the example.
use Rattle.std.proofs.Common.{refl}
use Rattle.shard_node_tests.proofs.examples.packets.Goals as goal

pub returns : goal.returns
returns c block = record {
  asked = refl;
  asked_back = refl;
  taken = refl;
  other_number = refl;
  expects = refl;
  found = refl;
  behind = refl;
  other_value = refl;
  other_value_found = refl;
  other_table = refl;
  of_table = refl;
  early_bye = refl;
  bye_found = refl;
  short = refl;
  short_found = refl;
  twice = refl;
  twice_expected = refl;
  twice_found = refl;
  counted_once = refl;
}
