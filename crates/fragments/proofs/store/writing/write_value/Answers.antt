use Rattle.std.proofs.Common.{◌≡◌, ◌-◌, ◌*◌, length, take, drop, sym, ap, subst, ◌∙◌, arith}
use Rattle.std.proofs.lemmas.List.{take_rest}
use Rattle.regions.specs.Contents.{live_at}
use Rattle.fragments.specs.Sizes.{count_of, fragment_bytes}
use Rattle.fragments.specs.Chains.{AreChains, TableState, cut}
use Rattle.fragments.proofs.Written.{chains_begun, whole_value, writes_last, writes_more}
use Rattle.fragments.proofs.store.writing.write_value.Goals as goal

pub add_part-requires-clause-chains : goal.add_part-requires-clause-chains
add_part-requires-clause-chains c =
    let t = c.args.tables.now in
    subst (λ (x : TableState). AreChains x (live_at c.args.region.now)) (sym c.begin.ensures.state) (chains_begun t c.args.name (live_at c.args.region.now) c.requires.chains c.begin.ensures.entries c.requires.none)

pub loop-left-init : goal.loop-left-init
loop-left-init c =
    let t = c.args.tables.now in let e = c.add_part.ensures in let k = c.fragment_count-left.ensures in
    let left = c.fragment_count-left.result - 1 in let some = k.some in let count = k.count in
    writes_last t c.begin.new.self c.add_part.new.tables c.args.region.now c.add_part.new.region c.args.name c.args.bytes.now
    (take (length c.args.bytes.now - left * fragment_bytes) (drop (left * fragment_bytes) c.args.bytes.now)) left
    c.requires.chains c.begin.ensures.entries c.requires.none c.begin.ensures.state (omega (arith, some, count)) (take_rest c.args.bytes.now (left * fragment_bytes)) e.chains e.names e.grows e.longer e.parts e.live_total e.free e.segments

pub part_of-requires : goal.part_of-requires
part_of-requires c =
    let w = c.loop-left.invariant in let counted = w.counted in let some = w.some in let test = c.loop-left-test.true in
    let k = c.fragment_count-left.ensures in let count = k.count in let within = k.within in
    omega (arith, counted, some, test, count, within)

pub loop-left-preserved : goal.loop-left-preserved
loop-left-preserved c =
    let e = c.add_part-in-loop-left.ensures in let p = c.part_of.ensures in let test = c.loop-left-test.true in
    writes_more c.args.tables.now c.loop-left.tables c.add_part-in-loop-left.new.tables c.args.region.now c.loop-left.region c.add_part-in-loop-left.new.region c.args.name c.args.bytes.now
    c.part_of.result.now c.loop-left.left (c.loop-left.left - 1) c.loop-left.invariant (omega (arith, test)) p.bytes p.length e.chains e.names e.grows e.longer e.parts e.live_total e.free e.segments

pub returns : goal.returns
returns c =
    let w = c.loop-left.invariant in let bytes = c.args.bytes.now in let test = c.loop-left-test.false in
    let zero_is : c.loop-left.left ≡ 0 = omega (arith, test) in let total = w.total in
    record {
      chains = w.chains;
      parts_are = λ all more hold none now rest.
          w.parts_are all more hold none
          (now ∙ (sym (whole_value bytes) ∙ ap (λ k. cut (count_of (length bytes) - k) (drop (k * fragment_bytes) bytes)) (sym zero_is))) rest;
      names = w.names;
      grows = w.grows;
      total = omega (arith, total, zero_is);
      free = w.free;
      segments = w.segments;
      facts = (let f = c.facts.ensures in record {
        store = f.store;
        groups = f.groups;
        grouped = f.grouped;
        stands = f.stands;
        closed = f.closed;
        of = f.of;
        active = f.active;
      });
    }
