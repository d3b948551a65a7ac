use Rattle.std.proofs.Common.{take, subst, sym, ◌∙◌, arith}
use Rattle.std.specs.Prelude.{All}
use Rattle.std.proofs.lemmas.List.{length-set, take_more_set, take_all}
use Rattle.std.proofs.lemmas.List.Elements.{All-get_or, All-push}
use Rattle.key_index.specs.declared.entries.Entry.{Entry}
use Rattle.key_index.specs.Lead.{IsLed}
use Rattle.key_index.proofs.Leads.{all_same_rows}
use Rattle.key_index.proofs.Relead.{rows_set}
use Rattle.key_index.proofs.entries.relead.Goals as goal

pub entry_of-requires : goal.entry_of-requires
entry_of-requires g c =
    let all = all_same_rows (λ r. g.K.Keys.has_row c.args.keys.now r) c.loop-at.entries c.args.entries.now c.loop-at.invariant.rows c.requires in
    All-get_or (λ (e : Entry). g.K.Keys.has_row c.args.keys.now e.row) c.loop-at.entries c.loop-at.at _ (omega (arith, c.loop-at.invariant.len)) all

pub loop-at-preserved : goal.loop-at-preserved
loop-at-preserved g c =
    let entry : Entry = c.entry_of.result in
    let P : Entry → Type 0 = IsLed (g.K.Keys.key_of c.args.keys.now) in
    record {
      rows = rows_set c.loop-at.entries c.loop-at.at entry _ (omega (arith, c.loop-at.invariant.len)) c.entry_of.ensures.row ∙ c.loop-at.invariant.rows;
      len = length-set c.loop-at.entries c.loop-at.at entry ∙ c.loop-at.invariant.len;
      leads = subst (All P) (sym (take_more_set c.loop-at.entries c.loop-at.at entry (omega (arith, c.loop-at.invariant.len))))
          (All-push P (take c.loop-at.at c.loop-at.entries) entry c.loop-at.invariant.leads c.entry_of.ensures.led);
    }

pub returns-clause-leads : goal.returns-clause-leads
returns-clause-leads g c =
    let P : Entry → Type 0 = IsLed (g.K.Keys.key_of c.args.keys.now) in
    subst (All P) (take_all c.loop-at.at c.loop-at.entries (omega (arith, c.loop-at.invariant.len))) c.loop-at.invariant.leads
