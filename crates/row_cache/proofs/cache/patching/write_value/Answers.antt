use Rattle.std.proofs.Common.{◌≡◌, ℕ, ◌+◌, ◌≤◌, List, length, refl, sym, ap, subst, ◌∙◌}
use Rattle.rows.specs.Row.{Row}
use Rattle.row_bytes.specs.Patches.{with_patch}
use Rattle.row_bytes.specs.Rows.{HoldsRow, newer_in, number_in, older_in, row_in}
use Rattle.row_bytes.specs.declared.links.Links.{Links}
use Rattle.regions.specs.Contents.{item_if_live, live_at, standing_at}
use Rattle.row_cache.specs.Links.{content_of}
use Rattle.row_cache.proofs.Relinked.{live_written}
use Rattle.row_cache.proofs.States.{content_standing}
use Rattle.row_cache.proofs.cache.patching.write_value.Goals as goal

pub set_value-requires-clause-row : goal.set_value-requires-clause-row
set_value-requires-clause-row c =
    let h = c.requires.row in let same = content_standing (standing_at c.args.region.now c.args.at) h.item c.bytes_mut.result.now h.is c.bytes_mut.ensures.value in
    (h.number, h.row, subst (λ (b : List ℕ). HoldsRow b h.number h.row) (sym same) h.is_row.holds)

pub set_value-requires-clause-within : goal.set_value-requires-clause-within
set_value-requires-clause-within c =
    let h = c.requires.row in let same = content_standing (standing_at c.args.region.now c.args.at) h.item c.bytes_mut.result.now h.is c.bytes_mut.ensures.value in
    let here : content_of (live_at c.args.region.now c.args.at) ≡ c.bytes_mut.result.now = ap content_of h.is ∙ sym same in
    subst (λ (b : List ℕ). c.args.from + length c.args.bytes.now ≤ length (row_in b).value) here c.requires.within

pub returns : goal.returns
returns c =
    let r = c.args.region.now in let p = c.args.at in let from = c.args.from in let bytes = c.args.bytes.now in
    let h = c.requires.row in let ws = c.set_value.new.content in let b = c.bytes_mut.ensures in let e = c.set_value.ensures in
    let same = content_standing (standing_at r p) h.item c.bytes_mut.result.now h.is b.value in
    let change = b.left ws e.length in
    record {
      before = h.item;
      after = record h.item { content = ws };
      was = h.is;
      is = ap item_if_live change.here ∙ live_written (standing_at r p) h.item ws h.is;
      others = λ q far. ap item_if_live (change.others q far);
      group = refl;
      rows = λ n row is.
          (let held : HoldsRow c.bytes_mut.result.now n row = subst (λ (b : List ℕ). HoldsRow b n row) (sym same) is.holds in
          record {
            kind = is.kind;
            holds = e.holds n row held;
            read = e.row ∙ ap (λ (r : Row). with_patch r from bytes) (ap row_in same ∙ is.read);
            number = e.number ∙ (ap number_in same ∙ is.number);
            size = e.size n row held;
          });
      row = e.row ∙ ap (λ (ws : List ℕ). with_patch (row_in ws) from bytes) same;
      long = e.value ∙ ap (λ (ws : List ℕ). length (row_in ws).value) same;
      newer = ap (λ (l : Links). l.newer) e.links ∙ ap newer_in same;
      older = ap (λ (l : Links). l.older) e.links ∙ ap older_in same;
      used = b.used ws;
      live = b.live ws;
      shape = b.shape ws;
    }
