-- A command's fields lie in whatever bytes its line lies in.
use Rattle.std.proofs.Common.{refl}
use Rattle.trace_text.proofs.Offsets.{lies_in_outer, key-some, key-most, value-most, line_reading_is}
use Rattle.trace_text.proofs.reading.command_at.Goals as goal

pub returns-clause-found : goal.returns-clause-found
returns-clause-found c bytes lies =
    let found = c.in_ok-found.ensures.offsets in
    let key = lies_in_outer bytes c.args.text.now _ c.args.start _ lies found.key in
    let value = lies_in_outer bytes c.args.text.now _ c.args.start _ lies found.value in (
      rw (key.1, value.1) (line_reading_is c.args.version c.args.number c.args.line c.args.text.now _ c.requires.few c.in_ok-found.ensures.fields),
      record {
        table = found.table;
        key = key.0;
        value = value.0;
        key_some = key-some _ found.is_key;
        key_most = key-most _ found.is_key;
        value_most = value-most _ found.is_value;
        is_key = rw key.1 found.is_key;
        is_value = rw value.1 found.is_value;
        fields = rw value.1 found.fields;
      },
      refl,
    )

pub returns-clause-key : goal.returns-clause-key
returns-clause-key c bytes lies = (lies_in_outer bytes c.args.text.now _ c.args.start _ lies c.in_ok-found.ensures.offsets.key).1
