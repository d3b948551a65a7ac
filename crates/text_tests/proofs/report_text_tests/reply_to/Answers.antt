use Rattle.std.proofs.Common.{subst, sym}
use Rattle.rows.specs.declared.kind.Kind.{Kind}
use Rattle.rows.specs.Apply.{Keys}
use Rattle.rows.specs.Fits.{FitsKind}
use Rattle.rows.specs.Key.{in_table}
use Rattle.text_tests.proofs.report_text_tests.reply_to.Goals as goal

pub returns-in-Put-clause-fits : goal.returns-in-Put-clause-fits
returns-in-Put-clause-fits c =
    let bare = c.put_reply.ensures in
    (bare.0, bare.1, subst (λ (kind : Kind). FitsKind kind c.args.longest (in_table c.args.table c.args.key.now) c.args.count bare.0) (sym c.in-Put.is) (bare.2 c.args.longest (in_table c.args.table c.args.key.now) c.args.count))

pub returns-in-Get-clause-fits : goal.returns-in-Get-clause-fits
returns-in-Get-clause-fits c =
    let got = c.get_reply.ensures.fits (in_table c.args.table c.args.key.now) c.args.count in
    (got.0, got.1, subst (λ (kind : Kind). FitsKind kind c.args.longest (in_table c.args.table c.args.key.now) c.args.count got.0) (sym c.in-Get.is) got.2)

pub returns-in-Erase-clause-fits : goal.returns-in-Erase-clause-fits
returns-in-Erase-clause-fits c =
    let bare = c.erase_reply.ensures in
    (bare.0, bare.1, subst (λ (kind : Kind). FitsKind kind c.args.longest (in_table c.args.table c.args.key.now) c.args.count bare.0) (sym c.in-Erase.is) (bare.2 c.args.longest (in_table c.args.table c.args.key.now) c.args.count))

pub returns-in-Scan-clause-fits : goal.returns-in-Scan-clause-fits
returns-in-Scan-clause-fits c =
    let found = c.found_keys.ensures.keys in
    (Keys found.0, found.2, subst (λ (kind : Kind). FitsKind kind c.args.longest (in_table c.args.table c.args.key.now) c.args.count (Keys found.0)) (sym c.in-Scan.is) found.1)
