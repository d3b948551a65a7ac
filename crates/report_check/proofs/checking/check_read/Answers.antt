-- From what was read, walked and compared to the verdict.
use Rattle.std.proofs.Common.{◌≡◌, ◌≤◌, All, arith, List, [], None, Some, length, sym, ap, subst, ◌∙◌}
use Rattle.cache_model.specs.declared.entry.Entry.{Entry}
use Rattle.cache_model.specs.Report.{number_of}
use Rattle.run_log.specs.JournalState.{JournalState}
use Rattle.run_log.specs.Runs.{journals_in}
use Rattle.report_check.specs.inside.Walks.{AreLogs}
use Rattle.report_check.proofs.Checked.{all-walked, back, given, is-printed, logged, numbers, one-each, printed, said-compared, unbroken}
use Rattle.report_check.proofs.checking.check_read.Goals as goal

pub walk_all-requires-clause-one_each : goal.walk_all-requires-clause-one_each
walk_all-requires-clause-one_each c =
    ap length c.as_slice-journals.ensures.value
    ∙ one-each c.args.trace.now c.args.pages c.args.report.now c.requires.consistent c.requires.well_formed c.args.read.now c.requires.read

pub walk_all-requires-clause-numbered : goal.walk_all-requires-clause-numbered
walk_all-requires-clause-numbered c =
    subst (λ (items : List JournalState). All (λ journal. All (λ (entry : Entry). 1 ≤ number_of entry) journal) (journals_in items)) (sym c.as_slice-journals.ensures.value)
    (numbers c.args.trace.now c.args.pages c.args.report.now c.requires.consistent c.requires.well_formed c.args.read.now c.requires.read)

pub walk_all-requires-clause-logs : goal.walk_all-requires-clause-logs
walk_all-requires-clause-logs c = subst (AreLogs c.args.trace.now c.args.pages []) (sym c.deref_mut.ensures.value) (c.in_ok-logs.ensures c.args.pages)

pub first_difference-requires-clause-answered : goal.first_difference-requires-clause-answered
first_difference-requires-clause-answered c =
    let trace = c.args.trace.now in let pages = c.args.pages in let report = c.args.report.now in let read = c.args.read.now in
    let consistent = c.requires.consistent in let formed = c.requires.well_formed in let is-read = c.requires.read in let replies = c.walk_all.new.logs in let lines = c.in-Ok.lines.items in
    let walked = all-walked trace pages report consistent formed read is-read c.as_slice-journals.result.now replies c.in_ok-lines.field-0 c.in-Ok.lines c.as_slice-journals.ensures.value c.in-Ok.is c.in_ok-lines.ensures in
    let many : length replies ≡ c.in_ok-logs.logs.len = (let now = walked.logs.many in let before = (c.in_ok-logs.ensures pages).many in let len = c.in_ok-logs.logs.ok in omega (arith, now, before, len)) in
    let held = c.as_slice.ensures.value ∙ back c.in_ok-logs.logs.len c.in_ok-logs.logs.items replies many in (
      given trace pages report consistent formed read is-read replies lines walked,
      logged trace pages report consistent formed read is-read replies lines walked c.as_slice.result.now held,
      unbroken trace pages report consistent formed read is-read replies lines walked,
    )

pub first_difference-requires-clause-printed : goal.first_difference-requires-clause-printed
first_difference-requires-clause-printed c = (
  printed c.args.trace.now c.args.pages c.args.report.now c.requires.consistent c.requires.well_formed c.args.read.now c.requires.read,
  is-printed c.args.trace.now c.args.pages c.args.report.now c.requires.consistent c.requires.well_formed c.args.read.now c.requires.read c.requires.behind,
)

pub returns-in-None : goal.returns-in-None
returns-in-None c =
    let trace = c.args.trace.now in let pages = c.args.pages in let report = c.args.report.now in let read = c.args.read.now in
    let consistent = c.requires.consistent in let formed = c.requires.well_formed in let is-read = c.requires.read in let replies = c.walk_all.new.logs in let lines = c.in-Ok.lines.items in
    let walked = all-walked trace pages report consistent formed read is-read c.as_slice-journals.result.now replies c.in_ok-lines.field-0 c.in-Ok.lines c.as_slice-journals.ensures.value c.in-Ok.is c.in_ok-lines.ensures in
    let many : length replies ≡ c.in_ok-logs.logs.len = (let now = walked.logs.many in let before = (c.in_ok-logs.ensures pages).many in let len = c.in_ok-logs.logs.ok in omega (arith, now, before, len)) in
    let held = c.as_slice.ensures.value ∙ back c.in_ok-logs.logs.len c.in_ok-logs.logs.items replies many in
    said-compared trace pages report consistent formed read is-read replies lines walked None c.as_slice-2.result.now c.as_slice-2.ensures.value
    (sym c.in-None.is
    ∙ c.in_ok-found.ensures (given trace pages report consistent formed read is-read replies lines walked) (printed trace pages report consistent formed read is-read)
    (logged trace pages report consistent formed read is-read replies lines walked c.as_slice.result.now held)
    (unbroken trace pages report consistent formed read is-read replies lines walked) (is-printed trace pages report consistent formed read is-read c.requires.behind))

pub returns : goal.returns
returns c =
    let trace = c.args.trace.now in let pages = c.args.pages in let report = c.args.report.now in let read = c.args.read.now in
    let consistent = c.requires.consistent in let formed = c.requires.well_formed in let is-read = c.requires.read in let replies = c.walk_all.new.logs in let lines = c.in-Ok.lines.items in
    let walked = all-walked trace pages report consistent formed read is-read c.as_slice-journals.result.now replies c.in_ok-lines.field-0 c.in-Ok.lines c.as_slice-journals.ensures.value c.in-Ok.is c.in_ok-lines.ensures in
    let many : length replies ≡ c.in_ok-logs.logs.len = (let now = walked.logs.many in let before = (c.in_ok-logs.ensures pages).many in let len = c.in_ok-logs.logs.ok in omega (arith, now, before, len)) in
    let held = c.as_slice.ensures.value ∙ back c.in_ok-logs.logs.len c.in_ok-logs.logs.items replies many in
    said-compared trace pages report consistent formed read is-read replies lines walked (Some c.in-Some.line) c.as_slice-2.result.now c.as_slice-2.ensures.value
    (sym c.in-Some.is
    ∙ c.in_ok-found.ensures (given trace pages report consistent formed read is-read replies lines walked) (printed trace pages report consistent formed read is-read)
    (logged trace pages report consistent formed read is-read replies lines walked c.as_slice.result.now held)
    (unbroken trace pages report consistent formed read is-read replies lines walked) (is-printed trace pages report consistent formed read is-read c.requires.behind))
