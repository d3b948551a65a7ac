-- Which traces that were read are run.
use Rattle.std.proofs.Common.{◌≡◌, ℕ, ◌+◌, ◌/◌, ◌<◌, ◌≤◌, ◌==◌, Bool, true, false, cond, ltb, List, length, Option, Some, None, Ok, Err, arith, refl, ap, ◌∙◌}
use Rattle.std.specs.Prelude.{nat_lt}
use Rattle.std.proofs.lemmas.Bool.{cond-true, lt-ltb}
use Rattle.std.proofs.lemmas.Bool.Decides.{nat_tests}
use Rattle.layout.specs.Sizes.{fewest_pages, fewest_table_pages, most_trace_bytes, segment_pages, tables, tickets, ArePages}
use Rattle.trace_text.specs.declared.refusal.Cause.{Cause}
use Rattle.trace_text.specs.Reading.{trace_of}
use Rattle.trace_text.specs.Reading as trace_refusal
use Rattle.trace_text.specs.Trace.{Trace, regions}
use Rattle.settings.specs.declared.settings.mode.Mode.{Mode}
use Rattle.settings.specs.Settings.{Settings}
use Rattle.shard_node.specs.Nodes.{HasTablePages}
use Rattle.shardcache.specs.declared.misfit.Misfit.{Misfit}
use Rattle.shardcache.specs.declared.misfit.Misfit.TheVariants.{Version, PagesTooFew}
use Rattle.shardcache.specs.TraceFor.{AtLine, Own, TooLong, Unfit, fitting, if_fitting, knows_tables, misfit_in, misfit_of, trace_for}

-- what was read is the trace that is run, where nothing keeps it from that
pub reads_fit : (found : Settings) (bytes : List ℕ) (trace : Trace) → trace_of bytes found.shards ≡ Ok trace → misfit_of found.mode found.pages trace ≡ None → trace_for found bytes ≡ Ok trace
reads_fit found bytes trace read none = ap (if_fitting (misfit_of found.mode found.pages)) read ∙ ap (λ (misfit : Option Misfit). fitting misfit trace) none

pub reads_unfit : (found : Settings) (bytes : List ℕ) (trace : Trace) (misfit : Misfit) → trace_of bytes found.shards ≡ Ok trace → misfit_of found.mode found.pages trace ≡ Some misfit
    → trace_for found bytes ≡ Err (AtLine 1 (Unfit misfit))
reads_unfit found bytes trace misfit read some = ap (if_fitting (misfit_of found.mode found.pages)) read ∙ ap (λ (misfit : Option Misfit). fitting misfit trace) some

-- the trace's own refusals
pub reads_refused : (found : Settings) (bytes : List ℕ) (number : ℕ) (cause : Cause) → trace_of bytes found.shards ≡ Err (trace_refusal.AtLine number cause)
    → trace_for found bytes ≡ Err (AtLine number (Own cause))
reads_refused found bytes number cause refused = ap (if_fitting (misfit_of found.mode found.pages)) refused

pub too_long_for : (found : Settings) (bytes : List ℕ) → most_trace_bytes < length bytes → trace_for found bytes ≡ Err TooLong
too_long_for found bytes long = ap (if_fitting (misfit_of found.mode found.pages)) (is_too_long bytes found.shards long) where
  is_too_long : (bytes : List ℕ) (n : ℕ) → most_trace_bytes < length bytes → trace_of bytes n ≡ Err trace_refusal.TooLong
  is_too_long bytes n long = cond-true (ltb most_trace_bytes (length bytes)) _ _ (lt-ltb most_trace_bytes (length bytes) long)

-- a trace that is run has the pages that its tables need
has-pages : (named knows : Bool) (pages : ℕ) → cond named (misfit_in knows pages) None ≡ None → cond named tables 1 ≡ tables → fewest_table_pages ≤ pages
has-pages false knows pages none all = absurd (omega (arith, all))
has-pages true false pages none all = absurd (let clash : Some Version ≡ None = none in cc)
has-pages true true pages none all = by-test (nat_lt pages fewest_table_pages) refl none where
  by-test : (few : Bool) → nat_lt pages fewest_table_pages ≡ few → cond few (Some PagesTooFew) None ≡ None → fewest_table_pages ≤ pages
  by-test true is none = absurd (let clash : Some PagesTooFew ≡ None = none in cc)
  by-test false is none = grind (arith, nat_tests)

pub fits_pages : (mode : Mode) (pages : ℕ) (trace : Trace) → misfit_of mode pages trace ≡ None → HasTablePages trace pages
fits_pages mode pages trace none = λ all. has-pages (trace.version == 2) (knows_tables mode) pages none all

-- the pages are enough for a segment of each ticket, of each region, and one more
covers_regions : (named : Bool) (pages : ℕ) → fewest_pages ≤ pages → (cond named tables 1 ≡ tables → fewest_table_pages ≤ pages)
    → tickets + 1 + cond named tables 1 ≤ pages / segment_pages
covers_regions true pages few all = let more = all refl in let least : 48 ≤ pages / segment_pages = omega (arith, more) in omega (arith, least)
covers_regions false pages few all = let least : 40 ≤ pages / segment_pages = omega (arith, few) in omega (arith, least)

pub covers : (trace : Trace) (pages : ℕ) → ArePages pages → HasTablePages trace pages → tickets + 1 + regions trace ≤ pages / segment_pages
covers trace pages are all = covers_regions (trace.version == 2) pages are.0 all
