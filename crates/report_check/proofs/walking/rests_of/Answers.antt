-- The commands of one origin more.
use Rattle.std.proofs.Common.{◌≡◌, ℕ, ◌+◌, [], List, arith, ap, sym, subst, length, ◌∙◌}
use Rattle.std.specs.List.{slice_index_or}
use Rattle.std.proofs.lemmas.List.{length_push}
use Rattle.part_lemmas.specs.Rest.{RestState}
use Rattle.report_check.specs.inside.Walks.{IsRestBehind}
use Rattle.report_check.proofs.Begun.{pushed-each, rest-begins}
use Rattle.report_check.proofs.walking.rests_of.Goals as goal

pub loop-origin-preserved : goal.loop-origin-preserved
loop-origin-preserved c =
    let trace = c.args.trace.now in let l = c.loop-origin in let i = l.invariant in let e = c.of.ensures in
    let pushed = c.in_ok-push.ensures.items in
    record {
      many = ap (λ (xs : List RestState). length xs) pushed ∙ length_push l.rests.items c.of.result ∙ ap (λ (k : ℕ). k + 1) i.many;
      each = λ o d below.
          subst (λ (xs : List RestState). IsRestBehind trace c.args.shard [] o (slice_index_or xs o d)) (sym pushed)
          (pushed-each (λ (k : ℕ) (rest : RestState). IsRestBehind trace c.args.shard [] k rest) l.rests.items c.of.result l.origin i.many i.each
          (rest-begins trace c.args.shard l.origin c.of.result e.trace e.origin e.shard e.left) o d below);
    }

pub returns : goal.returns
returns c =
    let l = c.loop-origin in
    let ended = c.loop-origin-test.false in
    let most = l.auto.origin-end in
    let shards = c.shards-origin-end.ensures.value in
    let all : l.origin ≡ c.args.trace.now.shards = omega (arith, ended, most, shards) in
    record {
      many = l.invariant.many ∙ all;
      each = λ o d below. l.invariant.each o d (omega (arith, below, all));
    }
