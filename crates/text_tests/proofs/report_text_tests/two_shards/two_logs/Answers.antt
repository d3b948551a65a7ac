use Rattle.std.proofs.Common.{ℕ, List, sym, subst, ◌∷◌, []}
use Rattle.rows.specs.Apply.{Reply}
use Rattle.cache_model.specs.Examples.{two_shards}
use Rattle.cache_model.specs.Logged.{AreLogged}
use Rattle.text_tests.proofs.TwoShards.{Log, second_log, two_logged}
use Rattle.text_tests.proofs.report_text_tests.two_shards.two_logs.Goals as goal

pub returns : goal.returns
returns g c =
    subst (λ (log : Log). (answers : List (ℕ × Reply)) × AreLogged two_shards 2 (c.in_ok-filled_log.field-0.replies ∷ log ∷ []) answers) (sym c.in_ok-filled_log-2.ensures)
    (subst (λ (log : Log). (answers : List (ℕ × Reply)) × AreLogged two_shards 2 (log ∷ second_log ∷ []) answers) (sym c.in_ok-filled_log.ensures) two_logged)
