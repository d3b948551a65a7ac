use Rattle.std.proofs.lemmas.Result.{on_ok_weaker}
use Rattle.text_lemmas.proofs.Written.{Writes-last}
use Rattle.index_mode.proofs.text.write_text.Goals as goal

pub returns-clause-written : goal.returns-clause-written
returns-clause-written g c = Writes-last c.in_ok-do_commands.ensures.written c.flush.ensures.wrote

pub returns-clause-index : goal.returns-clause-index
returns-clause-index g c = on_ok_weaker c.flush.result (λ _. c.in_ok-do_commands.ensures.index) c.flush.ensures.empty
