use Rattle.embedded_tests.proofs.used.finish.Goals as goal

pub close-seat-requires-clause-unguarded : goal.close-seat-requires-clause-unguarded
close-seat-requires-clause-unguarded c = c.is_guarded.ensures.0 c.if-is_guarded.false
