use Rattle.numerals.proofs.Spelled.{once, spelled}
use Rattle.numerals.proofs.law.numbers_are_spelled_once.Goals as goal

pub returns-clause-spelled : goal.returns-clause-spelled
returns-clause-spelled c = spelled

pub returns-clause-once : goal.returns-clause-once
returns-clause-once c = once
