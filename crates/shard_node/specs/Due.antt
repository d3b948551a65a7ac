-- What two shards have to say to each other over a link, and which packets are the ones that were expected.
pub use Rattle.part_lemmas.specs.Due.{operations_for, said, due, is_same, is_same_as, is_next, then_taken, requests_taken, Answers, AnswersNot, Takes, number_said, number_in}
