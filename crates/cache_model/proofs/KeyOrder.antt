-- The lemmas on the order of keys that this crate's functions are proved by.
pub use Rattle.row_lemmas.proofs.KeyOrder.{at_most_compares, sorted_is}
