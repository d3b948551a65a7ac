-- The nodes of a run together, once all are done.
pub mod OneDone
pub mod AllDone
