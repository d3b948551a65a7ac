mod Guarded
mod TwoEnds
