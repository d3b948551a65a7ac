-- What only the private parts cite.
pub mod Rising
pub mod Fitting
