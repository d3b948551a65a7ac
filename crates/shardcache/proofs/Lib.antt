pub mod Audited
pub mod Causes
pub mod Fitting
pub mod Printed
pub mod Reported
pub mod TableRows
