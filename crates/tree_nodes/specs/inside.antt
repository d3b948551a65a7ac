-- What only the private parts cite.
pub mod Leads
pub mod Splices
