-- What only the private parts of the index cite.
pub mod Climbs
pub mod Consistent
pub mod Listings
pub mod Mends
pub mod Rosters
