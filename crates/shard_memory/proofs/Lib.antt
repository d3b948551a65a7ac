pub mod Counts
pub mod Lists
pub mod Steps
pub mod Changes
pub mod PagesOut
pub mod Filling
pub mod Tickets
pub mod Lending
