pub mod Handles
pub mod Keeping
pub mod LeaseKeeping
pub mod Leases
pub mod MailboxKeeping
pub mod Refusals
