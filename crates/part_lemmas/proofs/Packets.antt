-- What a packet says, where it is taken; how many went over links, and blocks that wait to be released.
pub mod Taken
pub mod DueNext
pub mod BodyLengths
pub mod Passed
pub mod Releases
