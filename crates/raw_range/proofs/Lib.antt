pub mod Calls
pub mod Crosses
pub mod Lodging
pub mod Places
pub mod Rest
pub mod Rooms
pub mod Vecs
pub mod Walks
