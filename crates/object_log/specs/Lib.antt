pub mod Objects
pub mod Contents
pub mod inside
