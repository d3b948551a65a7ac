pub mod IndexArena
pub mod Live
pub mod TableArena
