mod Places
mod Given
mod Turned
mod Drawn
mod Same
mod Trials
