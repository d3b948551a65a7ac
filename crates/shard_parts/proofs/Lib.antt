pub mod OwnNext
pub mod RisingKeys
pub mod FitsByBody
pub mod Each
