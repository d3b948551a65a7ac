-- Requests: what is asked, done and served.
pub mod Served
pub mod Askable
pub mod Told
pub mod NextAsk
pub mod Serving
pub mod DoesNext
pub mod SendsRequest
pub mod BeginsRequest
pub mod RequestBegun
pub mod ServesOne
pub mod TicketsBefore
