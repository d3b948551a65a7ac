mod Empty
mod FirstRow
mod Only
