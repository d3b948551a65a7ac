mod Held
mod Probes
mod Copied
mod Gaps
mod Told
mod Listed
mod Both
mod Moved
