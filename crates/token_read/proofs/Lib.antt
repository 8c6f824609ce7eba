mod Refusals
mod Restoring
mod Told
