mod Held
mod Tried
