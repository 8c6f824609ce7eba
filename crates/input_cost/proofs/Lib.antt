mod Adding
mod Turns
mod Again
mod Meaning
