pub mod Steps
mod Octave
mod Runs
