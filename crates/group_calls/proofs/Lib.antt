mod Telling
mod Loop
mod Looping
mod Ending
