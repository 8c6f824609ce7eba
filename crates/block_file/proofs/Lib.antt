mod Digits
mod Fill
mod Numbers
