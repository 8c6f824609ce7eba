mod Columns
mod Lines
