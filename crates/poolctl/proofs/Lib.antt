mod Begun
mod ClassLines
mod Written
