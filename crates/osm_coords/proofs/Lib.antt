mod FormRead
mod Numerals
mod ReadBack
