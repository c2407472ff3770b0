mod Following
mod Greeting
mod Listing
mod Naming
mod Talking
mod Written
