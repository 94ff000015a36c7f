mod Pushes
mod Stored
