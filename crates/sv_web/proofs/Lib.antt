mod Doing
mod Escapes
mod Pushes
mod SentLemmas
