mod Counting
mod Deploying
mod Mapping
mod Moving
mod Quiet
mod Repeating
mod Resumed
