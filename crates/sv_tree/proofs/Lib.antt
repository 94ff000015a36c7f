mod Beside
mod Declared
mod Filing
pub mod Answering
pub mod Bounding
pub mod Changing
pub mod Closing
pub mod Counting
pub mod Deciding
pub mod Doing
pub mod Ending
pub mod Following
pub mod Forwarding
pub mod Hearing
pub mod Including
pub mod Keeping
pub mod Moving
pub mod Nesting
pub mod Serving
pub mod Silence
