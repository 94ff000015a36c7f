mod ChainOrder
mod Growing
mod Keeping
mod Membership
mod Named
mod Walks
