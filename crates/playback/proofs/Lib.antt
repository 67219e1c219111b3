mod Gates
mod Ledgered
mod Order
mod Playing
mod Pointed
mod Sorted
mod Stepping
