mod Differences
mod Rooms
mod Values
