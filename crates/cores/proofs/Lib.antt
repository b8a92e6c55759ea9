mod Crossings
mod Made
mod Lengths
mod Openings
mod Performing
