mod ChMaj
mod Rotations
mod LaneWords
mod LaneBlocks
mod LaneDigests
