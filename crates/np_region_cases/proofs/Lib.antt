pub mod RegionLoops
