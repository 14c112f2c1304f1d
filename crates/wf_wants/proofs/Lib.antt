mod Timed
mod Wanted
mod Nodes
