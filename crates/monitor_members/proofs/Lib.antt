pub mod PairSets
pub mod PairMaps
