pub mod ChainTrees
pub mod LastNames
pub mod Named
