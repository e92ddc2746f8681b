pub mod Folds
pub mod Sets
