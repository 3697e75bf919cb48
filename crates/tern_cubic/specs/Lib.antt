pub mod OtherShapes
pub mod Kernels
pub mod Rows
pub mod Matrices
pub mod Moving
pub mod Stepping
pub mod Reaching
pub mod Pairs
