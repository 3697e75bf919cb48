pub mod Ranks
pub mod Forms
pub mod Inverses
pub mod Scaling
pub mod Roots
mod Example
mod RowsCones
mod RowsNodes
mod RowsCusps
mod RowsSecants
mod RowsTriangles
mod RowsTowers
mod RowsFields
mod RowsNamed
mod RowsOutside
mod RowsFive
mod RowsTriangleName
mod RowsTowerName
pub mod OneShape
pub mod ShapeFields
