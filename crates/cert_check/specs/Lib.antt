pub mod Found
pub mod Outcomes
pub mod Items
pub mod Heights
pub mod Laws
