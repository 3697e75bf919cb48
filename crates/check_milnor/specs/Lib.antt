pub mod Milnor
