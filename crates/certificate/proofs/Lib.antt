pub mod Answered
pub mod Readings
pub mod Inverses
pub mod UnitsRead
pub mod ModulusLines
