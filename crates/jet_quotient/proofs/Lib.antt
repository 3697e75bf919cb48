pub mod ReductionFacts
pub mod LoopFacts
pub mod TableFacts
pub mod AnswerFacts
pub mod CallFacts
