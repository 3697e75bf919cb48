pub mod AnswerLemmas
pub mod HighLemmas
pub mod FailureLemmas
pub mod MatherLemmas
pub mod ExclusionLemmas
