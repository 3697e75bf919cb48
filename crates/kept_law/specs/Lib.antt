pub mod KeptParts
pub mod PlanStates
