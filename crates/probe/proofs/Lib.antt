mod BaseParts
mod Chains
mod Constants
mod Fields
mod LowTerms
mod Rationals
mod RowLemmas
mod TermParts
