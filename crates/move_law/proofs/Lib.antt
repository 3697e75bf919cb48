pub mod AlgebraFields
