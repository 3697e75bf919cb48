pub mod FormHeights
