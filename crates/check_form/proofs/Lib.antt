mod Quotients
mod Elements
mod Reports
