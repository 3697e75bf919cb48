pub mod FirstLead
