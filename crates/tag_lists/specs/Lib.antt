pub mod TagLists
pub mod Forms
pub mod RoundTrips
pub mod Examples
