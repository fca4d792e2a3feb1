pub mod Fitting
pub mod Listing
pub mod Reporting
