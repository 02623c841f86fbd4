-- To read: Record has every definition that a contract cites. Lengths: how long it gets. Example: the paper's lines as values that compute.
pub mod Record
pub mod Lengths
pub mod Example
