-- Lines: every definition that a contract cites. Lengths: how long they get. Example: the paper's lines as values that compute.
pub mod Lines
pub mod Lengths
pub mod Example
