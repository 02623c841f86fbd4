-- To read: SheetPage has every definition that a contract cites. Fits: what keeps a sheet within its page.
-- Told: what it means that each number stands in its place and reads back; its laws, those of Fits and those of a record's page are in proofs/.
-- Example: columns as values that compute.
pub mod SheetPage
pub mod Fits
pub mod Told
pub mod Example
