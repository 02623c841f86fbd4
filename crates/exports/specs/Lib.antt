-- To read: Exports has every definition that the contracts cite and the library's own do not; Laws what they mean.
pub mod Exports
pub mod Laws
