-- To read: Page has every definition that a contract cites. Laws: lines one after another.
pub mod Page
pub mod Laws
pub mod Laid
