-- To read: Sheet has every definition that the public contract cites. Sized: its page fits. The theorems of the call as called are in proofs/Laws.
pub mod Sheet
pub mod Sized
