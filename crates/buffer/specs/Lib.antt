-- To read: Buffer has every definition that the contract cites. Pieces: pieces put one after another; their laws are in proofs/.
pub mod Buffer
pub mod Pieces
