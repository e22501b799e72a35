pub mod Convert
pub mod InnerPiece
pub mod InnerReader
pub mod InnerScan
pub mod InnerWriter
pub mod Text
pub mod TextTable
pub mod Written
