pub mod InnerLines
pub mod Printed
pub mod PrintedGaps
pub mod Printing
pub mod WithoutAssumptions
