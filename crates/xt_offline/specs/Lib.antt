pub mod Printing
pub mod Script
pub mod LogDump
pub mod SealedDump
pub mod FilesDump
