pub mod Held
pub mod Making
pub mod Tokens
pub mod Waiting
pub mod Work
pub use Rattle.xt_receipts.specs.Again
pub use Rattle.xt_receipts.specs.Calls
pub use Rattle.xt_receipts.specs.Closing
