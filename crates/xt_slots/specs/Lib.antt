pub mod Commands
pub use Rattle.xt_receipts.specs.Calls
