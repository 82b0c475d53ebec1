-- What is weighed item by item.
pub use Rattle.loan_ledger.specs.Weights.{weigh}
