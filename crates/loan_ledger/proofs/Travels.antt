-- Loans and receipts may go to other threads, since tokens may.
use denote.Param.Send.{IsSend, sendable}
use Rattle.std.proofs.Crossing.{crosses}
use Rattle.loan_ledger.proofs.token.Token.TheSendSync.{the_send as token_send}
use Rattle.loan_ledger.specs.contracts.loans.Loans as Loans
use Rattle.loan_ledger.specs.contracts.receipt.Receipt as Receipt

pub loans_send : IsSend Loans.the_row
loans_send = search (sendable, crosses, token_send) depth 40 fits 6000

pub receipt_send : IsSend Receipt.the_row
receipt_send = search (sendable, crosses, token_send) depth 40 fits 6000
