use denote.Param.Send.{IsSend}
use Rattle.loan_ledger.proofs.Sent.{token_send}
use Rattle.loan_ledger.specs.contracts.token.Token.{the_row}

pub send : IsSend the_row
send = token_send
