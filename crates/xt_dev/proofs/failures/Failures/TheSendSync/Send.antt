-- It owns nothing, so it may go to any thread.
use denote.Param.Send.{IsSend, owning_send}
use Rattle.xt_dev.specs.contracts.failures.Failures.{the_row, the_type}

pub send : IsSend the_row
send = owning_send the_type (record {}) (λ d. tt) (λ k x w. tt)
