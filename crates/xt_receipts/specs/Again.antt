-- Replies that ask for another try.
use Rattle.std.specs.Prelude.{Bool, false, true}
use Rattle.xt_base.specs.declared.steps.Errno.TheVariants.{Again}
use Rattle.xt_base.specs.declared.steps.Reply.{Reply}
use Rattle.xt_base.specs.declared.steps.Reply.TheVariants.{Refused, Wait}

-- whether a reply asks that its request be tried again: EAGAIN, and a force that waits for a checkpoint
abbrev pub is_again : Reply → Bool
is_again (Refused Again) = true
is_again (Wait number) = true
is_again other = false
