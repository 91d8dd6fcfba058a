-- The end of a recursion count, computed over a state that no script of a sensible length reaches.
use Rattle.std.proofs.Common.{◌≡◌, ◌∷◌, ℕ, [], false, refl}
use Rattle.std.specs.Prelude.{replicate}
use Rattle.xt_base.specs.Calls.{alone_with, gives, new_trans}
use Rattle.xt_base.specs.Form.{form_one}
use Rattle.xt_base.specs.State.{State, mount_of}
use Rattle.xt_base.specs.declared.steps.Answer.TheVariants as Answer
use Rattle.xt_base.specs.declared.steps.Errno.TheVariants as Errno
use Rattle.xt_base.specs.declared.steps.Owner.TheVariants as Owner
use Rattle.xt_base.specs.declared.steps.Reply.TheVariants as Reply
use Rattle.xt_base.specs.declared.steps.Request.TheVariants as Request

-- a mount whose one transaction has locked block 7 so many times more than once, with its content
abbrev locked : ℕ → State
locked count = record (mount_of 0 1 65536 1024 form_one) {
  frames = record { committed = (7, replicate 4096 0) ∷ []; fresh = []; idle = [] };
  owners = (7, Owner.Trans 1 count) ∷ [];
  transactions = (1, new_trans 176 1 false) ∷ [];
  last_trans = 1;
}

-- at the greatest count a get is refused and changes nothing
last_get : alone_with [] (Request.Get 1 7) Answer.None (locked 4294967295) ≡ gives (Reply.Refused Errno.Invalid) (locked 4294967295)
last_get = refl

-- and so is a read
last_read : alone_with [] (Request.Read 1 7) Answer.None (locked 4294967295) ≡ gives (Reply.Refused Errno.Invalid) (locked 4294967295)
last_read = refl

-- another block's get is not
other_get : (alone_with [] (Request.Get 1 8) Answer.None (locked 4294967295)).reply ≡ Reply.Okay
other_get = refl

-- below it a get counts one more
next_get : alone_with [] (Request.Get 1 7) Answer.None (locked 4294967294) ≡ gives Reply.Okay (locked 4294967295)
next_get = refl

-- and so does a read
next_read : alone_with [] (Request.Read 1 7) Answer.None (locked 4294967294) ≡ gives Reply.Okay (locked 4294967295)
next_read = refl

-- a relse at the greatest count takes one lock back
last_relse : alone_with [] (Request.Relse 1 7) Answer.None (locked 4294967295) ≡ gives Reply.Kept (locked 4294967294)
last_relse = refl
