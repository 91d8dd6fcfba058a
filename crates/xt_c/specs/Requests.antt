-- Requests and answers as a caller's words spell them.
use Rattle.std.specs.Prelude.{List, None, Option, Some, if◌then◌else◌, length, nat_le, nat_lt, not, ℕ, ◌&&◌, ◌==◌}
use Rattle.xt_base.specs.Form.{is_size}
use Rattle.xt_base.specs.declared.sizes.TheConstants.{DATA_BYTES}
use Rattle.xt_base.specs.declared.steps.Answer.{Answer}
use Rattle.xt_base.specs.declared.steps.Request.{Request}
use Rattle.xt_base.specs.declared.steps.Request.TheVariants.{Alloc, Cancel, Commit, Force, ForceTo, Freeze, Get, Hold, Inval, Join, Log, Push, Read, Release, Relse, Roll, Shutdown, Thaw, Unhold, Unmount, View}
use Rattle.xt_c.specs.declared.words.RequestWords.{RequestWords}

-- a change of a block, where its bytes are not too many
abbrev pub logged : RequestWords → List ℕ → Option Request
logged w bytes = if nat_le (length bytes) DATA_BYTES then Some (Log w.first w.trans w.block bytes) else None

-- a request that names a transaction and a block, and carries no bytes
abbrev pub of_block : RequestWords → Option Request
of_block w =
    if w.word == 1 then Some (Get w.trans w.block)
    else (if w.word == 2 then Some (Read w.trans w.block)
    else (if w.word == 3 then Some (View w.trans w.block)
    else (if w.word == 5 then Some (Hold w.trans w.block)
    else (if w.word == 6 then Some (Unhold w.trans w.block)
    else (if w.word == 7 then Some (Relse w.trans w.block)
    else (if w.word == 8 then Some (Join w.trans w.block)
    else (if w.word == 9 then Some (Release w.block)
    else (if w.word == 10 then Some (Inval w.trans w.block)
    else None))))))))

-- a request that names no block
abbrev pub of_mount : RequestWords → Option Request
of_mount w =
    if w.word == 0 then Some (Alloc w.unit w.count (not (w.perm == 0)))
    else (if w.word == 11 then Some (Commit w.trans)
    else (if w.word == 12 then Some (Roll w.trans)
    else (if w.word == 13 then Some (Cancel w.trans)
    else (if w.word == 14 then Some Force
    else (if w.word == 15 then Some (ForceTo w.number)
    else (if w.word == 16 then Some Push
    else (if w.word == 17 then Some Shutdown
    else (if w.word == 18 then Some Freeze
    else (if w.word == 19 then Some Thaw
    else (if w.word == 20 then Some Unmount
    else None))))))))))

-- the request that words spell, with the bytes of a change; none where they spell none
abbrev pub request_of : RequestWords → List ℕ → Option Request
request_of w bytes =
    if w.word == 4 then logged w bytes
    else (if nat_lt 0 w.word && nat_lt w.word 11 then of_block w else of_mount w)

-- what was answered for a block: nothing yet, a content of a length that a block may have, or a failure; none where the words say none of these
abbrev pub answer_of : ℕ → List ℕ → Option Answer
answer_of word content =
    if word == 0 then Some Answer.None
    else (if word == 1 then (if is_size (Some (length content)) then Some (Answer.Content content) else None)
    else (if word == 2 then Some Answer.Failed
    else None))
