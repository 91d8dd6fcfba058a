-- The texts of replies and of offers.
use Rattle.std.specs.Fmt.{decimal}
use Rattle.std.specs.List.{flat_map, list_all}
use Rattle.std.specs.Prelude.{Bool, List, None, Option, Some, codes, false, not, true, ℕ, ◌++◌, ◌==◌, ◌∷◌}
use Rattle.xt_base.specs.Errors.{name_of}
use Rattle.xt_base.specs.declared.stat.Stat.{Stat}
use Rattle.xt_base.specs.declared.steps.HomeOffer.{HomeOffer}
use Rattle.xt_base.specs.declared.steps.LogOffer.{LogOffer}
use Rattle.xt_base.specs.declared.steps.Reason.{Reason}
use Rattle.xt_base.specs.declared.steps.Reason.TheVariants.{CorruptIncore, ForceUmount, LogIoError, MetaIoError}
use Rattle.xt_base.specs.declared.steps.Reply.{Reply}
use Rattle.xt_text.specs.DataText.{spelling}
use Rattle.xt_text.specs.declared.words.TheConstants.{BLANK}
use Rattle.xt_text.specs.Lines.{ckpt_text, ok_text, trans_text, ◌␣◌}

-- ---- words
-- what the board shows of a life: live, or why it was shut
abbrev pub seen_text : Option Reason → List ℕ
seen_text None = codes "live"
seen_text (Some MetaIoError) = codes "META_IO_ERROR"
seen_text (Some LogIoError) = codes "LOG_IO_ERROR"
seen_text (Some ForceUmount) = codes "FORCE_UMOUNT"
seen_text (Some CorruptIncore) = codes "CORRUPT_INCORE"

-- blocks that stay held, each with a space in front
abbrev pub held_text : List ℕ → List ℕ
held_text blocks = codes " held" ++ flat_map (λ b. BLANK ∷ decimal b) blocks

-- ---- what a mount tells of itself
-- open transactions, and blocks that are busy and idle
abbrev pub blocks_text : Stat → List ℕ
blocks_text stat = decimal stat.transactions ␣ decimal stat.busy ␣ decimal stat.idle

-- the commit list, its blocks and its cost, the checkpoint in flight, and the active list, its blocks and its least number
abbrev pub lists_text : Stat → List ℕ
lists_text stat = decimal stat.committed ␣ decimal stat.cost ␣ ckpt_text stat.flight ␣ decimal stat.active ␣ ckpt_text stat.least

-- log bytes: granted, in use and free
abbrev pub space_text : Stat → List ℕ
space_text stat = decimal stat.granted ␣ decimal stat.used ␣ decimal stat.free

-- whether a mount is frozen
abbrev pub frozen_text : Bool → List ℕ
frozen_text false = codes "thawed"
frozen_text true = codes "frozen"

-- whether it is frozen, and its jobs: owed and outstanding
abbrev pub jobs_text : Stat → List ℕ
jobs_text stat = frozen_text stat.frozen ␣ decimal stat.owed ␣ decimal stat.outstanding

-- all of it
abbrev pub stat_text : Stat → List ℕ
stat_text stat = codes "stat" ␣ blocks_text stat ␣ lists_text stat ␣ space_text stat ␣ jobs_text stat

-- ---- replies
-- the text of a reply, without its slot and newline
abbrev pub reply_text : Reply → List ℕ
reply_text Reply.Okay = codes "ok"
reply_text (Reply.OkayHeld held) = codes "ok" ++ held_text held
reply_text (Reply.Life life) = codes "life" ␣ decimal life
reply_text (Reply.Trans trans) = trans_text trans
reply_text (Reply.Committed number) = ckpt_text number
reply_text (Reply.CommittedHeld number held) = ckpt_text number ++ held_text held
reply_text (Reply.Aborted held) = codes "EIO" ++ held_text held
reply_text (Reply.Wait number) = codes "wait" ␣ ckpt_text number
reply_text Reply.Done = codes "done"
reply_text Reply.Kept = codes "kept"
reply_text Reply.Free = codes "free"
reply_text (Reply.Data content) = codes "data" ␣ spelling content
reply_text Reply.Nothing = codes "nothing"
reply_text (Reply.Begun number pieces) = codes "begun" ␣ ckpt_text number ␣ decimal pieces
reply_text (Reply.Landed number) = codes "landed" ␣ ckpt_text number
reply_text (Reply.Failed number) = codes "failed" ␣ ckpt_text number
reply_text (Reply.Flushed count) = codes "flushed" ␣ decimal count
reply_text (Reply.Seen life reason) = codes "seen" ␣ decimal life ␣ seen_text reason
reply_text (Reply.Stat stat) = stat_text stat
reply_text (Reply.Refused errno) = name_of errno

-- a reply without a content, which names no held blocks and does not tell of a whole mount
abbrev pub is_short_reply : Reply → Bool
is_short_reply (Reply.OkayHeld held) = false
is_short_reply (Reply.CommittedHeld number held) = false
is_short_reply (Reply.Aborted held) = false
is_short_reply (Reply.Data content) = false
is_short_reply (Reply.Stat stat) = false
is_short_reply other = true

-- a reply with the slot that its step names in front
abbrev pub slot_reply_text : ℕ → Reply → List ℕ
slot_reply_text slot reply = decimal slot ␣ reply_text reply

-- ---- offers
-- what was offered to a log device, with its answer
abbrev pub log_offer_text : ℕ → LogOffer → List ℕ
log_offer_text slot (LogOffer.Piece bytes ok) = decimal slot ␣ codes "log" ␣ spelling bytes ␣ ok_text ok
log_offer_text slot (LogOffer.Sync ok) = decimal slot ␣ codes "logsync" ␣ ok_text ok

-- what was offered to a home device, with its answer
abbrev pub home_offer_text : ℕ → HomeOffer → List ℕ
home_offer_text slot (HomeOffer.Write block content ok) = decimal slot ␣ codes "home" ␣ decimal block ␣ spelling content ␣ ok_text ok
home_offer_text slot (HomeOffer.Sync ok) = decimal slot ␣ codes "homesync" ␣ ok_text ok

-- ---- lines
-- a text of one line has no newline
abbrev pub is_one_line : List ℕ → Bool
is_one_line text = list_all (λ b. not (b == 10)) text
