-- What a step said, put behind the lines that wait.
use Rattle.std.proofs.Common.{◌≡◌, ◌∙◌, ◌++◌, List, [], ap, append_assoc, false, sym, true, true≢false, ℕ}
use Rattle.std.proofs.lemmas.List.{append-nil}
use Rattle.std.specs.Prelude.{Err, Ok, OnOk, Result, if◌then◌else◌, is_ok}
use Rattle.xt_base.specs.Alone.{Said, alone}
use Rattle.xt_base.specs.Isolation.{is_no_memory}
use Rattle.xt_base.specs.Steps.{slot_of}
use Rattle.xt_base.specs.declared.steps.HomeOffer.{HomeOffer}
use Rattle.xt_base.specs.declared.steps.LogOffer.{LogOffer}
use Rattle.xt_base.specs.declared.steps.Reply.{Reply}
use Rattle.xt_base.specs.declared.steps.Step.{Step}
use Rattle.xt_core.specs.Host.{Host, lone_of}
use Rattle.xt_core.specs.Runs.{said_as}
use Rattle.xt_offline.specs.Printing.{ended, log_lines, turn_text}
use Rattle.xt_offline.specs.Script.{IsPutBehind, IsTold}
use Rattle.xt_text.specs.Replies.{slot_reply_text}

-- what holds where one result is Ok, and follows from that, holds where a result of the same kind is
pub on_both : {A B E D : Type 0} (r : Result A E) (q : Result B D) (P Q : Type 0) → is_ok q ≡ is_ok r → OnOk r P → (P → Q) → OnOk q Q
on_both (Ok x) (Ok y) P Q same holds follows = follows holds
on_both (Ok x) (Err d) P Q same holds follows = tt
on_both (Err e) (Ok y) P Q same holds follows = absurd (true≢false same)
on_both (Err e) (Err d) P Q same holds follows = tt

-- a turn with these offers
abbrev said : ℕ → Reply → List LogOffer → List HomeOffer → Said
said slot r log home = record { slot = slot; reply = r; log = log; home = home }

-- the text of a turn that offers nothing is its reply
quiet_text : (slot : ℕ) (r : Reply) → turn_text (said slot r [] []) ≡ ended (slot_reply_text slot r)
quiet_text slot r = ap (λ l. l ++ []) (append-nil (ended (slot_reply_text slot r))) ∙ append-nil (ended (slot_reply_text slot r))

-- the text of a turn that offers something to the log device alone
log_text : (slot : ℕ) (r : Reply) (log : List LogOffer) → turn_text (said slot r log []) ≡ ended (slot_reply_text slot r) ++ log_lines slot log
log_text slot r log = append-nil (ended (slot_reply_text slot r) ++ log_lines slot log)

module _ (x : Step) (r : Reply) (new old : Host) (told : IsTold x (said_as x r old) new old) (lines longer : List ℕ) where
  -- a step that offers nothing
  pub put_quiet : said_as x r old ≡ said (slot_of x) r [] [] → longer ≡ lines ++ ended (slot_reply_text (slot_of x) r) → IsPutBehind x new old longer lines
  put_quiet quiet text = (said_as x r old, (told, text ∙ ap (λ l. lines ++ l) (sym (ap turn_text quiet ∙ quiet_text (slot_of x) r))))

  -- a step that was answered ENOMEM
  pub put_refused : is_no_memory r ≡ true → longer ≡ lines ++ ended (slot_reply_text (slot_of x) r) → IsPutBehind x new old longer lines
  put_refused refused text =
      let s = alone x (lone_of old (slot_of x)) in
      put_quiet (ap (λ b. said (slot_of x) r (if b then [] else s.log) (if b then [] else s.home)) refused) text

  -- a step that offers something to the log device alone
  pub put_whole : is_no_memory r ≡ false → (alone x (lone_of old (slot_of x))).home ≡ [] → (offers : List ℕ) → offers ≡ log_lines (slot_of x) (alone x (lone_of old (slot_of x))).log
      → longer ≡ (lines ++ ended (slot_reply_text (slot_of x) r)) ++ offers → IsPutBehind x new old longer lines
  put_whole went home offers log text =
      let s = alone x (lone_of old (slot_of x)) in
      let is : said_as x r old ≡ said (slot_of x) r s.log [] = ap (λ b. said (slot_of x) r (if b then [] else s.log) (if b then [] else s.home)) went ∙ ap (said (slot_of x) r s.log) home in (
        said_as x r old,
        (
          told,
          text ∙ append_assoc lines (ended (slot_reply_text (slot_of x) r)) offers ∙ ap (λ l. lines ++ (ended (slot_reply_text (slot_of x) r) ++ l)) log
              ∙ ap (λ l. lines ++ l) (sym (ap turn_text is ∙ log_text (slot_of x) r s.log)),
        ),
      )
