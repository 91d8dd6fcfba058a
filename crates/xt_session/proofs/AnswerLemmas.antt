-- One line answered.
use Rattle.std.proofs.Common.{Err, List, None, Option, Some, [], ap, codes, false, length, refl, subst, sym, true≢false, ℕ, ◌≡◌, ◌≤◌, ◌∙◌}
use Rattle.std.proofs.lemmas.Bool.{le-leb}
use Rattle.std.proofs.lemmas.Option.{same_Some}
use Rattle.std.specs.Prelude.{IsTrue}
use Rattle.xt_base.specs.declared.steps.Reply.{Reply}
use Rattle.xt_base.specs.declared.steps.Step.{Step}
use Rattle.xt_session.specs.Session.{Answered, Answered.asked, Answered.bad, Answered.starved, IsBadLine, IsLineOf}
use Rattle.xt_session.specs.Turns.{held}
use Rattle.xt_text.specs.Buffer.{put}
use Rattle.xt_text.specs.Lines.{IsStep, line_of}
use Rattle.xt_text.specs.Reading.{Gives}
use Rattle.xt_text.specs.Replies.{reply_text}
use Rattle.xt_text.specs.SessionLines.{in_session, takes_memory}
use Rattle.xt_text.specs.declared.bad_line.BadLine.{BadLine}
use Rattle.xt_text.specs.declared.bad_line.BadLine.TheVariants.{Spelling}

-- an emptied buffer holds the text that was put into it
pub held_put : (out old : Option (List ℕ)) (text : List ℕ) → length text ≤ 8448 → old ≡ Some [] → out ≡ put old text → held out ≡ text
held_put out old text short empty is = ap held (is ∙ ap (λ o. put o text) empty) ∙ rw (le-leb (length text) 8448 short) refl

-- a step that sessions do not read is no other that they do
pub other_step : (line : List ℕ) (read : Step) → ((step : Step) → IsStep step → line ≡ line_of step → Some step ≡ Some read) → in_session read ≡ false → IsBadLine line
other_step line read only outside = λ step is. true≢false (sym is.session ∙ (ap in_session (same_Some step read (only step is.valid is.text)) ∙ outside))

-- where a line spells nothing, no session reads it
pub bad_spelling : (line : List ℕ) (e : BadLine) → e ≡ Spelling → ((step : Step) → IsStep step → line ≡ line_of step → Gives (Err e) (Some step)) → IsBadLine line
bad_spelling line e spelling only = λ step is. none_some step (subst (λ x. Gives (Err x) (Some step)) spelling (only step is.valid is.text))
  where
    none_some : (step : Step) → ◌≡◌ {A = Option Step} (Some step) None → ⊥
    none_some step e = cc

module _ {C : Type 0} (answers : C → Step → Reply → C → Type 0) where
  -- a line that sessions do not read, with its reply in a buffer
  pub said_bad : (now : C) (line : List ℕ) (out : Option (List ℕ)) → IsBadLine line → held out ≡ codes "bad line" → Answered answers now line (held out) now
  said_bad now line out is text = subst (λ t. Answered answers now line t now) (sym text) (bad is)

  -- the same of one that there was no memory to parse
  pub said_starved : (now : C) (line : List ℕ) (out : Option (List ℕ)) → IsTrue (takes_memory line) → held out ≡ codes "ENOMEM" → Answered answers now line (held out) now
  said_starved now line out is text = subst (λ t. Answered answers now line t now) (sym text) (starved is)

  -- the same of one that the object was asked
  pub said_asked : (now next : C) (line : List ℕ) (step : Step) (reply : Reply) (out : Option (List ℕ)) → IsLineOf line step → answers now step reply next → held out ≡ reply_text reply → Answered answers now line (held out) next
  said_asked now next line step reply out is says text = subst (λ t. Answered answers now line t next) (sym text) (asked step reply next is says)
