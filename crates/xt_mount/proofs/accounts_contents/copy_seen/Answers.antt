use Rattle.std.proofs.Common.{◌≡◌, ◌∙◌, ap, sym}
use Rattle.xt_base.specs.Calls.{seen}
use Rattle.xt_base.specs.Form.{Form}
use Rattle.xt_base.specs.Text.{content_at, zeros}
use Rattle.xt_base.specs.Maps.{at}
use Rattle.xt_frames.specs.Busy.{committed_of}
use Rattle.xt_frames.specs.Contents.{contents_of}
use Rattle.xt_journal.specs.Over.{frame_bytes, leg_over}
use Rattle.xt_mount.proofs.AccountsLemmas.{ok_then}
use Rattle.xt_mount.proofs.StepLemmas.{base_shown, own_shown, place_shown, zeros_shown}
use Rattle.xt_mount.proofs.accounts_contents.copy_seen.Goals as goal

pub returns-in-Some : goal.returns-in-Some
returns-in-Some c =
    let j = c.args.journal.now in
    ok_then c.copy.result (λ content. content ≡ c.in-Some.content.now) (λ content. content ≡ seen j.form.size c.args.block (leg_over j.frames.frames c.args.leg.now) (contents_of j.frames))
    (λ content is. is ∙ own_shown j.form.size c.args.block j.frames.frames c.args.leg.now (contents_of j.frames) c.in-Some.content.now c.in-Some.ensures) c.copy.ensures

pub returns-then-is_in_place : goal.returns-then-is_in_place
returns-then-is_in_place c =
    let j = c.args.journal.now in
    ok_then c.copy_in_place.result (λ content. content ≡ frame_bytes (at c.args.block j.frames.frames)) (λ content. content ≡ seen j.form.size c.args.block (leg_over j.frames.frames c.args.leg.now) (contents_of j.frames))
    (λ content is. is ∙ place_shown j.form.size c.args.block j.frames.frames c.args.leg.now (contents_of j.frames) (sym c.is_in_place.ensures ∙ c.if-is_in_place.true)) c.copy_in_place.ensures

pub returns-then-is_hidden : goal.returns-then-is_hidden
returns-then-is_hidden c =
    let j = c.args.journal.now in
    ok_then c.zeros.result (λ content. content ≡ zeros c.form.result.size) (λ content. content ≡ seen j.form.size c.args.block (leg_over j.frames.frames c.args.leg.now) (contents_of j.frames))
    (λ content is. is ∙ ap (λ (f : Form). zeros f.size) c.form.ensures
    ∙ zeros_shown j.form.size c.args.block j.frames.frames c.args.leg.now (contents_of j.frames) c.in_default.ensures (sym c.is_in_place.ensures ∙ c.if-is_in_place.false) (sym c.is_hidden.ensures ∙ c.if-is_hidden.true))
    c.zeros.ensures

pub returns : goal.returns
returns c =
    let j = c.args.journal.now in
    ok_then c.copy_committed.result (λ content. content ≡ content_at j.form.size c.args.block (committed_of j.frames.frames)) (λ content. content ≡ seen j.form.size c.args.block (leg_over j.frames.frames c.args.leg.now) (contents_of j.frames))
    (λ content is. is ∙ base_shown j.form.size c.args.block j.frames.frames c.args.leg.now (contents_of j.frames) c.in_default.ensures (sym c.is_in_place.ensures ∙ c.if-is_in_place.false) (sym c.is_hidden.ensures ∙ c.if-is_hidden.false))
    c.copy_committed.ensures
