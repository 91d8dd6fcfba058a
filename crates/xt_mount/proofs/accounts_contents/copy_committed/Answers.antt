use Rattle.std.proofs.Common.{◌≡◌, ◌∙◌, ap, sym, unwrap_or}
use Rattle.std.specs.Prelude.{option_map}
use Rattle.xt_base.specs.Form.{Form}
use Rattle.xt_base.specs.Maps.{at}
use Rattle.xt_base.specs.Text.{content_at, zeros}
use Rattle.xt_frames.proofs.ContentLemmas.{at_committed}
use Rattle.xt_frames.specs.Busy.{committed_of}
use Rattle.xt_frames.specs.Contents.{Bufs}
use Rattle.xt_frames.specs.Kept.{Framed}
use Rattle.xt_mount.proofs.AccountsLemmas.{ok_then}
use Rattle.xt_mount.proofs.accounts_contents.copy_committed.Goals as goal

pub returns-in-Some : goal.returns-in-Some
returns-in-Some c =
    let j = c.args.journal.now in
    let frame : Framed = c.in-Some.frame.now in
    let there = ap (option_map (λ (x : Framed). x.committed)) (c.in-Some.ensures ∙ ap (λ (f : Bufs). at c.args.block f.frames) c.frames.ensures) ∙ sym (at_committed c.args.block j.frames.frames) in
    ok_then c.committed_copy.result (λ content. content ≡ frame.committed) (λ content. content ≡ content_at j.form.size c.args.block (committed_of j.frames.frames))
    (λ content is. is ∙ ap (λ o. unwrap_or o (zeros j.form.size)) there) c.committed_copy.ensures

pub returns-in-None : goal.returns-in-None
returns-in-None c =
    let j = c.args.journal.now in
    let there = ap (option_map (λ (x : Framed). x.committed)) (c.in-None.ensures ∙ ap (λ (f : Bufs). at c.args.block f.frames) c.frames.ensures) ∙ sym (at_committed c.args.block j.frames.frames) in
    ok_then c.zeros.result (λ content. content ≡ zeros c.form.result.size) (λ content. content ≡ content_at j.form.size c.args.block (committed_of j.frames.frames))
    (λ content is. is ∙ ap (λ (f : Form). zeros f.size) c.form.ensures ∙ ap (λ o. unwrap_or o (zeros j.form.size)) there) c.zeros.ensures
