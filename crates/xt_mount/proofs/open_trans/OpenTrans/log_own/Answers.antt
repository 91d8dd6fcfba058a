use Rattle.std.proofs.Common.{◌∙◌, ap, arith, length, subst, sym, ℕ}
use Rattle.std.proofs.lemmas.List.{length-replicate}
use Rattle.xt_base.specs.Calls.{overwritten}
use Rattle.xt_base.specs.Chunks.{marks}
use Rattle.xt_base.specs.Form.{Form}
use Rattle.xt_base.specs.Text.{zeros}
use Rattle.xt_journal.specs.Journals.{JournalState}
use Rattle.xt_mount.proofs.StepLemmas.{zeros_step}
use Rattle.xt_mount.proofs.open_trans.OpenTrans.log_own.Goals as goal
use Rattle.xt_mount.specs.Shown.{IsStep, shown_logged}

pub write_data-requires : goal.write_data-requires
write_data-requires c =
    let size : ℕ = c.args.journal.now.form.size in
    let zero : ℕ = 0 in
    let long = ap length c.in_ok-content.ensures ∙ ap (λ (f : Form). length (zeros f.size)) c.form.ensures ∙ length-replicate size zero in
    omega (arith, long, c.requires.within)

pub returns-clause-ok : goal.returns-clause-ok
returns-clause-ok c =
    let j = c.args.journal.now in
    subst (λ (x : JournalState). IsStep c.args.block (shown_logged c.args.block c.args.first c.args.bytes.now j c.args.self.now.leg) x j c.keep_edit.new.self c.args.self.now) (sym c.take_room.ensures)
    (zeros_step c.args.block c.args.first c.args.bytes.now c.mark-marked.result j c.args.self.now c.changes_rise.ensures c.requires.some (c.mark-marked.ensures ∙ ap (marks c.args.first) c.len.ensures.value)
    c.keep_edit.new.self c.own.result c.requires.none c.requires.goes c.requires.framed c.requires.clean
    (c.own.ensures ∙ c.write_data.ensures ∙ ap (overwritten c.args.first c.args.bytes.now) (c.in_ok-content.ensures ∙ ap (λ (f : Form). zeros f.size) c.form.ensures)) c.keep_edit.ensures)
