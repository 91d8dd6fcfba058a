use Rattle.std.proofs.Common.{◌≡◌, ◌∙◌, All, IfOk, ap, arith, subst, sym}
use Rattle.xt_base.proofs.BusyLemmas.{few_committed}
use Rattle.xt_base.specs.Form.{Form}
use Rattle.xt_base.specs.Sized.{IsWithin}
use Rattle.xt_base.specs.State.{State}
use Rattle.xt_base.specs.Text.{pieces, text_of}
use Rattle.xt_ckpt.specs.Grammar.{Entry}
use Rattle.xt_mount.specs.Machines.{state_of}
use Rattle.xt_mount.specs.Texts.{entries_of}
use Rattle.xt_mount.proofs.CkptLemmas.{vector_count, vectors_rise, vectors_text, vectors_within}
use Rattle.xt_mount.proofs.machine.Machine.pieces_now.Goals as goal

pub write_checkpoint_in-requires-clause-within : goal.write_checkpoint_in-requires-clause-within
write_checkpoint_in-requires-clause-within c =
    let s : State = state_of c.args.self.now in
    subst (λ (form : Form). All (λ (e : Entry). IsWithin form.size e.chunks) (entries_of c.vectors.result.now)) (sym c.form-form.ensures)
    (vectors_within s.form.size s.frames.committed s.items.cil c.vectors.result.now c.vectors.ensures c.requires.sized.within)

pub write_checkpoint_in-requires-clause-count : goal.write_checkpoint_in-requires-clause-count
write_checkpoint_in-requires-clause-count c =
    let s : State = state_of c.args.self.now in
    let few = few_committed s.form.ends s.log_bytes s.owners s.transactions s.items c.requires.sound.parts in
    let count = vector_count s.form.size s.frames.committed s.items.cil c.vectors.result.now c.vectors.ensures in
    (omega (arith, count, c.requires.worth), omega (arith, count, few))

pub write_checkpoint_in-requires-clause-rising : goal.write_checkpoint_in-requires-clause-rising
write_checkpoint_in-requires-clause-rising c =
    let s : State = state_of c.args.self.now in
    vectors_rise s.form.size s.frames.committed s.items.cil c.vectors.result.now c.vectors.ensures c.requires.sound.parts.cil_rises

pub returns-clause-pieces : goal.returns-clause-pieces
returns-clause-pieces c =
    let s : State = state_of c.args.self.now in
    let text = vectors_text s.form.size s.frames.committed s.items.cil c.vectors.result.now c.vectors.ensures c.form-form.result c.open_number.result (ap (λ (form : Form). form.size) c.form-form.ensures)
    ∙ ap (λ form. text_of form c.open_number.result s.items.cil s.frames.committed) c.form-form.ensures ∙ ap (λ n. text_of s.form n s.items.cil s.frames.committed) c.open_number.ensures in
    subst (λ t. IfOk c.write_checkpoint_in.result (λ ps. ps.items ≡ pieces t)) text c.write_checkpoint_in.ensures.text
