use Rattle.std.proofs.Common.{◌∙◌, ap}
use Rattle.xt_base.specs.declared.steps.Step.{Step}
use Rattle.xt_core.proofs.CellLemmas.{cell_with, number_is, turned, turned_as, turned_served}
use Rattle.xt_core.proofs.cell.SlotCell.serve.Goals as goal

pub returns-in-Mount : goal.returns-in-Mount
returns-in-Mount c =
    let old = c.self.inside in
    let named = number_is c.args.step.now (Step.Mount c.in-Mount.slot c.in-Mount.log_bytes c.in-Mount.blocks c.in-Mount.size) (cell_with old.seen_life old.seen_reason old.mount) c.args.self.now c.in-Mount.is c.requires.slot c.self.view_is in
    turned_as c.args.step.now (Step.Mount old.mount.slot c.in-Mount.log_bytes c.in-Mount.blocks c.in-Mount.size) c.mount.result (cell_with old.seen_life old.seen_reason c.mount.new.self) (cell_with old.seen_life old.seen_reason old.mount) c.args.self.now
    (c.in-Mount.is ∙ ap (λ n. Step.Mount n c.in-Mount.log_bytes c.in-Mount.blocks c.in-Mount.size) named) c.self.view_is
    (turned (Step.Mount old.mount.slot c.in-Mount.log_bytes c.in-Mount.blocks c.in-Mount.size) c.mount.result old.seen_life old.seen_reason c.mount.new.self old.mount c.mount.ensures)

pub returns-in-Call : goal.returns-in-Call
returns-in-Call c =
    let old = c.self-in-Call.inside in
    let named =
    number_is c.args.step.now (Step.Call c.in-Call.slot c.in-Call.life c.in-Call.request c.in-Call.answer) (cell_with old.seen_life old.seen_reason old.mount) c.args.self.now c.in-Call.is c.requires.slot
    c.self-in-Call.view_is in
    turned_as c.args.step.now (Step.Call old.mount.slot c.in-Call.life c.in-Call.request c.in-Call.answer) c.call.result (cell_with old.seen_life old.seen_reason c.call.new.self) (cell_with old.seen_life old.seen_reason old.mount)
    c.args.self.now (c.in-Call.is ∙ ap (λ n. Step.Call n c.in-Call.life c.in-Call.request c.in-Call.answer) named) c.self-in-Call.view_is
    (turned (Step.Call old.mount.slot c.in-Call.life c.in-Call.request c.in-Call.answer) c.call.result old.seen_life old.seen_reason c.call.new.self old.mount c.call.ensures)

pub returns-in-Begin : goal.returns-in-Begin
returns-in-Begin c =
    let old = c.self-in-Begin.inside in
    let x = Step.Begin c.in-Begin.worker c.in-Begin.name in
    turned_as c.args.step.now x c.begin.result (cell_with old.seen_life old.seen_reason c.begin.new.self) (cell_with old.seen_life old.seen_reason old.mount) c.args.self.now c.in-Begin.is c.self-in-Begin.view_is
    (turned x c.begin.result old.seen_life old.seen_reason c.begin.new.self old.mount (c.begin.ensures c.in-Begin.worker))

pub returns-in-End : goal.returns-in-End
returns-in-End c =
    let old = c.self-in-End.inside in
    let x = Step.End c.in-End.worker c.in-End.name c.in-End.answers in
    turned_as c.args.step.now x c.end.result (cell_with old.seen_life old.seen_reason c.end.new.self) (cell_with old.seen_life old.seen_reason old.mount) c.args.self.now c.in-End.is c.self-in-End.view_is
    (turned_served x c.end.result old.seen_life old.seen_reason c.end.new.self old.mount (c.end.ensures c.in-End.worker))

pub returns-in-Flush : goal.returns-in-Flush
returns-in-Flush c =
    let old = c.self-in-Flush.inside in
    let x = Step.Flush c.in-Flush.worker c.in-Flush.name c.in-Flush.answers in
    turned_as c.args.step.now x c.flush.result (cell_with old.seen_life old.seen_reason c.flush.new.self) (cell_with old.seen_life old.seen_reason old.mount) c.args.self.now c.in-Flush.is c.self-in-Flush.view_is
    (turned_served x c.flush.result old.seen_life old.seen_reason c.flush.new.self old.mount (c.flush.ensures c.in-Flush.worker))
