use Rattle.std.proofs.Common.{◌∙◌, ◌+◌, ◌≤◌, IfSome, ap, length, subst, sym}
use Rattle.xt_base.specs.Chunks.{marks}
use Rattle.xt_base.specs.Maps.{at}
use Rattle.xt_base.specs.Sound.{IsRising}
use Rattle.xt_frames.specs.Busy.{changed_in}
use Rattle.xt_frames.specs.Contents.{Bufs}
use Rattle.xt_frames.specs.Kept.{Framed, logged}
use Rattle.xt_journal.specs.Journals.{JournalState, with_frames}
use Rattle.xt_mount.proofs.StepLemmas.{place_step}
use Rattle.xt_mount.proofs.open_trans.OpenTrans.log_in_place.Goals as goal

pub log_in_place-requires-clause-within : goal.log_in_place-requires-clause-within
log_in_place-requires-clause-within c =
    subst (λ (x : JournalState). IfSome (at c.args.block x.frames.frames) (λ (f : Framed). c.args.first + length c.args.bytes.now ≤ length f.edit)) (sym c.room_of.ensures.journal) c.requires.within

pub returns-clause-ok : goal.returns-clause-ok
returns-clause-ok c =
    let j = c.args.journal.now in
    let same = c.room_of.ensures.journal in
    place_step c.args.block c.args.first c.args.bytes.now c.mark-marked.result j c.args.self.now c.changes_rise.ensures c.requires.some (c.mark-marked.ensures ∙ ap (marks c.args.first) c.len.ensures.value)
    (subst (λ (f : Bufs). IsRising f.frames) (c.frames.ensures ∙ ap (λ (x : JournalState). x.frames) same) c.frames_rise.ensures) c.requires.none c.requires.goes c.requires.clean
    c.log_in_place.new.self c.mark.new.self
    (c.in_ok-log_in_place.ensures.ok ∙ ap (λ (x : JournalState). with_frames (changed_in (logged c.args.first c.args.bytes.now) c.args.block x.frames.frames) x) same) c.mark.ensures
