use Rattle.std.proofs.Common.{◌∙◌, ◌+◌, length, refl, sym}
use Rattle.xt_frames.specs.Contents.{contents_of}
use Rattle.xt_mount.proofs.StepLemmas.{own_room, place_room, zeros_room}
use Rattle.xt_mount.proofs.open_trans.OpenTrans.log.Goals as goal

pub log_over-requires-clause-within : goal.log_over-requires-clause-within
log_over-requires-clause-within c =
    let j = c.args.journal.now in
    own_room j.form.size c.args.block (c.args.first + length c.args.bytes.now) j.frames.frames c.args.self.now.leg (contents_of j.frames) c.requires.seen (sym c.has_own.ensures ∙ c.if-has_own.true)

pub log_in_place-requires-clause-within : goal.log_in_place-requires-clause-within
log_in_place-requires-clause-within c =
    let j = c.args.journal.now in
    place_room j.form.size c.args.block (c.args.first + length c.args.bytes.now) j.frames.frames c.args.self.now.leg (contents_of j.frames) c.requires.seen refl
    (sym c.has_own.ensures ∙ c.if-has_own.false) (sym c.goes_in_place.ensures ∙ c.if-goes_in_place.true) c.requires.clean

pub log_own-requires-clause-within : goal.log_own-requires-clause-within
log_own-requires-clause-within c =
    let j = c.args.journal.now in
    zeros_room j.form.size c.args.block (c.args.first + length c.args.bytes.now) j.frames.frames c.args.self.now.leg (contents_of j.frames) c.requires.seen refl
    (sym c.has_own.ensures ∙ c.if-has_own.false) (sym c.goes_in_place.ensures ∙ c.if-goes_in_place.false) c.requires.framed
