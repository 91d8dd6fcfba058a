use Rattle.std.proofs.Common.{◌≡◌, IfOk, None, rules, subst}
use Rattle.xt_base.specs.Text.{pieces as pieces_of}
use Rattle.xt_ckpt.proofs.Entries.{all_entries, entries_rise, same_text}
use Rattle.xt_ckpt.specs.Entries.{IsWhole, entries_text}
use Rattle.xt_ckpt.specs.Grammar.{entries}
use Rattle.xt_ckpt.proofs.writing.write_checkpoint.Goals as goal

pub write_pieces-requires-clause-form : goal.write_pieces-requires-clause-form
write_pieces-requires-clause-form c = all_entries IsWhole c.args.items.now c.requires.form

pub write_pieces-requires-clause-rising : goal.write_pieces-requires-clause-rising
write_pieces-requires-clause-rising c = entries_rise c.args.items.now c.requires.rising

pub returns-clause-text : goal.returns-clause-text
returns-clause-text c =
    let text : IfOk c.map_err.result (λ pieces. pieces.items ≡ pieces_of (entries_text None c.args.no (entries c.args.items.now))) = search rules in
    subst (λ t. IfOk c.map_err.result (λ pieces. pieces.items ≡ pieces_of t)) (same_text None c.args.no c.args.items.now) text
