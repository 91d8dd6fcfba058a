use Rattle.std.proofs.Common.{rules, arith}
use Rattle.std.specs.Fmt.{decimal}
use Rattle.std.specs.String.{string_bytes}
use Rattle.xt_volumes.proofs.VolumeLemmas.{decimal_has_no_colon, is_cut, last_parts}
use Rattle.xt_volumes.proofs.volume.parts.Goals as goal

-- a word that spells a volume has four colons at least, and is cut at each
pub returns-in_err-slot-clause-parts : goal.returns-in_err-slot-clause-parts
returns-in_err-slot-clause-parts c = λ v s.
    let slot = c.in_err-slot.ensures.cut (decimal v.slot) _ (decimal_has_no_colon v.slot (omega (arith, s.in_range.0))) s.word_is in
    search (rules, slot)

pub returns-in_err-log_bytes-clause-parts : goal.returns-in_err-log_bytes-clause-parts
returns-in_err-log_bytes-clause-parts c = λ v s.
    let slot = c.in_ok-slot.ensures.cut (decimal v.slot) _ (decimal_has_no_colon v.slot (omega (arith, s.in_range.0))) s.word_is in
    let log_bytes = c.in_err-log_bytes.ensures.cut (decimal v.log_bytes) _ (decimal_has_no_colon v.log_bytes (omega (arith, s.in_range.1))) slot.1 in
    search (rules, log_bytes)

pub returns-in_err-blocks-clause-parts : goal.returns-in_err-blocks-clause-parts
returns-in_err-blocks-clause-parts c = λ v s.
    let slot = c.in_ok-slot.ensures.cut (decimal v.slot) _ (decimal_has_no_colon v.slot (omega (arith, s.in_range.0))) s.word_is in
    let log_bytes = c.in_ok-log_bytes.ensures.cut (decimal v.log_bytes) _ (decimal_has_no_colon v.log_bytes (omega (arith, s.in_range.1))) slot.1 in
    let blocks = c.in_err-blocks.ensures.cut (decimal v.blocks) _ (decimal_has_no_colon v.blocks s.in_range.2) log_bytes.1 in
    search (rules, blocks)

pub returns-in_err-home-clause-parts : goal.returns-in_err-home-clause-parts
returns-in_err-home-clause-parts c = λ v s.
    let slot = c.in_ok-slot.ensures.cut (decimal v.slot) _ (decimal_has_no_colon v.slot (omega (arith, s.in_range.0))) s.word_is in
    let log_bytes = c.in_ok-log_bytes.ensures.cut (decimal v.log_bytes) _ (decimal_has_no_colon v.log_bytes (omega (arith, s.in_range.1))) slot.1 in
    let blocks = c.in_ok-blocks.ensures.cut (decimal v.blocks) _ (decimal_has_no_colon v.blocks s.in_range.2) log_bytes.1 in
    let home = c.in_err-home.ensures.cut (string_bytes v.home) _ s.home.no_colon blocks.1 in
    search (rules, home)

-- and its parts are those of the volume
pub returns-clause-parts : goal.returns-clause-parts
returns-clause-parts c = λ v s.
    let slot = c.in_ok-slot.ensures.cut (decimal v.slot) _ (decimal_has_no_colon v.slot (omega (arith, s.in_range.0))) s.word_is in
    let log_bytes = c.in_ok-log_bytes.ensures.cut (decimal v.log_bytes) _ (decimal_has_no_colon v.log_bytes (omega (arith, s.in_range.1))) slot.1 in
    let blocks = c.in_ok-blocks.ensures.cut (decimal v.blocks) _ (decimal_has_no_colon v.blocks s.in_range.2) log_bytes.1 in
    let home = c.in_ok-home.ensures.cut (string_bytes v.home) _ s.home.no_colon blocks.1 in
    let last = last_parts _ _ v s.says_size _ _ home.1 s.left_out s.log.no_colon s.word_is c.log_and_size.ensures.said c.log_and_size.ensures.unsaid in
    (slot.0, log_bytes.0, blocks.0, home.0, last.0, last.1, last.2)

-- whatever word it is, the parts are those between its colons
pub returns-clause-cut : goal.returns-clause-cut
returns-clause-cut c = is_cut _ _ _ _ _ _ _ _ _ _ c.in_ok-slot.ensures.apart c.in_ok-log_bytes.ensures.apart c.in_ok-blocks.ensures.apart c.in_ok-home.ensures.apart c.log_and_size.ensures.apart

-- and one that has none is cut nowhere
pub returns-in_err-slot-clause-uncut : goal.returns-in_err-slot-clause-uncut
returns-in_err-slot-clause-uncut c = λ none p is.
    let slot = c.in_err-slot.ensures.cut p.slot _ is.no_colon.0 is.word_is in
    search (rules, slot)

pub returns-in_err-log_bytes-clause-uncut : goal.returns-in_err-log_bytes-clause-uncut
returns-in_err-log_bytes-clause-uncut c = λ none p is.
    let slot = c.in_ok-slot.ensures.cut p.slot _ is.no_colon.0 is.word_is in
    let log_bytes = c.in_err-log_bytes.ensures.cut p.log_bytes _ is.no_colon.1 slot.1 in
    search (rules, log_bytes)

pub returns-in_err-blocks-clause-uncut : goal.returns-in_err-blocks-clause-uncut
returns-in_err-blocks-clause-uncut c = λ none p is.
    let slot = c.in_ok-slot.ensures.cut p.slot _ is.no_colon.0 is.word_is in
    let log_bytes = c.in_ok-log_bytes.ensures.cut p.log_bytes _ is.no_colon.1 slot.1 in
    let blocks = c.in_err-blocks.ensures.cut p.blocks _ is.no_colon.2 log_bytes.1 in
    search (rules, blocks)

pub returns-in_err-home-clause-uncut : goal.returns-in_err-home-clause-uncut
returns-in_err-home-clause-uncut c = λ none p is.
    let slot = c.in_ok-slot.ensures.cut p.slot _ is.no_colon.0 is.word_is in
    let log_bytes = c.in_ok-log_bytes.ensures.cut p.log_bytes _ is.no_colon.1 slot.1 in
    let blocks = c.in_ok-blocks.ensures.cut p.blocks _ is.no_colon.2 log_bytes.1 in
    let home = c.in_err-home.ensures.cut p.home _ is.no_colon.3 blocks.1 in
    search (rules, home)
