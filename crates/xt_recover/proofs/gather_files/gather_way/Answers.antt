use Rattle.xt_recover.proofs.FilesLemmas.{fault_then, ok_then}
use Rattle.xt_recover.proofs.LookLemmas.{alone_one, alone_other, bare_gathered, bare_why, linked_one, linked_other, nothing_gathered, why_alone_one, why_alone_other, why_linked_one, why_linked_other}
use Rattle.xt_recover.specs.Overlaid.{overlaid}
use Rattle.xt_recover.proofs.gather_files.gather_way.Goals as goal

pub returns-in-Bare-clause-gathered : goal.returns-in-Bare-clause-gathered
returns-in-Bare-clause-gathered g c =
    ok_then c.gather_bare.result _ _ c.gather_bare.ensures.gathered
    (λ counts read a b looked. bare_gathered c.args.way a b c.args.one c.args.other (g.L.Read.remaining c.args.files.now.one) (g.L.Read.remaining c.args.files.now.other) counts (overlaid c.gather_bare.new.overlay) c.in-Bare.is looked read)

pub returns-in-Bare-clause-why : goal.returns-in-Bare-clause-why
returns-in-Bare-clause-why g c =
    fault_then c.gather_bare.result _ _ c.gather_bare.ensures.why
    (λ fault why a b looked. bare_why c.args.way a b c.args.one c.args.other (g.L.Read.remaining c.args.files.now.one) (g.L.Read.remaining c.args.files.now.other) fault c.in-Bare.is looked why)

pub returns-in-Linked-One-default-default-clause-gathered : goal.returns-in-Linked-One-default-default-clause-gathered
returns-in-Linked-One-default-default-clause-gathered g c =
    ok_then c.gather_linked.result _ _ c.gather_linked.ensures.gathered
    (λ counts read a b looked.
    linked_one c.args.way c.in-Linked-One-default-default.field-0 c.in-Linked-One-default-default.first c.in-Linked-One-default-default.second a b c.new-older.result c.new-newer.result c.args.one c.args.other (g.L.Read.remaining c.args.files.now.one) (g.L.Read.remaining c.args.files.now.other) counts (overlaid c.gather_linked.new.overlay) c.in-Linked-One-default-default.is c.in-Linked-One-default-default.field-0-is
    (record { header = c.new-older.ensures.header; header_too = c.new-newer.ensures.header; begun = λ bytes. c.new-older.ensures.begun bytes (g.L.Read.remaining c.args.files.now.one); begun_too = λ bytes. c.new-newer.ensures.begun bytes (g.L.Read.remaining c.args.files.now.other) }) looked read)

pub returns-in-Linked-One-default-default-clause-why : goal.returns-in-Linked-One-default-default-clause-why
returns-in-Linked-One-default-default-clause-why g c =
    fault_then c.gather_linked.result _ _ c.gather_linked.ensures.why
    (λ fault why a b looked.
    why_linked_one c.args.way c.in-Linked-One-default-default.field-0 c.in-Linked-One-default-default.first c.in-Linked-One-default-default.second a b c.new-older.result c.new-newer.result c.args.one c.args.other (g.L.Read.remaining c.args.files.now.one) (g.L.Read.remaining c.args.files.now.other) fault c.in-Linked-One-default-default.is c.in-Linked-One-default-default.field-0-is
    (record { header = c.new-older.ensures.header; header_too = c.new-newer.ensures.header; begun = λ bytes. c.new-older.ensures.begun bytes (g.L.Read.remaining c.args.files.now.one); begun_too = λ bytes. c.new-newer.ensures.begun bytes (g.L.Read.remaining c.args.files.now.other) }) c.new-older.ensures.which c.new-newer.ensures.which looked why)

pub returns-in-Linked-Other-default-default-clause-gathered : goal.returns-in-Linked-Other-default-default-clause-gathered
returns-in-Linked-Other-default-default-clause-gathered g c =
    ok_then c.gather_linked-in-Linked-Other-default-default.result _ _ c.gather_linked-in-Linked-Other-default-default.ensures.gathered
    (λ counts read a b looked.
    linked_other c.args.way c.in-Linked-Other-default-default.field-0 c.in-Linked-Other-default-default.first c.in-Linked-Other-default-default.second a b c.new-older-in-Linked-Other-default-default.result c.new-newer-in-Linked-Other-default-default.result c.args.one c.args.other (g.L.Read.remaining c.args.files.now.one) (g.L.Read.remaining c.args.files.now.other) counts (overlaid c.gather_linked-in-Linked-Other-default-default.new.overlay) c.in-Linked-Other-default-default.is c.in-Linked-Other-default-default.field-0-is
    (record { header = c.new-older-in-Linked-Other-default-default.ensures.header; header_too = c.new-newer-in-Linked-Other-default-default.ensures.header; begun = λ bytes. c.new-older-in-Linked-Other-default-default.ensures.begun bytes (g.L.Read.remaining c.args.files.now.other); begun_too = λ bytes. c.new-newer-in-Linked-Other-default-default.ensures.begun bytes (g.L.Read.remaining c.args.files.now.one) }) looked read)

pub returns-in-Linked-Other-default-default-clause-why : goal.returns-in-Linked-Other-default-default-clause-why
returns-in-Linked-Other-default-default-clause-why g c =
    fault_then c.gather_linked-in-Linked-Other-default-default.result _ _ c.gather_linked-in-Linked-Other-default-default.ensures.why
    (λ fault why a b looked.
    why_linked_other c.args.way c.in-Linked-Other-default-default.field-0 c.in-Linked-Other-default-default.first c.in-Linked-Other-default-default.second a b c.new-older-in-Linked-Other-default-default.result c.new-newer-in-Linked-Other-default-default.result c.args.one c.args.other (g.L.Read.remaining c.args.files.now.one) (g.L.Read.remaining c.args.files.now.other) fault c.in-Linked-Other-default-default.is c.in-Linked-Other-default-default.field-0-is
    (record { header = c.new-older-in-Linked-Other-default-default.ensures.header; header_too = c.new-newer-in-Linked-Other-default-default.ensures.header; begun = λ bytes. c.new-older-in-Linked-Other-default-default.ensures.begun bytes (g.L.Read.remaining c.args.files.now.other); begun_too = λ bytes. c.new-newer-in-Linked-Other-default-default.ensures.begun bytes (g.L.Read.remaining c.args.files.now.one) }) c.new-older-in-Linked-Other-default-default.ensures.which c.new-newer-in-Linked-Other-default-default.ensures.which looked why)

pub returns-in-Alone-One-default-clause-gathered : goal.returns-in-Alone-One-default-clause-gathered
returns-in-Alone-One-default-clause-gathered g c =
    ok_then c.gather_alone.result _ _ c.gather_alone.ensures.gathered
    (λ counts read a b looked.
    alone_one c.args.way c.in-Alone-One-default.field-0 c.in-Alone-One-default.begun a b c.new-source.result c.args.one c.args.other (g.L.Read.remaining c.args.files.now.one) (g.L.Read.remaining c.args.files.now.other) counts (overlaid c.gather_alone.new.overlay) c.in-Alone-One-default.is c.in-Alone-One-default.field-0-is c.new-source.ensures.begun looked read)

pub returns-in-Alone-One-default-clause-why : goal.returns-in-Alone-One-default-clause-why
returns-in-Alone-One-default-clause-why g c =
    fault_then c.gather_alone.result _ _ c.gather_alone.ensures.why
    (λ fault why a b looked.
    why_alone_one c.args.way c.in-Alone-One-default.field-0 c.in-Alone-One-default.begun a b c.new-source.result c.args.one c.args.other (g.L.Read.remaining c.args.files.now.one) (g.L.Read.remaining c.args.files.now.other) fault c.in-Alone-One-default.is c.in-Alone-One-default.field-0-is c.new-source.ensures.begun c.new-source.ensures.which looked why)

pub returns-in-Alone-Other-default-clause-gathered : goal.returns-in-Alone-Other-default-clause-gathered
returns-in-Alone-Other-default-clause-gathered g c =
    ok_then c.gather_alone-in-Alone-Other-default.result _ _ c.gather_alone-in-Alone-Other-default.ensures.gathered
    (λ counts read a b looked.
    alone_other c.args.way c.in-Alone-Other-default.field-0 c.in-Alone-Other-default.begun a b c.new-source-in-Alone-Other-default.result c.args.one c.args.other (g.L.Read.remaining c.args.files.now.one) (g.L.Read.remaining c.args.files.now.other) counts (overlaid c.gather_alone-in-Alone-Other-default.new.overlay) c.in-Alone-Other-default.is c.in-Alone-Other-default.field-0-is c.new-source-in-Alone-Other-default.ensures.begun looked read)

pub returns-in-Alone-Other-default-clause-why : goal.returns-in-Alone-Other-default-clause-why
returns-in-Alone-Other-default-clause-why g c =
    fault_then c.gather_alone-in-Alone-Other-default.result _ _ c.gather_alone-in-Alone-Other-default.ensures.why
    (λ fault why a b looked.
    why_alone_other c.args.way c.in-Alone-Other-default.field-0 c.in-Alone-Other-default.begun a b c.new-source-in-Alone-Other-default.result c.args.one c.args.other (g.L.Read.remaining c.args.files.now.one) (g.L.Read.remaining c.args.files.now.other) fault c.in-Alone-Other-default.is c.in-Alone-Other-default.field-0-is c.new-source-in-Alone-Other-default.ensures.begun c.new-source-in-Alone-Other-default.ensures.which looked why)

pub returns-in-Nothing-clause-gathered : goal.returns-in-Nothing-clause-gathered
returns-in-Nothing-clause-gathered g c = λ a b looked.
    nothing_gathered c.args.way a b c.args.one c.args.other (g.L.Read.remaining c.args.files.now.one) (g.L.Read.remaining c.args.files.now.other) (overlaid c.args.overlay.now) c.in-Nothing.is c.requires.none looked
