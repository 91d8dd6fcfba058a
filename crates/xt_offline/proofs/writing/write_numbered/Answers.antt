use Rattle.std.proofs.Common.{◌∙◌, ◌++◌, ◌∷◌, [], decimal, subst}
use Rattle.std.specs.Io.KnownBytes.{Appends}
use Rattle.xt_offline.proofs.AppendLemmas.{appends_more, appends_then, begins_longer, begins_then}
use Rattle.xt_offline.specs.Printing.{Begins}
use Rattle.xt_offline.proofs.writing.write_numbered.Goals as goal

-- src/writing.rt:44:5
pub returns-in_err-write_bytes-clause-part : goal.returns-in_err-write_bytes-clause-part
returns-in_err-write_bytes-clause-part g c =
    begins_longer _ _ (c.args.words.now ++ decimal c.args.number) (10 ∷ []) (begins_longer _ _ c.args.words.now (decimal c.args.number) c.write_bytes.ensures.part)

-- src/writing.rt:45:5
pub returns-in_err-write_bytes-2-clause-part : goal.returns-in_err-write_bytes-2-clause-part
returns-in_err-write_bytes-2-clause-part g c =
    begins_longer _ _ (c.args.words.now ++ decimal c.args.number) (10 ∷ []) (begins_then _ _ _ c.args.words.now (decimal c.args.number) c.in_ok-write_bytes.ensures.all
    (subst (λ t. Begins (g.W.Write.contents c.write_bytes.new.writer) (g.W.Write.contents c.write_bytes-2.new.writer) t) (c.as_bytes.ensures.value ∙ c.format.ensures.text) c.write_bytes-2.ensures.part))

-- src/writing.rt:38:1
pub returns-clause-all : goal.returns-clause-all
returns-clause-all g c =
    appends_then _ _ _ _ (c.args.words.now ++ decimal c.args.number) (10 ∷ []) (appends_more _ _ _ c.args.words.now (decimal c.args.number) c.in_ok-write_bytes.ensures.all
    (subst (λ t. Appends (g.W.Write.contents c.write_bytes.new.writer) (g.W.Write.contents c.write_bytes-2.new.writer) t) (c.as_bytes.ensures.value ∙ c.format.ensures.text) c.in_ok-write_bytes-2.ensures.all)) c.write_bytes-3.ensures.all

-- src/writing.rt:38:1
pub returns-clause-part : goal.returns-clause-part
returns-clause-part g c =
    begins_then _ _ _ (c.args.words.now ++ decimal c.args.number) (10 ∷ []) (appends_more _ _ _ c.args.words.now (decimal c.args.number) c.in_ok-write_bytes.ensures.all
    (subst (λ t. Appends (g.W.Write.contents c.write_bytes.new.writer) (g.W.Write.contents c.write_bytes-2.new.writer) t) (c.as_bytes.ensures.value ∙ c.format.ensures.text) c.in_ok-write_bytes-2.ensures.all)) c.write_bytes-3.ensures.part
