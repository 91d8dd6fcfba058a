-- The calls of a home device that an event of its slot makes.
use Rattle.std.specs.Prelude.{List, None, Option, Some, [], length, map, min, slice_index, ℕ, ◌-◌, ◌∷◌}
use Rattle.xt_base.specs.Jobs.{flush_offers}
use Rattle.xt_base.specs.State.{State}
use Rattle.xt_base.specs.Text.{content_at}
use Rattle.xt_mount.specs.Slots.{contents_in, form_in}
use Rattle.xt_base.specs.declared.steps.Answer.{Answer}
use Rattle.xt_base.specs.declared.steps.HomeAnswers.{HomeAnswers}
use Rattle.xt_base.specs.declared.steps.Step.{Step}
use Rattle.xt_base.specs.declared.steps.Step.TheVariants.{Call}
use Rattle.xt_mount.specs.Come.{read_block}
use Rattle.xt_dev.specs.declared.call.HomeCall.{HomeCall}
use Rattle.xt_dev.specs.declared.call.HomeCall.TheVariants.{Offer, Read}

-- one read of a block where an answer is there, with that answer; no call where there is none
abbrev pub read_calls : Option ℕ → Answer → List HomeCall
read_calls None answer = []
read_calls (Some block) Answer.None = []
read_calls (Some block) (Answer.Content content) = Read block (Some content) ∷ []
read_calls (Some block) Answer.Failed = Read block None ∷ []

-- how many of the calls for an answer failed: one where it says that the read failed
abbrev pub failed_reads : Answer → ℕ
failed_reads Answer.Failed = 1
failed_reads other = 0

-- what a flush offers, with these answers
abbrev pub flush_calls : HomeAnswers → Option State → List HomeCall
flush_calls answers None = []
flush_calls answers (Some m) = map Offer (flush_offers answers m)

-- a block with its committed content
abbrev pub committed_write : Option State → ℕ → ℕ × List ℕ
committed_write o block = (block, content_at (form_in o).size block (contents_in o))

-- the block at a place; the last one, where there are fewer
abbrev pub nearest : List ℕ → ℕ → ℕ
nearest blocks place = slice_index blocks (min place (length blocks - 1))

-- the calls that the step of a call makes
abbrev pub step_calls : Step → List HomeCall
step_calls (Call slot life request answer) = read_calls (read_block request) answer
step_calls other = []

-- how many of them failed, as the step says
abbrev pub failed_calls : Step → ℕ
failed_calls (Call slot life request answer) = failed_reads answer
failed_calls other = 0
