-- What the texts of a log say, as a reader sees it.
use Rattle.std.specs.Prelude.{List, map, ℕ, ◌≡◌}
use Rattle.xt_recover.specs.FilesGathering.{AreGathered}
use Rattle.xt_recover.specs.Gathering.{IsGathered}
use Rattle.xt_recover.specs.Overlaid.{Overlaid, overlaid}
use Rattle.xt_recover.specs.declared.gather.Gathered.{Gathered}
use Rattle.xt_recover.specs.declared.gather.LogCounts.{LogCounts}
use Rattle.xt_window.specs.declared.way.Which.{Which}

-- what they say of each block, one laid over another; which blocks these are, ascending; and how many texts there are, with the bytes behind them
pub record Texts : Type 0 where
  pub laid : Overlaid
  pub blocks : List ℕ
  pub counts : LogCounts

-- the log is read as some texts, which were laid one over another, and these are the blocks of which they say something
pub record IsOf (log : List ℕ) (t : Texts) : Type 0 where
  pub gathered : IsGathered log t.counts t.laid
  pub blocks : t.blocks ≡ map (λ e. e.0) t.laid.contents

-- the same of a log in two files, of which this one is the older
pub record IsOfFiles (one other : List ℕ) (older : Which) (t : Texts) : Type 0 where
  pub gathered : AreGathered one other older t.counts t.laid
  pub blocks : t.blocks ≡ map (λ e. e.0) t.laid.contents

-- what was gathered, with the blocks of which it says something
pub record IsWithBlocks (g : Gathered) (t : Texts) : Type 0 where
  pub laid : t.laid ≡ overlaid g.overlay
  pub counts : t.counts ≡ g.counts
  pub blocks : t.blocks ≡ map (λ e. e.0) t.laid.contents
