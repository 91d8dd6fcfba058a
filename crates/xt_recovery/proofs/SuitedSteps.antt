-- Steps that suit a slot, with its disks.
use Rattle.std.proofs.Common.{List, [], true, ◌∷◌, ◌≡◌}
use Rattle.xt_base.specs.Alone.{alone}
use Rattle.xt_base.specs.Order.{suits}
use Rattle.xt_base.specs.State.{Lone}
use Rattle.xt_base.specs.declared.steps.Step.{Step}
use Rattle.xt_recovery.specs.DiskSteps.{AllSuit, AreDiskSteps, IsDiskStep, IsHomeAfterStep, IsLogCut, MakesForm, StepReadsHome, disks_after}
use Rattle.xt_recovery.specs.Disks.{Disks}

-- one step that suits a slot, with its disks before and after
pub record IsSuitedStep (x : Step) (s : Lone) (d e : Disks) : Type 0 where
  pub fits : suits x s ≡ true
  pub form : MakesForm x s d.form
  pub told : StepReadsHome x s d.home
  pub home : IsHomeAfterStep x s d e.home
  pub after : e ≡ disks_after x s e.home d

-- steps one after another, after each of which the log may be cut
abbrev pub AreSuitedSteps : List Step → Lone → Disks → Disks → Type 0
AreSuitedSteps [] s d e = e ≡ d
AreSuitedSteps (x ∷ xs) s d e = (mid cut : Disks) × IsSuitedStep x s d mid × IsLogCut (alone x s).slot.mounted mid cut × AreSuitedSteps xs (alone x s).slot cut e

-- a step that suits a slot, and what the disks do at it
pub suited_step : (x : Step) (s : Lone) (d e : Disks) → suits x s ≡ true → IsDiskStep x s d e → IsSuitedStep x s d e
suited_step x s d e fits one = record { fits = fits; form = one.form; told = one.told; home = one.home; after = one.after }

-- the same of steps one after another
pub suited_steps : (xs : List Step) (s : Lone) (d e : Disks) → AllSuit xs s → AreDiskSteps xs s d e → AreSuitedSteps xs s d e
suited_steps [] s d e suit served = served
suited_steps (x ∷ xs) s d e suit served = (served.0, served.1, suited_step x s d served.0 suit.0 served.2, served.3, suited_steps xs (alone x s).slot served.1 e suit.1 served.4)
