-- The start of a life, and the calls.
use Rattle.std.proofs.Common.{◌≡◌, ◌≤◌, inl, refl, subst, sym, ℕ}
use Rattle.std.proofs.lemmas.Bool.{false≢true}
use Rattle.xt_base.proofs.MapLemmas.{some_none}
use Rattle.xt_base.specs.Calls.{alone_with}
use Rattle.xt_base.specs.Settle.{Dropped}
use Rattle.xt_base.specs.Form.{Form}
use Rattle.xt_base.specs.State.{State, mount_of}
use Rattle.xt_base.specs.declared.steps.Answer.{Answer}
use Rattle.xt_base.specs.declared.steps.Request.{Request}
use Rattle.xt_recovery.proofs.CallLemmas.{call_lists}
use Rattle.xt_recovery.proofs.Invariant.{KeepsInvariant}
use Rattle.xt_recovery.proofs.Recoverable.{AgreesUnlogged, IsRecoverable}
use Rattle.xt_recovery.specs.Disks.{Disks, new_disks}
use Rattle.xt_recovery.specs.Log.{Image}

-- ---- a new mount
pub keeps_mount : (form : Form) (home : Image) (slot life log_bytes blocks : ℕ) → KeepsInvariant (new_disks form home) (mount_of slot life log_bytes blocks form)
keeps_mount form home slot life log_bytes blocks = record {
  stands = record {
    told = λ b k v small h. some_none v (v ≡ home b k) (sym h);
    home = λ b k small. inl refl;
    beside = λ f now. some_none f (AgreesUnlogged f (new_disks form home)) (sym now);
    aged = λ f b n now there. some_none f (n ≤ f.number) (sym now);
    below = λ b n there. some_none n (n ≤ 1) (sym there);
  };
  form = refl;
  live = λ still. record {
    matches = record {
      marked = λ b k small there plain. absurd (false≢true there);
      given_up = λ b cancels. absurd (false≢true cancels);
      going = λ b cancels. absurd (false≢true cancels);
      idle = tt;
    };
    own = record {
      idle_once = tt;
      idle_apart = λ b there. refl;
      held = λ b is. absurd (cc);
      owned = λ b t count trans is open_is. absurd (cc);
      edits = λ t trans is. absurd (cc);
    };
  };
}

-- ---- calls
-- a call keeps what recovery stands on, whatever the device answers: it touches neither the flight nor the active list
pub stands_call : (d : Disks) (dropped : Dropped) (request : Request) (answer : Answer) (s : State) → IsRecoverable d s.items → IsRecoverable d (alone_with dropped request answer s).state.items
stands_call d dropped request answer s r =
    let lists = call_lists s dropped request answer in
    subst (IsRecoverable d) (sym lists.1) (record { told = r.told; home = r.home; beside = r.beside; aged = r.aged; below = r.below })
