use Rattle.std.proofs.Common.{◌≡◌, ◌∙◌, true, ap, subst, sym, inl, inr}
use Rattle.xt_base.specs.Alone.{has_begun}
use Rattle.xt_base.specs.Calls.{gives}
use Rattle.xt_base.specs.Jobs.{begin, is_waiting}
use Rattle.xt_base.specs.State.{State}
use Rattle.xt_mount.specs.Machines.{IsSameMount, state_of}
use Rattle.xt_mount.proofs.MountLemmas.{begun_same, begun_sound}
use Rattle.xt_mount.proofs.mount.Mount.begin_shared.Goals as goal
use Rattle.xt_mount.proofs.mount.Mount.begin_shared.Goals.{in-Ok, in-Err}

pub invariant_of-self : goal.invariant_of-self
invariant_of-self c =
    begun_sound (state_of c.self.inside.machine) (state_of c.begin_shared.new.self) c.args.name c.begin_shared.result c.self.invariant
    (subst (λ (s : State). is_waiting c.args.name s ≡ true) (sym c.self.view_is) c.requires.waiting) c.requires.kind c.begin_shared.ensures.ok c.begin_shared.ensures.few c.begin_shared.ensures.err

pub returns-clause-begun : goal.returns-clause-begun
returns-clause-begun c =
    elim c.match-begin_shared.branch [
      | in-Ok w ↦ inl (ap (λ x. gives x (state_of c.begin_shared.new.self)) w.reply-is ∙ w.in-Ok.ensures.ok ∙ ap begin c.self.view_is)
      | in-Err w ↦ inr (w.reply-is, w.in-Err.ensures.err ∙ c.self.view_is, subst (λ (s : State). has_begun (begin s).reply ≡ true) c.self.view_is w.in-Err.ensures.want)
    ]

pub returns-clause-same : goal.returns-clause-same
returns-clause-same c =
    subst (IsSameMount (state_of c.begin_shared.new.self)) c.self.view_is
    (begun_same (state_of c.begin_shared.new.self) (state_of c.self.inside.machine) c.begin_shared.result c.begin_shared.ensures.ok c.begin_shared.ensures.err)
