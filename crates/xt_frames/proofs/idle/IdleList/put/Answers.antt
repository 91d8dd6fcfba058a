use Rattle.std.proofs.Common.{◌≡◌, ◌∙◌, ◌∷◌, IfSome, ap, subst, take, ℕ}
use Rattle.xt_frames.proofs.IdleLemmas.{full_put, idle_put, last_under}
use Rattle.xt_frames.specs.Idle.{Idle}
use Rattle.xt_frames.proofs.idle.IdleList.put.Goals as goal

pub put_under-requires : goal.put_under-requires
put_under-requires c =
    last_under c.self.inside.names c.last_name-name.result c.args.block c.args.content c.self.invariant c.names_differ.ensures
    (λ e is. subst (λ o. IfSome o (λ (x : ℕ × Idle). c.last_name-name.result ≡ x.0)) is c.last_name-name.ensures)

pub invariant_of-self : goal.invariant_of-self
invariant_of-self c =
    full_put c.self.inside.names c.last_name-name.result c.args.block c.args.content c.self.invariant c.names_differ.ensures
    (λ e is. subst (λ o. IfSome o (λ (x : ℕ × Idle). c.last_name-name.result ≡ x.0)) is c.last_name-name.ensures)
    c.put_under.new.names c.put_under.ensures

pub returns : goal.returns
returns c =
    idle_put c.self.inside.names c.last_name-name.result c.args.block c.args.content c.self.invariant c.names_differ.ensures
    (λ e is. subst (λ o. IfSome o (λ (x : ℕ × Idle). c.last_name-name.result ≡ x.0)) is c.last_name-name.ensures)
    c.put_under.new.names c.put_under.ensures ∙ ap (λ xs. take 64 ((c.args.block, c.args.content) ∷ xs)) c.self.view_is
