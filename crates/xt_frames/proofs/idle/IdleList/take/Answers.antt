use Rattle.std.proofs.Common.{◌∙◌, ap, sym}
use Rattle.xt_base.specs.Maps.{at, without}
use Rattle.xt_frames.proofs.IdleLemmas.{full_left, idle_left, not_under, rest_missing, some_under, under_there, value_under}
use Rattle.xt_frames.proofs.idle.IdleList.take.Goals as goal

pub returns-in_err-name-clause-value : goal.returns-in_err-name-clause-value
returns-in_err-name-clause-value c = c.from_residual.ensures ∙ sym (not_under c.args.block c.self.inside.names.entries (sym c.in_err-name.ensures)) ∙ ap (at c.args.block) c.self.view_is

pub returns-in_err-name-clause-rest : goal.returns-in_err-name-clause-rest
returns-in_err-name-clause-rest c = sym c.self.view_is ∙ rest_missing c.args.block c.self.inside.names.entries (sym c.in_err-name.ensures) ∙ ap (without c.args.block) c.self.view_is

pub take_under-requires : goal.take_under-requires
take_under-requires c = under_there c.self.inside.names c.args.block c.in_ok-name.name c.self.invariant c.names_differ.ensures (sym c.in_ok-name.ensures)

pub invariant_of-self : goal.invariant_of-self
invariant_of-self c =
    full_left c.self.inside.names c.args.block c.in_ok-name.name c.self.invariant c.names_differ.ensures (sym c.in_ok-name.ensures) c.take_under.new.names c.take_under.ensures.names

pub returns-clause-value : goal.returns-clause-value
returns-clause-value c =
    c.take_under.ensures.value ∙ value_under c.self.inside.names c.args.block c.in_ok-name.name c.self.invariant c.names_differ.ensures (sym c.in_ok-name.ensures) ∙ ap (at c.args.block) c.self.view_is

pub returns-clause-rest : goal.returns-clause-rest
returns-clause-rest c =
    idle_left c.self.inside.names c.args.block c.in_ok-name.name c.self.invariant c.names_differ.ensures (sym c.in_ok-name.ensures) c.take_under.new.names c.take_under.ensures.names
    ∙ ap (without c.args.block) c.self.view_is

pub returns-clause-missing : goal.returns-clause-missing
returns-clause-missing c = some_under c.self.inside.names c.args.block c.in_ok-name.name c.self.invariant c.names_differ.ensures (sym c.in_ok-name.ensures) c.take_under.result _ c.take_under.ensures.value
