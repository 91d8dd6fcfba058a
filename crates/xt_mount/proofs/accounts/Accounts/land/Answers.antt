use Rattle.std.proofs.Common.{◌∙◌, ap, sym}
use Rattle.xt_base.specs.Space.{least_number}
use Rattle.xt_items.specs.Lists.{Lists, flight_number}
use Rattle.xt_mount.proofs.AccountsLemmas.{landed_pages}
use Rattle.xt_mount.proofs.accounts.Accounts.land.Goals as goal

pub returns-in-Some : goal.returns-in-Some
returns-in-Some c =
    landed_pages c.self.inside.transactions c.self.inside.journal c.land.new.self c.in-Some.number c.self.inside.space c.land-in-Some.new.self c.least.result c.land-in-Some.ensures (c.least.ensures ∙ ap (λ (l : Lists). least_number l.ail) c.items-in-Some.ensures) c.args.self.now c.self.view_is
    (ap (λ (l : Lists). flight_number l.flight) (sym c.items.ensures) ∙ sym c.flight_number.ensures ∙ c.in-Some.is) c.self.invariant.2 c.land.ensures
