-- Tries of a request, one after another.
use Rattle.std.proofs.Common.{[], ap, arith, false, refl, sym, true, ◌++◌, ◌≡◌, ◌∙◌, ◌∷◌}
use Rattle.std.proofs.lemmas.List.{append-nil, append_assoc}
use Rattle.std.proofs.lemmas.List.Elements.{All-append, All-cons, All-nil}
use Rattle.xt_base.specs.Isolation.{is_no_memory}
use Rattle.xt_base.specs.declared.steps.Reply.{Reply}
use Rattle.xt_base.specs.declared.steps.Request.{Request}
use Rattle.xt_base.specs.declared.steps.Step.TheVariants.{Call}
use Rattle.xt_cell.specs.HostSeats.{HostSeatView, receipt}
use Rattle.xt_cell.specs.declared.mount_ref.MountRef.{MountRef}
use Rattle.xt_host.proofs.WorkLemmas.{each_append}
use Rattle.xt_host.specs.Tokens.{Served}
use Rattle.xt_receipts.specs.Again.{is_again}
use Rattle.xt_host.specs.Waiting.{IsTryOf, Tried}
use Rattle.xt_host.specs.Work.{counted_each}

-- a reply that asks to try again is not ENOMEM
again_happened : (reply : Reply) → is_again reply ≡ true → is_no_memory reply ≡ false
again_happened reply again = grind arith

module _ (at : MountRef) (request : Request) where
  -- no try yet
  pub tried_none : (s : HostSeatView) → Tried at request s s
  tried_none s = record {
    tries = [];
    told = All-nil (IsTryOf at request);
    receipts = sym (append-nil s.receipts);
    counts = refl;
    caller = refl;
    splits = refl;
    rank = refl;
  }

  -- one try more
  pub tried_next : (reply : Reply) (a b c : HostSeatView) → Tried at request a b → Served at request reply b c → is_again reply ≡ true → Tried at request a c
  tried_next reply a b c before served again =
      let call = served.received (again_happened reply again) in
      let got = call.2 in
      let one = receipt at.slot got.number (Call at.slot at.life request call.0) reply in
      record {
        tries = before.tries ++ one ∷ [];
        told = All-append (IsTryOf at request) before.tries (one ∷ []) before.told (All-cons (IsTryOf at request) one [] (refl, again, (call.0, call.1, refl)) (All-nil (IsTryOf at request)));
        receipts = got.receipts ∙ ap (λ rs. rs ++ one ∷ []) before.receipts ∙ append_assoc a.receipts before.tries (one ∷ []);
        counts = got.counts ∙ ap (λ counts. counted_each (one ∷ []) counts) before.counts ∙ sym (each_append before.tries (one ∷ []) a.counts);
        caller = got.caller ∙ before.caller;
        splits = got.splits ∙ before.splits;
        rank = got.rank ∙ before.rank;
      }
