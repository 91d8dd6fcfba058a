-- Slots that are looked at one after another.
use Rattle.std.proofs.Common.{List, Option, [], ap, get_or, length, slice_set, subst, sym, take, ℕ, ◌+◌, ◌++◌, ◌<◌, ◌≡◌, ◌∙◌, ◌∷◌}
use Rattle.std.proofs.lemmas.List.{take_more}
use Rattle.xt_base.specs.declared.steps.Reason.{Reason}
use Rattle.xt_cell.specs.HostSeats.{HostSeatView}
use Rattle.xt_cell.specs.declared.mount_ref.MountRef.{MountRef}
use Rattle.xt_cli.specs.Ends.{Looks, Looks.more}
use Rattle.xt_queue.specs.Words.{word_of}

-- the slot of one more of some mounts was looked at
pub looks_more : (first now last : HostSeatView) (mounts : List MountRef) (i slot : ℕ) (at : MountRef) (shut : List (Option Reason)) (why : Option Reason) → i < length mounts → at ≡ get_or mounts i at → slot ≡ at.slot
    → Looks first (take i mounts) now shut → (life : ℕ) × (last.board.seen ≡ slice_set now.board.seen at.slot (word_of life why)) → Looks first (take (i + 1) mounts) last (slice_set shut slot why)
looks_more first now last mounts i slot at shut why less same is before seen =
    let all = take_more mounts i at less ∙ ap (λ x. take i mounts ++ x ∷ []) (sym same) in
    let looked = subst (λ ms. Looks first ms last (slice_set shut at.slot why)) (sym all) (more (take i mounts) at now last shut seen.0 why before seen.1) in
    subst (λ s. Looks first (take (i + 1) mounts) last (slice_set shut s why)) (sym is) looked
