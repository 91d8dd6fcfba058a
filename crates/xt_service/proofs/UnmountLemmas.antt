-- Mounts that are unmounted one after another.
use Rattle.std.proofs.Common.{List, Option, [], ap, get_or, length, slice_set, subst, sym, take, ℕ, ◌+◌, ◌++◌, ◌<◌, ◌≡◌, ◌∙◌, ◌∷◌}
use Rattle.std.proofs.lemmas.List.{take_more}
use Rattle.xt_base.specs.declared.steps.Errno.{Errno}
use Rattle.xt_base.specs.declared.steps.Request.TheVariants.{Unmount}
use Rattle.xt_cell.specs.HostSeats.{HostSeatView}
use Rattle.xt_cell.specs.declared.mount_ref.MountRef.{MountRef}
use Rattle.xt_host.specs.Tokens.{Served}
use Rattle.xt_service.specs.Seats.{Unmounts, Unmounts.more, unmount_reply}

-- one more of some mounts was asked for to be unmounted
pub unmounts_more : (first now last : HostSeatView) (mounts : List MountRef) (i slot : ℕ) (at : MountRef) (kept : List (Option Errno)) (why : Option Errno) → i < length mounts → at ≡ get_or mounts i at → slot ≡ at.slot
    → Unmounts first (take i mounts) now kept → Served at Unmount (unmount_reply why) now last → Unmounts first (take (i + 1) mounts) last (slice_set kept slot why)
unmounts_more first now last mounts i slot at kept why less same is before told =
    let all = take_more mounts i at less ∙ ap (λ x. take i mounts ++ x ∷ []) (sym same) in
    let asked = subst (λ ms. Unmounts first ms last (slice_set kept at.slot why)) (sym all) (more (take i mounts) at now last kept why before told) in
    subst (λ s. Unmounts first (take (i + 1) mounts) last (slice_set kept s why)) (sym is) asked
