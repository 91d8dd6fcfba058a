-- The posts that follow an event.
use Rattle.std.specs.Prelude.{[], None, Some, ℕ, ◌++◌, ◌∷◌, ◌≡◌, ◌⊎◌}
use Rattle.xt_base.specs.declared.names.JobKind.{JobKind}
use Rattle.xt_base.specs.declared.names.JobKind.TheVariants.{Ckpt, Flush}
use Rattle.xt_base.specs.declared.names.JobName.{JobName}
use Rattle.xt_base.specs.declared.steps.Reply.TheVariants.{Okay}
use Rattle.xt_base.specs.declared.steps.Step.TheVariants.{Post}
use Rattle.xt_cell.specs.Books.{Adds, BookView}
use Rattle.xt_mount.specs.Slots.{owed_in}
use Rattle.xt_queue.specs.Passes.{PostView, of_post}
use Rattle.xt_queue.specs.Queues.{WasFull}

-- no job of the kind is owed, or its name and no other was posted, and booked for the caller, or the queue was full and it stays owed
abbrev pub PostsOne : JobKind → ℕ → PostView → BookView → PostView → BookView → Type 0
PostsOne kind caller pass old passed new =
    ((owed_in kind old.state.mounted ≡ None) × (new ≡ old) × (passed ≡ pass))
    ⊎ (((name : JobName) × (owed_in kind old.state.mounted ≡ Some name) × Adds old caller (Post name) Okay new × (passed.posted ≡ pass.posted ++ name ∷ [])) ⊎ ((new ≡ old) × WasFull (of_post pass) × (passed.posted ≡ pass.posted)))

-- after an event: the checkpoint that it made owed, and then the flush
abbrev pub PostsBoth : ℕ → PostView → BookView → PostView → BookView → Type 0
PostsBoth caller pass old passed new = (between : BookView) × (later : PostView) × PostsOne Ckpt caller pass old later between × PostsOne Flush caller later between passed new
