-- The passes of a host's workers.
use Rattle.std.proofs.Common.{◌≡◌, refl, suc, take, zero, ℕ}
use Rattle.std.proofs.lemmas.List.Elements.{All-nil, All-push, All-take}
use Rattle.std.specs.List.{All}
use Rattle.xt_queue.specs.Passes.{WorkView, fresh_work, fresh_works}

-- each is of the queue of one
works_of : (one : WorkView) (n : ℕ) → All (λ (work : WorkView). work.queue ≡ one.queue) (fresh_works one.queue n)
works_of one zero = All-nil (λ (work : WorkView). work.queue ≡ one.queue)
works_of one (suc n) = All-push (λ (work : WorkView). work.queue ≡ one.queue) (fresh_works one.queue n) (fresh_work one.queue n) (works_of one n) refl

-- as many as there are workers
pub some_works : (one : WorkView) (n workers : ℕ) → All (λ (work : WorkView). work.queue ≡ one.queue) (take workers (fresh_works one.queue n))
some_works one n workers = All-take (λ (work : WorkView). work.queue ≡ one.queue) workers (fresh_works one.queue n) (works_of one n)
