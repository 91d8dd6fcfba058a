-- What becomes of the seat of a worker that has mounts written out.
use Rattle.std.proofs.Common.{get_or, Bool, List, [], All, Err, IfErr, IfOk, Ok, OnOk, Result, ap, arith, false, inl, inr, refl, subst, sym, true, ℕ, ◌++◌, ◌≡◌, ◌∙◌, ◌⊎◌, ◌∷◌}
use Rattle.std.proofs.lemmas.List.Elements.{All-append, All-cons, All-nil, Contains-append_left, Contains-push, Contains-push_cases}
use Rattle.std.specs.List.{Contains}
use Rattle.xt_base.specs.Isolation.{is_no_memory}
use Rattle.xt_base.specs.declared.names.JobName.{JobName}
use Rattle.xt_base.specs.declared.steps.Answer.{Answer}
use Rattle.xt_base.specs.declared.steps.Errno.{Errno}
use Rattle.xt_base.specs.declared.steps.Reply.{Reply}
use Rattle.xt_base.specs.declared.steps.Reply.TheVariants.{Okay, Refused}
use Rattle.xt_base.specs.declared.steps.Request.{Request}
use Rattle.xt_base.specs.declared.steps.Request.TheVariants.{Force, Push}
use Rattle.xt_base.specs.declared.steps.Step.TheVariants.{Call}
use Rattle.xt_cell.specs.HostSeats.{HostSeatView, receipt}
use Rattle.xt_cell.specs.declared.mount_ref.MountRef.{MountRef}
use Rattle.xt_cell.specs.declared.records.Receipt.{Receipt}
use Rattle.xt_host.specs.Tokens.{Served, forced}
use Rattle.xt_host.specs.Work.{IsWorkOf, counted_each}
use Rattle.xt_host.proofs.WorkLemmas.{each_append}
use Rattle.xt_queue.specs.Boards.{Rises}
use Rattle.xt_host.specs.declared.outcomes.Forced.{Forced}
use Rattle.xt_service.proofs.SeatLemmas.{used_both, used_none, used_served}
use Rattle.xt_service.specs.Seats.{HasWorked, HasWrittenOut, IsUsed, IsWriteOf, IsWriteStep}

-- a step of a worker that has mounts written out
abbrev IsOwn : List MountRef → ℕ → List JobName → Receipt → Type 0
IsOwn mounts worker taken r = IsWorkOf worker taken r ⊎ IsWriteOf mounts r

-- the one mount of a list of one
one_mount : (mounts : List MountRef) (at : MountRef) → Contains mounts at → (x : MountRef) → Contains (at ∷ []) x → Contains mounts x
one_mount mounts at has x one = by (Contains-push_cases [] at x one)
  where
    by : Contains [] x ⊎ (at ≡ x) → Contains mounts x
    by (inl none) = let less = none.1 in let never : ⊥ = omega (arith, less) in absurd never
    by (inr is) = subst (Contains mounts) is has

module _ (worker : ℕ) where
  -- of more mounts, and of more names
  own_more : (mounts more : List MountRef) (taken all : List JobName) (rs : List Receipt) → ((x : MountRef) → Contains mounts x → Contains more x) → ((x : JobName) → Contains taken x → Contains all x)
      → All (IsOwn mounts worker taken) rs → All (IsOwn more worker all) rs
  own_more mounts more taken all rs at names own = λ i d less. by (get_or rs i d) (own i d less)
    where
      by : (r : Receipt) → IsOwn mounts worker taken r → IsOwn more worker all r
      by r (inl work) = inl (work.0, names work.0 work.1, work.2, work.3)
      by r (inr write) = inr (write.0, at write.0 write.1, write.2, write.3)

  -- nothing was done
  pub written_none : (mounts : List MountRef) (taken : List JobName) (s : HostSeatView) → HasWrittenOut mounts worker taken s s
  written_none mounts taken s = record { steps = []; own = All-nil (IsOwn mounts worker taken); counts = refl; used = used_none s }

  -- only its work was done
  pub written_work : (mounts : List MountRef) (taken : List JobName) (a b : HostSeatView) → HasWorked worker taken a b → HasWrittenOut mounts worker taken a b
  written_work mounts taken a b h = record { steps = h.steps; own = λ i d less. inl (h.own i d less); counts = h.counts; used = h.used }

  -- of more mounts, and of more names
  pub written_more : (mounts more : List MountRef) (taken all : List JobName) (a b : HostSeatView) → ((x : MountRef) → Contains mounts x → Contains more x) → ((x : JobName) → Contains taken x → Contains all x)
      → HasWrittenOut mounts worker taken a b → HasWrittenOut more worker all a b
  written_more mounts more taken all a b at names h = record { steps = h.steps; own = own_more mounts more taken all h.steps at names h.own; counts = h.counts; used = h.used }

  -- some steps, and then some more
  pub written_both : (mounts : List MountRef) (taken : List JobName) (a b c : HostSeatView) → HasWrittenOut mounts worker taken a b → HasWrittenOut mounts worker taken b c → HasWrittenOut mounts worker taken a c
  written_both mounts taken a b c p q = record {
    steps = p.steps ++ q.steps;
    own = All-append (IsOwn mounts worker taken) p.steps q.steps p.own q.own;
    counts = q.counts ∙ ap (counted_each q.steps) p.counts ∙ sym (each_append p.steps q.steps a.counts);
    used = used_both a b c p.used q.used;
  }

  -- one request to write a mount, or none where memory was refused
  pub written_asked : (at : MountRef) (request : Request) (reply : Reply) (taken : List JobName) (a b : HostSeatView) → ((answer : Answer) → IsWriteStep at (Call at.slot at.life request answer))
      → Served at request reply a b → b.board.board ≡ a.board.board → Rises a.board.seen b.board.seen → HasWrittenOut (at ∷ []) worker taken a b
  written_asked at request reply taken a b writes served tied rises = by (is_no_memory reply) refl
    where
      used : IsUsed a b
      used = used_served at request reply a b served tied rises

      by : (x : Bool) → is_no_memory reply ≡ x → HasWrittenOut (at ∷ []) worker taken a b
      by true is = record { steps = []; own = All-nil (IsOwn (at ∷ []) worker taken); counts = (served.refused is).counts; used = used }
      by false is =
          let told = served.received is in
          let got = told.2 in
          let one = receipt at.slot got.number (Call at.slot at.life request told.0) reply in
          record {
            steps = one ∷ [];
            own = All-cons (IsOwn (at ∷ []) worker taken) one [] (inr (at, Contains-push [] at, refl, writes told.0)) (All-nil (IsOwn (at ∷ []) worker taken));
            counts = got.counts;
            used = used;
          }

-- what a force was told, whichever it was
pub force_told : (at : MountRef) (told : Result Forced Errno) (a b : HostSeatView) → IfOk told (λ what. Served at Force (forced what) a b) → IfErr told (λ errno. Served at Force (Refused errno) a b) → (reply : Reply) × Served at Force reply a b
force_told at (Ok what) a b okay refused = (forced what, okay)
force_told at (Err errno) a b okay refused = (Refused errno, refused)

-- and a push
pub push_told : {T : Type 0} (at : MountRef) (told : Result T Errno) (a b : HostSeatView) → OnOk told (Served at Push Okay a b) → IfErr told (λ errno. Served at Push (Refused errno) a b) → (reply : Reply) × Served at Push reply a b
push_told at (Ok what) a b okay refused = (Okay, okay)
push_told at (Err errno) a b okay refused = (Refused errno, refused)

module _ (worker : ℕ) where
  -- a force and a push of a mount, and then its work
  pub written_out : (at : MountRef) (all : List JobName) (a b c d : HostSeatView) → ((reply : Reply) × Served at Force reply a b) → b.board.board ≡ a.board.board → Rises a.board.seen b.board.seen
      → ((reply : Reply) × Served at Push reply b c) → c.board.board ≡ b.board.board → Rises b.board.seen c.board.seen → HasWorked worker all c d → HasWrittenOut (at ∷ []) worker all a d
  written_out at all a b c d forced tied rises pushed tied_again rises_again worked =
      let force = written_asked worker at Force forced.0 all a b (λ answer. (refl, refl)) forced.1 tied rises in
      let push = written_asked worker at Push pushed.0 all b c (λ answer. (refl, refl)) pushed.1 tied_again rises_again in
      written_both worker (at ∷ []) all a c d (written_both worker (at ∷ []) all a b c force push) (written_work worker (at ∷ []) all c d worked)

  -- one more of some mounts, by whoever works at the bench
  pub written_next : (by : ℕ) (mounts : List MountRef) (at : MountRef) (all taken names : List JobName) (a b c : HostSeatView) → by ≡ worker → Contains mounts at → all ≡ taken ++ names
      → HasWrittenOut mounts worker taken a b → HasWrittenOut (at ∷ []) by all b c → HasWrittenOut mounts worker all a c
  written_next by mounts at all taken names a b c own among has h more =
      let next = subst (λ w. HasWrittenOut (at ∷ []) w all b c) own more in
      written_both worker mounts all a b c
      (written_more worker mounts mounts taken all a b (λ x there. there) (λ x there. subst (λ ns. Contains ns x) (sym has) (Contains-append_left taken names x there)) h)
      (written_more worker (at ∷ []) mounts all all b c (one_mount mounts at among) (λ x there. there) next)

  -- all of them once more
  pub written_again : (by : ℕ) (mounts : List MountRef) (all taken names : List JobName) (a b c : HostSeatView) → by ≡ worker → all ≡ taken ++ names
      → HasWrittenOut mounts worker taken a b → HasWrittenOut mounts by all b c → HasWrittenOut mounts worker all a c
  written_again by mounts all taken names a b c own has h more =
      written_both worker mounts all a b c
      (written_more worker mounts mounts taken all a b (λ x there. there) (λ x there. subst (λ ns. Contains ns x) (sym has) (Contains-append_left taken names x there)) h)
      (subst (λ w. HasWrittenOut mounts w all b c) own more)
