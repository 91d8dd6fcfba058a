-- What becomes of a seat, one call or one job after another.
use Rattle.std.proofs.Common.{Bool, List, [], All, ap, arith, false, inl, inr, refl, subst, sym, true, ℕ, ◌++◌, ◌≡◌, ◌∙◌, ◌∷◌, ◌⊎◌}
use Rattle.std.proofs.lemmas.List.Elements.{All-append, All-nil, Contains-append_left, Contains-push_cases}
use Rattle.std.specs.List.{Contains}
use Rattle.xt_base.specs.Isolation.{is_no_memory}
use Rattle.xt_base.specs.declared.names.JobName.{JobName}
use Rattle.xt_base.specs.declared.steps.Reply.{Reply}
use Rattle.xt_base.specs.declared.steps.Request.{Request}
use Rattle.xt_cell.specs.Counting.{counted}
use Rattle.xt_cell.specs.HostSeats.{HostSeatView}
use Rattle.xt_cell.specs.declared.mount_ref.MountRef.{MountRef}
use Rattle.xt_cell.specs.declared.records.Receipt.{Receipt}
use Rattle.xt_host.specs.Tokens.{Served}
use Rattle.xt_host.specs.Work.{IsWorkOf, Worked, counted_each}
use Rattle.xt_queue.specs.Boards.{Rises}
use Rattle.xt_queue.specs.Seats.{SeatView}
use Rattle.xt_service.specs.Seats.{HasWorked, IsUsed}

-- ---- calls
-- none was made
pub used_none : (s : HostSeatView) → IsUsed s s
used_none s = record { caller = refl; board = refl; rises = λ slot. omega arith; splits = refl; rank = refl }

-- some, and then some more
pub used_both : (a b c : HostSeatView) → IsUsed a b → IsUsed b c → IsUsed a c
used_both a b c p q = record {
  caller = q.caller ∙ p.caller;
  board = q.board ∙ p.board;
  rises = λ slot. let before = p.rises slot in let after = q.rises slot in omega (arith, before, after);
  splits = q.splits ∙ p.splits;
  rank = q.rank ∙ p.rank;
}

-- one that was served, or refused memory
pub used_served : (at : MountRef) (request : Request) (reply : Reply) (old new : HostSeatView) → Served at request reply old new → new.board.board ≡ old.board.board → Rises old.board.seen new.board.seen → IsUsed old new
used_served at request reply old new served tied rises = by (is_no_memory reply) refl
  where
    by : (b : Bool) → is_no_memory reply ≡ b → IsUsed old new
    by true is = let s = served.refused is in record { caller = s.caller; board = tied; rises = rises; splits = ap (λ (b : SeatView). b.splits) s.board; rank = ap (λ (b : SeatView). b.rank) s.board }
    by false is = let r = (served.received is).2 in record { caller = r.caller; board = tied; rises = rises; splits = r.splits; rank = r.rank }

-- one that left the board as it was
pub used_still : (at : MountRef) (request : Request) (reply : Reply) (old new : HostSeatView) → Served at request reply old new → new.board ≡ old.board → IsUsed old new
used_still at request reply old new served same =
    used_served at request reply old new served (ap (λ (b : SeatView). b.board) same) (subst (λ (b : SeatView). Rises old.board.seen b.seen) (sym same) (λ slot. omega arith))

-- ---- the work of a worker
-- the counts after two lists of receipts
each_append : (xs ys : List Receipt) (counts : List ℕ) → counted_each (xs ++ ys) counts ≡ counted_each ys (counted_each xs counts)
each_append [] ys counts = refl
each_append (x ∷ xs) ys counts = each_append xs ys (counted x.slot counts)

-- the one name of a list of one
one_of : (taken : List JobName) (name : JobName) → Contains taken name → (x : JobName) → Contains (name ∷ []) x → Contains taken x
one_of taken name has x one = by (Contains-push_cases [] name x one)
  where
    by : Contains [] x ⊎ (name ≡ x) → Contains taken x
    by (inl none) = let less = none.1 in let never : ⊥ = omega (arith, less) in absurd never
    by (inr is) = subst (Contains taken) is has

module _ (worker : ℕ) where
  -- steps of names among more names
  own_among : (xs ys : List JobName) (rs : List Receipt) → ((x : JobName) → Contains xs x → Contains ys x) → All (IsWorkOf worker xs) rs → All (IsWorkOf worker ys) rs
  own_among xs ys rs more all = λ i d less. let own = all i d less in (own.0, more own.0 own.1, own.2, own.3)

  -- nothing was done
  pub has_none : (taken : List JobName) (s : HostSeatView) → HasWorked worker taken s s
  has_none taken s = record { steps = []; own = All-nil (IsWorkOf worker taken); counts = refl; used = used_none s }

  -- its receipts were forgotten
  pub has_forgot : (taken : List JobName) (a b c : HostSeatView) → HasWorked worker taken a b → c.caller ≡ b.caller → c.counts ≡ b.counts → c.board ≡ b.board → HasWorked worker taken a c
  has_forgot taken a b c h caller counts board = record {
    steps = h.steps;
    own = h.own;
    counts = counts ∙ h.counts;
    used = used_both a b c h.used (record {
      caller = caller;
      board = ap (λ (x : SeatView). x.board) board;
      rises = subst (λ (x : SeatView). Rises b.board.seen x.seen) (sym board) (λ slot. omega arith);
      splits = ap (λ (x : SeatView). x.splits) board;
      rank = ap (λ (x : SeatView). x.rank) board;
    });
  }

  -- more names were taken, and nothing of them was done
  pub has_taken : (all taken names : List JobName) (a b : HostSeatView) → all ≡ taken ++ names → HasWorked worker taken a b → HasWorked worker all a b
  has_taken all taken names a b has h = record {
    steps = h.steps;
    own = own_among taken all h.steps (λ x there. subst (λ ns. Contains ns x) (sym has) (Contains-append_left taken names x there)) h.own;
    counts = h.counts;
    used = h.used;
  }

  -- the work of one of the names that were taken, by whoever took it
  pub has_tried : (by : ℕ) (taken : List JobName) (name : JobName) (a b c : HostSeatView) → by ≡ worker → Contains taken name → HasWorked worker taken a b → Worked by (name ∷ []) b c
      → c.board.board ≡ b.board.board → Rises b.board.seen c.board.seen → HasWorked worker taken a c
  has_tried by taken name a b c own has h p tied rises =
      let w = subst (λ x. Worked x (name ∷ []) b c) own p in
      record {
        steps = h.steps ++ w.gained;
        own = All-append (IsWorkOf worker taken) h.steps w.gained h.own (own_among (name ∷ []) taken w.gained (one_of taken name has) w.own);
        counts = w.counts ∙ ap (counted_each w.gained) h.counts ∙ sym (each_append h.steps w.gained a.counts);
        used = used_both a b c h.used (record { caller = w.caller; board = tied; rises = rises; splits = w.splits; rank = w.rank });
      }

  -- its receipts were forgotten, and more names were taken, of which nothing was done
  pub has_looked : (all taken names : List JobName) (a b c d : HostSeatView) → HasWorked worker taken a b → c.caller ≡ b.caller → c.counts ≡ b.counts → c.board ≡ b.board → all ≡ taken ++ names → d ≡ c → HasWorked worker all a d
  has_looked all taken names a b c d h caller counts board has same =
      subst (HasWorked worker all a) (sym same) (has_taken all taken names a c has (has_forgot taken a b c h caller counts board))

  -- and then one of those that were taken was tried, by whoever took it
  pub has_gone_on : (by : ℕ) (all taken names : List JobName) (name : JobName) (a b c d e : HostSeatView) → HasWorked worker taken a b → c.caller ≡ b.caller → c.counts ≡ b.counts → c.board ≡ b.board → all ≡ taken ++ names → d ≡ c
      → by ≡ worker → Contains all name → Worked by (name ∷ []) d e → e.board.board ≡ d.board.board → Rises d.board.seen e.board.seen → HasWorked worker all a e
  has_gone_on by all taken names name a b c d e h caller counts board has same own among p tied rises =
      has_tried by all name a d e own among (has_looked all taken names a b c d h caller counts board has same) p tied rises

  -- the work of all names, after that of those that were taken first
  pub has_after : (all taken names : List JobName) (a b c : HostSeatView) → all ≡ taken ++ names → HasWorked worker taken a b → HasWorked worker all b c → HasWorked worker all a c
  has_after all taken names a b c has h then = record {
    steps = h.steps ++ then.steps;
    own = All-append (IsWorkOf worker all) h.steps then.steps
        (own_among taken all h.steps (λ x there. subst (λ ns. Contains ns x) (sym has) (Contains-append_left taken names x there)) h.own)
        then.own;
    counts = then.counts ∙ ap (counted_each then.steps) h.counts ∙ sym (each_append h.steps then.steps a.counts);
    used = used_both a b c h.used then.used;
  }
