-- What an open transaction of a sound mount finds where its leg ends.
use Rattle.std.proofs.Common.{◌≡◌, ◌∙◌, ◌+◌, ◌*◌, ◌≤◌, ◌∷◌, Bool, List, None, Option, Some, [], ap, arith, false, inl, inr, length, refl, sym, true, ℕ, IfSome}
use Rattle.std.proofs.lemmas.Bool.{and_cases, not-false}
use Rattle.std.specs.Prelude.{if◌then◌else◌, is_none, is_some, not, sum_by, ◌&&◌, ◌==◌}
use Rattle.xt_base.proofs.BusyLemmas.{few_committed}
use Rattle.xt_base.proofs.MapLemmas.{at_later}
use Rattle.xt_base.proofs.RisingLemmas.{each_at}
use Rattle.xt_base.proofs.SoundBounds.{few_changes, few_contents, few_fresh}
use Rattle.xt_base.proofs.SoundSteps.{charge_granted}
use Rattle.xt_base.specs.Calls.{Outcome, asks_ckpt, asks_flush, commit_number, committed_of, gives, held_of, io_of, is_no_room as finds_no_room, legs_after, roll, with_legs, with_trans}
use Rattle.xt_base.specs.Legs.{aborted, ended, is_dirty, with_marks}
use Rattle.xt_base.specs.Maps.{at, is_in}
use Rattle.xt_base.specs.Sound.{Each, IsFair, IsRising, IsSound}
use Rattle.xt_base.specs.Settle.{settled}
use Rattle.xt_base.specs.Space.{change_cost, charge, cost, granted}
use Rattle.xt_base.specs.State.{Leg, State, Transaction}
use Rattle.xt_base.specs.declared.steps.Errno.TheVariants.{Again, Invalid}
use Rattle.xt_base.specs.declared.steps.Reply.TheVariants.{Refused}
use Rattle.xt_mount.proofs.EndLemmas.{if_some, some_if}
use Rattle.xt_resv.proofs.MountLemmas.{is_covered, is_paid, no_room_is}
use Rattle.xt_resv.specs.Ledgers.{is_no_room}
use Rattle.xt_resv.specs.Mounts.{grant_of, ledger}

-- no key is above all of them
pub absent_above : {V : Type 0} (n : ℕ) (es : List (ℕ × V)) → Each (λ e. e.0 ≤ n) es → is_in (n + 1) es ≡ false
absent_above n [] all = refl
absent_above n (e ∷ es) all = ap is_some (at_later (n + 1) e es (λ same. omega (arith, same, all.0))) ∙ absent_above n es all.1

-- what a clean leg is charged
clean_charge : (ends : ℕ) (leg : Leg) → is_dirty leg ≡ false → charge ends leg.changes ≡ 0
clean_charge ends leg clean = ap {B = ℕ} (λ (b : Bool). if b then 0 else ends + sum_by change_cost leg.changes) (not-false (length leg.changes == 0) clean)

-- what is not there
is_live : {A : Type 0} (o : Option A) → is_some o ≡ false → is_none o ≡ true
is_live None h = refl
is_live (Some a) h = sym h

module _ (s : State) (h : IsSound s) (t : ℕ) (u : Transaction) (there : Some u ≡ at t s.transactions) where
  -- there is room for its edits, its marks, and what it leaves fresh
  pub contents_room : IfSome (at t s.transactions) (λ x. length s.frames.committed + length x.leg.changes ≤ 128)
  contents_room = if_some (at t s.transactions) (λ x. length s.frames.committed + length x.leg.changes ≤ 128) u there (omega (arith, few_contents s h, few_changes s h t u (sym there)))

  pub list_room : IfSome (at t s.transactions) (λ x. length s.items.cil + length x.leg.changes ≤ 128)
  list_room = if_some (at t s.transactions) (λ x. length s.items.cil + length x.leg.changes ≤ 128) u there (omega (arith, few_committed s.form.ends s.log_bytes s.owners s.transactions s.items h.parts, few_changes s h t u (sym there)))

  pub fresh_room : IfSome (at t s.transactions) (λ x. length s.frames.fresh + length x.leg.changes ≤ 128)
  fresh_room = if_some (at t s.transactions) (λ x. length s.frames.fresh + length x.leg.changes ≤ 128) u there (omega (arith, few_fresh s h, few_changes s h t u (sym there)))

  -- what its commit adds was charged, which is within its unit, and where it may be committed, granted
  paid_charge : cost s.form.ends (with_marks u.leg.changes s.items.cil) ≤ cost s.form.ends s.items.cil + charge s.form.ends u.leg.changes
  paid_charge = is_paid s h t u (sym there)

  pub paid_unit : cost s.form.ends (with_marks u.leg.changes s.items.cil) ≤ cost s.form.ends s.items.cil + u.unit
  paid_unit =
      let fair : IsFair s.form.ends s.owners (t, u) = each_at (IsFair s.form.ends s.owners) t u s.transactions (sym there) h.parts.fair in
      let unit = fair.unit in
      omega (arith, paid_charge, unit)

  pub paid_by_unit : IfSome (at t s.transactions) (λ x. cost s.form.ends (with_marks x.leg.changes s.items.cil) ≤ cost s.form.ends s.items.cil + x.unit)
  paid_by_unit = if_some (at t s.transactions) (λ x. cost s.form.ends (with_marks x.leg.changes s.items.cil) ≤ cost s.form.ends s.items.cil + x.unit) u there paid_unit

  charge_within : (is_dirty u.leg && is_some s.shut) ≡ false → charge s.form.ends u.leg.changes ≤ u.unit * u.legs
  charge_within kept =
      elim (and_cases (is_dirty u.leg) (is_some s.shut) kept) [
        | inl clean ↦ omega (arith, clean_charge s.form.ends u.leg clean)
        | inr live ↦ charge_granted t s u h (sym there) (is_live s.shut live)
      ]

  pub paid_by_grant : IfSome (at t s.transactions) (λ x. (is_dirty x.leg && is_some s.shut) ≡ false) → IfSome (at t s.transactions) (λ x. cost s.form.ends (with_marks x.leg.changes s.items.cil) ≤ cost s.form.ends s.items.cil + x.unit * x.legs)
  paid_by_grant kept =
      if_some (at t s.transactions) (λ x. cost s.form.ends (with_marks x.leg.changes s.items.cil) ≤ cost s.form.ends s.items.cil + x.unit * x.legs) u there
      (omega (arith, paid_charge, charge_within (some_if (at t s.transactions) (λ x. (is_dirty x.leg && is_some s.shut) ≡ false) u there kept)))

  -- it has a leg left, its leg's changes rise, and its grant is there
  pub leg_left : is_none s.shut ≡ true → IfSome (at t s.transactions) (λ x. 1 ≤ x.legs)
  leg_left live = if_some (at t s.transactions) (λ x. 1 ≤ x.legs) u there (each_at (λ e. 1 ≤ e.1.legs) t u s.transactions (sym there) (h.legs_left live))

  pub changes_rise : IsRising u.leg.changes
  changes_rise = let fair : IsFair s.form.ends s.owners (t, u) = each_at (IsFair s.form.ends s.owners) t u s.transactions (sym there) h.parts.fair in fair.rising

  pub grant_there : u.unit * u.legs ≤ granted s.transactions
  grant_there = is_covered s h t u (sym there)

  -- whether its last leg finds no room
  pub room_is : finds_no_room t u s ≡ is_no_room (grant_of u) (cost s.form.ends (with_marks u.leg.changes s.items.cil)) (ledger s.form.ends s.log_bytes s.transactions s.items)
  room_is = no_room_is s h t u (sym there)

  pub room_there : IfSome (at t s.transactions) (λ x. finds_no_room t x s ≡ false)
      → IfSome (at t s.transactions) (λ x. is_no_room (grant_of x) (cost s.form.ends (with_marks x.leg.changes s.items.cil)) (ledger s.form.ends s.log_bytes s.transactions s.items) ≡ false)
  room_there room =
      if_some (at t s.transactions) (λ x. is_no_room (grant_of x) (cost s.form.ends (with_marks x.leg.changes s.items.cil)) (ledger s.form.ends s.log_bytes s.transactions s.items) ≡ false) u there
      (sym room_is ∙ some_if (at t s.transactions) (λ x. finds_no_room t x s ≡ false) u there room)

  -- ---- a roll
  -- what it may come to
  abbrev up : Outcome
  up = gives (io_of (held_of u.leg.holds)) (settled [] (with_legs t 0 u (aborted t u.leg s)))

  abbrev wait : Outcome
  wait = gives (Refused Again) (asks_flush (asks_ckpt s))

  abbrev on : Outcome
  on = gives (committed_of (commit_number u.leg s) (held_of u.leg.holds)) (settled [] (with_legs t (legs_after u.legs) u (ended t u.leg s)))

  abbrev is_no_room_now : Bool
  is_no_room_now = finds_no_room t u s

  -- on a live mount, of a transaction that may roll
  on_live : (o : Outcome) → not u.perm ≡ false → is_some s.shut ≡ false → (if is_no_room_now then wait else on) ≡ o → o ≡ with_trans (at t s.transactions) s (roll [] t s)
  on_live o may live is =
      sym is ∙ sym (ap (λ b. if b then up else (if is_no_room_now then wait else on)) live) ∙ sym (ap (λ b. if b then gives (Refused Invalid) s else (if is_some s.shut then up else (if is_no_room_now then wait else on))) may)
      ∙ ap (λ x. with_trans x s (roll [] t s)) there

  -- it finds no room
  pub roll_waits : not u.perm ≡ false → is_some s.shut ≡ false → is_no_room_now ≡ true → (new : State) → new ≡ asks_flush (asks_ckpt s) → gives (Refused Again) new ≡ with_trans (at t s.transactions) s (roll [] t s)
  roll_waits may live full new is = ap (gives (Refused Again)) is ∙ on_live wait may live (ap (λ b. if b then wait else on) full)

  -- or goes on
  pub roll_goes_on : not u.perm ≡ false → is_some s.shut ≡ false → is_no_room_now ≡ false → (held : Option (List ℕ)) (number : ℕ) (mid new : State) → held ≡ held_of u.leg.holds → number ≡ commit_number u.leg s
      → IfSome (at t s.transactions) (λ x. mid ≡ with_legs t (legs_after x.legs) x (ended t x.leg s)) → new ≡ settled [] mid → gives (committed_of number held) new ≡ with_trans (at t s.transactions) s (roll [] t s)
  roll_goes_on may live room held number mid new named counted ends settles =
      ap (gives (committed_of number held)) (settles ∙ ap (settled []) (some_if (at t s.transactions) (λ x. mid ≡ with_legs t (legs_after x.legs) x (ended t x.leg s)) u there ends))
      ∙ ap (λ k. gives (committed_of k held) (settled [] (with_legs t (legs_after u.legs) u (ended t u.leg s)))) counted
      ∙ ap (λ h. gives (committed_of (commit_number u.leg s) h) (settled [] (with_legs t (legs_after u.legs) u (ended t u.leg s)))) named
      ∙ on_live on may live (ap (λ b. if b then wait else on) room)
