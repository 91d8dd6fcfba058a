-- How long the maps of a sound mount get: at most 64 entries, also in the midst of a step.
use Rattle.std.proofs.Common.{◌≡◌, ◌<◌, ◌≤◌, ◌∷◌, Bool, List, None, Option, Some, [], arith, false, length, true, ℕ}
use Rattle.xt_base.proofs.BusyLemmas.{few_busy, few_busy_keys}
use Rattle.xt_base.proofs.KeyLemmas.{each_with_member, length_with_member, rises_keys_with}
use Rattle.xt_base.proofs.LegLemmas.{owned_there}
use Rattle.xt_base.proofs.RisingLemmas.{each_at, each_map, each_put, each_without, length_put_new, rises_put}
use Rattle.xt_base.proofs.SoundParts.{busy_owned}
use Rattle.xt_base.specs.Calls.{is_own}
use Rattle.std.specs.Prelude.{if◌then◌else◌}
use Rattle.xt_base.specs.Legs.{joined_marks, with_edit, with_edits, with_lost, with_marks}
use Rattle.xt_base.specs.Maps.{at, has, is_in, put, with_member}
use Rattle.xt_base.specs.Sound.{Each, IsFair, IsSound, Owns}
use Rattle.xt_base.specs.Space.{is_busy}
use Rattle.xt_base.specs.State.{Change, Leg, State, Transaction}

each_with_edit : (P : ℕ → Type 0) (b : ℕ) (edit : Option (List ℕ)) (m : List (ℕ × List ℕ)) → P b → Each (λ e. P e.0) m → Each (λ e. P e.0) (with_edit b edit m)
each_with_edit P b None m h all = each_without (λ e. P e.0) b m all
each_with_edit P b (Some content) m h all = each_put (λ e. P e.0) b content m h all

-- what holds of each changed block and of each block with a content holds of each after the edits
pub each_with_edits : (P : ℕ → Type 0) (cs : List (ℕ × Change)) (m : List (ℕ × List ℕ)) → Each (λ c. P c.0) cs → Each (λ e. P e.0) m → Each (λ e. P e.0) (with_edits cs m)
each_with_edits P [] m changed all = all
each_with_edits P (c ∷ cs) m changed all = each_with_edits P cs (with_edit c.0 c.1.edit m) changed.1 (each_with_edit P c.0 c.1.edit m changed.0 all)

-- the same of items after the marks
pub each_with_marks : (P : ℕ → Type 0) (cs : List (ℕ × Change)) (m : List (ℕ × List ℕ)) → Each (λ c. P c.0) cs → Each (λ e. P e.0) m → Each (λ e. P e.0) (with_marks cs m)
each_with_marks P [] m changed all = all
each_with_marks P (c ∷ cs) m changed all =
    each_with_marks P cs (put c.0 (joined_marks (at c.0 m) c.1) m) changed.1 (each_put (λ e. P e.0) c.0 (joined_marks (at c.0 m) c.1) m changed.0 all)

each_if : (P : ℕ → Type 0) (held : Bool) (b : ℕ) (fresh : List ℕ) → P b → Each P fresh → Each P (if held then with_member b fresh else fresh)
each_if P true b fresh h all = each_with_member P b fresh h all
each_if P false b fresh h all = all

-- what holds of each changed block and of each fresh one holds of each fresh one with the lost ones
pub each_with_lost : (P : ℕ → Type 0) (cs : List (ℕ × Change)) (leg : Leg) (fresh : List ℕ) → Each (λ c. P c.0) cs → Each P fresh → Each P (with_lost cs leg fresh)
each_with_lost P [] leg fresh changed all = all
each_with_lost P (c ∷ cs) leg fresh changed all =
    each_with_lost P cs leg (if has leg.holds c.0 then with_member c.0 fresh else fresh) changed.1 (each_if P (has leg.holds c.0) c.0 fresh changed.0 all)

module _ (s : State) (h : IsSound s) where
  -- contents of busy blocks
  pub few_contents : length s.frames.committed ≤ 64
  few_contents = few_busy s.form.ends s.log_bytes s.owners s.transactions s.items h.parts s.frames.committed h.kept.committed_rises h.kept.committed_busy

  -- fresh blocks
  pub few_fresh : length s.frames.fresh ≤ 64
  few_fresh = few_busy_keys s.form.ends s.log_bytes s.owners s.transactions s.items h.parts s.frames.fresh h.kept.fresh_rises h.kept.fresh_busy

  module _ (t : ℕ) (trans : Transaction) (is : at t s.transactions ≡ Some trans) where
    leg_fair : IsFair s.form.ends s.owners (t, trans)
    leg_fair = each_at (IsFair s.form.ends s.owners) t trans s.transactions is h.parts.fair

    changed_busy : Each (λ c. is_busy s c.0 ≡ true) trans.leg.changes
    changed_busy =
        each_map (λ c. Owns s.owners t c.0) (λ c. is_busy s c.0 ≡ true) trans.leg.changes (λ c own. busy_owned s.owners s.items c.0 (owned_there t c.0 s.owners own)) leg_fair.owned

    held_busy : Each (λ q. is_busy s q ≡ true) trans.leg.holds
    held_busy =
        each_map (λ q. Owns s.owners t q) (λ q. is_busy s q ≡ true) trans.leg.holds (λ q own. busy_owned s.owners s.items q (owned_there t q s.owners own)) leg_fair.holds_owned

    -- changes of a leg
    pub few_changes : length trans.leg.changes ≤ 64
    few_changes = few_busy s.form.ends s.log_bytes s.owners s.transactions s.items h.parts trans.leg.changes leg_fair.rising changed_busy

    -- changes of a leg, and one of a block that the transaction has and did not change
    pub fewer_changes : (b : ℕ) → is_own s t b ≡ true → is_in b trans.leg.changes ≡ false → length trans.leg.changes < 64
    fewer_changes b own unchanged =
        let c : Change = record { edit = None; marks = []; charged = [] } in
        let more =
        few_busy s.form.ends s.log_bytes s.owners s.transactions s.items h.parts (put b c trans.leg.changes) (rises_put 0 b c trans.leg.changes (omega arith) leg_fair.rising)
        (each_put (λ e. is_busy s e.0 ≡ true) b c trans.leg.changes (busy_owned s.owners s.items b (owned_there t b s.owners own)) changed_busy) in
        omega (arith, more, length_put_new b c trans.leg.changes unchanged)

    -- hold marks of a leg
    pub few_holds : length trans.leg.holds ≤ 64
    few_holds = few_busy_keys s.form.ends s.log_bytes s.owners s.transactions s.items h.parts trans.leg.holds leg_fair.holds_rise held_busy

    -- hold marks of a leg, and one of a block that the transaction has without the mark
    pub fewer_holds : (b : ℕ) → is_own s t b ≡ true → has trans.leg.holds b ≡ false → length trans.leg.holds < 64
    fewer_holds b own unheld =
        let more =
        few_busy_keys s.form.ends s.log_bytes s.owners s.transactions s.items h.parts (with_member b trans.leg.holds) (rises_keys_with 0 b trans.leg.holds (omega arith) leg_fair.holds_rise)
        (each_with_member (λ q. is_busy s q ≡ true) b trans.leg.holds (busy_owned s.owners s.items b (owned_there t b s.owners own)) held_busy) in
        omega (arith, more, length_with_member b trans.leg.holds unheld)
