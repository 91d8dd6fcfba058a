-- What the contents and marks of a mount of a size give to its layers.
use Rattle.std.proofs.Common.{◌≡◌, ◌≤◌, IfSome, List, None, Option, Some, length, subst, sym, ℕ}
use Rattle.xt_base.proofs.RisingLemmas.{each_at, each_map}
use Rattle.xt_base.proofs.SizedLemmas.{joined_within, seen_sized}
use Rattle.xt_base.specs.Calls.{seen}
use Rattle.xt_base.specs.Legs.{joined_marks}
use Rattle.xt_base.specs.Maps.{at}
use Rattle.xt_base.specs.Sized.{AreSizedChanges, HasSize, HaveSize, IsSized, IsSizedChange, IsWithin}
use Rattle.xt_base.specs.Sound.{Each}
use Rattle.xt_base.specs.State.{Change, State, Transaction}
use Rattle.xt_journal.specs.Keeping.{HaveChunks}
use Rattle.xt_mount.proofs.EndLemmas.{if_some}

-- ---- contents
found_size : (size b : ℕ) (contents : List (ℕ × List ℕ)) (o : Option (List ℕ)) → o ≡ at b contents → HaveSize size contents → IfSome o (λ content. length content ≡ size)
found_size size b contents None is all = tt
found_size size b contents (Some content) is all = each_at (λ e. length e.1 ≡ size) b content contents (sym is) all

-- a committed content has the mount's size
pub committed_size : (s : State) (b : ℕ) (o : Option (List ℕ)) → IsSized s → o ≡ at b s.frames.committed → IfSome o (λ content. length content ≡ s.form.size)
committed_size s b o sized is = found_size s.form.size b s.frames.committed o is sized.committed

-- ---- legs
leg_changes : (s : State) (t : ℕ) (trans : Transaction) → IsSized s → Some trans ≡ at t s.transactions → AreSizedChanges s.form.size trans.leg.changes
leg_changes s t trans sized there = each_at (λ e. AreSizedChanges s.form.size e.1.leg.changes) t trans s.transactions (sym there) sized.changes

-- what lies in a block of the mount lies in what a leg sees of one
pub room_seen : (s : State) (t b end : ℕ) (trans : Transaction) → IsSized s → Some trans ≡ at t s.transactions → end ≤ s.form.size → IfSome (at t s.transactions) (λ x. end ≤ length (seen s.form.size b x.leg s.frames))
room_seen s t b end trans sized there room =
    if_some (at t s.transactions) (λ x. end ≤ length (seen s.form.size b x.leg s.frames)) trans there
    (subst (λ n. end ≤ n) (sym (seen_sized s.form.size b trans.leg s.frames (leg_changes s t trans sized there) sized.committed)) room)

edit_chunks : (size : ℕ) (set : List ℕ) (edit : Option (List ℕ)) → HasSize size edit → IsWithin size set → IfSome edit (λ content. IsWithin (length content) set)
edit_chunks size set None has all = tt
edit_chunks size set (Some content) has all = subst (λ n. IsWithin n set) (sym has) all

change_chunks : (size b : ℕ) (cil : List (ℕ × List ℕ)) (c : Change) → Each (λ e. IsWithin size e.1) cil → IsSizedChange size c → IfSome c.edit (λ content. IsWithin (length content) (joined_marks (at b cil) c))
change_chunks size b cil c all change = edit_chunks size (joined_marks (at b cil) c) c.edit change.edit (joined_within size b c cil change all)

-- each content that a leg wrote has the chunks of its item
pub chunks_there : (s : State) (t : ℕ) (trans : Transaction) → IsSized s → Some trans ≡ at t s.transactions → IfSome (at t s.transactions) (λ x. HaveChunks s.items.cil x.leg.changes)
chunks_there s t trans sized there =
    let size : ℕ = s.form.size in
    if_some (at t s.transactions) (λ x. HaveChunks s.items.cil x.leg.changes) trans there
    (each_map (λ (c : ℕ × Change). IsSizedChange size c.1) (λ (c : ℕ × Change). IfSome c.1.edit (λ content. IsWithin (length content) (joined_marks (at c.0 s.items.cil) c.1))) trans.leg.changes
    (λ c change. change_chunks size c.0 s.items.cil c.1 sized.within change) (leg_changes s t trans sized there))
