-- The log may lose the texts below the least number on the active list, and where that list is empty all of them.
use Rattle.std.proofs.Common.{◌≡◌, ◌∙◌, ◌≤◌, ◌∷◌, List, [], ap, arith, inl, inr, refl, subst, sym, ℕ, ◌+◌}
use Rattle.std.proofs.lemmas.Bool.{cases_Bool, false_from_ne_true, false≢true, leb-true, lt-leb}
use Rattle.std.specs.Prelude.{is_some, nat_le}
use Rattle.xt_base.proofs.MapLemmas.{some_none}
use Rattle.xt_base.specs.Maps.{at}
use Rattle.xt_base.proofs.RisingLemmas.{each_map}
use Rattle.xt_base.specs.Space.{flight_items}
use Rattle.xt_base.specs.State.{Items, State}
use Rattle.xt_recovery.proofs.MatchLemmas.{coming_home}
use Rattle.xt_recovery.proofs.LogLemmas.{from_all, from_first, from_less}
use Rattle.xt_recovery.proofs.Invariant.{KeepsInvariant}
use Rattle.xt_recovery.proofs.Matching.{IsIdleLanded, MatchesDisks}
use Rattle.xt_recovery.proofs.Recoverable.{IsRecoverable}
use Rattle.xt_recovery.specs.Crash.{LogMayGo}
use Rattle.xt_recovery.specs.DiskSteps.{Agree, IsTail}
use Rattle.xt_recovery.specs.Disks.{Disks}
use Rattle.xt_recovery.specs.Log.{CheckpointText, HasChunk, Image, is_cancel, logged_chunk, texts_from}
use Rattle.xt_base.specs.Form.{Form}

-- what a cut leaves from a number on is what the log had from it on
pub from_from : (n m : ℕ) (log : List CheckpointText) → n ≤ m → texts_from m (texts_from n log) ≡ texts_from m log
from_from n m [] le = refl
from_from n m (w ∷ ws) le =
    elim (cases_Bool (nat_le m w.number)) [
      | inl stands ↦
          let high : m ≤ w.number = leb-true m w.number stands in
          ap (texts_from m) (from_first n w ws (omega (arith, le, high))) ∙ from_first m w (texts_from n ws) high ∙ ap (λ xs. w ∷ xs) (from_from n m ws le) ∙ sym (from_first m w ws high)
      | inr less ↦
          elim (cases_Bool (nat_le n w.number)) [
            | inl kept ↦ ap (texts_from m) (from_first n w ws (leb-true n w.number kept)) ∙ from_less m w (texts_from n ws) less ∙ sym (from_less m w ws less)
            | inr gone ↦ ap (texts_from m) (from_less n w ws gone) ∙ sym (from_less m w ws less)
          ]
    ]

-- recovery stands on a log that was cut at its tail
pub recoverable_cut : (n : ℕ) (d : Disks) (l : Items) → IsTail n l → IsRecoverable d l → IsRecoverable (record d { log = texts_from n d.log }) l
recoverable_cut n d l tail r = record {
  told = λ b k v small h. r.told b k v small (from_all n d.log b k v h);
  home = λ b k small.
      elim (r.home b k small) [
        | inl same ↦ inl same
        | inr logged ↦ inr (logged.0, logged.1, ap (λ ws. is_some (logged_chunk ws b k)) (from_from n logged.0 d.log (tail b logged.0 logged.1)) ∙ logged.2)
      ];
  beside = r.beside;
  aged = r.aged;
  below = r.below;
}

-- a live mount hangs on its own contents and on what landed, and on the home image only where a block is cancelled
pub matches_same : (d e : Disks) (s : State) → e.form ≡ d.form → e.landed ≡ d.landed → e.snapshot ≡ d.snapshot → MatchesDisks d s → MatchesDisks e s
matches_same d e s form landed flying f = record {
  marked = λ b k small there absent.
      f.marked b k (chunk_in k small) there absent
      ∙ sym (coming_home s.items.flight d e b k landed flying (false_from_ne_true (is_cancel b (flight_items s.items.flight)) (λ cancels. let g = f.going b cancels in false≢true (sym g.bare ∙ there))));
  given_up = λ b cancels. let g = f.given_up b cancels in record { waits = g.waits; bare = g.bare };
  going = λ b cancels. let g = f.going b cancels in record { waits = g.waits; bare = g.bare; once = g.once };
  idle = each_map (IsIdleLanded d s) (IsIdleLanded e s) s.frames.idle (λ x rest. (rest.0, λ k small. rest.1 k (chunk_in k small) ∙ sym (ap (λ (i : Image). i x.0 k) landed))) f.idle;
}
  where
    chunk_in : (k : ℕ) → HasChunk e.form.size k → HasChunk d.form.size k
    chunk_in k small = subst (λ (x : Form). HasChunk x.size k) form small

-- and so does all that holds of a mount with its devices
pub keeps_cut : (n : ℕ) (d : Disks) (s : State) → IsTail n s.items → KeepsInvariant d s → KeepsInvariant (record d { log = texts_from n d.log }) s
keeps_cut n d s tail c = record {
  stands = recoverable_cut n d s.items tail c.stands;
  form = c.form;
  live = λ still. let l = c.live still in record { matches = matches_same d (record d { log = texts_from n d.log }) s refl refl refl l.matches; own = l.own };
}

-- where the active list is empty, the home image is what landed: no recovery is needed, and the log may go
pub home_is_landed : (d : Disks) (l : Items) → l.ail ≡ [] → IsRecoverable d l → Agree d.form.size d.home d.landed
home_is_landed d l bare r b k small =
    elim (r.home b k small) [
      | inl same ↦ same
      | inr logged ↦ some_none logged.0 (d.home b k ≡ d.landed b k) (sym logged.1 ∙ ap (at b) bare)
    ]

-- ---- a log of no use
-- a number that no text of a log has reached
past : List CheckpointText → ℕ
past [] = 0
past (w ∷ ws) = w.number + 1

none_past : (log : List CheckpointText) → texts_from (past log) log ≡ []
unfolding past
none_past [] = refl
none_past (w ∷ ws) = from_less (w.number + 1) w ws (lt-leb (w.number + 1) w.number (omega (arith)))

-- of an empty active list any number is a tail
any_tail : (n : ℕ) (l : Items) → l.ail ≡ [] → IsTail n l
any_tail n l empty b m there = some_none m (n ≤ m) (sym there ∙ ap (at b) empty)

-- where no block waits to be written home, all texts may go
pub log_may_go : LogMayGo
log_may_go m d may empty = inr (past d.log, may, any_tail (past d.log) m.items empty, ap (λ ws. record d { log = ws }) (sym (none_past d.log)))
