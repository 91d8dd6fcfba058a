-- What the offers of a flush make of a home image, and what a flush writes.
use Rattle.std.proofs.Common.{◌≡◌, ◌∙◌, ◌⊎◌, ◌∷◌, ◌++◌, Bool, List, Some, [], ap, arith, false, inl, inr, refl, suc, sym, true, zero, ℕ}
use Rattle.std.proofs.lemmas.Bool.{and_parts, eq-eqb, eqb-true, false≢true, ne_eqb, not-true, or_cases, or_left, or_right}
use Rattle.std.specs.Prelude.{if◌then◌else◌, is_some, map, nat_le, not, take, ◌&&◌, ◌==◌, ◌||◌}
use Rattle.xt_base.proofs.KeyLemmas.{each_has}
use Rattle.xt_base.proofs.RisingLemmas.{each_both, each_filter, each_map, each_passes}
use Rattle.xt_base.specs.Jobs.{by_number, eligible, flush_offers, flush_plan, is_eligible, placed, sync_offer, write_answers, writes, written}
use Rattle.xt_base.specs.Maps.{at, has, is_in}
use Rattle.xt_base.specs.Sound.{AreWritten, Each, IsRising}
use Rattle.xt_base.specs.Space.{flight_items}
use Rattle.xt_base.specs.State.{State}
use Rattle.xt_base.specs.Text.{chunk, content_at}
use Rattle.xt_base.specs.declared.steps.HomeAnswers.{HomeAnswers}
use Rattle.xt_base.specs.declared.steps.HomeOffer.{HomeOffer}
use Rattle.xt_recovery.proofs.MatchLemmas.{coming_other, each_entry, each_take, no_chunks, no_item, present_of}
use Rattle.xt_recovery.proofs.Matching.{MatchesDisks}
use Rattle.xt_recovery.proofs.Recoverable.{IsFlushedHome}
use Rattle.xt_recovery.specs.Disks.{Disks, content_of}
use Rattle.xt_recovery.specs.Flush.{IsHomeAfter, MayHold, MustHold, is_synced}
use Rattle.xt_recovery.specs.Log.{HasChunk, Image}

-- ---- the offers
may_sync : (t ok : Bool) (b k : ℕ) (old new : List ℕ) → MayHold (if t then [] else HomeOffer.Sync ok ∷ []) b k old new → new ≡ old
may_sync true ok b k old new h = h
may_sync false ok b k old new h = h

may_writes : (size : ℕ) (contents : List (ℕ × List ℕ)) (plan : List ℕ) (oks : List Bool) (t sync : Bool) (b k : ℕ) (old new : List ℕ) → MayHold (writes size contents plan oks ++ (if t then [] else HomeOffer.Sync sync ∷ [])) b k old new
    → (new ≡ old) ⊎ ((has plan b ≡ true) × (new ≡ chunk (content_at size b contents) k))
may_writes size contents [] oks t sync b k old new h = inl (may_sync t sync b k old new h)
may_writes size contents (p ∷ ps) [] t sync b k old new h = inl (may_sync t sync b k old new h)
may_writes size contents (p ∷ ps) (ok ∷ oks) t sync b k old new h =
    elim h [
      | inl here ↦ inr (or_left (b == p) (has ps b) (eq-eqb b p here.0), here.1 ∙ ap (λ (x : ℕ). chunk (content_at size x contents) k) (sym here.0))
      | inr rest ↦
          elim (may_writes size contents ps oks t sync b k old new rest) [
            | inl same ↦ inl same
            | inr wrote ↦ inr (or_right (b == p) (has ps b) wrote.0, wrote.1)
          ]
    ]

must_writes : (size : ℕ) (contents : List (ℕ × List ℕ)) (plan : List ℕ) (oks : List Bool) (tail : List HomeOffer) (b k : ℕ) (new : List ℕ) → MustHold (writes size contents plan oks ++ tail) b k new → has (written plan oks) b ≡ true → new ≡ chunk (content_at size b contents) k
must_writes size contents [] oks tail b k new m h = absurd (false≢true h)
must_writes size contents (p ∷ ps) [] tail b k new m h = absurd (false≢true h)
must_writes size contents (p ∷ ps) (true ∷ oks) tail b k new m h =
    elim (or_cases (b == p) (has (written ps oks) b) h) [
      | inl here ↦ let same = eqb-true b p here in m.0 same refl ∙ ap (λ (x : ℕ). chunk (content_at size x contents) k) (sym same)
      | inr later ↦ must_writes size contents ps oks tail b k new m.1 later
    ]
must_writes size contents (p ∷ ps) (false ∷ oks) tail b k new m h = must_writes size contents ps oks tail b k new m.1 h

synced_writes : (size : ℕ) (contents : List (ℕ × List ℕ)) (plan : List ℕ) (oks : List Bool) (tail : List HomeOffer) → is_synced (writes size contents plan oks ++ tail) ≡ is_synced tail
synced_writes size contents [] oks tail = refl
synced_writes size contents (p ∷ ps) [] tail = refl
synced_writes size contents (p ∷ ps) (ok ∷ oks) tail = synced_writes size contents ps oks tail

gone_parts : (sync : Bool) (b : ℕ) (done : List ℕ) → has (if sync then done else []) b ≡ true → (sync ≡ true) × (has done b ≡ true)
gone_parts true b done h = (refl, h)
gone_parts false b done h = absurd (false≢true h)

none_written : (plan : List ℕ) (b : ℕ) → has (written plan []) b ≡ true → ⊥
none_written [] b h = false≢true h
none_written (p ∷ ps) b h = false≢true h

-- where something was written, there was a sync
synced_tail : (count : ℕ) (sync : Bool) (plan : List ℕ) (oks : List Bool) (b : ℕ) → sync ≡ true → has (written plan (take count oks)) b ≡ true → is_synced (if count == 0 then [] else HomeOffer.Sync sync ∷ []) ≡ true
synced_tail zero sync plan oks b ok h = absurd (none_written plan b h)
synced_tail (suc n) sync plan oks b ok h = ap (λ t. is_synced (if t then [] else HomeOffer.Sync sync ∷ [])) (ne_eqb (suc n) 0 (λ same. omega (arith, same))) ∙ or_left sync false ok

-- what the offers of a flush make of the home image, said over its plan
pub flushed_home : (answers : HomeAnswers) (s : State) (old new : Image) → IsHomeAfter (flush_offers answers s) old new → IsFlushedHome (flush_plan s) answers (content_of s) old new
flushed_home answers s old new h = record {
  either = λ b k. may_writes s.form.size s.frames.committed (flush_plan s) (write_answers answers) (answers.count == 0) answers.sync b k (old b k) (new b k) (h.either b k);
  stands = λ b k there.
      let parts = gone_parts answers.sync b (written (flush_plan s) (write_answers answers)) there in
      must_writes s.form.size s.frames.committed (flush_plan s) (write_answers answers) (sync_offer answers) b k (new b k)
      (h.stands (synced_writes s.form.size s.frames.committed (flush_plan s) (write_answers answers) (sync_offer answers) ∙ synced_tail answers.count answers.sync (flush_plan s) answers.writes b parts.0 parts.1) b k) parts.1;
}

-- ---- what is planned
-- active, and on neither other list
pub record IsDue (s : State) (b : ℕ) : Type 0 where
  pub active : is_in b s.items.ail ≡ true
  pub open_free : is_in b s.items.cil ≡ false
  pub flight_free : is_in b (flight_items s.items.flight) ≡ false

place_if : (P : ℕ × ℕ → Type 0) (t : Bool) (e x : ℕ × ℕ) (xs more : List (ℕ × ℕ)) → P e → P x → Each P xs → Each P more → Each P (if t then e ∷ x ∷ xs else x ∷ more)
place_if P true e x xs more he hx all rest = (he, (hx, all))
place_if P false e x xs more he hx all rest = (hx, rest)

each_placed : (P : ℕ × ℕ → Type 0) (e : ℕ × ℕ) (xs : List (ℕ × ℕ)) → P e → Each P xs → Each P (placed e xs)
each_placed P e [] h all = (h, tt)
each_placed P e (x ∷ xs) h all = place_if P (nat_le e.1 x.1) e x xs (placed e xs) h all.0 all.1 (each_placed P e xs h all.1)

each_by_number : (P : ℕ × ℕ → Type 0) (es : List (ℕ × ℕ)) → Each P es → Each P (by_number es)
each_by_number P [] all = tt
each_by_number P (e ∷ es) all = each_placed P e (by_number es) all.0 (each_by_number P es all.1)

each_keys : (P : ℕ → Type 0) (es : List (ℕ × ℕ)) → Each (λ e. P e.0) es → Each P (map (λ e. e.0) es)
each_keys P [] all = tt
each_keys P (e ∷ es) all = (all.0, each_keys P es all.1)

each_unless : (P : ℕ → Type 0) (t : Bool) (xs : List ℕ) → Each P xs → Each P (if t then [] else xs)
each_unless P true xs all = tt
each_unless P false xs all = all

-- what a flush writes is due
pub each_planned : (s : State) → IsRising s.items.ail → Each (IsDue s) (flush_plan s)
each_planned s rises =
    each_unless (IsDue s) (is_some s.shut) (map (λ e. e.0) (take 8 (by_number (eligible s))))
    (each_keys (IsDue s) (take 8 (by_number (eligible s)))
    (each_take (λ e. IsDue s e.0) 8 (by_number (eligible s))
    (each_by_number (λ e. IsDue s e.0) (eligible s)
    (each_map (λ e. (at e.0 s.items.ail ≡ Some e.1) × (is_eligible s e ≡ true)) (λ e. IsDue s e.0) (eligible s)
    (λ e both.
    let two = (and_parts (not (is_in e.0 s.items.cil) && not (is_in e.0 (flight_items s.items.flight))) (not (is_in e.0 s.owners)) both.1).0 in
    let parts = and_parts (not (is_in e.0 s.items.cil)) (not (is_in e.0 (flight_items s.items.flight))) two in
    record { active = ap is_some both.0; open_free = not-true (is_in e.0 s.items.cil) parts.0; flight_free = not-true (is_in e.0 (flight_items s.items.flight)) parts.1 })
    (each_both (λ e. at e.0 s.items.ail ≡ Some e.1) (λ e. is_eligible s e ≡ true) (eligible s)
    (each_filter (λ e. at e.0 s.items.ail ≡ Some e.1) (is_eligible s) s.items.ail (each_entry 0 s.items.ail rises)) (each_passes (is_eligible s) s.items.ail))))))

-- a flush writes landed contents
pub planned_agrees : (d : Disks) (s : State) → IsRising s.items.ail → AreWritten s.owners s.frames.committed s.items → MatchesDisks d s → (b k : ℕ) → HasChunk d.form.size k → has (flush_plan s) b ≡ true → chunk (content_of s b) k ≡ d.landed b k
planned_agrees d s rises written h b k small there =
    let due : IsDue s b = each_has (IsDue s) b (flush_plan s) there (each_planned s rises) in
    let active = due.active in
    let here = no_item b s.items.cil due.open_free in
    let flies = no_item b (flight_items s.items.flight) due.flight_free in
    h.marked b k small (present_of b s written (or_right (is_in b s.items.cil || is_in b (flight_items s.items.flight)) (is_in b s.items.ail) active) here flies) (no_chunks b k s.items.cil due.open_free)
    ∙ coming_other s.items.flight d b k due.flight_free
