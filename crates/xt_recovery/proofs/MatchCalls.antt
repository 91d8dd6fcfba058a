-- A read that asks its device, a commit, and what changes no part, keep a live mount matched with its disks.
use Rattle.std.proofs.Common.{◌≡◌, ◌≢◌, ◌∙◌, ◌∷◌, Bool, List, Some, [], ap, false, inl, inr, subst, sym, true, ℕ}
use Rattle.std.proofs.lemmas.Bool.{cases_eq, false_from_ne_true, false≢true, or_from, or_left, or_parts}
use Rattle.std.specs.Prelude.{is_some, unwrap_or, ◌||◌}
use Rattle.xt_base.proofs.KeyLemmas.{is_in_without, is_in_first, is_in_later}
use Rattle.xt_base.proofs.MapLemmas.{at_put_other, at_put_same, at_without_other}
use Rattle.xt_base.proofs.RisingLemmas.{each_at, each_both, each_map, each_without}
use Rattle.xt_base.specs.Calls.{busied, unowned, with_owner}
use Rattle.xt_base.specs.Maps.{at, has, is_in, put, without}
use Rattle.xt_base.specs.Sound.{Each}
use Rattle.xt_base.specs.Space.{flight_items, is_busy, is_listed}
use Rattle.xt_base.specs.State.{Jobs, State, Transaction}
use Rattle.xt_base.specs.Text.{chunk, zeros}
use Rattle.xt_base.specs.declared.steps.Owner.{Owner}
use Rattle.xt_base.specs.declared.steps.Owner.TheVariants.{Stale, Trans}
use Rattle.xt_recovery.proofs.MatchJobs.{busy_more, less_busy}
use Rattle.xt_recovery.proofs.MatchLemmas.{coming_other, idle_parts}
use Rattle.xt_recovery.proofs.Matching.{IsIdleLanded, MatchesDisks, next_image}
use Rattle.xt_recovery.proofs.Recoverable.{IsRecoverable}
use Rattle.xt_recovery.specs.Disks.{Disks, content_of}
use Rattle.xt_recovery.specs.Log.{HasChunk, chunks_of}

-- ---- what changes no part
-- other transactions, jobs, and a number
pub matches_beside : (d : Disks) (s : State) (ts : List (ℕ × Transaction)) (last : ℕ) (j : Jobs) (frozen : Bool) (fresh : List ℕ) → MatchesDisks d s → MatchesDisks d (record s { transactions = ts; last_trans = last; jobs = j; frozen = frozen; frames = record s.frames { fresh = fresh } })
matches_beside d s ts last j frozen fresh h = record {
  marked = h.marked;
  given_up = λ b c. let g = h.given_up b c in record { waits = g.waits; bare = g.bare };
  going = λ b c. let g = h.going b c in record { waits = g.waits; bare = g.bare; once = g.once };
  idle = h.idle;
}

-- ---- a commit on a live mount
-- ---- a read that asks its device
each_apart : {V : Type 0} (b : ℕ) (es : List (ℕ × V)) → is_in b es ≡ false → Each (λ e. e.0 ≢ b) es
each_apart b [] h = tt
each_apart b (e ∷ es) h = (
  λ same. false≢true (sym h ∙ is_in_first b e es (sym same)),
  each_apart b es (false_from_ne_true (is_in b es) (λ there. false≢true (sym h ∙ is_in_later b e es there))),
)

module _ (t b : ℕ) (content : List ℕ) (d : Disks) (s : State) (off : is_busy s b ≡ false) (apart : Each (λ e. e.0 ≢ b) (without b s.frames.idle))
    (agrees : (k : ℕ) → HasChunk d.form.size k → chunk content k ≡ d.landed b k) (h : MatchesDisks d s) where
  -- the mount after it
  abbrev pub read_state : State
  read_state = with_owner b (Trans t 0) (busied b content s)

  read_marked : (q k : ℕ) → HasChunk d.form.size k → is_in q read_state.frames.committed ≡ true → has (chunks_of q s.items.cil) k ≡ false → chunk (content_of read_state q) k ≡ next_image s.items.flight d q k
  read_marked q k small there plain =
      elim (cases_eq q b) [
        | inl same ↦
            subst (λ (x : ℕ). chunk (content_of read_state x) k ≡ next_image s.items.flight d x k) (sym same)
            (ap (λ o. chunk (unwrap_or o (zeros s.form.size)) k) (at_put_same b content s.frames.committed) ∙ agrees k small ∙ sym (coming_other s.items.flight d b k (idle_parts s b off).1))
        | inr other ↦
            ap (λ o. chunk (unwrap_or o (zeros s.form.size)) k) (at_put_other b q content s.frames.committed other)
            ∙ h.marked q k small (sym (ap is_some (at_put_other b q content s.frames.committed other)) ∙ there) plain
      ]

  apart_if : (q : ℕ) → is_busy s q ≡ true → q ≢ b
  apart_if q busy same = false≢true (sym off ∙ subst (λ (x : ℕ). is_busy s x ≡ true) same busy)

  read_rest : (e : ℕ × List ℕ) → IsIdleLanded d s e → e.0 ≢ b → IsIdleLanded d read_state e
  read_rest e rest other =
      let parts = or_parts (is_in e.0 s.owners) (is_listed s.items e.0) rest.0 in
      (or_from (is_in e.0 read_state.owners) (is_listed s.items e.0) (ap is_some (at_put_other b e.0 (Trans t 0) s.owners other) ∙ parts.0) parts.1, rest.1)

  -- a block that comes in with its landed content keeps a mount matched with its disks
  pub matches_busied : MatchesDisks d read_state
  matches_busied = record {
    marked = read_marked;
    given_up = λ q cancels.
        let g = h.given_up q cancels in
        let other = apart_if q (or_left (is_in q s.owners) (is_listed s.items q) (ap is_some g.waits)) in
        record { waits = at_put_other b q (Trans t 0) s.owners other ∙ g.waits; bare = ap is_some (at_put_other b q content s.frames.committed other) ∙ g.bare };
    going = λ q cancels.
        let g = h.going q cancels in
        let waits = g.waits in
        let other = apart_if q (or_left (is_in q s.owners) (is_listed s.items q) (ap is_some waits.1)) in
        record { waits = (waits.0, at_put_other b q (Trans t 0) s.owners other ∙ waits.1); bare = ap is_some (at_put_other b q content s.frames.committed other) ∙ g.bare; once = g.once };
    idle = each_map (λ e. IsIdleLanded d s e × (e.0 ≢ b)) (IsIdleLanded d read_state) (without b s.frames.idle) (λ e both. read_rest e both.0 both.1)
        (each_both (IsIdleLanded d s) (λ e. e.0 ≢ b) (without b s.frames.idle) (each_without (IsIdleLanded d s) b s.frames.idle h.idle) apart);
  }

-- a block that is not busy is at home as it landed
pub home_landed : (b k : ℕ) (d : Disks) (s : State) → is_busy s b ≡ false → IsRecoverable d s.items → HasChunk d.form.size k → d.home b k ≡ d.landed b k
home_landed b k d s off r small =
    elim (r.home b k small) [
      | inl same ↦ same
      | inr logged ↦
          let unlisted : is_listed s.items b ≡ false = (or_parts (is_in b s.owners) (is_listed s.items b) off).1 in
          absurd (false≢true (sym (or_parts (is_in b s.items.cil || is_in b (flight_items s.items.flight)) (is_in b s.items.ail) unlisted).1 ∙ ap is_some logged.1))
    ]

-- a read whose device told what is at home keeps a mount matched with its disks
pub matches_read : (t b : ℕ) (content : List ℕ) (d : Disks) (s : State) → is_busy s b ≡ false → is_in b s.frames.idle ≡ false → IsRecoverable d s.items → ((k : ℕ) → HasChunk d.form.size k → chunk content k ≡ d.home b k) → MatchesDisks d s
    → MatchesDisks d (with_owner b (Trans t 0) (busied b content s))
matches_read t b content d s off absent r honest h =
    matches_busied t b content d s off (each_without (λ e. e.0 ≢ b) b s.frames.idle (each_apart b s.frames.idle absent)) (λ k small. honest k small ∙ home_landed b k d s off r small) h

-- a get or a read of an idle block keeps a mount matched with its disks, where it is idle once
pub matches_idle : (t b : ℕ) (content : List ℕ) (d : Disks) (s : State) → at b s.frames.idle ≡ Some content → Each (λ e. e.0 ≢ b) (without b s.frames.idle) → MatchesDisks d s
    → MatchesDisks d (with_owner b (Trans t 0) (busied b content s))
matches_idle t b content d s there once h =
    let rest : IsIdleLanded d s (b, content) = each_at (IsIdleLanded d s) b content s.frames.idle there h.idle in
    matches_busied t b content d s rest.0 once rest.1 h

-- ---- other owners of a block that waits for no checkpoint
module _ (b : ℕ) (d : Disks) (s : State) (free : (n : ℕ) → at b s.owners ≡ Some (Stale n) → ⊥) (h : MatchesDisks d s) where
  other_block : (q n : ℕ) → at q s.owners ≡ Some (Stale n) → q ≢ b
  other_block q n waits same = free n (subst (λ (x : ℕ). at x s.owners ≡ Some (Stale n)) same waits)

  -- it has none
  pub matches_unowned : MatchesDisks d (unowned b s)
  matches_unowned = record {
    marked = h.marked;
    given_up = λ q cancels. let g = h.given_up q cancels in record { waits = at_without_other b q s.owners (other_block q s.items.open_number g.waits) ∙ g.waits; bare = g.bare };
    going = λ q cancels.
        let g = h.going q cancels in
        let waits = g.waits in
        record { waits = (waits.0, at_without_other b q s.owners (other_block q waits.0 waits.1) ∙ waits.1); bare = g.bare; once = g.once };
    idle = each_map (IsIdleLanded d s) (IsIdleLanded d (unowned b s)) s.frames.idle
        (λ e rest. (less_busy (is_busy s e.0) (is_busy (unowned b s) e.0) (busy_more (is_in e.0 (without b s.owners)) (is_in e.0 s.owners) (is_listed s.items e.0) (is_listed s.items e.0) (is_in_without e.0 b s.owners) (λ l. l)) rest.0, rest.1)) h.idle;
  }

  -- it has another, where it was not idle
  pub matches_owner : (o : Owner) → is_in b s.frames.idle ≡ false → MatchesDisks d (with_owner b o s)
  matches_owner o absent = record {
    marked = h.marked;
    given_up = λ q cancels. let g = h.given_up q cancels in record { waits = at_put_other b q o s.owners (other_block q s.items.open_number g.waits) ∙ g.waits; bare = g.bare };
    going = λ q cancels.
        let g = h.going q cancels in
        let waits = g.waits in
        record { waits = (waits.0, at_put_other b q o s.owners (other_block q waits.0 waits.1) ∙ waits.1); bare = g.bare; once = g.once };
    idle = each_map (λ e. IsIdleLanded d s e × (e.0 ≢ b)) (IsIdleLanded d (with_owner b o s)) s.frames.idle
        (λ e both.
        let rest = both.0 in
        let parts = or_parts (is_in e.0 s.owners) (is_listed s.items e.0) rest.0 in
        (or_from (is_in e.0 (put b o s.owners)) (is_listed s.items e.0) (ap is_some (at_put_other b e.0 o s.owners both.1) ∙ parts.0) parts.1, rest.1))
        (each_both (IsIdleLanded d s) (λ e. e.0 ≢ b) s.frames.idle h.idle (each_apart b s.frames.idle absent));
  }
