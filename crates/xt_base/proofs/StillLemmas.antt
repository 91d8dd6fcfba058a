-- What leaves a transaction's record and one of its blocks as they were.
use Rattle.std.proofs.Common.{◌≡◌, ◌≢◌, ◌∙◌, ◌∷◌, Bool, List, None, Option, Some, [], ap, false, refl, sym, true, ℕ}
use Rattle.std.proofs.lemmas.Bool.{and_left, false_from_ne_true, ne_eqb}
use Rattle.std.specs.Prelude.{filter, if◌then◌else◌, is_some, not, unwrap_or, ◌==◌}
use Rattle.xt_base.proofs.KeyLemmas.{at_filter, at_filter_kept, at_filter_map, has_filter, has_with_member}
use Rattle.xt_base.proofs.LegLemmas.{keeps_owner_aborted, keeps_owner_after, other_trans}
use Rattle.xt_base.proofs.MapLemmas.{at_put_other, at_set_other, at_without_other}
use Rattle.xt_base.proofs.RisingLemmas.{each_in}
use Rattle.xt_base.proofs.SoundParts.{busy_owned}
use Rattle.xt_base.specs.Calls.{Outcome, busied, closed, made_fresh, not_fresh, shut_if, unless, unowned, with_leg, with_legs, with_owner, with_trans}
use Rattle.xt_base.specs.Form.{Form}
use Rattle.xt_base.specs.Jobs.{waits_on}
use Rattle.xt_base.specs.Laws.{LooksAlike}
use Rattle.xt_base.specs.Legs.{aborted, clean_leg, ended, is_lost, is_stale, own_count, owner_aborted, owner_after, with_edit, with_edits, with_lost}
use Rattle.xt_base.specs.Maps.{at, has, is_in, with_member}
use Rattle.xt_base.specs.Settle.{Dropped, settled}
use Rattle.xt_base.specs.Sound.{Each}
use Rattle.xt_base.specs.Space.{is_busy}
use Rattle.xt_base.specs.State.{Change, Leg, State, Transaction}
use Rattle.xt_base.specs.Text.{content_at, zeros}
use Rattle.xt_base.specs.declared.steps.Errno.{Errno}
use Rattle.xt_base.specs.declared.steps.Owner.{Owner}
use Rattle.xt_base.specs.declared.steps.Owner.TheVariants.{Held, Stale, Trans}
use Rattle.xt_base.specs.declared.steps.Reason.{Reason}

-- ---- a fact of what an outcome leaves
-- one outcome or the other
pub fact_either : (P : State → Type 0) (c : Bool) (x y : Outcome) → (c ≡ true → P x.state) → (c ≡ false → P y.state) → P (if c then x else y).state
fact_either P true x y hx hy = hx refl
fact_either P false x y hx hy = hy refl

-- one state or the other
pub fact_if : (P : State → Type 0) (c : Bool) (x y : State) → (c ≡ true → P x) → (c ≡ false → P y) → P (if c then x else y)
fact_if P true x y hx hy = hx refl
fact_if P false x y hx hy = hy refl

-- refused and unchanged, or else what is done
pub fact_unless : (P : State → Type 0) (r : Option Errno) (s : State) (o : Outcome) → P s → (None ≡ r → P o.state) → P (unless r s o).state
fact_unless P None s o h passes = passes refl
fact_unless P (Some e) s o h passes = h

-- what needs an open transaction
pub fact_with_trans : (P : State → Type 0) (o : Option Transaction) (s : State) (f : Transaction → Outcome) → P s → ((trans : Transaction) → o ≡ Some trans → P (f trans).state) → P (with_trans o s f).state
fact_with_trans P None s f h each = h
fact_with_trans P (Some trans) s f h each = each trans refl

-- ---- as it was
-- the form, a transaction's record, and of a block its owner, its fresh mark and its committed content, are as they were
pub record IsStill (t b : ℕ) (s n : State) : Type 0 where
  pub form : n.form ≡ s.form
  pub trans : at t n.transactions ≡ at t s.transactions
  pub owner : at b n.owners ≡ at b s.owners
  pub fresh : has n.frames.fresh b ≡ has s.frames.fresh b
  pub content : at b n.frames.committed ≡ at b s.frames.committed

-- nothing was done
pub still_same : (t b : ℕ) (s : State) → IsStill t b s s
still_same t b s = record { form = refl; trans = refl; owner = refl; fresh = refl; content = refl }

-- one step after another
pub still_then : (t b : ℕ) (s m n : State) → IsStill t b s m → IsStill t b m n → IsStill t b s n
still_then t b s m n one two = record { form = two.form ∙ one.form; trans = two.trans ∙ one.trans; owner = two.owner ∙ one.owner; fresh = two.fresh ∙ one.fresh; content = two.content ∙ one.content }

-- what is as it was looks alike
pub still_alike : (t b : ℕ) (s n : State) → IsStill t b s n → LooksAlike t b s n
still_alike t b s n still = record {
  form = sym still.form;
  trans = sym still.trans;
  count = sym (ap (own_count t) still.owner);
  fresh = λ own. sym still.fresh;
  content = λ own. ap (λ (f : Form). content_at f.size b s.frames.committed) (sym still.form) ∙ sym (ap (λ o. unwrap_or o (zeros n.form.size)) still.content);
}

-- ---- other blocks and other transactions
-- a block that no change is of is not among them
pub not_among : {V : Type 0} (b : ℕ) (es : List (ℕ × V)) → Each (λ e. e.0 ≢ b) es → is_in b es ≡ false
not_among b es apart = false_from_ne_true (is_in b es) (λ there. each_in (λ q. q ≢ b) b es there apart refl)

at_with_edit : (b c : ℕ) (edit : Option (List ℕ)) (m : List (ℕ × List ℕ)) → c ≢ b → at b (with_edit c edit m) ≡ at b m
at_with_edit b c None m other = at_without_other c b m (λ same. other (sym same))
at_with_edit b c (Some content) m other = at_put_other c b content m (λ same. other (sym same))

-- edits of other blocks leave a content
pub at_with_edits : (b : ℕ) (cs : List (ℕ × Change)) (m : List (ℕ × List ℕ)) → Each (λ c. c.0 ≢ b) cs → at b (with_edits cs m) ≡ at b m
at_with_edits b [] m apart = refl
at_with_edits b (c ∷ cs) m apart = at_with_edits b cs (with_edit c.0 c.1.edit m) apart.1 ∙ at_with_edit b c.0 c.1.edit m apart.0

has_if : (b c : ℕ) (held : Bool) (fresh : List ℕ) → c ≢ b → has (if held then with_member c fresh else fresh) b ≡ has fresh b
has_if b c true fresh other = has_with_member b c fresh (λ same. other (sym same))
has_if b c false fresh other = refl

-- other lost blocks leave a fresh mark
pub has_with_lost : (b : ℕ) (cs : List (ℕ × Change)) (leg : Leg) (fresh : List ℕ) → Each (λ c. c.0 ≢ b) cs → has (with_lost cs leg fresh) b ≡ has fresh b
has_with_lost b [] leg fresh apart = refl
has_with_lost b (c ∷ cs) leg fresh apart =
    has_with_lost b cs leg (if has leg.holds c.0 then with_member c.0 fresh else fresh) apart.1 ∙ has_if b c.0 (has leg.holds c.0) fresh apart.0

module _ (t b count : ℕ) (s : State) (own : at b s.owners ≡ Some (Trans t count)) where
  -- a settle of a state in which the block is as it was
  pub still_settled : (dropped : Dropped) (m : State) → IsStill t b s m → IsStill t b s (settled dropped m)
  still_settled dropped m still =
      let busy : is_busy m b ≡ true = busy_owned m.owners m.items b (ap is_some (still.owner ∙ own)) in
      record {
        form = still.form;
        trans = still.trans;
        owner = still.owner;
        fresh = has_filter b (is_busy m) m.frames.fresh busy ∙ still.fresh;
        content = at_filter_kept b (λ e. is_busy m e.0) m.frames.committed (λ v. busy) ∙ still.content;
      }

  -- another block has another owner
  pub still_owner : (c : ℕ) (o : Owner) → c ≢ b → IsStill t b s (with_owner c o s)
  still_owner c o other = record { form = refl; trans = refl; owner = at_put_other c b o s.owners (λ same. other (sym same)); fresh = refl; content = refl }

  -- another block has none
  pub still_unowned : (c : ℕ) → c ≢ b → IsStill t b s (unowned c s)
  still_unowned c other = record { form = refl; trans = refl; owner = at_without_other c b s.owners (λ same. other (sym same)); fresh = refl; content = refl }

  -- another transaction has another leg
  pub still_leg : (u : ℕ) (trans : Transaction) (leg : Leg) → u ≢ t → IsStill t b s (with_leg u trans leg s)
  still_leg u trans leg other = record { form = refl; trans = at_set_other u t (record trans { leg = leg }) s.transactions (λ same. other (sym same)); owner = refl; fresh = refl; content = refl }

  -- another block is fresh no more
  pub still_not_fresh : (c : ℕ) → c ≢ b → IsStill t b s (not_fresh c s)
  still_not_fresh c other = record { form = refl; trans = refl; owner = refl; fresh = has_filter b (λ k. not (k == c)) s.frames.fresh (ap not (ne_eqb b c (λ same. other (sym same)))); content = refl }

  -- another block comes with its content
  pub still_busied : (c : ℕ) (content : List ℕ) → c ≢ b → IsStill t b s (busied c content s)
  still_busied c content other = record { form = refl; trans = refl; owner = refl; fresh = refl; content = at_put_other c b content s.frames.committed (λ same. other (sym same)) }

  -- another block is fresh
  pub still_made_fresh : (c : ℕ) → c ≢ b → IsStill t b s (made_fresh c s)
  still_made_fresh c other = record { form = refl; trans = refl; owner = refl; fresh = has_with_member b c s.frames.fresh (λ same. other (sym same)); content = refl }

  -- another transaction is gone
  pub still_closed : (u : ℕ) → u ≢ t → IsStill t b s (closed u s)
  still_closed u other = record { form = refl; trans = at_without_other u t s.transactions (λ same. other (sym same)); owner = refl; fresh = refl; content = refl }

  -- another transaction has other legs
  pub still_legs : (u legs : ℕ) (trans : Transaction) → u ≢ t → IsStill t b s (with_legs u legs trans s)
  still_legs u legs trans other = record { form = refl; trans = at_set_other u t (record trans { legs = legs; leg = clean_leg }) s.transactions (λ same. other (sym same)); owner = refl; fresh = refl; content = refl }

  -- another leg, which did not change the block, is committed
  pub still_ended : (u : ℕ) (leg : Leg) → u ≢ t → Each (λ c. c.0 ≢ b) leg.changes → IsStill t b s (ended u leg s)
  still_ended u leg other apart = record {
    form = refl;
    trans = refl;
    owner =
        at_filter_map b (Trans t count) (owner_after u leg s.items.open_number) s.owners (keeps_owner_after u leg s.items.open_number) own
        (ap (λ x. if not x then Some (b, Trans t count) else (if is_stale b leg then Some (b, Stale s.items.open_number) else (if has leg.holds b then Some (b, Held) else None))) (other_trans u t count (λ same. other (sym same))))
        ∙ sym own;
    fresh = refl;
    content = at_with_edits b leg.changes s.frames.committed apart;
  }

  -- another leg, which did not change the block, is given up
  pub still_aborted : (u : ℕ) (leg : Leg) → u ≢ t → Each (λ c. c.0 ≢ b) leg.changes → IsStill t b s (aborted u leg s)
  still_aborted u leg other apart = record {
    form = refl;
    trans = refl;
    owner =
        at_filter_map b (Trans t count) (owner_aborted u leg) s.owners (keeps_owner_aborted u leg) own
        (ap (λ x. if not x then Some (b, Trans t count) else (if has leg.holds b then Some (b, Held) else None)) (other_trans u t count (λ same. other (sym same))))
        ∙ sym own;
    fresh = has_with_lost b leg.changes leg s.frames.fresh apart;
    content = at_filter_kept b (λ e. not (is_lost leg e.0)) s.frames.committed (λ v. ap not (and_left (is_in b leg.changes) (has leg.holds b) (not_among b leg.changes apart)));
  }

  -- a checkpoint lands
  pub still_landed : (number : ℕ) → IsStill t b s (record s { owners = filter (λ e. not (waits_on number e.1)) s.owners })
  still_landed number = record { form = refl; trans = refl; owner = at_filter b (Trans t count) (λ e. not (waits_on number e.1)) s.owners own refl ∙ sym own; fresh = refl; content = refl }

-- a mount is shut where this holds
pub still_shut_if : (t b : ℕ) (s n : State) (dirty : Bool) (reason : Reason) → IsStill t b s n → IsStill t b s (shut_if dirty reason n)
still_shut_if t b s n true reason still = record { form = still.form; trans = still.trans; owner = still.owner; fresh = still.fresh; content = still.content }
still_shut_if t b s n false reason still = still
