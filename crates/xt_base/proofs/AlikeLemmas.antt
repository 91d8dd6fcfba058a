-- A transaction is answered alike of a block where two states look alike to it.
use Rattle.std.proofs.Common.{◌≡◌, ◌∙◌, ◌+◌, ◌-◌, ◌∷◌, Bool, List, None, Option, Some, [], ap, false, inl, inr, length, refl, subst, sym, true, ℕ}
use Rattle.std.proofs.lemmas.Bool.{and_parts, cases_Bool, eqb-true, false≢true}
use Rattle.std.specs.Prelude.{if◌then◌else◌, is_some, nat_lt, not, unwrap_or, ◌&&◌, ◌==◌, ◌||◌}
use Rattle.xt_base.specs.Calls.{Outcome, alone_with, edited, first_of, gives, hold, inval, inval_refusals, invalidated, is_fresh, is_own, log, log_refusals, logged_leg, not_fresh, released, relse, seen, unhold, unless, unowned, view, with_leg, with_owner, with_trans, without_hold}
use Rattle.xt_base.specs.Chunks.{marks}
use Rattle.xt_base.specs.Form.{Form}
use Rattle.xt_base.specs.Laws.{LooksAlike, uses}
use Rattle.xt_base.specs.Legs.{change_of, is_stale, own_count}
use Rattle.xt_base.specs.Maps.{at, has, is_in, with_member}
use Rattle.xt_base.specs.Settle.{Dropped, settled}
use Rattle.xt_base.specs.Space.{charge}
use Rattle.xt_base.specs.State.{Leg, State, Transaction}
use Rattle.xt_base.specs.Text.{content_at, zeros}
use Rattle.xt_base.specs.declared.steps.Answer.{Answer}
use Rattle.xt_base.specs.declared.steps.Errno.{Errno}
use Rattle.xt_base.specs.declared.steps.Errno.TheVariants.{Invalid, NoSpace}
use Rattle.xt_base.specs.declared.steps.Owner.TheVariants.{Trans}
use Rattle.xt_base.specs.declared.steps.Reply.{Reply}
use Rattle.xt_base.specs.declared.steps.Reply.TheVariants.{Free, Kept, Okay, Refused}
use Rattle.xt_base.specs.declared.steps.Request.{Request}

-- ---- replies
-- the reply of one outcome or the other
pub reply_if : (c : Bool) (x y : Outcome) → (if c then x else y).reply ≡ (if c then x.reply else y.reply)
reply_if true x y = refl
reply_if false x y = refl

-- a refusal, or else this reply
abbrev pub reply_or : Option Errno → Reply → Reply
reply_or None r = r
reply_or (Some e) r = Refused e

-- the reply of what may be refused
pub reply_unless : (r : Option Errno) (s : State) (o : Outcome) → (unless r s o).reply ≡ reply_or r o.reply
reply_unless None s o = refl
reply_unless (Some e) s o = refl

trans_open : (o : Option Transaction) (s u : State) (f g : Transaction → Outcome) → ((trans : Transaction) → (f trans).reply ≡ (g trans).reply) → (with_trans o s f).reply ≡ (with_trans o u g).reply
trans_open None s u f g h = refl
trans_open (Some trans) s u f g h = h trans

-- ---- what a transaction sees
module _ (t b : ℕ) (s u : State) (like : LooksAlike t b s u) where
  own_alike : is_own s t b ≡ is_own u t b
  own_alike = ap is_some like.count

  -- what it sees of a block that it has
  pub seen_alike : (leg : Leg) → is_own s t b ≡ true → seen s.form.size b leg s.frames ≡ seen u.form.size b leg u.frames
  seen_alike leg own =
      ap (λ x. unwrap_or (change_of b leg).edit (if x || is_stale b leg then zeros s.form.size else content_at s.form.size b s.frames.committed)) (like.fresh own)
      ∙ ap (λ x. unwrap_or (change_of b leg).edit (if is_fresh u b || is_stale b leg then zeros s.form.size else x)) (like.content own)
      ∙ ap (λ (f : Form). unwrap_or (change_of b leg).edit (if is_fresh u b || is_stale b leg then zeros f.size else content_at u.form.size b u.frames.committed)) like.form

  trans_alike : (f g : Transaction → Outcome) → ((trans : Transaction) → (f trans).reply ≡ (g trans).reply) → (with_trans (at t s.transactions) s f).reply ≡ (with_trans (at t u.transactions) u g).reply
  trans_alike f g h = trans_open (at t s.transactions) s u f g h ∙ ap (λ o. (with_trans o u g).reply) like.trans

  view_alike : (trans : Transaction) → (view t b s trans).reply ≡ (view t b u trans).reply
  view_alike trans =
      let first : (view t b s trans).reply ≡ (if is_own s t b then Reply.Data (seen s.form.size b trans.leg s.frames) else Refused Invalid) = reply_if (is_own s t b) (gives (Reply.Data (seen s.form.size b trans.leg s.frames)) s) (gives (Refused Invalid) s) in
      let second : (view t b u trans).reply ≡ (if is_own u t b then Reply.Data (seen u.form.size b trans.leg u.frames) else Refused Invalid) = reply_if (is_own u t b) (gives (Reply.Data (seen u.form.size b trans.leg u.frames)) u) (gives (Refused Invalid) u) in
      let own_or : Bool → List ℕ → Reply = λ c bytes. if c then Reply.Data bytes else Refused Invalid in
      elim (cases_Bool (is_own s t b)) [
        | inl own ↦
            first ∙ ap (λ c. own_or c (seen s.form.size b trans.leg s.frames)) own ∙ ap Reply.Data (seen_alike trans.leg own) ∙ sym (ap (λ c. own_or c (seen u.form.size b trans.leg u.frames)) (sym own_alike ∙ own)) ∙ sym second
        | inr other ↦
            first ∙ ap (λ c. own_or c (seen s.form.size b trans.leg s.frames)) other ∙ sym (ap (λ c. own_or c (seen u.form.size b trans.leg u.frames)) (sym own_alike ∙ other)) ∙ sym second
      ]

  -- what refuses a log request
  log_refused : (first : ℕ) (bytes : List ℕ) (trans : Transaction) → first_of (log_refusals t b first bytes trans s) ≡ first_of (log_refusals t b first bytes trans u)
  log_refused first bytes trans =
      let empty : Form → Bool = λ (f : Form). (length bytes == 0) || nat_lt f.size (first + length bytes) in
      let part : Form → Bool = λ (f : Form). not ((first == 0) && (length bytes == f.size)) in
      let over : Form → Bool = λ (f : Form). nat_lt trans.unit (charge f.ends (edited b [] (marks first (length bytes)) trans.leg).changes) in
      let tests : Form → Bool → Bool → Option Errno = λ f own fresh. first_of ((not own, Invalid) ∷ (empty f, Invalid) ∷ ((fresh || is_stale b trans.leg) && part f, Invalid) ∷ (over f, NoSpace) ∷ []) in
      elim (cases_Bool (is_own s t b)) [
        | inl own ↦ ap (λ c. tests s.form c (is_fresh s b)) own_alike ∙ ap (tests s.form (is_own u t b)) (like.fresh own) ∙ ap (λ f. tests f (is_own u t b) (is_fresh u b)) like.form
        | inr other ↦ ap (λ c. tests s.form c (is_fresh s b)) other ∙ sym (ap (λ c. tests u.form c (is_fresh u b)) (sym own_alike ∙ other))
      ]

  log_alike : (first : ℕ) (bytes : List ℕ) (trans : Transaction) → (log t b first bytes s trans).reply ≡ (log t b first bytes u trans).reply
  log_alike first bytes trans =
      reply_unless (first_of (log_refusals t b first bytes trans s)) s (gives Okay (not_fresh b (with_leg t trans (logged_leg s.form.size b first bytes s.frames trans.leg) s)))
      ∙ ap (λ r. reply_or r Okay) (log_refused first bytes trans)
      ∙ sym (reply_unless (first_of (log_refusals t b first bytes trans u)) u (gives Okay (not_fresh b (with_leg t trans (logged_leg u.form.size b first bytes u.frames trans.leg) u))))

  hold_alike : (trans : Transaction) → (hold t b s trans).reply ≡ (hold t b u trans).reply
  hold_alike trans =
      reply_if (not (is_own s t b) || is_stale b trans.leg) (gives (Refused Invalid) s) (gives Okay (with_leg t trans (record trans.leg { holds = with_member b trans.leg.holds }) s))
      ∙ ap (λ c. if not c || is_stale b trans.leg then Refused Invalid else Okay) own_alike
      ∙ sym (reply_if (not (is_own u t b) || is_stale b trans.leg) (gives (Refused Invalid) u) (gives Okay (with_leg t trans (record trans.leg { holds = with_member b trans.leg.holds }) u)))

  unhold_alike : (trans : Transaction) → (unhold t b s trans).reply ≡ (unhold t b u trans).reply
  unhold_alike trans =
      reply_if (not (is_own s t b) || not (has trans.leg.holds b)) (gives (Refused Invalid) s) (gives Okay (with_leg t trans (without_hold b trans.leg) s))
      ∙ ap (λ c. if not c || not (has trans.leg.holds b) then Refused Invalid else Okay) own_alike
      ∙ sym (reply_if (not (is_own u t b) || not (has trans.leg.holds b)) (gives (Refused Invalid) u) (gives Okay (with_leg t trans (without_hold b trans.leg) u)))

  inval_alike : (trans : Transaction) → (inval t b s trans).reply ≡ (inval t b u trans).reply
  inval_alike trans =
      let over : Form → Bool = λ (f : Form). nat_lt trans.unit (charge f.ends (invalidated b trans.leg).changes) in
      reply_unless (first_of (inval_refusals t b trans s)) s (gives Okay (if is_stale b trans.leg then s else not_fresh b (with_leg t trans (invalidated b trans.leg) s)))
      ∙ ap (λ c. reply_or (first_of ((not c, Invalid) ∷ (over s.form, NoSpace) ∷ [])) Okay) own_alike
      ∙ ap (λ f. reply_or (first_of ((not (is_own u t b), Invalid) ∷ (over f, NoSpace) ∷ [])) Okay) like.form
      ∙ sym (reply_unless (first_of (inval_refusals t b trans u)) u (gives Okay (if is_stale b trans.leg then u else not_fresh b (with_leg t trans (invalidated b trans.leg) u))))

-- what a relse answers, by the recursion count
abbrev pub relse_reply : Bool → Option ℕ → Reply
relse_reply changed None = Refused Invalid
relse_reply changed (Some count) = if nat_lt 0 count then Kept else (if changed then Kept else Free)

-- a relse answers by the recursion count and by whether the block was changed
pub released_reply : (dropped : Dropped) (t b : ℕ) (trans : Transaction) (s : State) (own : Option ℕ) → (released dropped t b trans s own).reply ≡ relse_reply (is_in b trans.leg.changes) own
released_reply dropped t b trans s None = refl
released_reply dropped t b trans s (Some count) =
    let freed : Outcome = gives Free (settled dropped (unowned b (with_leg t trans (without_hold b trans.leg) s))) in
    reply_if (nat_lt 0 count) (gives Kept (with_owner b (Trans t (count - 1)) s)) (if is_in b trans.leg.changes then gives Kept s else freed)
    ∙ ap (λ r. if nat_lt 0 count then Kept else r) (reply_if (is_in b trans.leg.changes) (gives Kept s) freed)

-- ---- any request on a block that a transaction has
like_at : (t b v c : ℕ) (s u : State) → LooksAlike t b s u → ((v == t) && (c == b)) ≡ true → LooksAlike v c s u
like_at t b v c s u like named =
    let both = and_parts (v == t) (c == b) named in
    subst (λ (x : ℕ). LooksAlike x c s u) (sym (eqb-true v t both.0)) (subst (λ (y : ℕ). LooksAlike t y s u) (sym (eqb-true c b both.1)) like)

-- where two states look alike to a transaction at a block, they answer it alike
pub alike_at : (t b : ℕ) (s u : State) (request : Request) (given other : Answer) (dropped left : Dropped) → LooksAlike t b s u → uses t b request ≡ true
    → (alone_with dropped request given s).reply ≡ (alone_with left request other u).reply
alike_at t b s u (Request.View v c) given other dropped left like named =
    let here = like_at t b v c s u like named in trans_alike v c s u here (view v c s) (view v c u) (view_alike v c s u here)
alike_at t b s u (Request.Log first v c bytes) given other dropped left like named =
    let here = like_at t b v c s u like named in trans_alike v c s u here (log v c first bytes s) (log v c first bytes u) (log_alike v c s u here first bytes)
alike_at t b s u (Request.Hold v c) given other dropped left like named =
    let here = like_at t b v c s u like named in trans_alike v c s u here (hold v c s) (hold v c u) (hold_alike v c s u here)
alike_at t b s u (Request.Unhold v c) given other dropped left like named =
    let here = like_at t b v c s u like named in trans_alike v c s u here (unhold v c s) (unhold v c u) (unhold_alike v c s u here)
alike_at t b s u (Request.Relse v c) given other dropped left like named =
    let here = like_at t b v c s u like named in
    trans_alike v c s u here (relse dropped v c s) (relse left v c u)
    (λ trans.
    released_reply dropped v c trans s (own_count v (at c s.owners)) ∙ ap (relse_reply (is_in c trans.leg.changes)) here.count
    ∙ sym (released_reply left v c trans u (own_count v (at c u.owners))))
alike_at t b s u (Request.Inval v c) given other dropped left like named =
    let here = like_at t b v c s u like named in trans_alike v c s u here (inval v c s) (inval v c u) (inval_alike v c s u here)
alike_at t b s u request given other dropped left like named = absurd (false≢true named)
