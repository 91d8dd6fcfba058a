-- The log vectors of a journal, where its contents or its commit list change.
use Rattle.std.proofs.Common.{◌≡◌, ◌≢◌, ◌∙◌, ◌∷◌, Bool, List, None, Option, Some, [], ap, arith, false, filter, length, not, refl, subst, suc, sym, true, unwrap_or, ℕ}
use Rattle.std.proofs.lemmas.Bool.{false≢true, ne_eqb}
use Rattle.std.specs.Bool.{OnFalse, OnTrue}
use Rattle.std.specs.Prelude.{is_none, ◌&&◌, ◌==◌, ◌||◌}
use Rattle.xt_base.proofs.MapLemmas.{at_put_other, at_put_same, at_without_other}
use Rattle.xt_base.proofs.RisingLemmas.{each_map}
use Rattle.xt_base.specs.Legs.{is_dirty}
use Rattle.xt_base.specs.Maps.{at, has, is_in, put, without}
use Rattle.xt_base.specs.Sound.{Each, IsRising}
use Rattle.xt_base.specs.Space.{flight_items}
use Rattle.xt_base.specs.State.{Change, Frames, Leg}
use Rattle.xt_base.specs.Text.{content_at, zeros}
use Rattle.xt_base.specs.declared.steps.Owner.{Owner}
use Rattle.xt_base.specs.declared.steps.Reason.{Reason}
use Rattle.xt_frames.specs.Contents.{brought_in}
use Rattle.xt_items.specs.Lists.{Lists, marked}
use Rattle.xt_journal.specs.Journals.{AreVectors, is_busy_beside}
use Rattle.xt_journal.specs.Keeping.{is_saved}
use Rattle.xt_vectors.proofs.VectorLemmas.{each_there, vectors_kept, vectors_other, vectors_put}
use Rattle.xt_vectors.specs.Vectors.{Vector, no_vector, vector, vectors_of}

-- what holds of another value and of the old one holds of the new one, which is either
pub either_way : {X : Type 0} (P : X → Type 0) (b : Bool) (new old other : X) → OnTrue b (new ≡ other) → OnFalse b (new ≡ old) → P other → P old → P new
either_way P true new old other is kept there stays = subst P (sym is) there
either_way P false new old other is kept there stays = subst P (sym kept) stays

module _ (size : ℕ) (l : Lists) (f : Frames) (shut : Option Reason) (tied : AreVectors size l f shut) where
  -- ---- a block that is not listed comes
  pub tied_put : (b : ℕ) (content : List ℕ) (g : Frames) → (is_none shut ≡ true → is_in b l.cil ≡ false) → g.committed ≡ put b content f.committed → AreVectors size l g shut
  tied_put b content g out is =
      λ live. tied live ∙ sym (vectors_other size b f.committed (put b content f.committed) (λ k other. at_put_other b k content f.committed other) l.cil (out live))
      ∙ ap (λ contents. vectors_of size contents l.cil) (sym is)

  tied_by : (b : ℕ) (o : Option (List ℕ)) (g : Frames) → (is_none shut ≡ true → is_in b l.cil ≡ false) → g ≡ brought_in b o f → AreVectors size l g shut
  tied_by b None g out is = λ live. tied live ∙ ap (λ (x : Frames). vectors_of size x.committed l.cil) (sym is)
  tied_by b (Some content) g out is = tied_put b content g out (ap (λ (x : Frames). x.committed) is)

  pub tied_brought : (b : ℕ) (g : Frames) → (is_none shut ≡ true → is_in b l.cil ≡ false) → g ≡ brought_in b (at b f.idle) f → AreVectors size l g shut
  tied_brought b g out is = tied_by b (at b f.idle) g out is

  -- ---- nothing that is committed changes
  pub tied_same : (g : Frames) → g.committed ≡ f.committed → AreVectors size l g shut
  tied_same g is = λ live. tied live ∙ ap (λ contents. vectors_of size contents l.cil) (sym is)

  -- ---- contents go, and those of listed blocks stay
  pub tied_kept : (keep : ℕ → Bool) (g : Frames) → Each (λ e. keep e.0 ≡ true) l.cil → g.committed ≡ filter (λ e. keep e.0) f.committed → AreVectors size l g shut
  tied_kept keep g kept is = λ live. tied live ∙ sym (vectors_kept size keep f.committed l.cil kept) ∙ ap (λ contents. vectors_of size contents l.cil) (sym is)

  -- ---- a change is committed
  module _ (rises : IsRising l.cil) (b : ℕ) (n : Lists) (g : Frames) where
    -- other contents of one block, whose item has these chunks and this vector
    tied_listed : (set : List ℕ) (v : Vector) (contents : List (ℕ × List ℕ)) → ((k : ℕ) → k ≢ b → at k contents ≡ at k f.committed) → vector (content_at size b contents) set ≡ v
        → n ≡ record l { cil = put b set l.cil; vectors = put b v l.vectors } → g.committed ≡ contents → AreVectors size n g shut
    tied_listed set v contents same here lists is =
        λ live. ap (λ (x : Lists). x.vectors) lists ∙ ap (put b v) (tied live) ∙ sym (vectors_put size b f.committed contents same set v here 0 l.cil rises)
        ∙ ap (λ (x : Lists). vectors_of size contents x.cil) (sym lists) ∙ ap (λ x. vectors_of size x n.cil) (sym is)

    pub tied_marked : (set content : List ℕ) → n ≡ marked b set content l → g.committed ≡ put b content f.committed → AreVectors size n g shut
    tied_marked set content lists is =
        tied_listed set (vector content set) (put b content f.committed) (λ k other. at_put_other b k content f.committed other)
        (ap (λ (o : Option (List ℕ)). vector (unwrap_or o (zeros size)) set) (at_put_same b content f.committed)) lists is

    pub tied_cancelled : n ≡ record l { cil = put b [] l.cil; vectors = put b no_vector l.vectors } → g.committed ≡ without b f.committed → AreVectors size n g shut
    tied_cancelled lists is = tied_listed [] no_vector (without b f.committed) (λ k other. at_without_other b k f.committed other) refl lists is

-- ---- what stays
-- what holds of everything holds of each
each_of : {A : Type 0} (P : A → Type 0) (xs : List A) → ((x : A) → P x) → Each P xs
each_of P [] all = tt
each_of P (x ∷ xs) all = (all x, each_of P xs all)

-- a clean leg loses nothing
saved_by : (changes : List (ℕ × Change)) (holds : List ℕ) (b : ℕ) → not (length changes == 0) ≡ false → not (is_in b changes && has holds b) ≡ true
saved_by [] holds b clean = refl
saved_by (e ∷ es) holds b clean = absurd (false≢true (sym clean ∙ ap not (ne_eqb (suc (length es)) 0 (λ is. omega (arith, is)))))

-- a leg that is given up on a live mount is clean
clean_by : (dirty live : Bool) → (dirty && live) ≡ false → live ≡ true → dirty ≡ false
clean_by true true kept is = kept
clean_by true false kept is = absurd (false≢true is)
clean_by false live kept is = refl

pub clean_saves : (leg : Leg) (shut : Option Reason) → (is_dirty leg && is_none shut) ≡ false → is_none shut ≡ true → (es : List (ℕ × List ℕ)) → Each (λ e. is_saved leg e.0 ≡ true) es
clean_saves leg shut kept live es = each_of (λ e. is_saved leg e.0 ≡ true) es (λ e. saved_by leg.changes leg.holds e.0 (clean_by (is_dirty leg) (is_none shut) kept live))

-- a listed block is busy
listed_by : (a b c d : Bool) → b ≡ true → (a || (b || c || d)) ≡ true
listed_by true b c d is = refl
listed_by false true c d is = refl
listed_by false false c d is = absurd (false≢true is)

pub listed_busy : (owners : List (ℕ × Owner)) (l : Lists) → Each (λ e. is_busy_beside owners l e.0 ≡ true) l.cil
listed_busy owners l =
    each_map (λ e. is_in e.0 l.cil ≡ true) (λ e. is_busy_beside owners l e.0 ≡ true) l.cil
    (λ e there. listed_by (is_in e.0 owners) (is_in e.0 l.cil) (is_in e.0 (flight_items l.flight)) (is_in e.0 l.ail) there) (each_there l.cil)
