-- A value of a rising map, lent where it stands.
use Rattle.std.proofs.Common.{true, ◌≡◌, ◌∙◌, ℕ, ◌<◌, List, sym, ap, length, inl, inr, get_or, subst, arith}
use Rattle.std.proofs.Math.ListN.{set}
use Rattle.std.proofs.lemmas.Bool.{cases_eq, cases_lt, false≢true}
use Rattle.xt_base.proofs.PlaceLemmas.{absent_last, absent_there, put_found}
use Rattle.xt_base.proofs.RisingLemmas.{rises_put}
use Rattle.xt_base.specs.Maps.{is_in, put}
use Rattle.xt_base.specs.Places.{place}
use Rattle.xt_base.specs.Sound.{IsRising}

module _ {V : Type 0} (k : ℕ) (m : List (ℕ × V)) (p : ℕ) (rises : IsRising m) (is : p ≡ place k m) (there : is_in k m ≡ true) where
  -- a key that is there has its place among the entries
  pub key_within : p < length m
  key_within =
      elim (cases_lt p (length m)) [
        | inl lt ↦ lt
        | inr ge ↦ absurd (false≢true (sym (absent_last k m p rises is ge) ∙ there))
      ]

  -- and stands there
  pub key_here : (e : ℕ × V) → e ≡ get_or m p e → e.0 ≡ k
  key_here e here =
      elim (cases_eq e.0 k) [
        | inl same ↦ same
        | inr other ↦ absurd (false≢true (sym (absent_there k m p e rises is here other) ∙ there))
      ]

  -- with another value at its place, the map has that one at the key
  pub put_lent : (e : ℕ × V) → e ≡ get_or m p e → (w : V) → set {A = ℕ × V} m p (e.0, w) ≡ put k w m
  put_lent e here w = ap (λ n. set {A = ℕ × V} m p (n, w)) (key_here e here) ∙ put_found k w m p e is key_within here (key_here e here)

  -- and its keys rise
  pub rises_lent : (e : ℕ × V) → e ≡ get_or m p e → (w : V) → IsRising (set {A = ℕ × V} m p (e.0, w))
  rises_lent e here w = subst IsRising (sym (put_lent e here w)) (rises_put 0 k w m (omega arith) rises)
