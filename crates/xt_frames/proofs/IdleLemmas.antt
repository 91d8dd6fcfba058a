-- The idle list by its names: one that is taken, one that is put, and the names at the start.
use Rattle.std.proofs.Common.{append_assoc, ◌≡◌, ◌≢◌, ◌∙◌, ◌+◌, ◌-◌, ◌<◌, ◌≤◌, ◌++◌, ◌∷◌, Bool, List, None, Option, Some, [], add-one, ap, arith, cond, false, inl, inr, length, refl, subst, suc, sym, take, true, zero, ℕ}
use Rattle.std.proofs.Math.Seq.{take-nil}
use Rattle.std.proofs.lemmas.Bool.{cases_Bool, cases_eq, eq-eqb, ne_eqb}
use Rattle.std.specs.List.{AllByRecursion, IsDistinct}
use Rattle.std.specs.Map.{keys_of, lookup, lookup_entry, remove_entry, set_value}
use Rattle.std.specs.Option.{option_map_or}
use Rattle.std.specs.Prelude.{Err, IfNone, Ok, OnOk, Result, if◌then◌else◌, is_err, is_some, nat_eq, option_map, slice_get}
use Rattle.lru.specs.LruCache.{LruCache, demoted, last_entry, lru_cache, put_entries}
use Rattle.xt_base.proofs.MapLemmas.{at_first, at_later, without_first, without_later}
use Rattle.xt_base.proofs.ViewLemmas.{without_none}
use Rattle.xt_base.specs.Maps.{at, without}
use Rattle.xt_base.specs.Sound.{Each}
use Rattle.xt_frames.specs.Idle.{Idle, IsFull, IsPacked, content_under, idle_of, name_of, named}

abbrev Names : Type 0
Names = List (ℕ × Idle)

-- no key is that of an earlier name
abbrev NotIn : ℕ → Names → Type 0
NotIn n es = AllByRecursion (λ y. nat_eq n y ≡ false) (keys_of es)

other_key : (m n : ℕ) → nat_eq m n ≡ false → m ≢ n
other_key m n h same = let t : nat_eq m n ≡ true = eq-eqb m n same in cc

-- ---- what stands under a name
-- the name of a block is one of the names
name_in : (m n b : ℕ) (es : Names) → name_of b es ≡ Some n → NotIn m es → nat_eq m n ≡ false
name_in m n b [] is apart = absurd (cc)
name_in m n b ((k, None) ∷ es) is apart = name_in m n b es is apart.1
name_in m n b ((k, Some p) ∷ es) is apart =
    elim (cases_eq p.0 b) [
      | inl same ↦ let here : k ≡ n = let e : Some k ≡ Some n = sym (ap (λ t. if t then Some k else name_of b es) (eq-eqb p.0 b same)) ∙ is in cc in subst (λ x. nat_eq m x ≡ false) here apart.0
      | inr other ↦ name_in m n b es (sym (ap (λ t. if t then Some k else name_of b es) (ne_eqb p.0 b other)) ∙ is) apart.1
    ]

-- what is under it, and what is left without it
pub record IsUnder (b n : ℕ) (es : Names) : Type 0 where
  pub content : List ℕ
  pub entry : lookup_entry (nat_eq n) es ≡ Some (n, Some (b, content))
  pub at : at b (idle_of es) ≡ Some content
  pub rest : idle_of (remove_entry (nat_eq n) es) ≡ without b (idle_of es)

-- behind a name that is another
under_later : (b n k : ℕ) (i : Idle) (es : Names) → nat_eq n k ≡ false → IsUnder b n es → (at b (idle_of ((k, i) ∷ es)) ≡ at b (idle_of es)) → ((xs : List (ℕ × List ℕ)) → idle_of (remove_entry (nat_eq n) es) ≡ without b xs → xs ≡ idle_of es → idle_of ((k, i) ∷ remove_entry (nat_eq n) es) ≡ without b (idle_of ((k, i) ∷ es))) → IsUnder b n ((k, i) ∷ es)
under_later b n k i es other under at rest = record {
  content = under.content;
  entry = ap (λ t. cond t (Some (k, i)) (lookup_entry (nat_eq n) es)) other ∙ under.entry;
  at = at ∙ under.at;
  rest = ap (λ t. idle_of (cond t es ((k, i) ∷ remove_entry (nat_eq n) es))) other ∙ rest (idle_of es) under.rest refl;
}

key_apart : (k n : ℕ) → nat_eq k n ≡ false → nat_eq n k ≡ false
key_apart k n h = ne_eqb n k (λ s. other_key k n h (sym s))

pub is_under : (b n : ℕ) (es : Names) → name_of b es ≡ Some n → IsDistinct nat_eq (keys_of es) → IsUnder b n es
unfolding IsDistinct
is_under b n [] is distinct = absurd (cc)
is_under b n ((k, None) ∷ es) is distinct =
    under_later b n k None es (key_apart k n (name_in k n b es is distinct.0)) (is_under b n es is distinct.1) refl (λ xs left same. left ∙ ap (without b) same)
is_under b n ((k, Some p) ∷ es) is distinct =
    elim (cases_eq p.0 b) [
      | inl same ↦
          let here : k ≡ n = let e : Some k ≡ Some n = sym (ap (λ t. if t then Some k else name_of b es) (eq-eqb p.0 b same)) ∙ is in cc in
          let this : nat_eq n k ≡ true = eq-eqb n k (sym here) in
          record {
            content = p.1;
            entry = ap (λ t. cond t (Some (k, Some p)) (lookup_entry (nat_eq n) es)) this ∙ ap (λ (x : ℕ). Some (x, Some p)) here ∙ ap (λ (x : ℕ). Some (n, Some (x, p.1))) same;
            at = at_first b p (idle_of es) (sym same);
            rest = ap (λ t. idle_of (cond t es ((k, Some p) ∷ remove_entry (nat_eq n) es))) this ∙ sym (without_first b p (idle_of es) (sym same));
          }
      | inr other ↦
          let later = sym (ap (λ t. if t then Some k else name_of b es) (ne_eqb p.0 b other)) ∙ is in
          under_later b n k (Some p) es (key_apart k n (name_in k n b es later distinct.0)) (is_under b n es later distinct.1) (at_later b p (idle_of es) (λ s. other (sym s)))
          (λ xs left same. ap (λ ys. p ∷ ys) (left ∙ ap (without b) same) ∙ sym (without_later b p (idle_of es) (λ s. other (sym s))))
    ]

-- a block without a name is not idle
pub not_under : (b : ℕ) (es : Names) → name_of b es ≡ None → at b (idle_of es) ≡ None
not_under b [] is = refl
not_under b ((k, None) ∷ es) is = not_under b es is
not_under b ((k, Some p) ∷ es) is =
    elim (cases_eq p.0 b) [
      | inl same ↦ absurd (let e : Some k ≡ None = sym (ap (λ t. if t then Some k else name_of b es) (eq-eqb p.0 b same)) ∙ is in cc)
      | inr other ↦ at_later b p (idle_of es) (λ s. other (sym s)) ∙ not_under b es (sym (ap (λ t. if t then Some k else name_of b es) (ne_eqb p.0 b other)) ∙ is)
    ]

found_under : (b n : ℕ) (es : Names) → name_of b es ≡ Some n → is_some (at b (idle_of es)) ≡ true
found_under b n [] is = absurd (cc)
found_under b n ((k, None) ∷ es) is = found_under b n es is
found_under b n ((k, Some p) ∷ es) is =
    elim (cases_eq p.0 b) [
      | inl same ↦ ap is_some (at_first b p (idle_of es) (sym same))
      | inr other ↦
          ap is_some (at_later b p (idle_of es) (λ s. other (sym s)))
          ∙ found_under b n es (sym (ap (λ t. if t then Some k else name_of b es) (ne_eqb p.0 b other)) ∙ is)
    ]

found_cases : (b : ℕ) (es : Names) (o : Option ℕ) → name_of b es ≡ o → is_some o ≡ is_some (at b (idle_of es))
found_cases b es None is = sym (ap is_some (not_under b es is))
found_cases b es (Some n) is = sym (found_under b n es is)

pub found_is : (b : ℕ) (es : Names) → is_some (name_of b es) ≡ is_some (at b (idle_of es))
found_is b es = found_cases b es (name_of b es) refl

-- a block that is not idle
pub rest_missing : (b : ℕ) (es : Names) → name_of b es ≡ None → idle_of es ≡ without b (idle_of es)
rest_missing b es is = sym (without_none b (idle_of es) (not_under b es is))

-- names without a block name none
unnamed : (b : ℕ) (es : Names) → Each (λ (e : ℕ × Idle). e.1 ≡ None) es → name_of b es ≡ None
unnamed b [] all = refl
unnamed b ((k, None) ∷ es) all = unnamed b es all.1
unnamed b ((k, Some p) ∷ es) all = absurd (let bad : Some p ≡ None = all.0 in cc)

-- an entry gives its value
value_of_entry : (t : ℕ → Bool) (es : Names) (e : ℕ × Idle) → lookup_entry t es ≡ Some e → lookup t es ≡ Some e.1
value_of_entry t [] e is = absurd (cc)
value_of_entry t (x ∷ es) e is =
    elim (cases_Bool (t x.0)) [
      | inl yes_here ↦ let same : x ≡ e = let s : Some x ≡ Some e = sym (ap (λ v. cond v (Some x) (lookup_entry t es)) yes_here) ∙ is in cc in ap (λ v. cond v (Some x.1) (lookup t es)) yes_here ∙ ap (λ (y : ℕ × Idle). Some y.1) same
      | inr no_here ↦ ap (λ v. cond v (Some x.1) (lookup t es)) no_here ∙ value_of_entry t es e (sym (ap (λ v. cond v (Some x) (lookup_entry t es)) no_here) ∙ is)
    ]

-- there are no more blocks than names
few_idle : (es : Names) → length (idle_of es) ≤ length es
few_idle [] = omega arith
few_idle ((k, None) ∷ es) = let le : length (idle_of es) ≤ length es = few_idle es in omega (arith, le)
few_idle ((k, Some p) ∷ es) = let le : length (idle_of es) ≤ length es = few_idle es in omega (arith, le)

pub few : (old : LruCache ℕ Idle) → IsFull old → length (idle_of old.entries) ≤ 64
few old full = let le : length (idle_of old.entries) ≤ length old.entries = few_idle old.entries in omega (arith, le, full.count)

-- ---- one goes
length_less : (t : ℕ → Bool) (es : Names) (e : ℕ × Idle) → lookup_entry t es ≡ Some e → length (remove_entry t es) + 1 ≡ length es
length_less t [] e is = absurd (cc)
length_less t (x ∷ es) e is =
    elim (cases_Bool (t x.0)) [
      | inl yes_here ↦ ap (λ v. length (cond v es (x ∷ remove_entry t es)) + 1) yes_here ∙ add-one (length es)
      | inr no_here ↦
          let fewer : length (remove_entry t es) + 1 ≡ length es = length_less t es e (sym (ap (λ v. cond v (Some x) (lookup_entry t es)) no_here) ∙ is) in
          let same : length (remove_entry t (x ∷ es)) ≡ suc (length (remove_entry t es)) = ap (λ v. length (cond v es (x ∷ remove_entry t es))) no_here in
          omega (arith, fewer, same)
    ]

each_less : (P : ℕ × Idle → Type 0) (t : ℕ → Bool) (es : Names) → Each P es → Each P (remove_entry t es)
each_less P t [] all = tt
each_less P t (x ∷ es) all =
    elim (cases_Bool (t x.0)) [
      | inl yes_here ↦ subst (λ v. Each P (cond v es (x ∷ remove_entry t es))) (sym yes_here) all.1
      | inr no_here ↦ subst (λ v. Each P (cond v es (x ∷ remove_entry t es))) (sym no_here) (all.0, each_less P t es all.1)
    ]

-- names without a block are packed
none_packed : (es : Names) → Each (λ (e : ℕ × Idle). e.1 ≡ None) es → IsPacked es
none_packed [] all = tt
none_packed ((k, None) ∷ es) all = all.1
none_packed ((k, Some p) ∷ es) all = none_packed es all.1

packed_less : (t : ℕ → Bool) (es : Names) → IsPacked es → IsPacked (remove_entry t es)
packed_less t [] packed = tt
packed_less t ((k, None) ∷ es) packed =
    elim (cases_Bool (t k)) [
      | inl yes_here ↦ subst (λ v. IsPacked (cond v es ((k, None) ∷ remove_entry t es))) (sym yes_here) (none_packed es packed)
      | inr no_here ↦ subst (λ v. IsPacked (cond v es ((k, None) ∷ remove_entry t es))) (sym no_here) (each_less (λ (e : ℕ × Idle). e.1 ≡ None) t es packed)
    ]
packed_less t ((k, Some p) ∷ es) packed =
    elim (cases_Bool (t k)) [
      | inl yes_here ↦ subst (λ v. IsPacked (cond v es ((k, Some p) ∷ remove_entry t es))) (sym yes_here) packed
      | inr no_here ↦ subst (λ v. IsPacked (cond v es ((k, Some p) ∷ remove_entry t es))) (sym no_here) (packed_less t es packed)
    ]

-- one without a block may stand last
each_last : (n : ℕ) (es : Names) → Each (λ (e : ℕ × Idle). e.1 ≡ None) es → Each (λ (e : ℕ × Idle). e.1 ≡ None) (es ++ (n, None) ∷ [])
each_last n [] all = (refl, tt)
each_last n (x ∷ es) all = (all.0, each_last n es all.1)

packed_last : (n : ℕ) (es : Names) → IsPacked es → IsPacked (es ++ (n, None) ∷ [])
packed_last n [] packed = tt
packed_last n ((k, None) ∷ es) packed = each_last n es packed
packed_last n ((k, Some p) ∷ es) packed = packed_last n es packed

idle_last : (n : ℕ) (es : Names) → idle_of (es ++ (n, None) ∷ []) ≡ idle_of es
idle_last n [] = refl
idle_last n ((k, None) ∷ es) = idle_last n es
idle_last n ((k, Some p) ∷ es) = ap (λ ys. p ∷ ys) (idle_last n es)

length_last : (n : ℕ) (es : Names) → length (es ++ (n, None) ∷ []) ≡ length es + 1
length_last n [] = refl
length_last n (x ∷ es) = let more : length (es ++ (n, None) ∷ []) ≡ length es + 1 = length_last n es in omega (arith, more)

-- without the name nothing tells what stood under it
set_rest : (t : ℕ → Bool) (v : Idle) (es : Names) → remove_entry t (set_value t es v) ≡ remove_entry t es
set_rest t v [] = refl
set_rest t v (e ∷ es) =
    elim (cases_Bool (t e.0)) [
      | inl here ↦
          ap (λ c. remove_entry t (cond c ((e.0, v) ∷ es) (e ∷ set_value t es v))) here ∙ ap (λ c. cond c es ((e.0, v) ∷ remove_entry t es)) here
          ∙ sym (ap (λ c. cond c es (e ∷ remove_entry t es)) here)
      | inr later ↦
          ap (λ c. remove_entry t (cond c ((e.0, v) ∷ es) (e ∷ set_value t es v))) later ∙ ap (λ c. cond c (set_value t es v) (e ∷ remove_entry t (set_value t es v))) later
          ∙ ap (λ (xs : Names). e ∷ xs) (set_rest t v es) ∙ sym (ap (λ c. cond c es (e ∷ remove_entry t es)) later)
    ]

-- and under the name stands what was set
set_entry : (t : ℕ → Bool) (n : ℕ) (w v : Idle) (es : Names) → lookup_entry t es ≡ Some (n, w) → lookup_entry t (set_value t es v) ≡ Some (n, v)
set_entry t n w v [] is = absurd (cc)
set_entry t n w v (e ∷ es) is =
    elim (cases_Bool (t e.0)) [
      | inl here ↦
          let found : Some e ≡ Some (n, w) = sym (ap (λ c. cond c (Some e) (lookup_entry t es)) here) ∙ is in
          let same : e ≡ (n, w) = cc in
          ap (λ c. lookup_entry t (cond c ((e.0, v) ∷ es) (e ∷ set_value t es v))) here ∙ ap (λ c. cond c (Some (e.0, v)) (lookup_entry t es)) here ∙ ap (λ (x : ℕ × Idle). Some (x.0, v)) same
      | inr later ↦
          ap (λ c. lookup_entry t (cond c ((e.0, v) ∷ es) (e ∷ set_value t es v))) later ∙ ap (λ c. cond c (Some e) (lookup_entry t (set_value t es v))) later
          ∙ set_entry t n w v es (sym (ap (λ c. cond c (Some e) (lookup_entry t es)) later) ∙ is)
    ]

abbrev Cache : Type 0
Cache = LruCache ℕ Idle

module _ (old : Cache) (b n : ℕ) (full : IsFull old) (distinct : IsDistinct nat_eq (keys_of old.entries)) (name : name_of b old.entries ≡ Some n) where
  under : IsUnder b n old.entries
  under = is_under b n old.entries name distinct

  pub under_there : is_some (lookup (nat_eq n) old.entries) ≡ true
  under_there = ap is_some (value_of_entry (nat_eq n) old.entries (n, Some (b, under.content)) under.entry)

  pub value_under : content_under (lookup (nat_eq n) old.entries) ≡ at b (idle_of old.entries)
  value_under = ap content_under (value_of_entry (nat_eq n) old.entries (n, Some (b, under.content)) under.entry) ∙ sym under.at

  pub some_under : (o : Option (List ℕ)) (P : Type 0) → o ≡ content_under (lookup (nat_eq n) old.entries) → IfNone o P
  some_under o P is = subst (λ x. IfNone x P) (sym (is ∙ value_under ∙ under.at)) tt

  -- the name has no block any more, and goes behind all others
  names_left : demoted (nat_eq n) (set_value (nat_eq n) old.entries None) ≡ remove_entry (nat_eq n) old.entries ++ (n, None) ∷ []
  names_left =
      let emptied : Names = set_value (nat_eq n) old.entries None in
      ap (λ o. option_map_or (λ (e : ℕ × Idle). remove_entry (nat_eq n) emptied ++ e ∷ []) o emptied) (set_entry (nat_eq n) n (Some (b, under.content)) None old.entries under.entry)
      ∙ ap (λ (xs : Names). xs ++ (n, None) ∷ []) (set_rest (nat_eq n) None old.entries)

  pub full_left : (new : Cache) → new ≡ lru_cache (demoted (nat_eq n) (set_value (nat_eq n) old.entries None)) old.cap → IsFull new
  full_left new is =
      let fewer = length_less (nat_eq n) old.entries (n, Some (b, under.content)) under.entry in
      subst IsFull (sym (is ∙ ap (λ es. lru_cache es old.cap) names_left)) (record {
        count = length_last n (remove_entry (nat_eq n) old.entries) ∙ fewer ∙ full.count;
        cap = full.cap;
        packed = packed_last n (remove_entry (nat_eq n) old.entries) (packed_less (nat_eq n) old.entries full.packed);
      })

  pub idle_left : (new : Cache) → new ≡ lru_cache (demoted (nat_eq n) (set_value (nat_eq n) old.entries None)) old.cap → idle_of new.entries ≡ without b (idle_of old.entries)
  idle_left new is = ap (λ (c : Cache). idle_of c.entries) is ∙ ap idle_of names_left ∙ idle_last n (remove_entry (nat_eq n) old.entries) ∙ under.rest

-- ---- one comes
-- the last of distinct names
pub record IsLast (i : ℕ) (es : Names) (e : ℕ × Idle) : Type 0 where
  pub entry : lookup_entry (nat_eq e.0) es ≡ Some e
  pub rest : remove_entry (nat_eq e.0) es ≡ take i es

placed_in : (m i : ℕ) (es : Names) (e : ℕ × Idle) → slice_get es i ≡ Some e → NotIn m es → nat_eq m e.0 ≡ false
placed_in m i [] e is apart = absurd (cc)
placed_in m zero (x ∷ es) e is apart = let same : x ≡ e = cc in subst (λ (y : ℕ × Idle). nat_eq m y.0 ≡ false) same apart.0
placed_in m (suc i) (x ∷ es) e is apart = placed_in m i es e is apart.1

no_more : (es : Names) → suc (length es) ≡ 1 → es ≡ []
no_more [] h = refl
no_more (x ∷ es) h = absurd (omega (arith, h))

is_last : (i : ℕ) (es : Names) (e : ℕ × Idle) → length es ≡ i + 1 → slice_get es i ≡ Some e → IsDistinct nat_eq (keys_of es) → IsLast i es e
unfolding IsDistinct
is_last i [] e count is distinct = absurd (cc)
is_last zero (x ∷ es) e count is distinct =
    let same : x ≡ e = cc in
    let this : nat_eq e.0 x.0 ≡ true = eq-eqb e.0 x.0 (ap (λ (y : ℕ × Idle). y.0) (sym same)) in
    record {
      entry = ap (λ v. cond v (Some x) (lookup_entry (nat_eq e.0) es)) this ∙ ap Some same;
      rest = ap (λ v. cond v es (x ∷ remove_entry (nat_eq e.0) es)) this ∙ no_more es (omega (arith, count));
    }
is_last (suc i) (x ∷ es) e count is distinct =
    let later = is_last i es e (omega (arith, count)) is distinct.1 in
    let other : nat_eq e.0 x.0 ≡ false = key_apart x.0 e.0 (placed_in x.0 i es e is distinct.0) in
    record {
      entry = ap (λ v. cond v (Some x) (lookup_entry (nat_eq e.0) es)) other ∙ later.entry;
      rest = ap (λ v. cond v es (x ∷ remove_entry (nat_eq e.0) es)) other ∙ ap (λ ys. x ∷ ys) later.rest;
    }

-- a beginning of packed names
none_idle : (es : Names) → Each (λ (e : ℕ × Idle). e.1 ≡ None) es → idle_of es ≡ []
none_idle [] all = refl
none_idle ((k, None) ∷ es) all = none_idle es all.1
none_idle ((k, Some p) ∷ es) all = absurd (let bad : Some p ≡ None = all.0 in cc)

each_take : (n : ℕ) (es : Names) → Each (λ (e : ℕ × Idle). e.1 ≡ None) es → Each (λ (e : ℕ × Idle). e.1 ≡ None) (take n es)
each_take zero es all = tt
each_take (suc n) [] all = tt
each_take (suc n) (x ∷ es) all = (all.0, each_take n es all.1)

packed_take : (n : ℕ) (es : Names) → IsPacked es → IsPacked (take n es)
packed_take zero es packed = tt
packed_take (suc n) [] packed = tt
packed_take (suc n) ((k, None) ∷ es) packed = each_take n es packed
packed_take (suc n) ((k, Some p) ∷ es) packed = packed_take n es packed

idle_take : (n : ℕ) (es : Names) → IsPacked es → idle_of (take n es) ≡ take n (idle_of es)
idle_take zero es packed = refl
idle_take (suc n) [] packed = refl
idle_take (suc n) ((k, None) ∷ es) packed = none_idle (take n es) (each_take n es packed) ∙ sym (ap (take (suc n)) (none_idle es packed))
idle_take (suc n) ((k, Some p) ∷ es) packed = ap (λ ys. p ∷ ys) (idle_take n es packed)

last_there : (i : ℕ) (es : Names) → i < length es → (e : ℕ × Idle) × (slice_get es i ≡ Some e)
last_there i [] lt = absurd (omega arith)
last_there zero (x ∷ es) lt = (x, refl)
last_there (suc i) (x ∷ es) lt = last_there i es (omega arith)

length_took : (n : ℕ) (es : Names) → n ≤ length es → length (take n es) ≡ n
length_took zero es le = refl
length_took (suc n) [] le = absurd (omega arith)
length_took (suc n) (x ∷ es) le = ap suc (length_took n es (omega arith))

-- the last entry of a full cache
pub last_is : (es : Names) → length es ≡ 64 → (e : ℕ × Idle) × (last_entry es ≡ Some e)
last_is es count =
    let found = last_there 63 es (omega (arith, count)) in
    let place : length es - 1 ≡ 63 = omega (arith, count) in
    (found.0, ap (slice_get es) place ∙ found.1)

module _ (old : Cache) (n b : ℕ) (content : List ℕ) (full : IsFull old) (distinct : IsDistinct nat_eq (keys_of old.entries)) (last : (e : ℕ × Idle) → last_entry old.entries ≡ Some e → n ≡ e.0) where
  final : (e : ℕ × Idle) × (last_entry old.entries ≡ Some e)
  final = last_is old.entries full.count

  ending : IsLast 63 old.entries final.0
  ending =
      let place : length old.entries - 1 ≡ 63 = omega (arith, full.count) in
      is_last 63 old.entries final.0 full.count (sym (ap (slice_get old.entries) place) ∙ final.1) distinct

  same_name : n ≡ final.0.0
  same_name = last final.0 final.1

  entry_there : lookup_entry (nat_eq n) old.entries ≡ Some final.0
  entry_there = ap (λ x. lookup_entry (nat_eq x) old.entries) same_name ∙ ending.entry

  pub last_under : is_some (lookup (nat_eq n) old.entries) ≡ true
  last_under = ap is_some (value_of_entry (nat_eq n) old.entries final.0 entry_there)

  names_put : put_entries nat_eq old n (Some (b, content)) ≡ (n, Some (b, content)) ∷ take 63 old.entries
  names_put =
      ap (λ o. option_map_or (λ (e : ℕ × Idle). (e.0, Some (b, content)) ∷ remove_entry (nat_eq n) old.entries) o ((n, Some (b, content)) ∷ take (old.cap - 1) old.entries)) entry_there
      ∙ ap (λ x. (x, Some (b, content)) ∷ remove_entry (nat_eq n) old.entries) (sym same_name)
      ∙ ap (λ xs. (n, Some (b, content)) ∷ xs) (ap (λ x. remove_entry (nat_eq x) old.entries) same_name ∙ ending.rest)

  pub full_put : (new : Cache) → new ≡ lru_cache (put_entries nat_eq old n (Some (b, content))) old.cap → IsFull new
  full_put new is =
      let count : length (take 63 old.entries) ≡ 63 = length_took 63 old.entries (omega (arith, full.count)) in
      subst IsFull (sym (is ∙ ap (λ es. lru_cache es old.cap) names_put)) (record {
        count = ap suc count;
        cap = full.cap;
        packed = packed_take 63 old.entries full.packed;
      })

  pub idle_put : (new : Cache) → new ≡ lru_cache (put_entries nat_eq old n (Some (b, content))) old.cap → idle_of new.entries ≡ take 64 ((b, content) ∷ idle_of old.entries)
  idle_put new is = ap (λ (c : Cache). idle_of c.entries) is ∙ ap idle_of names_put ∙ ap (λ xs. (b, content) ∷ xs) (idle_take 63 old.entries full.packed)

-- ---- the names at the start
named_absent : (n k : ℕ) → k ≤ n → lookup_entry (nat_eq n) (named k) ≡ None
unfolding named
named_absent n zero le = refl
named_absent n (suc k) le = ap (λ v. cond v (Some (k, None)) (lookup_entry (nat_eq n) (named k))) (ne_eqb n k (λ s. omega (arith, s, le))) ∙ named_absent n k (omega arith)

length_named : (n : ℕ) → length (named n) ≡ n
unfolding named
length_named zero = refl
length_named (suc n) = ap suc (length_named n)

none_named : (n : ℕ) → Each (λ (e : ℕ × Idle). e.1 ≡ None) (named n)
unfolding named
none_named zero = tt
none_named (suc n) = (refl, none_named n)

take_all_of : (n : ℕ) (es : Names) → length es ≤ n → take n es ≡ es
take_all_of n [] le = take-nil n
take_all_of zero (x ∷ es) le = absurd (omega arith)
take_all_of (suc n) (x ∷ es) le = ap (λ ys. x ∷ ys) (take_all_of n es (omega arith))

named_suc : (n : ℕ) → (n, None) ∷ named n ≡ named (n + 1)
unfolding named
named_suc n = sym (ap named (add-one n))

pub named_none : [] ≡ named 0
unfolding named
named_none = refl

-- what is said of an Ok
pub of_ok : {A E : Type 0} (r : Result A E) (P : Type 0) → false ≡ is_err r → OnOk r P → P
of_ok (Ok v) P is h = h
of_ok (Err e) P is h = absurd (cc)

pub named_more : (c new : Cache) (n : ℕ) → c ≡ lru_cache (named n) 64 → n < 64 → new ≡ lru_cache (put_entries nat_eq c n None) c.cap → new ≡ lru_cache (named (n + 1)) 64
named_more c new n is lt put =
    put ∙ ap (λ (d : Cache). lru_cache (put_entries nat_eq d n None) d.cap) is
    ∙ ap (λ es. lru_cache es 64)
    (ap (λ o. option_map_or (λ (e : ℕ × Idle). (e.0, None) ∷ remove_entry (nat_eq n) (named n)) o ((n, None) ∷ take 63 (named n))) (named_absent n n (omega arith))
    ∙ ap (λ es. (n, None) ∷ es) (take_all_of 63 (named n) (omega (arith, length_named n))) ∙ named_suc n)

pub named_empty : (c : Cache) (n : ℕ) → c ≡ lru_cache (named n) 64 → idle_of c.entries ≡ []
named_empty c n is = ap (λ (d : Cache). idle_of d.entries) is ∙ none_idle (named n) (none_named n)

pub named_full : (c : Cache) (n : ℕ) → c ≡ lru_cache (named n) 64 → n ≡ 64 → IsFull c
named_full c n is all = subst IsFull (sym is) (record { count = length_named n ∙ all; cap = refl; packed = none_packed (named n) (none_named n) })

-- ---- a search, name by name
module _ (b n : ℕ) (i : Idle) (es rest : Names) (steps : es ≡ (n, i) ∷ rest) where
  pub first_named : (p : ℕ × List ℕ) → i ≡ Some p → p.0 ≡ b → Some n ≡ name_of b es
  first_named p is same = sym (ap (name_of b) steps ∙ ap (λ x. name_of b ((n, x) ∷ rest)) is ∙ ap (λ t. if t then Some n else name_of b rest) (eq-eqb p.0 b same))

  pub later_named : (p : ℕ × List ℕ) → i ≡ Some p → p.0 ≢ b → name_of b rest ≡ name_of b es
  later_named p is other = sym (ap (name_of b) steps ∙ ap (λ x. name_of b ((n, x) ∷ rest)) is ∙ ap (λ t. if t then Some n else name_of b rest) (ne_eqb p.0 b other))

  pub later_packed : (p : ℕ × List ℕ) → i ≡ Some p → IsPacked es → IsPacked rest
  later_packed p is packed = subst (λ x. IsPacked ((n, x) ∷ rest)) is (subst IsPacked steps packed)

  pub none_later : i ≡ None → IsPacked es → None ≡ name_of b es
  none_later is packed =
      let empty : Each (λ (e : ℕ × Idle). e.1 ≡ None) rest = subst (λ x. IsPacked ((n, x) ∷ rest)) is (subst IsPacked steps packed) in
      sym (ap (name_of b) steps ∙ ap (λ x. name_of b ((n, x) ∷ rest)) is ∙ unnamed b rest empty)

-- ---- copies, name by name
module _ (n : ℕ) (i : Idle) (es rest all : Names) (copies new : List (ℕ × List ℕ)) (steps : es ≡ (n, i) ∷ rest) (so_far : copies ++ idle_of es ≡ idle_of all) where
  pub copied : (p : ℕ × List ℕ) (c : List ℕ) → i ≡ Some p → c ≡ p.1 → new ≡ copies ++ (p.0, c) ∷ [] → new ++ idle_of rest ≡ idle_of all
  copied p c is same more =
      ap (λ xs. xs ++ idle_of rest) (more ∙ ap (λ x. copies ++ (p.0, x) ∷ []) same) ∙ append_assoc copies (p ∷ []) (idle_of rest)
      ∙ ap (λ xs. copies ++ xs) (sym (ap idle_of steps ∙ ap (λ x. idle_of ((n, x) ∷ rest)) is)) ∙ so_far

  pub skipped : i ≡ None → copies ++ idle_of rest ≡ idle_of all
  skipped is = ap (λ xs. copies ++ xs) (sym (ap idle_of steps ∙ ap (λ x. idle_of ((n, x) ∷ rest)) is)) ∙ so_far

-- ---- the first one
-- the block under a name
abbrev pub block_under : Option (ℕ × Idle) → Option ℕ
block_under None = None
block_under (Some (n, None)) = None
block_under (Some (n, Some p)) = Some p.0

pub first_block : (es : Names) → IsPacked es → block_under (slice_get es 0) ≡ option_map (λ (e : ℕ × List ℕ). e.0) (slice_get (idle_of es) 0)
first_block [] packed = refl
first_block ((n, None) ∷ es) packed = sym (ap (λ (xs : List (ℕ × List ℕ)). option_map (λ (e : ℕ × List ℕ). e.0) (slice_get xs 0)) (none_idle es packed))
first_block ((n, Some p) ∷ es) packed = refl

pub fewer_first : (xs new : List (ℕ × List ℕ)) (b : ℕ) → Some b ≡ option_map (λ (e : ℕ × List ℕ). e.0) (slice_get xs 0) → new ≡ without b xs → length new < length xs
fewer_first [] new b is left = absurd (cc)
fewer_first (x ∷ xs) new b is left =
    let same : b ≡ x.0 = cc in
    let rest : length new ≡ length xs = ap (λ (ys : List (ℕ × List ℕ)). length ys) (left ∙ without_first b x xs same) in
    omega (arith, rest)

pub none_first : (xs : List (ℕ × List ℕ)) → None ≡ option_map (λ (e : ℕ × List ℕ). e.0) (slice_get xs 0) → xs ≡ []
none_first [] is = refl
none_first (x ∷ xs) is = absurd (cc)
