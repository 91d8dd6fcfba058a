-- What the jobs make of the two devices is recovered: a landing, a failure, a begin and a flush.
use Rattle.std.proofs.Common.{◌≡◌, ◌≢◌, ◌∙◌, ◌⊎◌, ◌≤◌, ◌∷◌, Bool, List, None, Option, Some, [], ap, arith, false, inl, inr, length, refl, subst, suc, sym, true, ℕ}
use Rattle.std.proofs.lemmas.Bool.{and_cases, cases_Bool, cases_eq, false≢true, or_right}
use Rattle.std.specs.Prelude.{filter, if◌then◌else◌, is_some, not, unwrap_or, ◌==◌, ◌||◌}
use Rattle.xt_base.proofs.KeyLemmas.{at_filter}
use Rattle.xt_base.proofs.MapLemmas.{at_first, at_later, at_put_other, at_put_same, at_without_other, some_none, some_same, without_first, without_later}
use Rattle.xt_base.proofs.RisingLemmas.{filter_drop, filter_pass, none_below, rises_put, rises_without}
use Rattle.xt_base.proofs.SoundParts.{activated_one}
use Rattle.xt_base.specs.Jobs.{activated, cleaned, flown, gone, landed_items, write_answers, written}
use Rattle.xt_base.specs.Maps.{at, has, is_in, put, without}
use Rattle.xt_base.specs.Sound.{IsRising, RisesFrom}
use Rattle.xt_base.specs.State.{Flight, Items, State}
use Rattle.xt_base.specs.Text.{chunk}
use Rattle.xt_base.specs.declared.steps.HomeAnswers.{HomeAnswers}
use Rattle.xt_recovery.proofs.LogLemmas.{first_if, found_cancel, found_first, found_later, from_first, second_if, some_of}
use Rattle.xt_recovery.proofs.Recoverable.{AgreesUnlogged, IsFlushedHome, IsInLog, IsRecoverable}
use Rattle.xt_recovery.specs.Disks.{Disks, content_of, disks_begun, disks_failed, disks_landed, flight_text}
use Rattle.xt_recovery.specs.Log.{CheckpointText, HasChunk, Image, chunks_of, is_cancel, logged_chunk, texts_from}

-- ---- what stands where a filter stays
module _ {V : Type 0} where
  -- what a filter leaves at a key stood there
  pub at_filter_back : (m k : ℕ) (v : V) (p : ℕ × V → Bool) (es : List (ℕ × V)) → RisesFrom m es → at k (filter p es) ≡ Some v → at k es ≡ Some v
  at_filter_back m k v p [] r h = h
  at_filter_back m k v p (e ∷ es) r h =
      elim (cases_Bool (p e)) [
        | inl passes ↦
            elim (cases_eq k e.0) [
              | inl same ↦ at_first k e es same ∙ sym (at_first k e (filter p es) same) ∙ sym (ap (at k) (filter_pass p e es passes)) ∙ h
              | inr other ↦ at_later k e es other ∙ at_filter_back (suc e.0) k v p es r.1 (sym (at_later k e (filter p es) other) ∙ sym (ap (at k) (filter_pass p e es passes)) ∙ h)
            ]
        | inr drops ↦
            let rest : at k (filter p es) ≡ Some v = sym (ap (at k) (filter_drop p e es drops)) ∙ h in
            let there : at k es ≡ Some v = at_filter_back (suc e.0) k v p es r.1 rest in
            elim (cases_eq k e.0) [
              | inl same ↦ some_none v (at k (e ∷ es) ≡ Some v) (sym there ∙ none_below k (suc e.0) es (omega (arith, same)) r.1)
              | inr other ↦ at_later k e es other ∙ there
            ]
      ]

  -- what stands at a key where another one goes stood there
  pub at_without_back : (m q b : ℕ) (v : V) (es : List (ℕ × V)) → RisesFrom m es → at q (without b es) ≡ Some v → at q es ≡ Some v
  at_without_back m q b v [] r h = h
  at_without_back m q b v (e ∷ es) r h =
      elim (cases_eq b e.0) [
        | inl gone_here ↦
            let there : at q es ≡ Some v = sym (ap (at q) (without_first b e es gone_here)) ∙ h in
            elim (cases_eq q e.0) [
              | inl same ↦ some_none v (at q (e ∷ es) ≡ Some v) (sym there ∙ none_below q (suc e.0) es (omega (arith, same)) r.1)
              | inr other ↦ at_later q e es other ∙ there
            ]
        | inr stays ↦
            let rest : at q (e ∷ without b es) ≡ Some v = sym (ap (at q) (without_later b e es stays)) ∙ h in
            elim (cases_eq q e.0) [
              | inl same ↦ at_first q e es same ∙ sym (at_first q e (without b es) same) ∙ rest
              | inr other ↦ at_later q e es other ∙ at_without_back (suc e.0) q b v es r.1 (sym (at_later q e (without b es) other) ∙ rest)
            ]
      ]

-- ---- what is there of a block
-- a chunk that a list of items has is of a block that it has
pub has_there : (o : Option (List ℕ)) (k : ℕ) → has (unwrap_or o []) k ≡ true → is_some o ≡ true
has_there None k h = absurd (cc)
has_there (Some set) k h = refl

-- an item that is no cancel has a chunk
pub no_cancel : (b : ℕ) (items : List (ℕ × List ℕ)) → is_in b items ≡ true → is_cancel b items ≡ false → (length (chunks_of b items) == 0) ≡ false
no_cancel b items there other =
    elim (and_cases (is_in b items) (length (chunks_of b items) == 0) other) [
      | inl absent ↦ absurd (false≢true (sym absent ∙ there))
      | inr some ↦ some
    ]

-- what is not there is none
pub none_of : (o : Option ℕ) → is_some o ≡ false → o ≡ None
none_of None h = refl
none_of (Some n) h = absurd (cc)

pub none_item : (o : Option (List ℕ)) → is_some o ≡ false → o ≡ None
none_item None h = refl
none_item (Some n) h = absurd (cc)

-- ---- the active list after a landing
step_other : (is_gone there : Bool) (q b number : ℕ) (ail : List (ℕ × ℕ)) → q ≢ b → at q (if is_gone then without b ail else (if there then ail else put b number ail)) ≡ at q ail
step_other true there q b number ail other = at_without_other b q ail other
step_other false true q b number ail other = refl
step_other false false q b number ail other = at_put_other b q number ail other

step_same : (is_gone there : Bool) (b number : ℕ) (ail : List (ℕ × ℕ)) → is_gone ≡ false → is_in b ail ≡ there
    → at b (if is_gone then without b ail else (if there then ail else put b number ail)) ≡ Some (unwrap_or (at b ail) number)
step_same true there b number ail off is = absurd (cc)
step_same false true b number ail off is =
    let old = some_of (at b ail) is in
    old.1 ∙ ap Some (ap (λ o. unwrap_or o number) (sym old.1))
step_same false false b number ail off is = at_put_same b number ail ∙ ap Some (ap (λ o. unwrap_or o number) (sym (none_of (at b ail) is)))

-- a block without an item keeps its number
pub at_activated_other : (b number : ℕ) (es : List (ℕ × List ℕ)) (ail : List (ℕ × ℕ)) → at b es ≡ None → at b (activated number es ail) ≡ at b ail
at_activated_other b number [] ail h = refl
at_activated_other b number (e ∷ es) ail h =
    elim (cases_eq b e.0) [
      | inl same ↦ some_none e.1 (at b (activated number (e ∷ es) ail) ≡ at b ail) (sym (at_first b e es same) ∙ h)
      | inr other ↦
          at_activated_other b number es (activated_one number e ail) (sym (at_later b e es other) ∙ h)
          ∙ step_other (length e.1 == 0) (is_in e.0 ail) b e.0 number ail other
    ]

-- a block with an item that is no cancel keeps its number, or gets this one
pub at_activated_item : (m b number : ℕ) (set : List ℕ) (es : List (ℕ × List ℕ)) (ail : List (ℕ × ℕ)) → RisesFrom m es → at b es ≡ Some set → (length set == 0) ≡ false
    → at b (activated number es ail) ≡ Some (unwrap_or (at b ail) number)
at_activated_item m b number set [] ail r h some = some_none set (at b (activated number [] ail) ≡ Some (unwrap_or (at b ail) number)) (sym h)
at_activated_item m b number set (e ∷ es) ail r h some =
    elim (cases_eq b e.0) [
      | inl same ↦
          let value : e.1 ≡ set = some_same e.1 set (sym (at_first b e es same) ∙ h) in
          let one : at e.0 (activated_one number e ail) ≡ Some (unwrap_or (at e.0 ail) number) =
          step_same (length e.1 == 0) (is_in e.0 ail) e.0 number ail (ap (λ (x : List ℕ). length x == 0) value ∙ some) refl in
          at_activated_other b number es (activated_one number e ail) (none_below b (suc e.0) es (omega (arith, same)) r.1)
          ∙ subst (λ (x : ℕ). at x (activated_one number e ail) ≡ Some (unwrap_or (at x ail) number)) (sym same) one
      | inr other ↦
          at_activated_item (suc e.0) b number set es (activated_one number e ail) r.1 (sym (at_later b e es other) ∙ h) some
          ∙ ap (λ o. Some (unwrap_or o number)) (step_other (length e.1 == 0) (is_in e.0 ail) b e.0 number ail other)
    ]

-- a number on the active list after a landing is this one, or stood there
step_number : (is_gone there : Bool) (q b number n : ℕ) (ail : List (ℕ × ℕ)) → IsRising ail → at q (if is_gone then without b ail else (if there then ail else put b number ail)) ≡ Some n → (n ≡ number) ⊎ (at q ail ≡ Some n)
step_number true there q b number n ail r h = inr (at_without_back 0 q b n ail r h)
step_number false true q b number n ail r h = inr h
step_number false false q b number n ail r h =
    elim (cases_eq q b) [
      | inl same ↦ inl (some_same n number (sym h ∙ subst (λ (x : ℕ). at x (put b number ail) ≡ Some number) (sym same) (at_put_same b number ail)))
      | inr other ↦ inr (sym (at_put_other b q number ail other) ∙ h)
    ]

step_rises : (is_gone there : Bool) (b number : ℕ) (ail : List (ℕ × ℕ)) → IsRising ail → IsRising (if is_gone then without b ail else (if there then ail else put b number ail))
step_rises true there b number ail r = rises_without 0 b ail r
step_rises false true b number ail r = r
step_rises false false b number ail r = rises_put 0 b number ail (omega arith) r

pub activated_number : (q number n : ℕ) (es : List (ℕ × List ℕ)) (ail : List (ℕ × ℕ)) → IsRising ail → at q (activated number es ail) ≡ Some n → (n ≡ number) ⊎ (at q ail ≡ Some n)
activated_number q number n [] ail r h = inr h
activated_number q number n (e ∷ es) ail r h =
    elim (activated_number q number n es (activated_one number e ail) (step_rises (length e.1 == 0) (is_in e.0 ail) e.0 number ail r) h) [
      | inl same ↦ inl same
      | inr old ↦ step_number (length e.1 == 0) (is_in e.0 ail) q e.0 number n ail r old
    ]

-- ---- a landing
module _ (ends : ℕ) (f : Flight) (d : Disks) (l : Items) (flies : l.flight ≡ Some f) (rises : IsRising f.items) (ail_rises : IsRising l.ail) (order : f.number ≤ l.open_number) (r : IsRecoverable d l) where
  -- the text
  abbrev pub text : CheckpointText
  text = flight_text f d

  -- the devices after it
  abbrev pub after : Disks
  after = disks_landed f d

  -- the image of a cancelled block is as at home
  pub landed_cancel : (b k : ℕ) → is_cancel b f.items ≡ true → after.landed b k ≡ d.home b k
  landed_cancel b k h = first_if (is_cancel b f.items) (d.home b k) (if is_in b f.items then chunk (d.snapshot b) k else d.landed b k) h

  -- that of another block of it is the content that flew
  pub landed_item : (b k : ℕ) → is_cancel b f.items ≡ false → is_in b f.items ≡ true → after.landed b k ≡ chunk (d.snapshot b) k
  landed_item b k h there =
      second_if (is_cancel b f.items) (d.home b k) (if is_in b f.items then chunk (d.snapshot b) k else d.landed b k) h
      ∙ first_if (is_in b f.items) (chunk (d.snapshot b) k) (d.landed b k) there

  -- any other stays
  pub landed_other : (b k : ℕ) → is_cancel b f.items ≡ false → is_in b f.items ≡ false → after.landed b k ≡ d.landed b k
  landed_other b k h absent =
      second_if (is_cancel b f.items) (d.home b k) (if is_in b f.items then chunk (d.snapshot b) k else d.landed b k) h
      ∙ second_if (is_in b f.items) (chunk (d.snapshot b) k) (d.landed b k) absent

  -- and so does a chunk that it does not log
  pub landed_beside : (b k : ℕ) → HasChunk d.form.size k → is_cancel b f.items ≡ false → has (chunks_of b f.items) k ≡ false → after.landed b k ≡ d.landed b k
  landed_beside b k small h absent =
      elim (cases_Bool (is_in b f.items)) [
        | inl there ↦ landed_item b k h there ∙ r.beside f flies b k small h there absent
        | inr off ↦ landed_other b k h off
      ]

  landed_told : (b k : ℕ) (v : List ℕ) → HasChunk d.form.size k → logged_chunk after.log b k ≡ Some v → v ≡ after.landed b k
  landed_told b k v small h =
      elim (cases_Bool (is_cancel b f.items)) [
        | inl cancels ↦ some_none v (v ≡ after.landed b k) (sym h ∙ found_cancel text d.log b k cancels)
        | inr other ↦
            elim (cases_Bool (has (chunks_of b f.items) k)) [
              | inl there ↦
                  some_same v (chunk (d.snapshot b) k) (sym h ∙ found_first text d.log b k other there)
                  ∙ sym (landed_item b k other (has_there (at b f.items) k there))
              | inr absent ↦ r.told b k v small (sym (found_later text d.log b k other absent) ∙ h) ∙ sym (landed_beside b k small other absent)
            ]
      ]

  -- the number of a block of it that is not cancelled
  item_number : (b : ℕ) → is_cancel b f.items ≡ false → is_in b f.items ≡ true → at b (landed_items ends f l).ail ≡ Some (unwrap_or (at b l.ail) f.number)
  item_number b other there =
      let item = some_of (at b f.items) there in
      let some : (length item.0 == 0) ≡ false = sym (ap (λ o. length (unwrap_or o []) == 0) item.1) ∙ no_cancel b f.items there other in
      at_activated_item 0 b f.number item.0 f.items l.ail rises item.1 some

  -- it is at most the flight's
  item_aged : (b : ℕ) (o : Option ℕ) → at b l.ail ≡ o → unwrap_or o f.number ≤ f.number
  item_aged b None h = omega arith
  item_aged b (Some n) h = r.aged f b n flies h

  landed_home : (b k : ℕ) → HasChunk d.form.size k → (after.home b k ≡ after.landed b k) ⊎ IsInLog after (landed_items ends f l) b k
  landed_home b k small =
      elim (cases_Bool (is_cancel b f.items)) [
        | inl cancels ↦ inl (sym (landed_cancel b k cancels))
        | inr other ↦
            elim (cases_Bool (has (chunks_of b f.items) k)) [
              | inl there ↦
                  let n : ℕ = unwrap_or (at b l.ail) f.number in
                  inr (n, item_number b other (has_there (at b f.items) k there), ap is_some (ap (λ xs. logged_chunk xs b k) (from_first n text d.log (item_aged b (at b l.ail) refl)) ∙ found_first text (texts_from n d.log) b k other there))
              | inr absent ↦
                  elim (r.home b k small) [
                    | inl same ↦ inl (same ∙ sym (landed_beside b k small other absent))
                    | inr logged ↦
                        inr (
                          logged.0,
                          elim (cases_Bool (is_in b f.items)) [
                            | inl there ↦ item_number b other there ∙ ap (λ o. Some (unwrap_or o f.number)) logged.1
                            | inr off ↦ at_activated_other b f.number f.items l.ail (none_item (at b f.items) off) ∙ logged.1
                          ],
                          ap is_some (ap (λ xs. logged_chunk xs b k) (from_first logged.0 text d.log (r.aged f b logged.0 flies logged.1)) ∙ found_later text (texts_from logged.0 d.log) b k other absent) ∙ logged.2,
                        )
                  ]
            ]
      ]

  landed_below : (b n : ℕ) → at b (landed_items ends f l).ail ≡ Some n → n ≤ l.open_number
  landed_below b n h =
      elim (activated_number b f.number n f.items l.ail ail_rises h) [
        | inl same ↦ omega (arith, same, order)
        | inr old ↦ r.below b n old
      ]

  -- a landing keeps what recovery stands on
  pub recoverable_landed : IsRecoverable after (landed_items ends f l)
  recoverable_landed = record {
    told = landed_told;
    home = landed_home;
    beside = λ g now. some_none g (AgreesUnlogged g after) (sym now);
    aged = λ g b n now there. some_none g (n ≤ g.number) (sym now);
    below = landed_below;
  }

-- ---- a flight that is given up
-- nothing more is in flight
pub recoverable_failed : (f : Flight) (d : Disks) (l : Items) → IsRecoverable d l → IsRecoverable (disks_failed f d) (record l { flight = None })
recoverable_failed f d l r = record {
  told = r.told;
  home = r.home;
  beside = λ g now. some_none g (AgreesUnlogged g (disks_failed f d)) (sym now);
  aged = λ g b n now there. some_none g (n ≤ g.number) (sym now);
  below = r.below;
}

-- ---- a begin
-- the committed list becomes the flight
pub recoverable_begun : (ps : List (List ℕ)) (s : State) (d : Disks) → IsRecoverable d s.items
    → ((b k : ℕ) → HasChunk d.form.size k → is_cancel b s.items.cil ≡ false → is_in b s.items.cil ≡ true → has (chunks_of b s.items.cil) k ≡ false → chunk (content_of s b) k ≡ d.landed b k)
    → IsRecoverable (disks_begun s d) (flown ps s).items
recoverable_begun ps s d r agrees =
    let g : Flight = record { number = s.items.open_number; items = s.items.cil; pieces = ps } in
    record {
      told = r.told;
      home = r.home;
      beside = λ f now. subst (λ (x : Flight). AgreesUnlogged x (disks_begun s d)) (some_same g f now) agrees;
      aged = λ f b n now there. subst (λ (x : Flight). n ≤ x.number) (some_same g f now) (r.below b n there);
      below = λ b n there. let h = r.below b n there in omega (arith, h);
    }

-- ---- a flush
either_more : (x y z : Bool) → (y ≡ true → z ≡ true) → (x || y) ≡ true → (x || z) ≡ true
either_more true y z h is = refl
either_more false y z h is = h is

-- what was written was planned
written_planned : (b : ℕ) (plan : List ℕ) (answers : List Bool) → has (written plan answers) b ≡ true → has plan b ≡ true
written_planned b [] answers h = h
written_planned b (p ∷ ps) [] h = absurd (cc)
written_planned b (p ∷ ps) (true ∷ oks) h = either_more (b == p) (has (written ps oks) b) (has ps b) (written_planned b ps oks) h
written_planned b (p ∷ ps) (false ∷ oks) h = or_right (b == p) (has ps b) (written_planned b ps oks h)

planned_if : (sync : Bool) (b : ℕ) (plan done : List ℕ) → (has done b ≡ true → has plan b ≡ true) → has (if sync then done else []) b ≡ true → has plan b ≡ true
planned_if true b plan done more h = more h
planned_if false b plan done more h = absurd (cc)

pub gone_planned : (b : ℕ) (plan : List ℕ) (answers : HomeAnswers) → has (gone plan answers) b ≡ true → has plan b ≡ true
gone_planned b plan answers h = planned_if answers.sync b plan (written plan (write_answers answers)) (written_planned b plan (write_answers answers)) h

module _ (plan : List ℕ) (answers : HomeAnswers) (contents : ℕ → List ℕ) (d : Disks) (home : Image) (l : Items) (ail_rises : IsRising l.ail) (went : IsFlushedHome plan answers contents d.home home)
    (agrees : (b k : ℕ) → HasChunk d.form.size k → has plan b ≡ true → chunk (contents b) k ≡ d.landed b k) (r : IsRecoverable d l) where
  -- the devices after a flush
  abbrev pub flushed_disks : Disks
  flushed_disks = record d { home = home }

  -- the lists after it
  abbrev pub flushed_items : Items
  flushed_items = cleaned (gone plan answers) l

  flushed_home : (b k : ℕ) → HasChunk d.form.size k → (home b k ≡ d.landed b k) ⊎ IsInLog flushed_disks flushed_items b k
  flushed_home b k small =
      elim (cases_Bool (has (gone plan answers) b)) [
        | inl stands ↦ inl (went.stands b k stands ∙ agrees b k small (gone_planned b plan answers stands))
        | inr stays ↦
            elim (went.either b k) [
              | inl same ↦
                  elim (r.home b k small) [
                    | inl was ↦ inl (same ∙ was)
                    | inr logged ↦ inr (logged.0, at_filter b logged.0 (λ e. not (has (gone plan answers) e.0)) l.ail logged.1 (ap not stays), logged.2)
                  ]
              | inr wrote ↦ inl (wrote.1 ∙ agrees b k small wrote.0)
            ]
      ]

  -- a flush keeps what recovery stands on, whatever the home device answered
  pub recoverable_flushed : IsRecoverable flushed_disks flushed_items
  recoverable_flushed = record {
    told = r.told;
    home = flushed_home;
    beside = r.beside;
    aged = λ f b n now there. r.aged f b n now (at_filter_back 0 b n (λ e. not (has (gone plan answers) e.0)) l.ail ail_rises there);
    below = λ b n there. r.below b n (at_filter_back 0 b n (λ e. not (has (gone plan answers) e.0)) l.ail ail_rises there);
  }
