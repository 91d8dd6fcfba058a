-- At every crash a sealed log gives what was committed, whatever stands behind the texts that were synced, or a text is forged.
use Rattle.std.proofs.Common.{append_assoc, ◌≡◌, ◌∙◌, ◌≤◌, ◌⊎◌, ◌∷◌, ◌++◌, List, None, Option, Some, [], ap, append-nil, arith, inl, inr, length, map, nat_eq, refl, subst, sym, ℕ}
use Rattle.std.proofs.lemmas.Bool.{cases_Bool}
use Rattle.std.proofs.lemmas.List.{length-map, take-append-drop, take_at}
use Rattle.std.specs.Cmp.Lexicographic.{other_text, pointwise, same_text as same_bytes}
use Rattle.std.specs.Prelude.{drop, reverse, take, unwrap_or, ◌≢◌}
use Rattle.xt_base.proofs.MapLemmas.{some_none}
use Rattle.xt_base.specs.Alone.{after}
use Rattle.xt_base.specs.Sound.{Each}
use Rattle.xt_base.specs.State.{Flight, Lone, empty}
use Rattle.xt_base.specs.Steps.{strike}
use Rattle.xt_ckpt.proofs.OneText.{same_text}
use Rattle.xt_ckpt.specs.Grammar.{Entry}
use Rattle.xt_recover.proofs.BytesTheorem.{kept_read, last_proper, last_then}
use Rattle.xt_recover.proofs.ReadLemmas.{is_text}
use Rattle.xt_recover.proofs.SealedReads.{IsReadOn, newest_first, nothing_sealed, read_more, read_on, reads_front, reads_once, reads_up_to, same_begin, texts_whole, up_to_reads}
use Rattle.xt_recover.proofs.TextEntries.{entries_of}
use Rattle.xt_recover.specs.Promise.{IsLastText, bytes_of_log}
use Rattle.xt_recover.specs.Reading.{AreTexts}
use Rattle.xt_recover.specs.SealedPromise.{AppendsForgeNothing, AtEveryCrash, AtEveryCrashOfEach, IsAppended, IsForged, IsReadBack, ReadsBackOrForged, ReadsLanded, RecoversUnlessForged, seal_behind, sealed_log}
use Rattle.xt_recover.specs.Sizes.{said_size}
use Rattle.xt_recovery.proofs.FailedLemmas.{SlotInvariant, stands_from}
use Rattle.xt_recovery.proofs.Formed.{IsWellFormed}
use Rattle.xt_recovery.proofs.HostLemmas.{slot_suits}
use Rattle.xt_recovery.proofs.LifeTheorem.{kept_at_crash}
use Rattle.xt_recovery.proofs.MatchLemmas.{each_reverse}
use Rattle.xt_recovery.proofs.SuitedSteps.{suited_steps}
use Rattle.xt_recovery.proofs.TurnLemmas.{turns_are_cuts}
use Rattle.xt_recovery.specs.Crash.{IsCommittedImage}
use Rattle.xt_recovery.specs.DiskSteps.{AreDiskSteps, IsLogAfterCrash}
use Rattle.xt_recovery.specs.Disks.{Disks, flight_of, flight_text, new_disks}
use Rattle.xt_recovery.specs.Log.{CheckpointText, Image, recovered_image, text_bytes}
use Rattle.xt_seal.specs.Seal.{BeginsSealed, ReadsSealed, seal_of, text_seal}

-- ---- the last text
same_or : (xs ys : List ℕ) → (xs ≡ ys) ⊎ (xs ≢ ys)
same_or xs ys = elim (cases_Bool (pointwise nat_eq xs ys)) [
  | inl same ↦ inl (same_bytes xs ys (sym same))
  | inr not_so ↦ inr (λ e. other_text xs ys (sym not_so) e)
]

-- bytes begin with others, or do not
begins_or : (front bytes : List ℕ) → ((more : List ℕ) × (bytes ≡ front ++ more)) ⊎ ((more : List ℕ) × (bytes ≡ front ++ more) → ⊥)
begins_or front bytes = elim (same_or front (take (length front) bytes)) [
  | inl same ↦ inl (drop (length front) bytes, sym (take-append-drop (length front) bytes) ∙ ap (λ xs. xs ++ drop (length front) bytes) (sym same))
  | inr other ↦ inr (λ e. other (sym (ap (take (length front)) e.1 ∙ take_at front e.0 (length front) refl)))
]

-- what can be told of each value holds of the value of an option, or of none
some_or : {A : Type 0} (o : Option A) (P : A → Type 0) → ((x : A) → P x ⊎ (P x → ⊥)) → ((x : A) × (o ≡ Some x) × P x) ⊎ ((x : A) → o ≡ Some x → P x → ⊥)
some_or None P told = inr (λ x is p. some_none x ⊥ (sym is))
some_or (Some y) P told = elim (told y) [
  | inl p ↦ inl (y, refl, p)
  | inr not_so ↦ inr (λ x is p. not_so (subst P (ap (λ o. unwrap_or o x) (sym is)) p))
]

-- of a last text, or of none
last_or : (s : Lone) (d : Disks) (P : CheckpointText → Type 0) → ((w : CheckpointText) → P w ⊎ (P w → ⊥)) → ((w : CheckpointText) × IsLastText s d w × P w) ⊎ ((w : CheckpointText) → IsLastText s d w → P w → ⊥)
last_or s d P told = elim (some_or (flight_of s.mounted) (λ f. P (flight_text f d)) (λ f. told (flight_text f d))) [
  | inl flies ↦ inl (flight_text flies.0 d, inl (flies.0, flies.1, refl), flies.2)
  | inr no_flight ↦ elim (some_or d.failed P told) [
    | inl left ↦ inl (left.0, inr left.1, left.2)
    | inr no_failed ↦ inr (λ w last p. none no_flight no_failed w last p)
  ]
]
  where
    none : ((f : Flight) → flight_of s.mounted ≡ Some f → P (flight_text f d) → ⊥) → ((w : CheckpointText) → d.failed ≡ Some w → P w → ⊥) → (w : CheckpointText) → IsLastText s d w → P w → ⊥
    none no_flight no_failed w (inl flies) p = no_flight flies.0 flies.1 (subst P flies.2 p)
    none no_flight no_failed w (inr left) p = no_failed w left p

own_or : (s : Lone) (d : Disks) (text : List ℕ) → ((w : CheckpointText) × IsLastText s d w × (text ≡ text_bytes d.form w)) ⊎ ((w : CheckpointText) → IsLastText s d w → text ≢ text_bytes d.form w)
own_or s d text = last_or s d (λ w. text ≡ text_bytes d.form w) (λ w. same_or text (text_bytes d.form w))

-- ---- what was read
-- it is a log that a crash may leave, of which this was read behind the last seal
pub record IsFound (s : Lone) (d : Disks) (size : Option ℕ) (texts rest : List (List Entry)) : Type 0 where
  pub log : List CheckpointText
  pub left : IsLogAfterCrash s.mounted d log
  pub proper : Each (IsWellFormed d.form) log
  pub read : texts ≡ map entries_of (reverse log)
  pub said : 1 ≤ length rest → size ≡ said_size d.form

pub found_or : (s : Lone) (d : Disks) (head before tail : List ℕ) (size : Option ℕ) (texts rest : List (List Entry)) → SlotInvariant d s → texts ≡ map entries_of (reverse d.log) ++ rest → ReadsSealed size head before tail rest
    → IsFound s d size texts rest ⊎ IsForged s d head before tail
found_or s d head before tail size texts [] h parts read =
    inl (record { log = d.log; left = inl refl; proper = h.proper.texts; read = parts ∙ append-nil (map entries_of (reverse d.log)); said = λ some. absurd (omega (arith, some)) })
found_or s d head before tail size texts (t ∷ []) h parts read = elim (own_or s d read.0) [
  | inl own ↦
      let w : CheckpointText = own.0 in
      let proper : IsWellFormed d.form w = last_proper s d w h own.1 in
      let same = same_text size (said_size d.form) read.0 (text_bytes d.form w) [] [] read.2 w.number t (entries_of w) read.3.is (is_text d.form w proper) (ap (λ xs. xs ++ []) own.2) in
      inl (record {
        log = w ∷ d.log;
        left = last_then s d w own.1;
        proper = (proper, h.proper.texts);
        read = parts ∙ ap (λ x. map entries_of (reverse d.log) ++ x ∷ []) same.3 ∙ sym (read_more w d.log);
        said = λ some. same.1;
      })
  | inr other ↦ inr (record { first = record { size = size; text = read.0; number = read.2; items = t; more = read.1; begins = read.3 }; forged = inl other })
]
found_or s d head before tail size texts (t ∷ u ∷ us) h parts read =
    let behind = read.4 in
    inr (record {
      first = record { size = size; text = read.0; number = read.2; items = t; more = read.1; begins = read.3 };
      forged = inr (record { size = size; text = behind.0; number = behind.2; items = u; more = behind.1; begins = behind.3 });
    })

-- what all texts say, those that landed and the rest
said_by_all : (size other : Option ℕ) (ws : List CheckpointText) (texts rest : List (List Entry)) → texts ≡ map entries_of ws ++ rest → (1 ≤ length ws → size ≡ other) → (1 ≤ length rest → size ≡ other) → 1 ≤ length texts → size ≡ other
said_by_all size other ws texts [] parts front behind some = front (omega (arith, some, ap length (parts ∙ append-nil (map entries_of ws)), length-map ws entries_of))
said_by_all size other ws texts (t ∷ ts) parts front behind some = behind (omega arith)

-- what stands after steps of a slot, with what is left at home
pub record IsCrashed (s : Lone) (d : Disks) (home : Image) : Type 0 where
  pub invariant : SlotInvariant d s
  pub kept : (log : List CheckpointText) → IsLogAfterCrash s.mounted d log → IsCommittedImage s d home (recovered_image log home)

pub read_back : (s : Lone) (d : Disks) (home : Image) (f g : Option ℕ) (texts rest : List (List Entry)) → IsCrashed s d home → IsFound s d f texts rest → (1 ≤ length texts → g ≡ said_size d.form) → IsReadBack s d home g texts
read_back s d home f g texts rest crashed found said = record {
  log = found.log;
  left = found.left;
  whole = subst (AreTexts (said_size d.form) (bytes_of_log d.form found.log)) (sym found.read) (texts_whole d.form found.log found.proper);
  said = said;
  kept = kept_read s d home found.log (reverse texts) found.proper (ap reverse found.read ∙ newest_first found.log) (crashed.kept found.log found.left);
}

-- what landed was read first
pub landed_first : (s : Lone) (d : Disks) (texts rest : List (List Entry)) → SlotInvariant d s → texts ≡ map entries_of (reverse d.log) ++ rest → ReadsLanded d texts
landed_first s d texts rest h parts = record { front = map entries_of (reverse d.log); behind = rest; parts = parts; landed = texts_whole d.form d.log h.proper.texts }

-- and then what stands behind a seal
pub read_back_or : (s : Lone) (d : Disks) (home : Image) (head before tail : List ℕ) (size : Option ℕ) (texts : List (List Entry)) → IsCrashed s d home → IsReadOn size d.form (reverse d.log) head before tail texts
    → ReadsLanded d texts × (IsReadBack s d home size texts ⊎ IsForged s d head before tail)
read_back_or s d home head before tail size texts crashed on = (
  landed_first s d texts on.rest crashed.invariant on.parts,
  elim (found_or s d head before tail size texts on.rest crashed.invariant on.parts on.read) [
    | inl found ↦ inl (read_back s d home size size texts on.rest crashed found (said_by_all size (said_size d.form) (reverse d.log) texts on.rest on.parts on.said found.said))
    | inr forged ↦ inr forged
  ],
)

-- the texts of a log, the oldest first, are of the grammar
pub proper_log : (s : Lone) (d : Disks) → SlotInvariant d s → Each (IsWellFormed d.form) (reverse d.log)
proper_log s d h = each_reverse (IsWellFormed d.form) d.log h.proper.texts

log_reads_back : (s : Lone) (d : Disks) (home : Image) → IsCrashed s d home → ReadsBackOrForged s d home
log_reads_back s d home crashed head tail size texts read =
    read_back_or s d home head (seal_behind d.form head d.log) tail size texts crashed (read_on size d.form head (seal_of head) (reverse d.log) tail texts (proper_log s d crashed.invariant) read)

-- ---- there is a way to read it
-- the last text stands behind a seal, with its own
abbrev StandsFirst : Disks → List ℕ → List ℕ → List ℕ → CheckpointText → Type 0
StandsFirst d head before tail w = (more : List ℕ) × (tail ≡ (text_bytes d.form w ++ text_seal head before (text_bytes d.form w)) ++ more)

-- that is read, or nothing
pub read_tail : (s : Lone) (d : Disks) (head before tail : List ℕ) → SlotInvariant d s → (IsForged s d head before tail → ⊥) → (rest : List (List Entry)) × ReadsSealed (said_size d.form) head before tail rest
read_tail s d head before tail h unforged =
    elim (last_or s d (StandsFirst d head before tail) (λ w. begins_or (text_bytes d.form w ++ text_seal head before (text_bytes d.form w)) tail)) [
      | inl found ↦
          let w : CheckpointText = found.0 in
          let text : List ℕ = text_bytes d.form w in
          let stands : StandsFirst d head before tail w = found.2 in
          let more : List ℕ = stands.0 in
          let begins : BeginsSealed head before (said_size d.form) tail text w.number (entries_of w) more =
          record { is = is_text d.form w (last_proper s d w h found.1); parts = stands.1 ∙ append_assoc text (text_seal head before text) more } in (
            entries_of w ∷ [],
            (
              text,
              more,
              w.number,
              begins,
              λ size other rest number items second. unforged (record {
                first = record { size = said_size d.form; text = text; number = w.number; items = entries_of w; more = more; begins = begins };
                forged = inr (record { size = size; text = other; number = number; items = items; more = rest; begins = second });
              }),
            ),
          )
      | inr none ↦ (
        [],
        λ size text more number items begins. elim (own_or s d text) [
          | inl own ↦
              none own.0 own.1 (more, begins.parts ∙ ap (λ xs. xs ++ (text_seal head before xs ++ more)) own.2 ∙ sym (append_assoc (text_bytes d.form own.0) (text_seal head before (text_bytes d.form own.0)) more))
          | inr other ↦ unforged (record { first = record { size = size; text = text; number = number; items = items; more = more; begins = begins }; forged = inl other })
        ],
      )
    ]

log_recovers : (s : Lone) (d : Disks) (home : Image) → IsCrashed s d home → RecoversUnlessForged s d home
log_recovers s d home crashed head tail unforged =
    let bytes : List ℕ = sealed_log d.form head d.log ++ tail in
    let behind = read_tail s d head (seal_behind d.form head d.log) tail crashed.invariant unforged in
    let up_to = reads_up_to (said_size d.form) head (seal_behind d.form head d.log) tail behind.0 behind.1 in
    let texts : List (List Entry) = map entries_of (reverse d.log) ++ behind.0 in
    let read : ReadsSealed (said_size d.form) head (seal_of head) bytes texts =
    up_to_reads (said_size d.form) head (seal_of head) bytes texts up_to.0 (reads_front d.form head (seal_of head) (reverse d.log) tail behind.0 up_to.0 (proper_log s d crashed.invariant) up_to.1) in
    record {
      texts = texts;
      read = read;
      only = λ size others way. (
        reads_once (said_size d.form) size head (seal_of head) bytes texts others read way,
        elim ((log_reads_back s d home crashed head tail size others way).1) [
          | inl back ↦ back
          | inr forged ↦ absurd (unforged forged)
        ],
      );
    }

-- ---- what was appended
pub nothing_behind : (xs ys : List ℕ) → [] ≡ xs ++ ys → xs ≡ []
nothing_behind [] ys none = refl
nothing_behind (x ∷ xs) ys none = absurd (omega (arith, ap length none))

-- a sealed text in it is the whole
forged_none : (s : Lone) (d : Disks) (head before tail more : List ℕ) (w : CheckpointText) → IsWellFormed d.form w → IsLastText s d w → text_bytes d.form w ++ text_seal head before (text_bytes d.form w) ≡ tail ++ more
    → IsForged s d head before tail → ⊥
forged_none s d head before tail more w proper last whole forged =
    let text : List ℕ = text_bytes d.form w in
    let seal : List ℕ = text_seal head before text in
    let first = forged.first in
    let own : BeginsSealed head before (said_size d.form) (text ++ seal) text w.number (entries_of w) [] = record { is = is_text d.form w proper; parts = ap (λ xs. text ++ xs) (sym (append-nil seal)) } in
    let other : BeginsSealed head before first.size (text ++ seal) first.text first.number first.items (first.more ++ more) =
    record {
      is = first.begins.is;
      parts =
          whole ∙ ap (λ xs. xs ++ more) first.begins.parts ∙ append_assoc first.text (text_seal head before first.text ++ first.more) more
          ∙ ap (λ xs. first.text ++ xs) (append_assoc (text_seal head before first.text) first.more more);
    } in
    let same = same_begin (said_size d.form) first.size head before (text ++ seal) text [] first.text (first.more ++ more) w.number first.number (entries_of w) first.items own other in
    elim forged.forged [
      | inl none ↦ none w last (sym same.one)
      | inr second ↦
          nothing_sealed head (text_seal head before first.text) second.size second.text second.more second.number second.items
          (subst (λ xs. BeginsSealed head (text_seal head before first.text) second.size xs second.text second.number second.items second.more) (nothing_behind first.more more same.left) second.begins)
    ]

pub appended_none : (s : Lone) (d : Disks) → SlotInvariant d s → (head before tail : List ℕ) → IsAppended s d head before tail → IsForged s d head before tail → ⊥
appended_none s d h head before tail (inl none) forged =
    let first = forged.first in
    nothing_sealed head before first.size first.text first.more first.number first.items (subst (λ xs. BeginsSealed head before first.size xs first.text first.number first.items first.more) none first.begins)
appended_none s d h head before tail (inr some) forged = forged_none s d head before tail some.1 some.0 (last_proper s d some.0 h some.2) some.2 some.3 forged

-- ---- the laws
pub at_every_crash : (P : Lone → Disks → Image → Type 0) → ((s : Lone) (d : Disks) (home : Image) → IsCrashed s d home → P s d home) → AtEveryCrash P
at_every_crash P law steps suit form start d went home left =
    let cut : AreDiskSteps steps empty (new_disks form start) d = turns_are_cuts steps suit form start d went in
    law (after steps empty) d home (record {
      invariant = stands_from steps form start d (suited_steps steps empty (new_disks form start) d suit cut);
      kept = λ log texts. kept_at_crash steps suit form start d cut home log (record { chunks = left; texts = texts });
    })

pub of_each : (P : Lone → Disks → Image → Type 0) → AtEveryCrash P → AtEveryCrashOfEach P
of_each P law steps o tells m granted = law (strike steps m) (slot_suits m steps o tells granted)

pub recovers_or_forged : AtEveryCrash ReadsBackOrForged
recovers_or_forged = at_every_crash ReadsBackOrForged log_reads_back

pub recovers_sealed : AtEveryCrash RecoversUnlessForged
recovers_sealed = at_every_crash RecoversUnlessForged log_recovers

pub nothing_forged : AtEveryCrash AppendsForgeNothing
nothing_forged = at_every_crash AppendsForgeNothing (λ s d home crashed. appended_none s d crashed.invariant)
