-- At every crash the bytes of the log, laid over the home image, give what was committed.
use Rattle.std.proofs.Common.{◌≡◌, ◌∙◌, ◌⊎◌, ◌∷◌, ◌++◌, List, None, Option, Some, [], ap, arith, inl, inr, length, map, refl, subst, sym, ℕ}
use Rattle.std.proofs.lemmas.List.{append-nil, reverse-reverse}
use Rattle.std.specs.Prelude.{reverse, unwrap_or, ◌<◌}
use Rattle.xt_base.proofs.MapLemmas.{some_none}
use Rattle.xt_base.specs.Alone.{after}
use Rattle.xt_base.specs.Sound.{Each}
use Rattle.xt_base.specs.Steps.{strike}
use Rattle.xt_base.specs.State.{Flight, Lone, State, empty}
use Rattle.xt_ckpt.specs.Fields.{IsUnfinished}
use Rattle.xt_ckpt.specs.Grammar.{Entry}
use Rattle.xt_recover.proofs.TextEntries.{entries_of}
use Rattle.xt_recover.proofs.ReadLemmas.{beginning_unfinished, is_text, nothing_unfinished, read_once, reads_log, size_once}
use Rattle.xt_recover.specs.Promise.{IsLastText, IsLogLeft, RecoversBytes, RecoversEach, bytes_of_log}
use Rattle.xt_recover.specs.Reading.{ReadsAs}
use Rattle.xt_recover.specs.Replay.{replayed_image}
use Rattle.xt_recover.specs.Sizes.{said_size}
use Rattle.xt_recover.proofs.SaidLemmas.{said_found}
use Rattle.xt_recovery.proofs.Formed.{IsFlightOfText, IsWellFormed}
use Rattle.xt_recovery.proofs.HostLemmas.{slot_suits}
use Rattle.xt_recovery.proofs.SuitedSteps.{suited_steps}
use Rattle.xt_recovery.specs.Crash.{IsCommittedImage}
use Rattle.xt_recovery.specs.DiskSteps.{IsLogAfterCrash}
use Rattle.xt_recovery.specs.Disks.{Disks, flight_of, new_disks}
use Rattle.xt_recovery.specs.Log.{CheckpointText, Image, recovered_image, text_bytes}
use Rattle.xt_recovery.proofs.LifeTheorem.{kept_at_crash}
use Rattle.xt_recovery.proofs.FailedLemmas.{SlotInvariant, stands_from}
use Rattle.xt_recovery.proofs.FormedLemmas.{MountFitsTexts}

-- the texts that a crash left whole, and that the log is read as these
record IsFound (s : Lone) (d : Disks) (bytes : List ℕ) : Type 0 where
  log : List CheckpointText
  proper : Each (IsWellFormed d.form) log
  read : ReadsAs (said_size d.form) bytes (reverse (map entries_of log))
  texts : IsLogAfterCrash s.mounted d log

-- the text in flight is one of the grammar
flying_in : (o : Option State) (d : Disks) (f : Flight) → MountFitsTexts d o → flight_of o ≡ Some f → IsFlightOfText d f
flying_in None d f p flies = some_none f (IsFlightOfText d f) (sym flies)
flying_in (Some m) d f p flies = p.flight f flies

-- nothing is left, or something
some_left : (xs : List ℕ) → (xs ≡ []) ⊎ (0 < length xs)
some_left [] = inl refl
some_left (x ∷ xs) = inr (omega arith)

found_whole : (s : Lone) (d : Disks) (bytes : List ℕ) (log : List CheckpointText) → Each (IsWellFormed d.form) log → bytes ≡ bytes_of_log d.form log ++ [] → IsLogAfterCrash s.mounted d log → IsFound s d bytes
found_whole s d bytes log all parts texts = record {
  log = log;
  proper = all;
  read = subst (λ xs. ReadsAs (said_size d.form) xs (reverse (map entries_of log))) (sym parts) (reads_log d.form log [] [] all nothing_unfinished);
  texts = texts;
}

-- a text that stands behind the others is one of the grammar
pub last_proper : (s : Lone) (d : Disks) (w : CheckpointText) → SlotInvariant d s → IsLastText s d w → IsWellFormed d.form w
last_proper s d w h (inl flight) = subst (IsWellFormed d.form) (sym flight.2) (flying_in s.mounted d flight.0 h.proper.mount flight.1).proper
last_proper s d w h (inr left) = (h.failed w left).proper

-- and with it on the log, that is one that a crash may leave
pub last_then : (s : Lone) (d : Disks) (w : CheckpointText) → IsLastText s d w → IsLogAfterCrash s.mounted d (w ∷ d.log)
last_then s d w (inl flight) = inr (inl (flight.0, flight.1, ap (λ (x : CheckpointText). x ∷ d.log) flight.2))
last_then s d w (inr left) = inr (inr (w, left, refl))

-- what a crash left of a log is read
crash_found : (s : Lone) (d : Disks) (bytes : List ℕ) → SlotInvariant d s → IsLogLeft s d bytes → IsFound s d bytes
crash_found s d bytes h left =
    let tail : List ℕ = left.tail in
    let texts : Each (IsWellFormed d.form) d.log = h.proper.texts in
    elim left.begins [
      | inl none ↦ found_whole s d bytes d.log texts (left.parts ∙ ap (λ xs. bytes_of_log d.form d.log ++ xs) none) (inl refl)
      | inr last ↦
          let w : CheckpointText = last.0 in
          let more : List ℕ = last.1 in
          let proper : IsWellFormed d.form w = last_proper s d w h last.2 in
          elim (some_left more) [
            | inl none ↦
                let whole : text_bytes d.form w ≡ tail = last.3 ∙ ap (λ xs. tail ++ xs) none ∙ append-nil tail in
                found_whole s d bytes (w ∷ d.log) (proper, texts) (left.parts ∙ ap (λ xs. bytes_of_log d.form d.log ++ xs) (sym whole) ∙ sym (append-nil (bytes_of_log d.form d.log ++ text_bytes d.form w))) (last_then s d w last.2)
            | inr some ↦
                let unfinished : IsUnfinished tail = beginning_unfinished (said_size d.form) (text_bytes d.form w) tail more w.number (entries_of w) (is_text d.form w proper) last.3 some in
                record {
                  log = d.log;
                  proper = texts;
                  read = subst (λ xs. ReadsAs (said_size d.form) xs (reverse (map entries_of d.log))) (sym left.parts) (reads_log d.form d.log tail [] texts unfinished);
                  texts = inl refl;
                }
          ]
    ]

-- the same image, said over what was read
pub kept_read : (s : Lone) (d : Disks) (home : Image) (log : List CheckpointText) (texts : List (List Entry)) → Each (IsWellFormed d.form) log → texts ≡ map entries_of log → IsCommittedImage s d home (recovered_image log home) → IsCommittedImage s d home (replayed_image texts home)
kept_read s d home log texts all is kept =
    let same : (b k : ℕ) → replayed_image texts home b k ≡ recovered_image log home b k = λ b k. ap (λ ts. replayed_image ts home b k) is ∙ ap (λ o. unwrap_or o (home b k)) (said_found d.form log b k all) in
    elim kept [
      | inl landed ↦ inl (λ b k small. same b k ∙ landed b k small)
      | inr (inl flight) ↦ inr (inl (flight.0, flight.1, λ b k small. same b k ∙ flight.2 b k small))
      | inr (inr left) ↦ inr (inr (left.0, left.1, λ b k small. same b k ∙ left.2 b k small))
    ]

-- the promise, in bytes
pub kept_in_bytes : RecoversBytes
kept_in_bytes steps suit form start d went home bytes crash =
    let s : Lone = after steps empty in
    let found : IsFound s d bytes = crash_found s d bytes (stands_from steps form start d (suited_steps steps empty (new_disks form start) d suit went)) crash.log in
    let kept : IsCommittedImage s d home (recovered_image found.log home) = kept_at_crash steps suit form start d went home found.log (record { chunks = crash.chunks; texts = found.texts }) in
    let texts : List (List Entry) = reverse (map entries_of found.log) in
    record {
      texts = texts;
      read = found.read;
      only = λ size others read. read_once size (said_size d.form) bytes others texts read found.read;
      said = λ size others read some. size_once (said_size d.form) size bytes texts others found.read read some;
      kept = kept_read s d home found.log (reverse texts) found.proper (reverse-reverse (map entries_of found.log)) kept;
    }

-- of each slot of a host
pub kept_for_each : RecoversEach
kept_for_each steps o tells m granted form start d went home bytes crash =
    kept_in_bytes (strike steps m) (slot_suits m steps o tells granted) form start d went home bytes crash
