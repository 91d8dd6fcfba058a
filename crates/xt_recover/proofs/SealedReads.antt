-- What is read of a sealed log.
use mathlib.Core.List.{reverse_aux}
use Rattle.std.proofs.Common.{append_assoc, ◌≡◌, ◌∙◌, ◌≤◌, ◌∷◌, ◌++◌, List, Option, [], ap, arith, length, map, refl, subst, sym, ℕ}
use Rattle.std.proofs.lemmas.Grind.{reverse_onto}
use Rattle.std.proofs.lemmas.List.{append_cancel_left, map-append, reverse-reverse}
use Rattle.std.specs.Prelude.{reverse}
use Rattle.xt_base.specs.Form.{Form}
use Rattle.xt_base.specs.Sound.{Each}
use Rattle.xt_ckpt.proofs.OneText.{same_text, unfinished_none}
use Rattle.xt_ckpt.specs.Grammar.{Entry}
use Rattle.xt_recover.proofs.GatherLemmas.{whole_more}
use Rattle.xt_recover.proofs.ReadLemmas.{is_text, nothing_unfinished}
use Rattle.xt_recover.proofs.TextEntries.{entries_of}
use Rattle.xt_recover.specs.Promise.{bytes_of_log}
use Rattle.xt_recover.specs.Reading.{AreTexts}
use Rattle.xt_recover.specs.SealedPromise.{ReadsOneWay, ReadsUpTo}
use Rattle.xt_recover.specs.Sizes.{said_size}
use Rattle.xt_recovery.proofs.Formed.{IsWellFormed}
use Rattle.xt_recovery.specs.Log.{CheckpointText, text_bytes}
use Rattle.xt_seal.proofs.SealLemmas.{none_sealed}
use Rattle.xt_seal.specs.Seal.{BeginsNoSealed, BeginsSealed, ReadsSealed, last_seal, sealed_texts, text_seal}

-- ---- one way
-- two texts that begin the same bytes are one, and so is what stands behind them
pub record AreSame (text more other rest : List ℕ) (f g : Option ℕ) (t u : List Entry) : Type 0 where
  pub one : text ≡ other
  pub left : more ≡ rest
  pub size : f ≡ g
  pub said : t ≡ u

pub same_begin : (f g : Option ℕ) (head before bytes text more other rest : List ℕ) (n m : ℕ) (t u : List Entry) → BeginsSealed head before f bytes text n t more → BeginsSealed head before g bytes other m u rest
    → AreSame text more other rest f g t u
same_begin f g head before bytes text more other rest n m t u one two =
    let seal : List ℕ = text_seal head before text in
    let joined : text ++ (seal ++ more) ≡ other ++ (text_seal head before other ++ rest) = sym one.parts ∙ two.parts in
    let same = same_text f g text other (seal ++ more) (text_seal head before other ++ rest) n m t u one.is two.is joined in
    let behind : seal ++ more ≡ seal ++ rest = append_cancel_left text (seal ++ more) (seal ++ rest) (joined ∙ ap (λ xs. xs ++ (text_seal head before xs ++ rest)) (sym same.0)) in
    record { one = same.0; left = append_cancel_left seal more rest behind; size = same.1; said = same.3 }

-- what stands behind a text, read behind the seal of that text
behind_same : (g f : Option ℕ) (head before text more other rest : List ℕ) (t u : List Entry) (us : List (List Entry)) → AreSame text more other rest f g t u
    → ReadsSealed g head (text_seal head before other) rest us → ReadsSealed g head (text_seal head before text) more us
behind_same g f head before text more other rest t u us same h =
    subst (λ xs. ReadsSealed g head (text_seal head before text) xs us) (sym same.left) (subst (λ xs. ReadsSealed g head (text_seal head before xs) rest us) (sym same.one) h)

pub reads_once : ReadsOneWay
reads_once f g head before bytes [] [] one two = refl
reads_once f g head before bytes [] (u ∷ us) one two = absurd (one g two.0 two.1 two.2 u two.3)
reads_once f g head before bytes (t ∷ ts) [] one two = absurd (two f one.0 one.1 one.2 t one.3)
reads_once f g head before bytes (t ∷ ts) (u ∷ us) one two =
    let same = same_begin f g head before bytes one.0 one.1 two.0 two.1 one.2 two.2 t u one.3 two.3 in
    ap (λ x. x ∷ us) (sym same.said) ∙ ap (λ xs. t ∷ xs) (reads_once f g head (text_seal head before one.0) one.1 ts us one.4 (behind_same g f head before one.0 one.1 two.0 two.1 t u us same two.4))

-- no text begins nothing
pub nothing_sealed : (head before : List ℕ) → BeginsNoSealed head before []
nothing_sealed head before = none_sealed head before [] (unfinished_none [] nothing_unfinished)

-- ---- up to which seal
-- what is read has a last seal
pub reads_up_to : (size : Option ℕ) (head before bytes : List ℕ) (texts : List (List Entry)) → ReadsSealed size head before bytes texts → (last : List ℕ) × ReadsUpTo size head before bytes texts last
reads_up_to size head before bytes [] none = (before, (refl, none))
reads_up_to size head before bytes (t ∷ ts) read =
    let on = reads_up_to size head (text_seal head before read.0) read.1 ts read.4 in
    (on.0, (read.0, read.1, read.2, read.3, on.1))

pub up_to_reads : (size : Option ℕ) (head before bytes : List ℕ) (texts : List (List Entry)) (last : List ℕ) → ReadsUpTo size head before bytes texts last → ReadsSealed size head before bytes texts
up_to_reads size head before bytes [] last read = read.1
up_to_reads size head before bytes (t ∷ ts) last read = (read.0, read.1, read.2, read.3, up_to_reads size head (text_seal head before read.0) read.1 ts last read.4)

-- ---- the synced texts
-- texts of a form, each with its seal, the oldest first
abbrev pub sealed_from : Form → List ℕ → List ℕ → List CheckpointText → List ℕ
sealed_from form head before ws = sealed_texts head before (map (text_bytes form) ws)

abbrev pub seal_from : Form → List ℕ → List ℕ → List CheckpointText → List ℕ
seal_from form head before ws = last_seal head before (map (text_bytes form) ws)

-- the first of them, with its seal, and what is behind it
begins_own : (form : Form) (head before : List ℕ) (w : CheckpointText) (ws : List CheckpointText) (tail : List ℕ) → IsWellFormed form w
    → BeginsSealed head before (said_size form) (sealed_from form head before (w ∷ ws) ++ tail) (text_bytes form w) w.number (entries_of w) (sealed_from form head (text_seal head before (text_bytes form w)) ws ++ tail)
begins_own form head before w ws tail proper =
    let text : List ℕ = text_bytes form w in
    let seal : List ℕ = text_seal head before text in
    let rest : List ℕ = sealed_from form head seal ws in
    record { is = is_text form w proper; parts = append_assoc text (seal ++ rest) tail ∙ ap (λ xs. text ++ xs) (append_assoc seal rest tail) }

-- what is read is these texts, which say what the form says, and then what is read behind a seal
pub record IsReadOn (size : Option ℕ) (form : Form) (ws : List CheckpointText) (head before tail : List ℕ) (texts : List (List Entry)) : Type 0 where
  pub rest : List (List Entry)
  pub parts : texts ≡ map entries_of ws ++ rest
  pub said : 1 ≤ length ws → size ≡ said_size form
  pub read : ReadsSealed size head before tail rest

pub read_on : (size : Option ℕ) (form : Form) (head before : List ℕ) (ws : List CheckpointText) (tail : List ℕ) (texts : List (List Entry)) → Each (IsWellFormed form) ws
    → ReadsSealed size head before (sealed_from form head before ws ++ tail) texts → IsReadOn size form ws head (seal_from form head before ws) tail texts
read_on size form head before [] tail texts all read = record { rest = texts; parts = refl; said = λ some. absurd (omega (arith, some)); read = read }
read_on size form head before (w ∷ ws) tail [] all read =
    absurd (read (said_size form) (text_bytes form w) (sealed_from form head (text_seal head before (text_bytes form w)) ws ++ tail) w.number (entries_of w) (begins_own form head before w ws tail all.0))
read_on size form head before (w ∷ ws) tail (t ∷ ts) all read =
    let text : List ℕ = text_bytes form w in
    let more : List ℕ = sealed_from form head (text_seal head before text) ws ++ tail in
    let same = same_begin (said_size form) size head before (sealed_from form head before (w ∷ ws) ++ tail) text more read.0 read.1 w.number read.2 (entries_of w) t (begins_own form head before w ws tail all.0) read.3 in
    let on = read_on size form head (text_seal head before text) ws tail ts all.1 (behind_same size (said_size form) head before text more read.0 read.1 (entries_of w) t ts same read.4) in
    record {
      rest = on.rest;
      parts = ap (λ x. x ∷ ts) (sym same.said) ∙ ap (λ xs. entries_of w ∷ xs) on.parts;
      said = λ some. sym same.size;
      read = on.read;
    }

-- where what stands behind them can be read, the whole can
pub reads_front : (form : Form) (head before : List ℕ) (ws : List CheckpointText) (tail : List ℕ) (rest : List (List Entry)) (last : List ℕ) → Each (IsWellFormed form) ws
    → ReadsUpTo (said_size form) head (seal_from form head before ws) tail rest last → ReadsUpTo (said_size form) head before (sealed_from form head before ws ++ tail) (map entries_of ws ++ rest) last
reads_front form head before [] tail rest last all read = read
reads_front form head before (w ∷ ws) tail rest last all read =
    let seal : List ℕ = text_seal head before (text_bytes form w) in
    (text_bytes form w, sealed_from form head seal ws ++ tail, w.number, begins_own form head before w ws tail all.0, reads_front form head seal ws tail rest last all.1 read)

-- ---- a log, the oldest text first
-- one text more
pub read_more : (w : CheckpointText) (ws : List CheckpointText) → map entries_of (reverse (w ∷ ws)) ≡ map entries_of (reverse ws) ++ entries_of w ∷ []
read_more w ws = ap (map entries_of) (reverse_onto ws w []) ∙ map-append entries_of (reverse ws) (w ∷ [])

pub texts_whole : (form : Form) (log : List CheckpointText) → Each (IsWellFormed form) log → AreTexts (said_size form) (bytes_of_log form log) (map entries_of (reverse log))
texts_whole form [] all = refl
texts_whole form (w ∷ ws) all =
    subst (AreTexts (said_size form) (bytes_of_log form (w ∷ ws))) (sym (read_more w ws))
    (whole_more (said_size form) (bytes_of_log form ws) (text_bytes form w) w.number (map entries_of (reverse ws)) (entries_of w) (texts_whole form ws all.1) (is_text form w all.0))

-- the newest first again
pub newest_first : (log : List CheckpointText) → reverse (map entries_of (reverse log)) ≡ map entries_of log
newest_first log = sym (map_turned (reverse log) []) ∙ ap (map entries_of) (reverse-reverse log)
  where
    map_turned : (xs ys : List CheckpointText) → map entries_of (reverse_aux xs ys) ≡ reverse_aux (map entries_of xs) (map entries_of ys)
    map_turned [] ys = refl
    map_turned (x ∷ xs) ys = map_turned xs (x ∷ ys)
