-- Sealed texts in files that are written by turns.
use Rattle.std.proofs.Common.{List, None, Option, Some, [], ap, ap₂, append-nil, append_assoc, arith, drop, false, length, ltb-false, option_map, refl, subst, sym, take, true, ℕ, ◌++◌, ◌∙◌, ◌∷◌, ◌≡◌}
use Rattle.std.proofs.Math.Seq.{drop-append_seam, take-append_seam}
use Rattle.std.proofs.lemmas.List.{length-append, take_all}
use Rattle.std.proofs.lemmas.List.Sums.{sum_by_push}
use Rattle.std.specs.Prelude.{IfSome, if◌then◌else◌, min, nat_lt, ◌-◌, ◌^◌}
use Rattle.xt_dev.specs.Segments.{IsSettled, Stored, all_safe, emptied, made_safe, with_more}
use Rattle.xt_dev.specs.TwoFiles.{Holds, Part, TwoFiles, is_begun, newer_stored, next_header, part_bytes, part_seal, synced, turned}
use Rattle.xt_dev.specs.declared.sealed_files.SealedFiles.{SealedFiles}
use Rattle.xt_seal.proofs.SealLemmas.{length_seal}
use Rattle.xt_seal.specs.Headers.{head_bytes, header_bytes}
use Rattle.xt_seal.specs.Seal.{Seals, last_seal, seal_of, sealed_texts, text_seal}
use Rattle.xt_seal.specs.Sums.{Sums}
use Rattle.xt_seal.specs.declared.header.Header.{Header}

-- the end of a header is its seal
pub header_end : (head bytes : List ℕ) → length bytes ≡ 64 → bytes ≡ head ++ seal_of head → take 8 (drop 56 bytes) ≡ seal_of head
header_end head bytes long is =
    let few : length head ≡ 56 = omega (arith, long, ap (λ xs. length xs) is, length-append head (seal_of head), length_seal head) in
    ap (λ xs. take 8 (drop 56 xs)) is ∙ ap (λ n. take 8 (drop n (head ++ seal_of head))) (sym few) ∙ ap (take 8) (drop-append_seam head (seal_of head))
    ∙ take_all 8 (seal_of head) (omega (arith, length_seal head))

-- one text more, with its seal
sealed_more : (head before : List ℕ) (ts : List (List ℕ)) (t : List ℕ) → sealed_texts head before (ts ++ t ∷ []) ≡ sealed_texts head before ts ++ (t ++ text_seal head (last_seal head before ts) t)
sealed_more head before [] t = ap (λ s. t ++ s) (append-nil (text_seal head before t))
sealed_more head before (u ∷ ts) t =
    let s : List ℕ = text_seal head before u in
    let r : List ℕ = sealed_texts head s ts in
    let x : List ℕ = t ++ text_seal head (last_seal head s ts) t in
    ap (λ ys. u ++ (s ++ ys)) (sealed_more head s ts t) ∙ ap (λ ys. u ++ ys) (sym (append_assoc s r x)) ∙ sym (append_assoc u (s ++ r) x)

last_more : (head before : List ℕ) (ts : List (List ℕ)) (t : List ℕ) → last_seal head before (ts ++ t ∷ []) ≡ text_seal head (last_seal head before ts) t
last_more head before [] t = refl
last_more head before (u ∷ ts) t = last_more head (text_seal head before u) ts t

-- a file with one text more
abbrev one_more : Part → List ℕ → Part
one_more p t = record p { texts = p.texts ++ t ∷ [] }

part_more : (p : Part) (t : List ℕ) → (part_bytes p ++ t) ++ text_seal (head_bytes p.header) (part_seal p) t ≡ part_bytes (one_more p t)
part_more p t =
    let head : List ℕ = head_bytes p.header in
    let s : List ℕ = text_seal head (part_seal p) t in
    append_assoc (part_bytes p) t s ∙ append_assoc (header_bytes p.header) (sealed_texts head (seal_of head) p.texts) (t ++ s)
    ∙ ap (λ ys. header_bytes p.header ++ ys) (sym (sealed_more head (seal_of head) p.texts t))

seal_more : (p : Part) (t : List ℕ) → text_seal (head_bytes p.header) (part_seal p) t ≡ part_seal (one_more p t)
seal_more p t = sym (last_more (head_bytes p.header) (seal_of (head_bytes p.header)) p.texts t)

-- what is known of a file, said in another way
known_as : (o : Option Stored) (x y : Stored) → IfSome o (λ s. s ≡ x) → x ≡ y → IfSome o (λ s. s ≡ y)
known_as None x y is same = tt
known_as (Some s) x y is same = is ∙ same

-- what is known of a file after a call
pub known_after : (f : Stored → Stored) (o n : Option Stored) (x y : Stored) → IfSome o (λ s. s ≡ x) → n ≡ option_map f o → f x ≡ y → IfSome n (λ s. s ≡ y)
known_after f None n x y is made same = subst (λ m. IfSome m (λ s. s ≡ y)) (sym made) tt
known_after f (Some s) n x y is made same = subst (λ m. IfSome m (λ s. s ≡ y)) (sym made) (ap f is ∙ same)

-- a file whose safe bytes begin what it has
settled_as : (o : Option Stored) (x : Stored) → IfSome o (λ s. s ≡ x) → IsSettled x → IfSome o IsSettled
settled_as None x is settled = tt
settled_as (Some s) x is settled = subst IsSettled (sym is) settled

pub newer_settled : (o : Option Stored) (log : TwoFiles) → IfSome o (λ s. s ≡ newer_stored log) → IfSome o IsSettled
newer_settled o log is = settled_as o (newer_stored log) is (take-append_seam (part_bytes log.newer) log.begun)

pub sealed_settled : (o n : Option Stored) (log : TwoFiles) (seal : List ℕ) → IfSome o (λ s. s ≡ newer_stored log) → n ≡ option_map (with_more seal) o → IfSome n IsSettled
sealed_settled o n log seal is made =
    let x : Stored = with_more seal (newer_stored log) in
    settled_as n x (known_after (with_more seal) o n (newer_stored log) x is made refl)
    (ap (take (length (part_bytes log.newer))) (append_assoc (part_bytes log.newer) log.begun seal) ∙ take-append_seam (part_bytes log.newer) (log.begun ++ seal))

-- an older file that was emptied, and is safe, has nothing
pub nothing_left : (o e n : Option Stored) → e ≡ option_map emptied o → n ≡ option_map made_safe e → IfSome n (λ s. s ≡ all_safe [])
nothing_left None e n gone safe = subst (λ m. IfSome m (λ s. s ≡ all_safe [])) (sym (safe ∙ ap (option_map made_safe) gone)) tt
nothing_left (Some s) e n gone safe = subst (λ m. IfSome m (λ s. s ≡ all_safe [])) (sym (safe ∙ ap (option_map made_safe) gone)) refl

-- no text is begun
none_begun : (begun : List ℕ) → nat_lt 0 (length begun) ≡ false → begun ≡ []
none_begun [] none = refl
none_begun (x ∷ xs) none = absurd (omega (arith, ltb-false 0 (length (x ∷ xs)) none))

module _ {S : Type 0} (stored : S → Option Stored) where
  -- where no text is begun, all that the newer file has are whole texts
  whole_newer : (files : SealedFiles S) (log : TwoFiles) → Holds stored files log → files.is_within ≡ false → newer_stored log ≡ all_safe (part_bytes log.newer)
  whole_newer files log held closed =
      let none : log.begun ≡ [] = none_begun log.begun (sym held.within ∙ closed) in
      ap (λ b. record { bytes = b; safe = part_bytes log.newer }) (ap (λ b. part_bytes log.newer ++ b) none ∙ append-nil (part_bytes log.newer))

  -- after a turn
  pub turn_holds : (files : SealedFiles S) (log : TwoFiles) (x y : S) (h : Header) (sums : Sums) (seal : List ℕ) → h ≡ next_header log.newer → Holds stored files log → files.is_within ≡ false
      → IfSome (stored x) (λ s. s ≡ all_safe (header_bytes h)) → y ≡ files.newer → Seals sums (head_bytes h) (seal_of (head_bytes h)) [] → seal ≡ seal_of (head_bytes h)
      → Holds stored (record { newer = x; older = y; header = h; sealer = sums; last = seal; length = 0; is_within = false }) (turned log)
  turn_holds files log x y h sums seal same held closed begun aside summed last =
      let n : Header = next_header log.newer in
      let bare : List ℕ = header_bytes n in
      let bytes : bare ≡ (bare ++ []) ++ [] = sym (append-nil bare) ∙ sym (append-nil (bare ++ [])) in
      record {
        follows = refl;
        newer =
            known_as (stored x) (all_safe (header_bytes h)) (newer_stored (turned log)) begun
            (ap (λ k. all_safe (header_bytes k)) same ∙ ap₂ (λ b s. record { bytes = b; safe = s }) bytes (sym (append-nil bare)));
        older = subst (λ z. IfSome (stored z) (λ s. s ≡ all_safe (part_bytes log.newer))) (sym aside) (known_as (stored files.newer) (newer_stored log) (all_safe (part_bytes log.newer)) held.newer (whole_newer files log held closed));
        header = same;
        sums = subst (λ k. Seals sums (head_bytes k) (seal_of (head_bytes k)) []) same summed;
        last = last ∙ ap (λ k. seal_of (head_bytes k)) same;
        within = refl;
        length = refl;
      }

  -- after a sync that ended a text
  pub sync_holds : (files : SealedFiles S) (log : TwoFiles) (x y : S) (sums : Sums) (seal : List ℕ) → Holds stored files log → files.is_within ≡ true
      → seal ≡ text_seal (head_bytes log.newer.header) (part_seal log.newer) log.begun → Seals sums (head_bytes log.newer.header) (text_seal (head_bytes log.newer.header) (part_seal log.newer) log.begun) []
      → stored x ≡ option_map (with_more seal) (stored files.newer) → stored y ≡ option_map made_safe (stored x)
      → Holds stored (record { newer = y; older = files.older; header = files.header; sealer = sums; last = seal; length = files.length; is_within = false }) (synced log)
  sync_holds files log x y sums seal held within due summed more safe =
      let begun : is_begun log ≡ true = sym held.within ∙ within in
      let next : TwoFiles = record log { newer = one_more log.newer log.begun; begun = [] } in
      let same : synced log ≡ next = ap (λ b. if b then next else log) begun in
      let new : SealedFiles S = record { newer = y; older = files.older; header = files.header; sealer = sums; last = seal; length = files.length; is_within = false } in
      let ends = seal_more log.newer log.begun in
      let whole : (part_bytes log.newer ++ log.begun) ++ seal ≡ part_bytes next.newer = ap (λ s. (part_bytes log.newer ++ log.begun) ++ s) due ∙ part_more log.newer log.begun in
      let passed = known_after (with_more seal) (stored files.newer) (stored x) (newer_stored log) (with_more seal (newer_stored log)) held.newer more refl in
      subst (λ l. Holds stored new l) (sym same) (record {
        follows = held.follows;
        newer =
            known_after made_safe (stored x) (stored y) (with_more seal (newer_stored log)) (newer_stored next) passed safe
            (ap (λ b. all_safe b) whole ∙ ap (λ b. record { bytes = b; safe = part_bytes next.newer }) (sym (append-nil (part_bytes next.newer))));
        older = held.older;
        header = held.header;
        sums = subst (λ s. Seals sums (head_bytes log.newer.header) s []) ends summed;
        last = due ∙ ends;
        within = refl;
        length = held.length ∙ ap (λ n. min n (2 ^ 64 - 1)) (omega (arith, sum_by_push (λ (xs : List ℕ). length xs) log.newer.texts log.begun));
      })
