-- At every crash two files that are written by turns give what was committed, or a text in them is forged.
use Rattle.std.proofs.Common.{append_assoc, ◌≡◌, ◌∙◌, ◌+◌, ◌≤◌, ◌⊎◌, ◌∷◌, ◌++◌, List, Option, [], ap, append-nil, arith, inl, inr, length, map, refl, subst, sym, ℕ}
use Rattle.std.proofs.lemmas.Bool.{cases_Bool, leb-false, leb-true}
use Rattle.std.proofs.lemmas.List.{append_cancel_left, length-append, length-map, length-reverse, map-append, reverse-append, take_at}
use Rattle.std.specs.Int.{from_be_bytes, w64}
use Rattle.std.specs.Prelude.{drop, nat_le, reverse, take}
use Rattle.xt_base.specs.Form.{Form}
use Rattle.xt_base.specs.Sound.{Each}
use Rattle.xt_base.specs.State.{Lone}
use Rattle.xt_ckpt.specs.Grammar.{Entry}
use Rattle.xt_recover.proofs.SealedReads.{IsReadOn, nothing_sealed, read_on, reads_front, reads_once, reads_up_to, up_to_reads}
use Rattle.xt_recover.proofs.SealedTheorem.{IsCrashed, appended_none, at_every_crash, found_or, landed_first, read_back, read_back_or, read_tail}
use Rattle.xt_recover.proofs.TextEntries.{entries_of}
use Rattle.xt_recover.specs.SealedFiles.{FilesLeft, FilesReadBackOrForged, FilesRecoverUnlessForged, HasNoText, IsForgedInOlder, IsForgedInNewer, PartsReadBackOrForged, ReadsFile, ReadsFiles, SealedFile, file_bytes, file_seal, files_of}
use Rattle.xt_recover.specs.SealedPromise.{AtEveryCrash, HasSealed, IsForged, ReadsUpTo, seal_behind, sealed_log, texts_of_log}
use Rattle.xt_recover.specs.Sizes.{said_size}
use Rattle.xt_recovery.proofs.FailedLemmas.{SlotInvariant}
use Rattle.xt_recovery.proofs.Formed.{IsWellFormed}
use Rattle.xt_recovery.proofs.MatchLemmas.{each_reverse}
use Rattle.xt_recovery.specs.Disks.{Disks}
use Rattle.xt_recovery.specs.Log.{CheckpointText, Image, text_bytes}
use Rattle.xt_seal.proofs.HeaderLemmas.{generation_is, length_head}
use Rattle.xt_seal.proofs.SealLemmas.{length_seal}
use Rattle.xt_seal.specs.Headers.{IsHeader, head_bytes, header_bytes}
use Rattle.xt_seal.specs.Seal.{ReadsSealed, seal_of, sealed_texts, text_seal}
use Rattle.xt_seal.specs.declared.header.Header.{Header}

-- ---- headers
-- of two headers that begin the same bytes each is the other
record AreSameHeaders (h g : Header) (xs ys : List ℕ) : Type 0 where
  head : head_bytes h ≡ head_bytes g
  generation : h.generation ≡ g.generation
  behind : xs ≡ ys

same_headers : (h g : Header) (xs ys : List ℕ) → IsHeader h → IsHeader g → header_bytes h ++ xs ≡ header_bytes g ++ ys → AreSameHeaders h g xs ys
same_headers h g xs ys one two same =
    let head : (f : Header) (zs : List ℕ) → IsHeader f → take 56 (header_bytes f ++ zs) ≡ head_bytes f = λ f zs fits.
    ap (take 56) (append_assoc (head_bytes f) (seal_of (head_bytes f)) zs) ∙ take_at (head_bytes f) (seal_of (head_bytes f) ++ zs) 56 (length_head f fits) in
    let heads : head_bytes h ≡ head_bytes g = sym (head h xs one) ∙ ap (take 56) same ∙ head g ys two in
    let told : (f : Header) → IsHeader f → from_be_bytes w64 (take 8 (drop 16 (head_bytes f))) ≡ f.generation = λ f fits. generation_is f (head_bytes f) [] fits (sym (append-nil (head_bytes f))) in
    record {
      head = heads;
      generation = sym (told h one) ∙ ap (λ bs. from_be_bytes w64 (take 8 (drop 16 bs))) heads ∙ told g two;
      behind = append_cancel_left (header_bytes h) xs ys (same ∙ ap (λ bs. (bs ++ seal_of bs) ++ ys) (sym heads));
    }

-- a file of no more bytes than a header has, which begins with one, has nothing behind it
header_alone : (h : Header) (rest : List ℕ) → IsHeader h → length (header_bytes h ++ rest) ≤ 64 → rest ≡ []
header_alone h [] fits short = refl
header_alone h (x ∷ xs) fits short =
    absurd (omega (arith, short, length-append (header_bytes h) (x ∷ xs), length-append (head_bytes h) (seal_of (head_bytes h)), length_head h fits, length_seal (head_bytes h)))

-- so it is read as nothing
read_short : (size : Option ℕ) (bytes : List ℕ) (h : Header) (texts : List (List Entry)) (last : List ℕ) → ReadsFile size bytes h texts last → HasNoText bytes → texts ≡ []
read_short size bytes h texts last file short =
    nothing_read texts (subst (λ xs. ReadsUpTo size (head_bytes h) (seal_of (head_bytes h)) xs texts last) (header_alone h file.more file.fits (subst HasNoText file.parts short)) file.read)
  where
    nothing_read : (ts : List (List Entry)) → ReadsUpTo size (head_bytes h) (seal_of (head_bytes h)) [] ts last → ts ≡ []
    nothing_read [] read = refl
    nothing_read (t ∷ ts) read = absurd (nothing_sealed (head_bytes h) (seal_of (head_bytes h)) size read.0 read.1 read.2 t read.3)

-- ---- one file
-- a file is read as its texts, and then what stands behind them
file_on : (size : Option ℕ) (form : Form) (f : SealedFile) (g : Header) (texts : List (List Entry)) (last : List ℕ) → Each (IsWellFormed form) f.texts → ReadsFile size (file_bytes form f) g texts last
    → (f.header.generation ≡ g.generation) × IsReadOn size form (reverse f.texts) (head_bytes f.header) (file_seal form f) f.tail texts
file_on size form f g texts last all file =
    let head : List ℕ = head_bytes f.header in
    let bytes : List ℕ = sealed_log form head f.texts ++ f.tail in
    let same = same_headers f.header g bytes file.more f.fits file.fits file.parts in
    let read : ReadsUpTo size head (seal_of head) bytes texts last =
    subst (λ bs. ReadsUpTo size bs (seal_of bs) bytes texts last) (sym same.head) (subst (λ xs. ReadsUpTo size (head_bytes g) (seal_of (head_bytes g)) xs texts last) (sym same.behind) file.read) in
    (same.generation, read_on size form head (seal_of head) (reverse f.texts) f.tail texts (each_reverse (IsWellFormed form) f.texts all) (up_to_reads size head (seal_of head) bytes texts last read))

-- where it has no more bytes than a header, it has no text, and nothing behind
file_short : (form : Form) (f : SealedFile) → HasNoText (file_bytes form f) → (f.texts ≡ []) × (f.tail ≡ [])
file_short form f short =
    let head : List ℕ = head_bytes f.header in
    let nothing : sealed_log form head f.texts ++ f.tail ≡ [] = header_alone f.header (sealed_log form head f.texts ++ f.tail) f.fits short in
    let bare : length (sealed_log form head f.texts) + length f.tail ≡ 0 = sym (length-append (sealed_log form head f.texts) f.tail) ∙ ap length nothing in
    let texts : length (texts_of_log form f.texts) ≡ 0 = none_in head (seal_of head) (texts_of_log form f.texts) (omega (arith, bare)) in
    (no_more f.texts (omega (arith, texts, length-map (reverse f.texts) (text_bytes form), length-reverse f.texts)), no_more f.tail (omega (arith, bare)))
  where
    none_in : (head before : List ℕ) (ts : List (List ℕ)) → length (sealed_texts head before ts) ≡ 0 → length ts ≡ 0
    none_in head before [] none = refl
    none_in head before (t ∷ ts) none =
        let seal : List ℕ = text_seal head before t in
        absurd (omega (arith, none, length-append t (seal ++ sealed_texts head seal ts), length-append seal (sealed_texts head seal ts), length_seal (head ++ before ++ t)))

    no_more : {A : Type 0} (xs : List A) → length xs ≡ 0 → xs ≡ []
    no_more [] none = refl
    no_more (x ∷ xs) none = absurd (omega (arith, none))

-- a file can be read where what stands behind its texts can
file_reads : (form : Form) (f : SealedFile) (rest : List (List Entry)) (last : List ℕ) → Each (IsWellFormed form) f.texts → ReadsUpTo (said_size form) (head_bytes f.header) (file_seal form f) f.tail rest last
    → ReadsFile (said_size form) (file_bytes form f) f.header (map entries_of (reverse f.texts) ++ rest) last
file_reads form f rest last all read = record {
  fits = f.fits;
  more = sealed_log form (head_bytes f.header) f.texts ++ f.tail;
  parts = refl;
  read = reads_front form (head_bytes f.header) (seal_of (head_bytes f.header)) (reverse f.texts) f.tail rest last (each_reverse (IsWellFormed form) f.texts all) read;
}

-- ---- what is read behind the last seal
-- a part that has nothing is read as nothing
nothing_on : (size : Option ℕ) (form : Form) (log : List CheckpointText) (head before tail : List ℕ) (texts : List (List Entry)) → log ≡ [] → tail ≡ [] → texts ≡ [] → IsReadOn size form (reverse log) head before tail texts
nothing_on size form log head before tail texts none bare nothing = record {
  rest = [];
  parts = nothing ∙ sym (ap (λ ws. map entries_of (reverse ws) ++ []) none);
  said = λ some. absurd (omega (arith, some, ap (λ (ws : List CheckpointText). length (reverse ws)) none));
  read = subst (λ xs. ReadsSealed size head before xs []) (sym bare) (nothing_sealed head before);
}

-- two readings that go on alike are one
same_on : (f g : Option ℕ) (form : Form) (ws : List CheckpointText) (head before tail : List ℕ) (texts others : List (List Entry)) → IsReadOn f form ws head before tail texts → IsReadOn g form ws head before tail others → others ≡ texts
same_on f g form ws head before tail texts others one two =
    two.parts ∙ ap (λ xs. map entries_of ws ++ xs) (reads_once f g head before tail one.rest two.rest one.read two.read) ∙ sym one.parts

-- bytes behind a seal are read as nothing, or a text with the due seal stands there
nothing_or : (size : Option ℕ) (head before bytes : List ℕ) (rest : List (List Entry)) → ReadsSealed size head before bytes rest → (rest ≡ []) ⊎ HasSealed head before bytes
nothing_or size head before bytes [] read = inl refl
nothing_or size head before bytes (t ∷ ts) read = inr (record { size = size; text = read.0; number = read.2; items = t; more = read.1; begins = read.3 })

each_front : (P : CheckpointText → Type 0) (xs ys : List CheckpointText) → Each P (xs ++ ys) → Each P xs
each_front P [] ys all = tt
each_front P (x ∷ xs) ys all = (all.0, each_front P xs ys all.1)

each_back : (P : CheckpointText → Type 0) (xs ys : List CheckpointText) → Each P (xs ++ ys) → Each P ys
each_back P [] ys all = all
each_back P (x ∷ xs) ys all = each_back P xs ys all.1

-- two parts are read as one
joined : (newer older log : List CheckpointText) (front behind rest more : List (List Entry)) → log ≡ newer ++ older → front ≡ map entries_of (reverse older) ++ rest → rest ≡ [] → behind ≡ map entries_of (reverse newer) ++ more
    → front ++ behind ≡ map entries_of (reverse log) ++ more
joined newer older log front behind rest more is one none two =
    let olds : List (List Entry) = map entries_of (reverse older) in
    let news : List (List Entry) = map entries_of (reverse newer) in
    let log_parts : map entries_of (reverse log) ≡ olds ++ news =
    ap (λ ws. map entries_of (reverse ws)) is ∙ ap (map entries_of) (reverse-append newer older) ∙ map-append entries_of (reverse older) (reverse newer) in
    ap (λ xs. xs ++ behind) (one ∙ ap (λ xs. olds ++ xs) none ∙ append-nil olds) ∙ ap (λ xs. olds ++ xs) two ∙ sym (append_assoc olds news more) ∙ ap (λ xs. xs ++ more) (sym log_parts)

parts_read_back : (s : Lone) (d : Disks) (home : Image) → IsCrashed s d home → PartsReadBackOrForged s d home
parts_read_back s d home crashed newer older is first second junk tail f g front behind one two =
    let all : Each (IsWellFormed d.form) (newer ++ older) = subst (Each (IsWellFormed d.form)) is crashed.invariant.proper.texts in
    let old = read_on f d.form first (seal_of first) (reverse older) junk front (each_reverse (IsWellFormed d.form) older (each_back (IsWellFormed d.form) newer older all)) one in
    let new = read_on g d.form second (seal_of second) (reverse newer) tail behind (each_reverse (IsWellFormed d.form) newer (each_front (IsWellFormed d.form) newer older all)) two in
    elim (nothing_or f first (seal_behind d.form first older) junk old.rest old.read) [
      | inr forged ↦ inr forged
      | inl none ↦
          let parts : front ++ behind ≡ map entries_of (reverse d.log) ++ new.rest = joined newer older d.log front behind old.rest new.rest is old.parts none new.parts in
          inl (
            landed_first s d (front ++ behind) new.rest crashed.invariant parts,
            elim (found_or s d second (seal_behind d.form second newer) tail g (front ++ behind) new.rest crashed.invariant parts new.read) [
              | inl found ↦ inl (read_back s d home g (said_size d.form) (front ++ behind) new.rest crashed found (λ some. refl))
              | inr forged ↦ inr forged
            ],
          )
    ]

-- ---- two files
-- what is read of two files that are linked, and then what stands behind the newer one; or a text stands behind the older one
abbrev OnNewer : Option ℕ → Form → List CheckpointText → SealedFile → SealedFile → List (List Entry) → Type 0
OnNewer size form log older newer texts = IsReadOn size form (reverse log) (head_bytes newer.header) (file_seal form newer) newer.tail texts ⊎ HasSealed (head_bytes older.header) (file_seal form older) older.tail

both_on : (size : Option ℕ) (form : Form) (log : List CheckpointText) (older newer : SealedFile) (front behind texts : List (List Entry)) → log ≡ newer.texts ++ older.texts → texts ≡ front ++ behind
    → IsReadOn size form (reverse older.texts) (head_bytes older.header) (file_seal form older) older.tail front → IsReadOn size form (reverse newer.texts) (head_bytes newer.header) (file_seal form newer) newer.tail behind
    → OnNewer size form log older newer texts
both_on size form log older newer front behind texts is parts on more = elim (nothing_or size (head_bytes older.header) (file_seal form older) older.tail on.rest on.read) [
  | inr junk ↦ inr junk
  | inl none ↦
      inl (record {
        rest = more.rest;
        parts = parts ∙ joined newer.texts older.texts log front behind on.rest more.rest is on.parts none more.parts;
        said = λ some. elim (cases_Bool (nat_le 1 (length (reverse older.texts)))) [
          | inl old ↦ on.said (leb-true 1 (length (reverse older.texts)) old)
          | inr bare ↦
              more.said (omega (
                arith,
                some,
                leb-false 1 (length (reverse older.texts)) bare,
                ap (λ (ws : List CheckpointText). length ws) is,
                length-append newer.texts older.texts,
                length-reverse log,
                length-reverse newer.texts,
                length-reverse older.texts,
              ))
        ];
        read = more.read;
      })
]

linked_on : (size : Option ℕ) (form : Form) (log : List CheckpointText) (older newer : SealedFile) (texts : List (List Entry)) → log ≡ newer.texts ++ older.texts → newer.header.generation ≡ older.header.generation + 1
    → Each (IsWellFormed form) log → ReadsFiles size (file_bytes form older) (file_bytes form newer) texts → OnNewer size form log older newer texts
linked_on size form log older newer texts is follows all read = by_case read
  where
    both : Each (IsWellFormed form) (newer.texts ++ older.texts)
    both = subst (Each (IsWellFormed form)) is all

    old : Each (IsWellFormed form) older.texts
    old = each_back (IsWellFormed form) newer.texts older.texts both

    new : Each (IsWellFormed form) newer.texts
    new = each_front (IsWellFormed form) newer.texts older.texts both

    by_case : ReadsFiles size (file_bytes form older) (file_bytes form newer) texts → OnNewer size form log older newer texts
    by_case (inl (inl goes)) =
        both_on size form log older newer goes.front goes.behind texts is goes.parts ((file_on size form older goes.header goes.front goes.link old goes.first).1) ((file_on size form newer goes.next goes.behind goes.last new goes.second).1)
    by_case (inl (inr goes)) =
        absurd (omega (arith, follows, goes.generation, (file_on size form newer goes.header goes.front goes.link new goes.first).0, (file_on size form older goes.next goes.behind goes.last old goes.second).0))
    by_case (inr (inl (inl one))) =
        let none = file_short form newer one.none in
        both_on size form log older newer texts [] texts is (sym (append-nil texts)) ((file_on size form older one.header texts one.last old one.file).1)
        (nothing_on size form newer.texts (head_bytes newer.header) (file_seal form newer) newer.tail [] none.0 none.1 refl)
    by_case (inr (inl (inr one))) =
        let none = file_short form older one.none in
        both_on size form log older newer [] texts texts is refl (nothing_on size form older.texts (head_bytes older.header) (file_seal form older) older.tail [] none.0 none.1 refl)
        ((file_on size form newer one.header texts one.last new one.file).1)
    by_case (inr (inr neither)) =
        let none = file_short form older neither.0 in
        let none_too = file_short form newer neither.1 in
        both_on size form log older newer [] [] texts is neither.2 (nothing_on size form older.texts (head_bytes older.header) (file_seal form older) older.tail [] none.0 none.1 refl)
        (nothing_on size form newer.texts (head_bytes newer.header) (file_seal form newer) newer.tail [] none_too.0 none_too.1 refl)

-- one file that has all texts, beside one that has none
alone_on : (size : Option ℕ) (form : Form) (one : SealedFile) (other : List ℕ) (texts : List (List Entry)) → HasNoText other → Each (IsWellFormed form) one.texts → ReadsFiles size (file_bytes form one) other texts
    → IsReadOn size form (reverse one.texts) (head_bytes one.header) (file_seal form one) one.tail texts
alone_on size form one other texts short all read = by_case read
  where
    by_case : ReadsFiles size (file_bytes form one) other texts → IsReadOn size form (reverse one.texts) (head_bytes one.header) (file_seal form one) one.tail texts
    by_case (inl (inl goes)) =
        subst (IsReadOn size form (reverse one.texts) (head_bytes one.header) (file_seal form one) one.tail)
        (sym (goes.parts ∙ ap (λ xs. goes.front ++ xs) (read_short size other goes.next goes.behind goes.last goes.second short) ∙ append-nil goes.front)) ((file_on size form one goes.header goes.front goes.link all goes.first).1)
    by_case (inl (inr goes)) =
        subst (IsReadOn size form (reverse one.texts) (head_bytes one.header) (file_seal form one) one.tail) (sym (goes.parts ∙ ap (λ xs. xs ++ goes.behind) (read_short size other goes.header goes.front goes.link goes.first short)))
        ((file_on size form one goes.next goes.behind goes.last all goes.second).1)
    by_case (inr (inl (inl whole))) = (file_on size form one whole.header texts whole.last all whole.file).1
    by_case (inr (inl (inr whole))) =
        let none = file_short form one whole.none in
        nothing_on size form one.texts (head_bytes one.header) (file_seal form one) one.tail texts none.0 none.1 (read_short size other whole.header texts whole.last whole.file short)
    by_case (inr (inr neither)) =
        let none = file_short form one neither.0 in
        nothing_on size form one.texts (head_bytes one.header) (file_seal form one) one.tail texts none.0 none.1 neither.2

-- two files that have no text
neither_on : (size : Option ℕ) (one other : List ℕ) (texts : List (List Entry)) → HasNoText one → HasNoText other → ReadsFiles size one other texts → texts ≡ []
neither_on size one other texts short short_too (inl (inl goes)) =
    goes.parts ∙ ap (λ xs. xs ++ goes.behind) (read_short size one goes.header goes.front goes.link goes.first short) ∙ read_short size other goes.next goes.behind goes.last goes.second short_too
neither_on size one other texts short short_too (inl (inr goes)) =
    goes.parts ∙ ap (λ xs. xs ++ goes.behind) (read_short size other goes.header goes.front goes.link goes.first short_too) ∙ read_short size one goes.next goes.behind goes.last goes.second short
neither_on size one other texts short short_too (inr (inl (inl whole))) = read_short size one whole.header texts whole.last whole.file short
neither_on size one other texts short short_too (inr (inl (inr whole))) = read_short size other whole.header texts whole.last whole.file short_too
neither_on size one other texts short short_too (inr (inr neither)) = neither.2

-- ---- the laws
-- what stands behind the last seal of two files
abbrev end_of : (d : Disks) → FilesLeft d → List ℕ × List ℕ × List ℕ
end_of d (FilesLeft.linked older newer log generation link) = (head_bytes newer.header, file_seal d.form newer, newer.tail)
end_of d (FilesLeft.alone one other log none) = (head_bytes one.header, file_seal d.form one, one.tail)
end_of d (FilesLeft.neither one other log none none_too) = ([], [], [])

-- all that landed is read, and then that; or a text stands behind the older file
abbrev OnFiles : (d : Disks) → FilesLeft d → Option ℕ → List (List Entry) → Type 0
OnFiles d files size texts = IsReadOn size d.form (reverse d.log) ((end_of d files).0) ((end_of d files).1) ((end_of d files).2) texts ⊎ IsForgedInOlder d files

files_on : (s : Lone) (d : Disks) (home : Image) (files : FilesLeft d) (size : Option ℕ) (texts : List (List Entry)) → IsCrashed s d home → ReadsFiles size ((files_of d files).0) ((files_of d files).1) texts → OnFiles d files size texts
files_on s d home (FilesLeft.linked older newer log generation link) size texts crashed read = linked_on size d.form d.log older newer texts log generation crashed.invariant.proper.texts read
files_on s d home (FilesLeft.alone one other log none) size texts crashed read =
    let all : Each (IsWellFormed d.form) one.texts = subst (Each (IsWellFormed d.form)) (sym log) crashed.invariant.proper.texts in
    inl (subst (λ ws. IsReadOn size d.form (reverse ws) (head_bytes one.header) (file_seal d.form one) one.tail texts) log (alone_on size d.form one other texts none all read))
files_on s d home (FilesLeft.neither one other log none none_too) size texts crashed read =
    inl (nothing_on size d.form d.log [] [] [] texts log refl (neither_on size one other texts none none_too read))

-- so a text that is forged there is forged in the files
forged_newer : (s : Lone) (d : Disks) (home : Image) (files : FilesLeft d) → IsCrashed s d home → IsForged s d ((end_of d files).0) ((end_of d files).1) ((end_of d files).2) → IsForgedInNewer s d files
forged_newer s d home (FilesLeft.linked older newer log generation link) crashed forged = forged
forged_newer s d home (FilesLeft.alone one other log none) crashed forged = forged
forged_newer s d home (FilesLeft.neither one other log none none_too) crashed forged = appended_none s d crashed.invariant [] [] [] (inl refl) forged

files_read_back : (s : Lone) (d : Disks) (home : Image) → IsCrashed s d home → FilesReadBackOrForged s d home
files_read_back s d home crashed files size texts read = elim (files_on s d home files size texts crashed read) [
  | inr forged ↦ inr forged
  | inl on ↦
      let back = read_back_or s d home ((end_of d files).0) ((end_of d files).1) ((end_of d files).2) size texts crashed on in
      inl (
        back.0,
        elim back.1 [
          | inl same ↦ inl same
          | inr forged ↦ inr (forged_newer s d home files crashed forged)
        ],
      )
]

-- there is a way to read them
abbrev AreRead : (d : Disks) → FilesLeft d → Type 0
AreRead d files = (texts : List (List Entry)) × ReadsFiles (said_size d.form) ((files_of d files).0) ((files_of d files).1) texts

-- a file whose last bytes can be read
file_read : (s : Lone) (d : Disks) (f : SealedFile) → SlotInvariant d s → Each (IsWellFormed d.form) f.texts → (IsForged s d (head_bytes f.header) (file_seal d.form f) f.tail → ⊥)
    → (texts : List (List Entry)) × (last : List ℕ) × ReadsFile (said_size d.form) (file_bytes d.form f) f.header texts last
file_read s d f h all unforged =
    let behind = read_tail s d (head_bytes f.header) (file_seal d.form f) f.tail h unforged in
    let up_to = reads_up_to (said_size d.form) (head_bytes f.header) (file_seal d.form f) f.tail behind.0 behind.1 in
    (map entries_of (reverse f.texts) ++ behind.0, up_to.0, file_reads d.form f behind.0 up_to.0 all up_to.1)

files_read : (s : Lone) (d : Disks) (files : FilesLeft d) → SlotInvariant d s → (IsForgedInNewer s d files → ⊥) → (IsForgedInOlder d files → ⊥) → AreRead d files
files_read s d (FilesLeft.linked older newer log generation link) h unforged bare =
    let both : Each (IsWellFormed d.form) (newer.texts ++ older.texts) = subst (Each (IsWellFormed d.form)) log h.proper.texts in
    let second = file_read s d newer h (each_front (IsWellFormed d.form) newer.texts older.texts both) unforged in
    let front : List (List Entry) = map entries_of (reverse older.texts) ++ [] in
    let first : ReadsFile (said_size d.form) (file_bytes d.form older) older.header front (file_seal d.form older) =
    file_reads d.form older [] (file_seal d.form older) (each_back (IsWellFormed d.form) newer.texts older.texts both)
    (refl, λ size text more number items begins. bare (record { size = size; text = text; number = number; items = items; more = more; begins = begins })) in (
      front ++ second.0,
      inl (inl (record {
        header = older.header;
        next = newer.header;
        front = front;
        behind = second.0;
        link = file_seal d.form older;
        last = second.1;
        first = first;
        second = second.2;
        generation = omega (arith, generation);
        linked = link;
        parts = refl;
      })),
    )
files_read s d (FilesLeft.alone one other log none) h unforged bare =
    let file = file_read s d one h (subst (Each (IsWellFormed d.form)) (sym log) h.proper.texts) unforged in
    (file.0, inr (inl (inl (record { header = one.header; last = file.1; file = file.2; none = none }))))
files_read s d (FilesLeft.neither one other log none none_too) h unforged bare = ([], inr (inr (none, none_too, refl)))

files_recover : (s : Lone) (d : Disks) (home : Image) → IsCrashed s d home → FilesRecoverUnlessForged s d home
files_recover s d home crashed files unforged bare =
    let way = files_read s d files crashed.invariant unforged bare in
    record {
      texts = way.0;
      read = way.1;
      only = λ size others read. (
        elim (files_on s d home files (said_size d.form) way.0 crashed way.1) [
          | inr forged ↦ absurd (bare forged)
          | inl one ↦ elim (files_on s d home files size others crashed read) [
            | inr forged ↦ absurd (bare forged)
            | inl two ↦ same_on (said_size d.form) size d.form (reverse d.log) ((end_of d files).0) ((end_of d files).1) ((end_of d files).2) way.0 others one two
          ]
        ],
        elim (files_read_back s d home crashed files size others read) [
          | inr forged ↦ absurd (bare forged)
          | inl back ↦ elim back.1 [
            | inl same ↦ same
            | inr forged ↦ absurd (unforged forged)
          ]
        ],
      );
    }

pub recovers_sealed_parts : AtEveryCrash PartsReadBackOrForged
recovers_sealed_parts = at_every_crash PartsReadBackOrForged parts_read_back

pub recovers_files_or_forged : AtEveryCrash FilesReadBackOrForged
recovers_files_or_forged = at_every_crash FilesReadBackOrForged files_read_back

pub recovers_sealed_files : AtEveryCrash FilesRecoverUnlessForged
recovers_sealed_files = at_every_crash FilesRecoverUnlessForged files_recover
