-- The promise over a sealed log in two files, which are written by turns.
use Rattle.std.specs.Prelude.{List, Option, [], length, ℕ, ◌+◌, ◌++◌, ◌<◌, ◌≡◌, ◌≤◌, ◌⊎◌}
use Rattle.xt_base.specs.Form.{Form}
use Rattle.xt_base.specs.State.{Lone}
use Rattle.xt_ckpt.specs.Grammar.{Entry}
use Rattle.xt_recover.specs.SealedPromise.{HasSealed, IsForged, IsReadBack, ReadsLanded, ReadsUpTo, seal_behind, sealed_log}
use Rattle.xt_recover.specs.Sizes.{said_size}
use Rattle.xt_recovery.specs.Disks.{Disks}
use Rattle.xt_recovery.specs.Log.{CheckpointText, Image}
use Rattle.xt_seal.specs.Headers.{IsHeader, head_bytes, header_bytes}
use Rattle.xt_seal.specs.Seal.{ReadsSealed, seal_of}
use Rattle.xt_seal.specs.declared.header.Header.{Header}
use Rattle.xt_seal.specs.declared.header.TheConstants.{HEADER_BYTES}

-- ---- what is read of two files
-- a file begins with this header, and behind it is read as these texts, up to this seal
pub record ReadsFile (size : Option ℕ) (bytes : List ℕ) (h : Header) (texts : List (List Entry)) (last : List ℕ) : Type 0 where
  pub fits : IsHeader h
  pub more : List ℕ
  pub parts : bytes ≡ header_bytes h ++ more
  pub read : ReadsUpTo size (head_bytes h) (seal_of (head_bytes h)) more texts last

-- the second file goes on where the first ends: its generation is a later one, and its link is the seal up to which the first is read
pub record GoesOn (size : Option ℕ) (older newer : List ℕ) (texts : List (List Entry)) : Type 0 where
  pub header : Header
  pub next : Header
  pub front : List (List Entry)
  pub behind : List (List Entry)
  pub link : List ℕ
  pub last : List ℕ
  pub first : ReadsFile size older header front link
  pub second : ReadsFile size newer next behind last
  pub generation : header.generation < next.generation
  pub linked : next.link ≡ link
  pub parts : texts ≡ front ++ behind

-- a file that has no text: at most as many bytes as a header has, whatever they are
abbrev pub HasNoText : List ℕ → Type 0
HasNoText bytes = length bytes ≤ HEADER_BYTES

-- one file is read, and the other has no text
pub record ReadsOne (size : Option ℕ) (one other : List ℕ) (texts : List (List Entry)) : Type 0 where
  pub header : Header
  pub last : List ℕ
  pub file : ReadsFile size one header texts last
  pub none : HasNoText other

-- two files of a volume are read as these texts: one goes on where the other ends, whichever is which; or one of them has no text; or neither has
abbrev pub ReadsFiles : Option ℕ → List ℕ → List ℕ → List (List Entry) → Type 0
ReadsFiles size one other texts =
    (GoesOn size one other texts ⊎ GoesOn size other one texts) ⊎ ((ReadsOne size one other texts ⊎ ReadsOne size other one texts) ⊎ (HasNoText one × HasNoText other × (texts ≡ [])))

-- ---- what a crash may leave of them
-- a file of a sealed log: its header, the texts behind that, the newest first, and any bytes behind those
pub record SealedFile : Type 0 where
  pub header : Header
  pub fits : IsHeader header
  pub texts : List CheckpointText
  pub tail : List ℕ

-- its bytes; each text has its seal
abbrev pub file_bytes : Form → SealedFile → List ℕ
file_bytes form f = header_bytes f.header ++ (sealed_log form (head_bytes f.header) f.texts ++ f.tail)

-- the seal behind its texts
abbrev pub file_seal : Form → SealedFile → List ℕ
file_seal form f = seal_behind form (head_bytes f.header) f.texts

-- two files that are written by turns, with the texts that landed
pub data FilesLeft (d : Disks) : Type 0 where
  -- the newer one goes on where the older one ends
  linked : (older newer : SealedFile) → d.log ≡ newer.texts ++ older.texts → newer.header.generation ≡ older.header.generation + 1 → newer.header.link ≡ file_seal d.form older → FilesLeft d
  -- one has all texts; the other has none, before the first turn, and within one until its header is synced
  alone : (one : SealedFile) (other : List ℕ) → one.texts ≡ d.log → HasNoText other → FilesLeft d
  -- no header is synced yet
  neither : (one other : List ℕ) → d.log ≡ [] → HasNoText one → HasNoText other → FilesLeft d

-- the two files
abbrev pub files_of : (d : Disks) → FilesLeft d → List ℕ × List ℕ
files_of d (FilesLeft.linked older newer log generation link) = (file_bytes d.form older, file_bytes d.form newer)
files_of d (FilesLeft.alone one other log none) = (file_bytes d.form one, other)
files_of d (FilesLeft.neither one other log none none_too) = (one, other)

-- a text is forged behind the newest one that was synced
abbrev pub IsForgedInNewer : Lone → (d : Disks) → FilesLeft d → Type 0
IsForgedInNewer s d (FilesLeft.linked older newer log generation link) = IsForged s d (head_bytes newer.header) (file_seal d.form newer) newer.tail
IsForgedInNewer s d (FilesLeft.alone one other log none) = IsForged s d (head_bytes one.header) (file_seal d.form one) one.tail
IsForgedInNewer s d (FilesLeft.neither one other log none none_too) = ⊥

-- a text with the due seal stands behind those of the older file, where none is being written
abbrev pub IsForgedInOlder : (d : Disks) → FilesLeft d → Type 0
IsForgedInOlder d (FilesLeft.linked older newer log generation link) = HasSealed (head_bytes older.header) (file_seal d.form older) older.tail
IsForgedInOlder d files = ⊥

-- ---- the laws
-- a log in two parts behind two headers, and any bytes behind either, however they are read: what landed is read, and what is read gives what was committed, or a text is forged behind
-- the newer part; or a text with the due seal stands behind the older one, where none is being written
abbrev pub PartsReadBackOrForged : Lone → Disks → Image → Type 0
PartsReadBackOrForged s d home = (newer older : List CheckpointText) → d.log ≡ newer ++ older → (older_head newer_head junk tail : List ℕ) (f g : Option ℕ) (front behind : List (List Entry))
    → ReadsSealed f older_head (seal_of older_head) (sealed_log d.form older_head older ++ junk) front → ReadsSealed g newer_head (seal_of newer_head) (sealed_log d.form newer_head newer ++ tail) behind
    → (ReadsLanded d (front ++ behind) × (IsReadBack s d home (said_size d.form) (front ++ behind) ⊎ IsForged s d newer_head (seal_behind d.form newer_head newer) tail))
    ⊎ HasSealed older_head (seal_behind d.form older_head older) junk

-- the same of two files that are read by their headers
abbrev pub FilesReadBackOrForged : Lone → Disks → Image → Type 0
FilesReadBackOrForged s d home = (files : FilesLeft d) (size : Option ℕ) (texts : List (List Entry)) → ReadsFiles size ((files_of d files).0) ((files_of d files).1) texts
    → (ReadsLanded d texts × (IsReadBack s d home size texts ⊎ IsForgedInNewer s d files)) ⊎ IsForgedInOlder d files

-- two files are read in one way, and that reads back what was committed
pub record IsRecoveredFiles (s : Lone) (d : Disks) (home : Image) (one other : List ℕ) : Type 0 where
  pub texts : List (List Entry)
  pub read : ReadsFiles (said_size d.form) one other texts
  pub only : (size : Option ℕ) (others : List (List Entry)) → ReadsFiles size one other others → (others ≡ texts) × IsReadBack s d home size others

-- two files in which no text is forged
abbrev pub FilesRecoverUnlessForged : Lone → Disks → Image → Type 0
FilesRecoverUnlessForged s d home = (files : FilesLeft d) → (IsForgedInNewer s d files → ⊥) → (IsForgedInOlder d files → ⊥) → IsRecoveredFiles s d home ((files_of d files).0) ((files_of d files).1)
