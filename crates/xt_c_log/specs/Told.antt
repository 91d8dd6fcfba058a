-- What exports return, and what they tell.
use Rattle.std.specs.Prelude.{IsSomeAnd, List, MatchBool, None, Option, Some, [], length, negsuc, pos, slice_get, unwrap_or, ℕ, ℤ, ◌++◌, ◌==◌, ◌≡◌, ◌⊎◌}
use Rattle.xt_c_log.specs.Logs.{Both, Bytes, Log, Says, fed_of, texts_of, turned_of}
use Rattle.xt_c_log.specs.Texts.{IsOf, IsOfFiles, Texts}
use Rattle.xt_c_log.specs.declared.words.LogWords.{LogWords}
use Rattle.xt_recover.specs.FilesGathering.{IsWhyLogFiles}
use Rattle.xt_recover.specs.Gathering.{IsWhyLog}
use Rattle.xt_recover.specs.Sizes.{block_size}
use Rattle.xt_recover.specs.Writing.{laid_over}
use Rattle.xt_recover.specs.declared.gather.LogFault.{LogFault}
use Rattle.xt_window.specs.declared.way.Which.{Which}

-- errnos of Linux, negative; `negsuc 11` is 12 below zero
abbrev pub no_memory : ℤ
no_memory = negsuc 11

abbrev pub busy : ℤ
busy = negsuc 15

abbrev pub no_device : ℤ
no_device = negsuc 18

abbrev pub invalid : ℤ
invalid = negsuc 21

-- the number of a file
abbrev pub number_of : Which → ℕ
number_of Which.One = 0
number_of Which.Other = 1

-- what texts say is told by these words: their counts, the blocks, the size of one, and which file is the older; a place stays as it was
abbrev pub IsTold : LogWords → LogWords → Which → Texts → Type 0
IsTold told before older t =
    told ≡ record before { texts = t.counts.texts; rest = t.counts.rest; blocks = length t.blocks; size = unwrap_or t.laid.size 0; older = number_of older }

-- the log was gathered, and what its texts say is told
abbrev pub IsOpen : List ℕ → LogWords → LogWords → Texts → Type 0
IsOpen log told before t = IsOf log t × IsTold told before Which.One t

-- the same of a log in two files
abbrev pub IsOpenFiles : List ℕ → List ℕ → LogWords → LogWords → Texts → Type 0
IsOpenFiles one other told before t = (older : Which) × IsOfFiles one other older t × IsTold told before older t

-- a byte of a file is told, and that is all that is
abbrev pub IsPlace : Which → ℕ → LogWords → LogWords → Type 0
IsPlace file at told before = told ≡ record before { at = at; file = number_of file }

-- a log was not gathered, by what is returned: 1 the field at the byte that is told breaks its rule; 2 the text that begins there says something
-- else of the size of a block than those before it; ENOMEM, and nothing is told. A byte, of the one file, is all that is told
abbrev pub IsRefused : List ℕ → ℤ → LogWords → LogWords → Type 0
IsRefused log status told before =
    ((status ≡ pos 1) × IsWhyLog log (LogFault.Broken told.at) × IsPlace Which.One told.at told before)
    ⊎ ((status ≡ pos 2) × IsWhyLog log (LogFault.Mixed told.at) × IsPlace Which.One told.at told before)
    ⊎ ((status ≡ no_memory) × (told ≡ before))

-- what is returned of a fault of two files, and told: 1 and 2 of a log without seals, which the first one has; 3 of a file whose texts end at the byte that is told;
-- 4 where they are no log; else ENOMEM, and nothing is told
abbrev pub IsFaultTold : LogFault → ℤ → LogWords → LogWords → Type 0
IsFaultTold (LogFault.Broken at) status told before = (status ≡ pos 1) × IsPlace Which.One at told before
IsFaultTold (LogFault.Mixed at) status told before = (status ≡ pos 2) × IsPlace Which.One at told before
IsFaultTold (LogFault.Rotten file at) status told before = (status ≡ pos 3) × IsPlace file at told before
IsFaultTold LogFault.Strange status told before = (status ≡ pos 4) × IsPlace Which.One 0 told before
IsFaultTold other status told before = (status ≡ no_memory) × (told ≡ before)

-- a log in two files was not gathered: why is returned and told
pub record IsRefusedFiles (one other : List ℕ) (status : ℤ) (told before : LogWords) : Type 0 where
  pub fault : LogFault
  pub why : IsWhyLogFiles one other fault
  pub tells : IsFaultTold fault status told before

-- a log was gathered: 0, and what its texts say is held; or it was not, and what is held is as it was
abbrev pub IsGathering : List ℕ → ℤ → LogWords → LogWords → Option Log → Option Log → Type 0
IsGathering log status told before new old = ((status ≡ pos 0) × IsSomeAnd (texts_of new) (IsOpen log told before)) ⊎ (IsRefused log status told before × (new ≡ old))

-- the same of a log in two files
abbrev pub IsGatheringFiles : List ℕ → List ℕ → ℤ → LogWords → LogWords → Option Log → Option Log → Type 0
IsGatheringFiles one other status told before new old =
    ((status ≡ pos 0) × IsSomeAnd (texts_of new) (IsOpenFiles one other told before)) ⊎ (IsRefusedFiles one other status told before × (new ≡ old))

-- an open of a handle that holds something is EBUSY, it is as it was, and nothing is told; of one that holds nothing, the log is gathered
abbrev pub IsOpened : ℤ → List ℕ → LogWords → LogWords → Option Log → Option Log → Type 0
IsOpened status log told before new (Some old) = (status ≡ busy) × (told ≡ before) × (new ≡ Some old)
IsOpened status log told before new None = IsGathering log status told before new None

-- the same of a log in two files
abbrev pub IsOpenedFiles : ℤ → List ℕ → List ℕ → LogWords → LogWords → Option Log → Option Log → Type 0
IsOpenedFiles status one other told before new (Some old) = (status ≡ busy) × (told ≡ before) × (new ≡ Some old)
IsOpenedFiles status one other told before new None = IsGatheringFiles one other status told before new None

-- this log is held then; or ENOMEM, and what is held is as it was. Where there is none it is EBUSY, and it is as it was
abbrev pub IsTaken : Option Log → ℤ → Option Log → Option Log → Type 0
IsTaken None status new old = (status ≡ busy) × (new ≡ old)
IsTaken (Some log) status new old = ((status ≡ pos 0) × (new ≡ Some log)) ⊎ ((status ≡ no_memory) × (new ≡ old))

-- a piece stands behind the bytes that came, unless the texts were read
abbrev pub IsFed : List ℕ → ℤ → Option Log → Option Log → Type 0
IsFed piece status new old = IsTaken (fed_of piece old) status new old

-- the other file comes next, unless it came or the texts were read
abbrev pub IsTurned : ℤ → Option Log → Option Log → Type 0
IsTurned status new old = IsTaken (turned_of old) status new old

-- a piece stands behind bytes; or ENOMEM, and they are as they were
abbrev pub IsAdded : List ℕ → ℤ → List ℕ → List ℕ → Type 0
IsAdded piece status new old = ((status ≡ pos 0) × (new ≡ old ++ piece)) ⊎ ((status ≡ no_memory) × (new ≡ old))

-- the bytes that came are gathered as a log, of one file or of two. Where the texts were read it is EBUSY, what is held is as it was, and nothing is told
abbrev pub IsEnded : Option Log → ℤ → LogWords → LogWords → Option Log → Type 0
IsEnded None status told before new = IsGathering [] status told before new None
IsEnded (Some (Bytes bytes)) status told before new = IsGathering bytes status told before new (Some (Bytes bytes))
IsEnded (Some (Both one other)) status told before new = IsGatheringFiles one other status told before new (Some (Both one other))
IsEnded (Some (Says texts)) status told before new = (status ≡ busy) × (told ≡ before) × (new ≡ Some (Says texts))

-- the block at a place
abbrev pub IsBlock : Option ℕ → ℤ → ℕ → ℕ → Type 0
IsBlock None status new old = (status ≡ invalid) × (new ≡ old)
IsBlock (Some block) status new old = (status ≡ pos 0) × (new ≡ block)

-- the same of a handle
abbrev pub IsBlockOf : ℕ → Option Texts → ℤ → ℕ → ℕ → Type 0
IsBlockOf index None status new old = (status ≡ no_device) × (new ≡ old)
IsBlockOf index (Some t) status new old = IsBlock (slice_get t.blocks index) status new old

-- what the texts say of a block is laid over the bytes that the home device has of it, which are as many as a block has by the texts
abbrev pub IsLaid : ℕ → Option Texts → ℤ → List ℕ → List ℕ → Type 0
IsLaid block None status new old = (status ≡ no_device) × (new ≡ old)
IsLaid block (Some t) status new old = MatchBool (length old == block_size t.laid.size) ((status ≡ pos 0) × (new ≡ laid_over t.laid block old)) ((status ≡ invalid) × (new ≡ old))
