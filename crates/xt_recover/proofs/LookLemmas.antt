-- Two files that are looked at, and gathered in one way.
use Rattle.std.proofs.Common.{◌≡◌, ◌∙◌, ◌≤◌, ◌⊎◌, Err, List, None, Ok, Option, Result, Some, [], ap, arith, drop, inl, inr, length, refl, subst, sym, true, ℕ}
use Rattle.std.specs.Prelude.{IfSome, OnOk, unwrap_or}
use Rattle.xt_ckpt.specs.Grammar.{Entry}
use Rattle.xt_recover.proofs.FilesLemmas.{nothing_yet, read_grammar, read_log}
use Rattle.xt_recover.proofs.ImageLemmas.{AreLaid}
use Rattle.xt_recover.specs.FilesGathering.{AreGathered, AreLookedAt, ArePlaced, IfBoth, IsBegun, IsForeign, IsGatheredAs, IsMet, IsOfWanted, IsOpened, IsOtherSize, IsPast, IsRottenAlone, IsRottenAt, IsRottenEnd, IsSaid, IsUnmet, IsWhyLinked, IsWhyLogFiles, IsWhyNewer}
use Rattle.xt_recover.specs.FilesRead.{AreLinked, EndsTorn, ReadsLog}
use Rattle.xt_recover.specs.Gathering.{IsGathered, IsWhyLog}
use Rattle.xt_recover.specs.Overlaid.{Overlaid, nothing}
use Rattle.xt_recover.specs.declared.files.Wanted.{Wanted}
use Rattle.xt_recover.specs.declared.gather.LogCounts.{LogCounts}
use Rattle.xt_recover.specs.declared.gather.LogFault.{LogFault}
use Rattle.xt_recover.specs.declared.gather_files.Source.{Source}
use Rattle.xt_seal.specs.declared.header.Header.{Header}
use Rattle.xt_window.proofs.StartLemmas.{header_room}
use Rattle.xt_window.proofs.WayLemmas.{bare_no_header, one_header}
use Rattle.xt_window.specs.Start.{BeginsHeader, IsStartOf, begins_bare, past}
use Rattle.xt_window.specs.Ways.{HasBegun, HasNoBegin, IsNextHeader, IsWay, newest_of, older_of}
use Rattle.xt_window.specs.Window.{Held}
use Rattle.xt_window.specs.declared.start.Start.{Start}
use Rattle.xt_window.specs.declared.way.Begun.{Begun}
use Rattle.xt_window.specs.declared.way.Way.{Way}
use Rattle.xt_window.specs.declared.way.Which.{Which}

-- ---- two logs that are known, or not
pub both_then : (x y : Option (List ℕ)) (Q P : List ℕ → List ℕ → Type 0) → IfBoth x y Q → ((a b : List ℕ) → Q a b → P a b) → IfBoth x y P
both_then None y Q P h f = tt
both_then (Some a) None Q P h f = tt
both_then (Some a) (Some b) Q P h f = f a b h

pub on_ok_then : {A E : Type 0} (r : Result A E) (Q P : Type 0) → OnOk r Q → (Q → P) → OnOk r P
on_ok_then (Ok x) Q P h f = f h
on_ok_then (Err e) Q P h f = tt

-- how they begin is known then
pub both_started : (x y : Option (List ℕ)) (s t : Start) (w v : Held) (left beside : Option (List ℕ)) (P : List ℕ → List ℕ → Type 0) → IfSome x (λ a. IsOpened a s w left) → IfSome y (λ b. IsOpened b t v beside)
    → ((a b : List ℕ) → IsStartOf a s → IsStartOf b t → P a b) → IfBoth x y P
both_started None y s t w v left beside P one two f = tt
both_started (Some a) None s t w v left beside P one two f = tt
both_started (Some a) (Some b) s t w v left beside P one two f = f a b one.is two.is

-- ---- where their windows stand
past_begun : (a more : List ℕ) (h : Header) (s : Start) → IsStartOf a s → BeginsHeader a h more → past s ≡ 64
past_begun a more h (Start.Sealed g sums) is begins = refl
past_begun a more h (Start.Other seen) is begins = absurd (is.none h more begins)

past_bare : (a : List ℕ) (s : Start) → IsStartOf a s → begins_bare a ≡ true → past s ≡ 0
past_bare a (Start.Sealed g sums) is word = absurd (bare_no_header a (drop 64 a) g word is.0)
past_bare a (Start.Other seen) is word = refl

opened_past : (n : ℕ) (a : List ℕ) (s : Start) (w : Held) (left : Option (List ℕ)) → IsOpened a s w left → past s ≡ n → IsPast n a w left
opened_past n a s w left o is = subst (λ m. IsPast m a w left) is o.past

begun_past : (a : List ℕ) (b : Begun) (s : Start) (w : Held) (left : Option (List ℕ)) → IsOpened a s w left → HasBegun a b → IsPast 64 a w left
begun_past a b s w left o begun = opened_past 64 a s w left o (past_begun a (drop 64 a) b.header s o.is begun.begins)

placed : (way : Way) (a b : List ℕ) (s t : Start) (w v : Held) (left beside : Option (List ℕ)) → IsWay a b (Some way) → IsOpened a s w left → IsOpened b t v beside → ArePlaced way a b w v left beside
placed Way.Bare a b s t w v left beside is one two = opened_past 0 a s w left one (past_bare a s one.is is.word)
placed (Way.Linked Which.One h n) a b s t w v left beside is one two = (begun_past a h s w left one is.0, begun_past b n t v beside two is.1)
placed (Way.Linked Which.Other h n) a b s t w v left beside is one two = (begun_past a n s w left one is.1, begun_past b h t v beside two is.0)
placed (Way.Alone Which.One h) a b s t w v left beside is one two = begun_past b h t v beside two is.1
placed (Way.Alone Which.Other h) a b s t w v left beside is one two = begun_past a h s w left one is.0
placed Way.Nothing a b s t w v left beside is one two = tt

pub both_looked : (x y : Option (List ℕ)) (s t : Start) (w v : Held) (left beside : Option (List ℕ)) (way : Way) (P : List ℕ → List ℕ → Type 0) → IfSome x (λ a. IsOpened a s w left) → IfSome y (λ b. IsOpened b t v beside)
    → ((a b : List ℕ) → IsStartOf a s → IsStartOf b t → IsWay a b (Some way)) → ((a b : List ℕ) → AreLookedAt way a b w v left beside → P a b) → IfBoth x y P
both_looked None y s t w v left beside way P one two found f = tt
both_looked (Some a) None s t w v left beside way P one two found f = tt
both_looked (Some a) (Some b) s t w v left beside way P one two found f =
    let is = found a b one.is two.is in
    f a b (record { is = is; placed = placed way a b s t w v left beside is one two })

-- ---- whose they are
some_same : {A : Type 0} (x y : A) → Some x ≡ Some y → x ≡ y
some_same x y is = ap (λ o. unwrap_or o x) is

none_some : {A B : Type 0} (x : A) → ◌≡◌ {A = Option A} None (Some x) → B
none_some x is = absurd (cc)

some_none : {A B : Type 0} (x : A) → ◌≡◌ {A = Option A} (Some x) None → B
some_none x is = absurd (cc)

met_as : (w : Wanted) (h g : Header) → h ≡ g → IsMet w g → IsMet w h
met_as w h g is met = subst (IsMet w) (sym is) met

said_as : (o : Option ℕ) (m n : ℕ) → m ≡ n → IsSaid o m → IsSaid o n
said_as o m n is said = subst (IsSaid o) is said

-- the older header says what the newer one says
met_older : (w : Wanted) (h next : Header) → IsNextHeader h next → IsMet w next → IsMet w h
met_older w h next follows met = record {
  name = met.name ∙ follows.name;
  block_size = said_as w.block_size next.block_size h.block_size follows.block_size met.block_size;
  log_bytes = said_as w.log_bytes next.log_bytes h.log_bytes follows.log_bytes met.log_bytes;
}

begun_met : (w : Wanted) (a more : List ℕ) (b : Begun) (h : Header) → HasBegun a b → IsMet w b.header → BeginsHeader a h more → IsMet w h
begun_met w a more b h begun met begins = met_as w h b.header (one_header h b.header a more (drop 64 a) begins begun.begins) met

pub met_wanted : (way : Way) (found : Header) (w : Wanted) (a b : List ℕ) → newest_of way ≡ Some found → IsMet w found → IsWay a b (Some way) → IsOfWanted (Some w) a b
met_wanted Way.Bare found w a b newest met is h more begins = none_some found newest
met_wanted (Way.Linked Which.One f n) found w a b newest met is h more (inl begins) =
    begun_met w a more f h is.0 (met_older w f.header n.header is.2 (met_as w n.header found (some_same n.header found newest) met)) begins
met_wanted (Way.Linked Which.One f n) found w a b newest met is h more (inr begins) = begun_met w b more n h is.1 (met_as w n.header found (some_same n.header found newest) met) begins
met_wanted (Way.Linked Which.Other f n) found w a b newest met is h more (inl begins) = begun_met w a more n h is.1 (met_as w n.header found (some_same n.header found newest) met) begins
met_wanted (Way.Linked Which.Other f n) found w a b newest met is h more (inr begins) =
    begun_met w b more f h is.0 (met_older w f.header n.header is.2 (met_as w n.header found (some_same n.header found newest) met)) begins
met_wanted (Way.Alone Which.One n) found w a b newest met is h more (inl begins) = absurd (is.0.none h more begins)
met_wanted (Way.Alone Which.One n) found w a b newest met is h more (inr begins) = begun_met w b more n h is.1 (met_as w n.header found (some_same n.header found newest) met) begins
met_wanted (Way.Alone Which.Other n) found w a b newest met is h more (inl begins) = begun_met w a more n h is.0 (met_as w n.header found (some_same n.header found newest) met) begins
met_wanted (Way.Alone Which.Other n) found w a b newest met is h more (inr begins) = absurd (is.1.none h more begins)
met_wanted Way.Nothing found w a b newest met is h more begins = none_some found newest

no_headers : (way : Way) (a b : List ℕ) → newest_of way ≡ None → IsWay a b (Some way) → (h : Header) (more : List ℕ) → (BeginsHeader a h more ⊎ BeginsHeader b h more) → ⊥
no_headers Way.Bare a b newest is h more (inl begins) = bare_no_header a more h is.word begins
no_headers Way.Bare a b newest is h more (inr begins) = absurd (omega (arith, header_room b more h begins, ap (λ xs. length xs) is.none))
no_headers (Way.Linked older f n) a b newest is h more begins = some_none n.header newest
no_headers (Way.Alone older n) a b newest is h more begins = some_none n.header newest
no_headers Way.Nothing a b newest is h more (inl begins) = is.1.none h more begins
no_headers Way.Nothing a b newest is h more (inr begins) = is.2.none h more begins

pub none_wanted : (wanted : Option Wanted) (way : Way) (a b : List ℕ) → newest_of way ≡ None → IsWay a b (Some way) → IsOfWanted wanted a b
none_wanted None way a b newest is = tt
none_wanted (Some w) way a b newest is = λ h more begins. absurd (no_headers way a b newest is h more begins)

-- the newer header is one of theirs
foreign_found : (way : Way) (found : Header) (w : Wanted) (a b : List ℕ) → newest_of way ≡ Some found → (IsMet w found → ⊥) → IsWay a b (Some way) → IsForeign (record { found = found; wanted = w }) a b
foreign_found Way.Bare found w a b newest unmet is = none_some found newest
foreign_found (Way.Linked Which.One f n) found w a b newest unmet is =
    record { more = drop 64 b; begins = inr (subst (λ h. BeginsHeader b h (drop 64 b)) (some_same n.header found newest) is.1.begins); unmet = unmet }
foreign_found (Way.Linked Which.Other f n) found w a b newest unmet is =
    record { more = drop 64 a; begins = inl (subst (λ h. BeginsHeader a h (drop 64 a)) (some_same n.header found newest) is.1.begins); unmet = unmet }
foreign_found (Way.Alone Which.One n) found w a b newest unmet is =
    record { more = drop 64 b; begins = inr (subst (λ h. BeginsHeader b h (drop 64 b)) (some_same n.header found newest) is.1.begins); unmet = unmet }
foreign_found (Way.Alone Which.Other n) found w a b newest unmet is =
    record { more = drop 64 a; begins = inl (subst (λ h. BeginsHeader a h (drop 64 a)) (some_same n.header found newest) is.0.begins); unmet = unmet }
foreign_found Way.Nothing found w a b newest unmet is = none_some found newest

pub unmet_why : (way : Way) (found : Header) (w : Wanted) (fault : LogFault) (a b : List ℕ) → newest_of way ≡ Some found → IsUnmet w found fault → IsWay a b (Some way) → IsWhyLogFiles a b fault
unmet_why way found w (LogFault.Foreign whose) a b newest unmet is = subst (λ x. IsForeign x a b) (sym unmet.0) (foreign_found way found w a b newest unmet.1 is)
unmet_why way found w (LogFault.Broken at) a b newest unmet is = absurd unmet
unmet_why way found w (LogFault.Mixed at) a b newest unmet is = absurd unmet
unmet_why way found w (LogFault.Rotten which at) a b newest unmet is = absurd unmet
unmet_why way found w LogFault.Strange a b newest unmet is = absurd unmet
unmet_why way found w LogFault.Memory a b newest unmet is = absurd unmet
unmet_why way found w LogFault.Read a b newest unmet is = absurd unmet

-- ---- each way

pub bare_gathered : (way : Way) (a b : List ℕ) (w v : Held) (left beside : Option (List ℕ)) (counts : LogCounts) (l : Overlaid) → way ≡ Way.Bare → AreLookedAt way a b w v left beside
    → ((bytes : List ℕ) → IsPast 0 bytes w left → IsGathered bytes counts l) → AreGathered a b (older_of way) counts l
bare_gathered way a b w v left beside counts l is looked read =
    let at : AreLookedAt Way.Bare a b w v left beside = subst (λ x. AreLookedAt x a b w v left beside) is looked in
    let got = read a at.placed in
    subst (λ x. AreGathered a b (older_of x) counts l) (sym is) (record { texts = got.texts; read = inr (inl (record { bare = at.is; read = got.read; parts = got.parts })); count = got.count; laid = got.laid })

pub bare_why : (way : Way) (a b : List ℕ) (w v : Held) (left beside : Option (List ℕ)) (fault : LogFault) → way ≡ Way.Bare → AreLookedAt way a b w v left beside → ((bytes : List ℕ) → IsPast 0 bytes w left → IsWhyLog bytes fault) → IsWhyLogFiles a b fault
bare_why way a b w v left beside fault is looked why =
    let at : AreLookedAt Way.Bare a b w v left beside = subst (λ x. AreLookedAt x a b w v left beside) is looked in
    by_kind fault at (why a at.placed)
  where
    by_kind : (f : LogFault) → AreLookedAt Way.Bare a b w v left beside → IsWhyLog a f → IsWhyLogFiles a b f
    by_kind (LogFault.Broken place) at is_why = (at.is, is_why)
    by_kind (LogFault.Mixed place) at is_why = (at.is, is_why)
    by_kind (LogFault.Rotten which place) at is_why = absurd is_why
    by_kind LogFault.Strange at is_why = absurd is_why
    by_kind (LogFault.Foreign whose) at is_why = absurd is_why
    by_kind LogFault.Memory at is_why = tt
    by_kind LogFault.Read at is_why = tt

-- a fault of two files is one of a log
linked_one_why : (a b : List ℕ) (which beside : Which) (fault : LogFault) → which ≡ Which.One → beside ≡ Which.Other → IsWhyLinked a b which beside fault → IsWhyLogFiles a b fault
linked_one_why a b which beside (LogFault.Rotten file at) is is_too (inl why) = subst (λ x. IsRottenAt x at a b) (sym (why.0 ∙ is)) (inl why.1)
linked_one_why a b which beside (LogFault.Rotten file at) is is_too (inr why) = subst (λ x. IsRottenAt x at a b) (sym (why.0 ∙ is_too)) (inr (inl why.1))
linked_one_why a b which beside (LogFault.Broken at) is is_too why = absurd why
linked_one_why a b which beside (LogFault.Mixed at) is is_too why = absurd why
linked_one_why a b which beside LogFault.Strange is is_too why = absurd why
linked_one_why a b which beside (LogFault.Foreign whose) is is_too why = absurd why
linked_one_why a b which beside LogFault.Memory is is_too why = tt
linked_one_why a b which beside LogFault.Read is is_too why = tt

linked_other_why : (a b : List ℕ) (which beside : Which) (fault : LogFault) → which ≡ Which.Other → beside ≡ Which.One → IsWhyLinked b a which beside fault → IsWhyLogFiles a b fault
linked_other_why a b which beside (LogFault.Rotten file at) is is_too (inl why) = subst (λ x. IsRottenAt x at a b) (sym (why.0 ∙ is)) (inl why.1)
linked_other_why a b which beside (LogFault.Rotten file at) is is_too (inr why) = subst (λ x. IsRottenAt x at a b) (sym (why.0 ∙ is_too)) (inr (inl why.1))
linked_other_why a b which beside (LogFault.Broken at) is is_too why = absurd why
linked_other_why a b which beside (LogFault.Mixed at) is is_too why = absurd why
linked_other_why a b which beside LogFault.Strange is is_too why = absurd why
linked_other_why a b which beside (LogFault.Foreign whose) is is_too why = absurd why
linked_other_why a b which beside LogFault.Memory is is_too why = tt
linked_other_why a b which beside LogFault.Read is is_too why = tt

-- the sources of two files that are linked
pub record AreSources (first second : Begun) (older newer : Source) (w v : Held) (left beside : Option (List ℕ)) : Type 0 where
  pub header : older.header ≡ first.header
  pub header_too : newer.header ≡ second.header
  pub begun : (bytes : List ℕ) → HasBegun bytes first → IsPast 64 bytes w left → IsBegun bytes older left
  pub begun_too : (bytes : List ℕ) → HasBegun bytes second → IsPast 64 bytes v beside → IsBegun bytes newer beside

next_of : (first second : Begun) (older newer : Source) (w v : Held) (left beside : Option (List ℕ)) → AreSources first second older newer w v left beside → IsNextHeader first.header second.header → IsNextHeader older.header newer.header
next_of first second older newer w v left beside s is = subst (λ h. IsNextHeader h newer.header) (sym s.header) (subst (IsNextHeader first.header) (sym s.header_too) is)

pub linked_one : (way : Way) (which : Which) (first second : Begun) (a b : List ℕ) (older newer : Source) (w v : Held) (left beside : Option (List ℕ)) (counts : LogCounts) (l : Overlaid) → way ≡ Way.Linked which first second → which ≡ Which.One
    → AreSources first second older newer w v left beside → AreLookedAt way a b w v left beside
    → ((x y : List ℕ) → IsBegun x older left → IsBegun y newer beside → IsNextHeader older.header newer.header → IsGatheredAs (λ size texts rest. AreLinked size x y texts rest) counts l) → AreGathered a b (older_of way) counts l
linked_one way which first second a b older newer w v left beside counts l is one s looked read =
    let whole : way ≡ Way.Linked Which.One first second = is ∙ ap (λ x. Way.Linked x first second) one in
    let at : AreLookedAt (Way.Linked Which.One first second) a b w v left beside = subst (λ x. AreLookedAt x a b w v left beside) whole looked in
    let got = read a b (s.begun a at.is.0 at.placed.0) (s.begun_too b at.is.1 at.placed.1) (next_of first second older newer w v left beside s at.is.2) in
    subst (λ x. AreGathered a b (older_of x) counts l) (sym whole) (record { texts = got.texts; read = inl got.read; count = got.count; laid = got.laid })

pub why_linked_one : (way : Way) (which : Which) (first second : Begun) (a b : List ℕ) (older newer : Source) (w v : Held) (left beside : Option (List ℕ)) (fault : LogFault) → way ≡ Way.Linked which first second → which ≡ Which.One
    → AreSources first second older newer w v left beside → older.which ≡ Which.One → newer.which ≡ Which.Other → AreLookedAt way a b w v left beside
    → ((x y : List ℕ) → IsBegun x older left → IsBegun y newer beside → IsNextHeader older.header newer.header → IsWhyLinked x y older.which newer.which fault) → IsWhyLogFiles a b fault
why_linked_one way which first second a b older newer w v left beside fault is one s here there looked why =
    let whole : way ≡ Way.Linked Which.One first second = is ∙ ap (λ x. Way.Linked x first second) one in
    let at : AreLookedAt (Way.Linked Which.One first second) a b w v left beside = subst (λ x. AreLookedAt x a b w v left beside) whole looked in
    linked_one_why a b older.which newer.which fault here there (why a b (s.begun a at.is.0 at.placed.0) (s.begun_too b at.is.1 at.placed.1) (next_of first second older newer w v left beside s at.is.2))

pub linked_other : (way : Way) (which : Which) (first second : Begun) (a b : List ℕ) (older newer : Source) (w v : Held) (left beside : Option (List ℕ)) (counts : LogCounts) (l : Overlaid) → way ≡ Way.Linked which first second → which ≡ Which.Other
    → AreSources first second older newer v w beside left → AreLookedAt way a b w v left beside
    → ((x y : List ℕ) → IsBegun x older beside → IsBegun y newer left → IsNextHeader older.header newer.header → IsGatheredAs (λ size texts rest. AreLinked size x y texts rest) counts l) → AreGathered a b (older_of way) counts l
linked_other way which first second a b older newer w v left beside counts l is one s looked read =
    let whole : way ≡ Way.Linked Which.Other first second = is ∙ ap (λ x. Way.Linked x first second) one in
    let at : AreLookedAt (Way.Linked Which.Other first second) a b w v left beside = subst (λ x. AreLookedAt x a b w v left beside) whole looked in
    let got = read b a (s.begun b at.is.0 at.placed.1) (s.begun_too a at.is.1 at.placed.0) (next_of first second older newer v w beside left s at.is.2) in
    subst (λ x. AreGathered a b (older_of x) counts l) (sym whole) (record { texts = got.texts; read = inl (inl got.read); count = got.count; laid = got.laid })

pub why_linked_other : (way : Way) (which : Which) (first second : Begun) (a b : List ℕ) (older newer : Source) (w v : Held) (left beside : Option (List ℕ)) (fault : LogFault) → way ≡ Way.Linked which first second → which ≡ Which.Other
    → AreSources first second older newer v w beside left → older.which ≡ Which.Other → newer.which ≡ Which.One → AreLookedAt way a b w v left beside
    → ((x y : List ℕ) → IsBegun x older beside → IsBegun y newer left → IsNextHeader older.header newer.header → IsWhyLinked x y older.which newer.which fault) → IsWhyLogFiles a b fault
why_linked_other way which first second a b older newer w v left beside fault is one s here there looked why =
    let whole : way ≡ Way.Linked Which.Other first second = is ∙ ap (λ x. Way.Linked x first second) one in
    let at : AreLookedAt (Way.Linked Which.Other first second) a b w v left beside = subst (λ x. AreLookedAt x a b w v left beside) whole looked in
    linked_other_why a b older.which newer.which fault here there (why b a (s.begun b at.is.0 at.placed.1) (s.begun_too a at.is.1 at.placed.0) (next_of first second older newer v w beside left s at.is.2))

-- one file alone: what it has, beside one that has no text
rotten_alone : (bare one : List ℕ) (h : Header) (at : ℕ) → HasNoBegin bare → (((size : Option ℕ) × IsOtherSize size at one [] h × (1 ≤ length {A = List Entry} [] → size ≡ None)) ⊎ IsRottenEnd at one h) → IsRottenAlone at bare one
rotten_alone bare one h at none (inl other) = record { none = none; header = h; why = inl (other.0, other.1) }
rotten_alone bare one h at none (inr end) = record { none = none; header = h; why = inr end }

alone_why : (a b one bare : List ℕ) (which : Which) (h : Header) (fault : LogFault) → HasNoBegin bare → ((at : ℕ) → IsRottenAlone at bare one → IsRottenAt which at a b) → IsWhyNewer one [] None which h fault → IsWhyLogFiles a b fault
alone_why a b one bare which h (LogFault.Rotten file at) none tells why = subst (λ x. IsRottenAt x at a b) (sym why.0) (tells at (rotten_alone bare one h at none why.1))
alone_why a b one bare which h (LogFault.Broken at) none tells why = absurd why
alone_why a b one bare which h (LogFault.Mixed at) none tells why = absurd why
alone_why a b one bare which h LogFault.Strange none tells why = absurd why
alone_why a b one bare which h (LogFault.Foreign whose) none tells why = absurd why
alone_why a b one bare which h LogFault.Memory none tells why = tt
alone_why a b one bare which h LogFault.Read none tells why = tt

pub alone_one : (way : Way) (which : Which) (begun : Begun) (a b : List ℕ) (s : Source) (w v : Held) (left beside : Option (List ℕ)) (counts : LogCounts) (l : Overlaid) → way ≡ Way.Alone which begun → which ≡ Which.One
    → ((bytes : List ℕ) (o : Option (List ℕ)) → HasBegun bytes begun → IsPast 64 bytes v o → IsBegun bytes s o) → AreLookedAt way a b w v left beside
    → ((bytes : List ℕ) → IsBegun bytes s beside → IsGatheredAs (λ size texts rest. EndsTorn size bytes s.header texts rest) counts l) → AreGathered a b (older_of way) counts l
alone_one way which begun a b s w v left beside counts l is one starts looked read =
    let whole : way ≡ Way.Alone Which.One begun = is ∙ ap (λ x. Way.Alone x begun) one in
    let at : AreLookedAt (Way.Alone Which.One begun) a b w v left beside = subst (λ x. AreLookedAt x a b w v left beside) whole looked in
    let got = read b (starts b beside at.is.1 at.placed) in
    subst (λ x. AreGathered a b (older_of x) counts l) (sym whole) (record { texts = got.texts; read = inr (record { none = at.is.0; header = s.header; file = got.read }); count = got.count; laid = got.laid })

pub why_alone_one : (way : Way) (which : Which) (begun : Begun) (a b : List ℕ) (s : Source) (w v : Held) (left beside : Option (List ℕ)) (fault : LogFault) → way ≡ Way.Alone which begun → which ≡ Which.One
    → ((bytes : List ℕ) (o : Option (List ℕ)) → HasBegun bytes begun → IsPast 64 bytes v o → IsBegun bytes s o) → s.which ≡ Which.Other → AreLookedAt way a b w v left beside
    → ((bytes : List ℕ) → IsBegun bytes s beside → IsWhyNewer bytes [] None s.which s.header fault) → IsWhyLogFiles a b fault
why_alone_one way which begun a b s w v left beside fault is one starts here looked why =
    let whole : way ≡ Way.Alone Which.One begun = is ∙ ap (λ x. Way.Alone x begun) one in
    let at : AreLookedAt (Way.Alone Which.One begun) a b w v left beside = subst (λ x. AreLookedAt x a b w v left beside) whole looked in
    alone_why a b b a s.which s.header fault at.is.0 (λ place rotten. subst (λ x. IsRottenAt x place a b) (sym here) (inr (inr rotten))) (why b (starts b beside at.is.1 at.placed))

pub alone_other : (way : Way) (which : Which) (begun : Begun) (a b : List ℕ) (s : Source) (w v : Held) (left beside : Option (List ℕ)) (counts : LogCounts) (l : Overlaid) → way ≡ Way.Alone which begun → which ≡ Which.Other
    → ((bytes : List ℕ) (o : Option (List ℕ)) → HasBegun bytes begun → IsPast 64 bytes w o → IsBegun bytes s o) → AreLookedAt way a b w v left beside
    → ((bytes : List ℕ) → IsBegun bytes s left → IsGatheredAs (λ size texts rest. EndsTorn size bytes s.header texts rest) counts l) → AreGathered a b (older_of way) counts l
alone_other way which begun a b s w v left beside counts l is one starts looked read =
    let whole : way ≡ Way.Alone Which.Other begun = is ∙ ap (λ x. Way.Alone x begun) one in
    let at : AreLookedAt (Way.Alone Which.Other begun) a b w v left beside = subst (λ x. AreLookedAt x a b w v left beside) whole looked in
    let got = read a (starts a left at.is.0 at.placed) in
    subst (λ x. AreGathered a b (older_of x) counts l) (sym whole) (record { texts = got.texts; read = inl (inr (record { none = at.is.1; header = s.header; file = got.read })); count = got.count; laid = got.laid })

pub why_alone_other : (way : Way) (which : Which) (begun : Begun) (a b : List ℕ) (s : Source) (w v : Held) (left beside : Option (List ℕ)) (fault : LogFault) → way ≡ Way.Alone which begun → which ≡ Which.Other
    → ((bytes : List ℕ) (o : Option (List ℕ)) → HasBegun bytes begun → IsPast 64 bytes w o → IsBegun bytes s o) → s.which ≡ Which.One → AreLookedAt way a b w v left beside
    → ((bytes : List ℕ) → IsBegun bytes s left → IsWhyNewer bytes [] None s.which s.header fault) → IsWhyLogFiles a b fault
why_alone_other way which begun a b s w v left beside fault is one starts here looked why =
    let whole : way ≡ Way.Alone Which.Other begun = is ∙ ap (λ x. Way.Alone x begun) one in
    let at : AreLookedAt (Way.Alone Which.Other begun) a b w v left beside = subst (λ x. AreLookedAt x a b w v left beside) whole looked in
    alone_why a b a b s.which s.header fault at.is.1 (λ place rotten. subst (λ x. IsRottenAt x place a b) (sym here) (inr (inr rotten))) (why a (starts a left at.is.0 at.placed))

pub nothing_gathered : (way : Way) (a b : List ℕ) (w v : Held) (left beside : Option (List ℕ)) (l : Overlaid) → way ≡ Way.Nothing → l ≡ nothing None → AreLookedAt way a b w v left beside → AreGathered a b (older_of way) (record { texts = 0; rest = 0 }) l
nothing_gathered way a b w v left beside l is none looked =
    let at : AreLookedAt Way.Nothing a b w v left beside = subst (λ x. AreLookedAt x a b w v left beside) is looked in
    subst (λ x. AreGathered a b (older_of x) (record { texts = 0; rest = 0 }) l) (sym is)
    (record { texts = []; read = inr (inr (record { sealed = at.is.0; none = at.is.1; none_too = at.is.2; nothing = refl; no_rest = refl })); count = refl; laid = nothing_yet l none })

-- ---- what is laid
pub laid_files : (one other : List ℕ) (older : Which) (counts : LogCounts) (l : Overlaid) → AreGathered one other older counts l → AreLaid (λ size texts. ReadsLog size one other texts) l
laid_files one other older counts l g =
    record { texts = g.texts; read = read_log older l.size one other g.texts counts.rest g.read; grammar = read_grammar older l.size one other g.texts counts.rest g.read; laid = g.laid }
