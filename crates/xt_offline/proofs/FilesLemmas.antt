-- A log in two files, printed in the way in which they are read.
use Rattle.std.proofs.Common.{◌≡◌, ◌∙◌, ◌+◌, ◌++◌, ◌≤◌, ◌≢◌, ℕ, List, [], Option, Some, None, inl, inr, ap, arith, drop, false, length, refl, subst, sym, true, true≢false}
use Rattle.std.specs.Io.KnownBytes.{Appends, Keeps}
use Rattle.std.specs.Prelude.{Err, IfErr, IfOk, IfSome, Ok, OnErr, Result, ◌⊎◌}
use Rattle.xt_offline.proofs.AppendLemmas.{appends_kept, appends_more, appends_none, begins_all, begins_none, begins_same, begins_then, keeps_same}
use Rattle.xt_offline.proofs.OpenLemmas.{from_front, joined}
use Rattle.xt_offline.proofs.SealedLemmas.{why_another}
use Rattle.xt_offline.specs.FilesDump.{AreBegun, AreDumped, ArePrinted, InOrder, IsFilesBegun, IsFilesCut, IsFilesDumped, IsFilesGivenUp, IsFilesPrinted, IsFilesRun, IsFilesWhy, IsWhyOfEither}
use Rattle.xt_offline.specs.LogDump.{fault_line, whole_log, IsBareBegun, IsBarePrinted, IsTold, Texts}
use Rattle.xt_offline.specs.Printing.{Begins}
use Rattle.xt_offline.specs.SealedDump.{AllPrinted, IsFileWhy, IsOther, IsSealedBegun, IsSealedDumped, IsSealedPrinted, IsTextsBegun, IsTextsPrinted, IsUnprinted, Printed}
use Rattle.xt_offline.specs.declared.fault.DumpFault.{DumpFault}
use Rattle.xt_offline.specs.declared.fault.DumpFault.TheVariants.{Log, Memory, Output, Second}
use Rattle.xt_offline.specs.declared.files.Dumped.{Dumped}
use Rattle.xt_offline.specs.declared.sealed.SealedFile.{SealedFile}
use Rattle.xt_seal.specs.Headers.{head_bytes}
use Rattle.xt_seal.specs.declared.header.Header.{Header}
use Rattle.xt_seal.specs.declared.header.TheConstants.{HEADER_BYTES}
use Rattle.xt_window.specs.Start.{BeginsHeader, IsStart, IsStartOf, begins_bare, past}
use Rattle.xt_window.specs.Ways.{HasBegun, HasNoBegin, IsBare, IsNextHeader, IsNoLog}
use Rattle.xt_window.specs.Window.{ahead, unread, Held}
use Rattle.xt_window.specs.declared.start.Start.{Start}
use Rattle.xt_window.specs.declared.way.Begun.{Begun}
use Rattle.xt_window.specs.declared.way.Which.{Which}

-- ---- two files in order
-- the same the other way round
pub flipped : (one other file behind : List ℕ) (first second : Which) → InOrder one other file first behind second → InOrder one other behind second file first
flipped one other _ _ _ _ InOrder.straight = InOrder.crossed
flipped one other _ _ _ _ InOrder.crossed = InOrder.straight

-- why one of them was given up
pub why_of : (one other file behind : List ℕ) (first second : Which) (limit : ℕ) (fault : DumpFault) → InOrder one other file first behind second → IsFileWhy first limit (length file) fault → IsFilesWhy limit (length one) (length other) fault
why_of one other _ _ _ _ limit (Log why) InOrder.straight is = is
why_of one other _ _ _ _ limit (Second why) InOrder.straight is = absurd is
why_of one other _ _ _ _ limit (Output error) InOrder.straight is = tt
why_of one other _ _ _ _ limit (Memory error) InOrder.straight is = tt
why_of one other _ _ _ _ limit (Log why) InOrder.crossed is = absurd is
why_of one other _ _ _ _ limit (Second why) InOrder.crossed is = is
why_of one other _ _ _ _ limit (Output error) InOrder.crossed is = tt
why_of one other _ _ _ _ limit (Memory error) InOrder.crossed is = tt

-- ---- a file that a header begins
pub record IsFileOf (limit : ℕ) (bytes : List ℕ) (h : Header) (which : Which) (f : SealedFile) (left : Option (List ℕ)) : Type 0 where
  pub begins : BeginsHeader bytes h (drop HEADER_BYTES bytes)
  pub unprinted : IsUnprinted f
  pub same : ahead f.window left ≡ Some (drop HEADER_BYTES bytes)
  pub header : f.header ≡ h
  pub which_is : f.which ≡ which
  pub bound : f.window.limit ≡ limit

past_of : (bytes : List ℕ) (start : Start) (h : Header) (more : List ℕ) → IsStartOf bytes start → BeginsHeader bytes h more → past start ≡ HEADER_BYTES
past_of bytes (Start.Sealed g sums) h more is begins = refl
past_of bytes (Start.Other seen) h more is begins = absurd (is.none h more begins)

pub file_of : (limit : ℕ) (bytes : List ℕ) (b : Begun) (which : Which) (start : Start) (w : Held) (left : Option (List ℕ)) (f : SealedFile) → HasBegun bytes b → IsStart (unread limit) bytes start w left → w.limit ≡ limit → f.window ≡ w → f.header ≡ b.header → f.which ≡ which → (w.offset ≡ HEADER_BYTES → IsUnprinted f)
    → IsFileOf limit bytes b.header which f left
file_of limit bytes b which start w left f has is bound window header which_is fresh =
    let len : past start ≡ HEADER_BYTES = past_of bytes start b.header (drop HEADER_BYTES bytes) is.is has.begins in
    record {
      begins = has.begins;
      unprinted = fresh (omega (arith, is.place, len));
      same = ap (λ x. ahead x left) window ∙ is.ahead ∙ ap (λ n. Some (drop n bytes)) len;
      header = header;
      which_is = which_is;
      bound = ap (λ x. x.limit) window ∙ bound;
    }

-- what holds of what is ahead of it
at_file : (P : List ℕ → Type 0) (limit : ℕ) (bytes : List ℕ) (h : Header) (which : Which) (f : SealedFile) (left : Option (List ℕ)) → IsFileOf limit bytes h which f left → IfSome (ahead f.window left) P → P (drop HEADER_BYTES bytes)
at_file P limit bytes h which f left is holds = subst (λ o. IfSome o P) is.same holds

-- ---- both have headers
pub linked_printed : (limit : ℕ) (one other file behind : List ℕ) (first second : Which) (h next : Header) (f g : SealedFile) (l m old new : Option (List ℕ)) (ended : Dumped) → InOrder one other file first behind second → IsNextHeader h next → IsFileOf limit file h first f l → IsFileOf limit behind next second g m
    → IfSome (ahead f.window l) (λ bytes. IfSome (ahead g.window m) (λ more. IsUnprinted f → IsUnprinted g → ArePrinted f.header g.header bytes more f.which g.which old new ended)) → IsFilesPrinted limit one other old new ended
linked_printed limit one other file behind first second h next f g l m old new ended order follows of to printed =
    let two = at_file (λ more. IsUnprinted f → IsUnprinted g → ArePrinted f.header g.header (drop HEADER_BYTES file) more f.which g.which old new ended) limit behind next second g m to
    (at_file (λ bytes. IfSome (ahead g.window m) (λ more. IsUnprinted f → IsUnprinted g → ArePrinted f.header g.header bytes more f.which g.which old new ended)) limit file h first f l of printed) of.unprinted to.unprinted in
    let named : ArePrinted h next (drop HEADER_BYTES file) (drop HEADER_BYTES behind) first second old new ended =
    subst (λ x. ArePrinted x next (drop HEADER_BYTES file) (drop HEADER_BYTES behind) first second old new ended) of.header
    (subst (λ x. ArePrinted f.header x (drop HEADER_BYTES file) (drop HEADER_BYTES behind) first second old new ended) to.header
    (subst (λ p. ArePrinted f.header g.header (drop HEADER_BYTES file) (drop HEADER_BYTES behind) p second old new ended) of.which_is
    (subst (λ p. ArePrinted f.header g.header (drop HEADER_BYTES file) (drop HEADER_BYTES behind) f.which p old new ended) to.which_is two))) in
    (named.0, (IsFilesDumped.both file behind first second h next (drop HEADER_BYTES file) (drop HEADER_BYTES behind) named.0 ended order of.begins to.begins follows named.1.0, named.1.1))

begins_of : (limit : ℕ) (one other file behind : List ℕ) (first second : Which) (h next : Header) (old new : Option (List ℕ)) → InOrder one other file first behind second → IsNextHeader h next → BeginsHeader file h (drop HEADER_BYTES file) → BeginsHeader behind next (drop HEADER_BYTES behind)
    → AreBegun h next (drop HEADER_BYTES file) (drop HEADER_BYTES behind) first second old new → IsFilesCut limit one other old new
begins_of limit one other file behind first second h next old new order follows of to (AreBegun.front len last out texts begun) =
    (out, (IsFilesBegun.front file behind first second h (drop HEADER_BYTES file) len last out order of texts, begun))
begins_of limit one other file behind first second h next old new order follows of to (AreBegun.behind len count last lines out all texts begun) =
    (lines ++ out, (IsFilesBegun.behind file behind first second h next (drop HEADER_BYTES file) (drop HEADER_BYTES behind) len count last lines out order of to follows all texts, begun))
begins_of limit one other file behind first second h next old new order follows of to (AreBegun.whole out ended whole begun) =
    (out, (IsFilesBegun.whole out ended (IsFilesDumped.both file behind first second h next (drop HEADER_BYTES file) (drop HEADER_BYTES behind) out ended order of to follows whole), begun))

pub linked_begun : (limit : ℕ) (one other file behind : List ℕ) (first second : Which) (h next : Header) (f g : SealedFile) (l m old new : Option (List ℕ)) → InOrder one other file first behind second → IsNextHeader h next → IsFileOf limit file h first f l → IsFileOf limit behind next second g m
    → IfSome (ahead f.window l) (λ bytes. IfSome (ahead g.window m) (λ more. IsUnprinted f → IsUnprinted g → AreBegun f.header g.header bytes more f.which g.which old new)) → IsFilesCut limit one other old new
linked_begun limit one other file behind first second h next f g l m old new order follows of to begun =
    let two = at_file (λ more. IsUnprinted f → IsUnprinted g → AreBegun f.header g.header (drop HEADER_BYTES file) more f.which g.which old new) limit behind next second g m to
    (at_file (λ bytes. IfSome (ahead g.window m) (λ more. IsUnprinted f → IsUnprinted g → AreBegun f.header g.header bytes more f.which g.which old new)) limit file h first f l of begun) of.unprinted to.unprinted in
    let named : AreBegun h next (drop HEADER_BYTES file) (drop HEADER_BYTES behind) first second old new =
    subst (λ x. AreBegun x next (drop HEADER_BYTES file) (drop HEADER_BYTES behind) first second old new) of.header
    (subst (λ x. AreBegun f.header x (drop HEADER_BYTES file) (drop HEADER_BYTES behind) first second old new) to.header
    (subst (λ p. AreBegun f.header g.header (drop HEADER_BYTES file) (drop HEADER_BYTES behind) p second old new) of.which_is
    (subst (λ p. AreBegun f.header g.header (drop HEADER_BYTES file) (drop HEADER_BYTES behind) f.which p old new) to.which_is two))) in
    begins_of limit one other file behind first second h next old new order follows of.begins to.begins named

-- why one was given up, at its whole length
why_at : (limit : ℕ) (bytes : List ℕ) (h : Header) (which : Which) (f : SealedFile) (left : Option (List ℕ)) (fault : DumpFault) → IsFileOf limit bytes h which f left → IsFileWhy f.which f.window.limit (HEADER_BYTES + length (drop HEADER_BYTES bytes)) fault → IsFileWhy which limit (length bytes) fault
why_at limit bytes h which f left fault of is =
    subst (λ n. IsFileWhy which limit n fault) (joined bytes h (drop HEADER_BYTES bytes) of.begins)
    (subst (λ m. IsFileWhy which m (HEADER_BYTES + length (drop HEADER_BYTES bytes)) fault) of.bound (subst (λ p. IsFileWhy p f.window.limit (HEADER_BYTES + length (drop HEADER_BYTES bytes)) fault) of.which_is is))

pub linked_why : (limit : ℕ) (one other file behind : List ℕ) (first second : Which) (h next : Header) (f g : SealedFile) (l m : Option (List ℕ)) (fault : DumpFault) → InOrder one other file first behind second → IsFileOf limit file h first f l → IsFileOf limit behind next second g m
    → IfSome (ahead f.window l) (λ bytes. IfSome (ahead g.window m) (λ more. IsUnprinted f → IsUnprinted g → IsWhyOfEither f.which f.window.limit (HEADER_BYTES + length bytes) g.which g.window.limit (HEADER_BYTES + length more) fault)) → IsFilesWhy limit (length one) (length other) fault
linked_why limit one other file behind first second h next f g l m fault order of to why =
    either (at_file (λ more. IsUnprinted f → IsUnprinted g → IsWhyOfEither f.which f.window.limit (HEADER_BYTES + length (drop HEADER_BYTES file)) g.which g.window.limit (HEADER_BYTES + length more) fault) limit behind next second g m to
    (at_file (λ bytes. IfSome (ahead g.window m) (λ more. IsUnprinted f → IsUnprinted g → IsWhyOfEither f.which f.window.limit (HEADER_BYTES + length bytes) g.which g.window.limit (HEADER_BYTES + length more) fault)) limit file h first f l of why) of.unprinted to.unprinted)
  where
    either : IsWhyOfEither f.which f.window.limit (HEADER_BYTES + length (drop HEADER_BYTES file)) g.which g.window.limit (HEADER_BYTES + length (drop HEADER_BYTES behind)) fault → IsFilesWhy limit (length one) (length other) fault
    either (inl is) = why_of one other file behind first second limit fault order (why_at limit file h first f l fault of is)
    either (inr is) = why_of one other behind file second first limit fault (flipped one other file behind first second order) (why_at limit behind next second g m fault to is)

-- ---- one has a header
pub alone_printed : (limit : ℕ) (one other file none : List ℕ) (which beside : Which) (h : Header) (f : SealedFile) (l old new : Option (List ℕ)) (ended : Dumped) → InOrder one other file which none beside → HasNoBegin none → IsFileOf limit file h which f l
    → (ended.which ≡ f.which) × IfSome (ahead f.window l) (λ bytes. IsUnprinted f → IsSealedPrinted f.header bytes old new ended.status) → IsFilesPrinted limit one other old new ended
alone_printed limit one other file none which beside h f l old new ended order empty of (place, printed) =
    let is = subst (λ x. IsSealedPrinted x (drop HEADER_BYTES file) old new ended.status) of.header (at_file (λ bytes. IsUnprinted f → IsSealedPrinted f.header bytes old new ended.status) limit file h which f l of printed of.unprinted) in
    subst (IsFilesPrinted limit one other old new) (ap (λ p. record { status = ended.status; which = p }) (sym (place ∙ of.which_is)))
    (is.0, (IsFilesDumped.alone file none which beside h (drop HEADER_BYTES file) is.0 ended.status order of.begins empty is.1.0, is.1.1))

alone_begins : (limit : ℕ) (one other file none : List ℕ) (which beside : Which) (h : Header) (old new : Option (List ℕ)) → InOrder one other file which none beside → HasNoBegin none → BeginsHeader file h (drop HEADER_BYTES file) → IsSealedBegun h (drop HEADER_BYTES file) old new → IsFilesCut limit one other old new
alone_begins limit one other file none which beside h old new order empty of (inl (len, (last, (out, (texts, begun))))) = (out, (IsFilesBegun.front file none which beside h (drop HEADER_BYTES file) len last out order of texts, begun))
alone_begins limit one other file none which beside h old new order empty of (inr (out, (status, (whole, begun)))) =
    (out, (IsFilesBegun.whole out (record { status = status; which = which }) (IsFilesDumped.alone file none which beside h (drop HEADER_BYTES file) out status order of empty whole), begun))

pub alone_begun : (limit : ℕ) (one other file none : List ℕ) (which beside : Which) (h : Header) (f : SealedFile) (l old new : Option (List ℕ)) → InOrder one other file which none beside → HasNoBegin none → IsFileOf limit file h which f l
    → IfSome (ahead f.window l) (λ bytes. IsUnprinted f → IsSealedBegun f.header bytes old new) → IsFilesCut limit one other old new
alone_begun limit one other file none which beside h f l old new order empty of begun =
    alone_begins limit one other file none which beside h old new order empty of.begins
    (subst (λ x. IsSealedBegun x (drop HEADER_BYTES file) old new) of.header (at_file (λ bytes. IsUnprinted f → IsSealedBegun f.header bytes old new) limit file h which f l of begun of.unprinted))

pub alone_why : (limit : ℕ) (one other file none : List ℕ) (which beside : Which) (h : Header) (f : SealedFile) (l : Option (List ℕ)) (fault : DumpFault) → InOrder one other file which none beside → IsFileOf limit file h which f l
    → IfSome (ahead f.window l) (λ bytes. IsUnprinted f → IsFileWhy f.which f.window.limit (HEADER_BYTES + length bytes) fault) → IsFilesWhy limit (length one) (length other) fault
alone_why limit one other file none which beside h f l fault order of why =
    why_of one other file none which beside limit fault order (why_at limit file h which f l fault of (at_file (λ bytes. IsUnprinted f → IsFileWhy f.which f.window.limit (HEADER_BYTES + length bytes) fault) limit file h which f l of why of.unprinted))

-- ---- none has one
-- a header is no first word of a text
bare_or_header : (bytes : List ℕ) (h : Header) (more : List ℕ) → BeginsHeader bytes h more → begins_bare bytes ≡ false
unfolding head_bytes
bare_or_header bytes h more is = ap begins_bare is.parts

front_of : (bytes : List ℕ) (start : Start) → IsStartOf bytes start → begins_bare bytes ≡ true → past start ≡ 0
front_of bytes (Start.Sealed h sums) is word = absurd (true≢false (sym word ∙ bare_or_header bytes h (drop HEADER_BYTES bytes) is.0))
front_of bytes (Start.Other seen) is word = refl

-- all of it is ahead
pub whole_of : (limit : ℕ) (one other : List ℕ) (start : Start) (w : Held) (left : Option (List ℕ)) → IsBare one other → IsStart (unread limit) one start w left → whole_log w left ≡ Some one
whole_of limit one other start w left bare is =
    let none : past start ≡ 0 = front_of one start is.is bare.word in
    from_front w left one (omega (arith, is.place, none)) (is.ahead ∙ ap (λ n. Some (drop n one)) none)

pub bare_printed : (limit : ℕ) (one other : List ℕ) (start : Start) (w : Held) (left old new : Option (List ℕ)) (ended : Dumped) → IsBare one other → IsStart (unread limit) one start w left → w.limit ≡ limit
    → (ended.which ≡ Which.One) × IfSome (whole_log w left) (λ log. IsBarePrinted w.limit log old new ended.status) → IsFilesPrinted limit one other old new ended
bare_printed limit one other start w left old new ended bare is bound (place, printed) =
    let of = subst (λ m. IsBarePrinted m one old new ended.status) bound (subst (λ o. IfSome o (λ log. IsBarePrinted w.limit log old new ended.status)) (whole_of limit one other start w left bare is) printed) in
    subst (IsFilesPrinted limit one other old new) (ap (λ p. record { status = ended.status; which = p }) (sym place)) (of.0, (IsFilesDumped.bare of.0 ended.status bare of.1.0, of.1.1))

bare_begins : (limit : ℕ) (one other : List ℕ) (old new : Option (List ℕ)) → IsBare one other → IsBareBegun limit one old new → IsFilesCut limit one other old new
bare_begins limit one other old new bare (out, (inl (len, texts), begun)) = (out, (IsFilesBegun.bare len out texts, begun))
bare_begins limit one other old new bare (out, (inr (status, whole), begun)) = (out, (IsFilesBegun.whole out (record { status = status; which = Which.One }) (IsFilesDumped.bare out status bare whole), begun))

pub bare_begun : (limit : ℕ) (one other : List ℕ) (start : Start) (w : Held) (left old new : Option (List ℕ)) → IsBare one other → IsStart (unread limit) one start w left → w.limit ≡ limit → IfSome (whole_log w left) (λ log. IsBareBegun w.limit log old new) → IsFilesCut limit one other old new
bare_begun limit one other start w left old new bare is bound begun =
    bare_begins limit one other old new bare (subst (λ m. IsBareBegun m one old new) bound (subst (λ o. IfSome o (λ log. IsBareBegun w.limit log old new)) (whole_of limit one other start w left bare is) begun))

pub bare_why : (limit : ℕ) (one other : List ℕ) (start : Start) (w : Held) (left : Option (List ℕ)) (fault : DumpFault) → IsBare one other → IsStart (unread limit) one start w left → w.limit ≡ limit → IfSome (whole_log w left) (λ log. IsFileWhy Which.One w.limit (length log) fault) → IsFilesWhy limit (length one) (length other) fault
bare_why limit one other start w left fault bare is bound why =
    why_of one other one other Which.One Which.Other limit fault InOrder.straight (subst (λ m. IsFileWhy Which.One m (length one) fault) bound (subst (λ o. IfSome o (λ log. IsFileWhy Which.One w.limit (length log) fault)) (whole_of limit one other start w left bare is) why))

-- no text
pub nothing_printed : (limit : ℕ) (one other : List ℕ) (old : Option (List ℕ)) (ended : Dumped) → HasNoBegin one → HasNoBegin other → (IsBare one other → ⊥) → ended ≡ record { status = 0; which = Which.One } → IsFilesPrinted limit one other old old ended
nothing_printed limit one other old ended empty also bare is = subst (IsFilesPrinted limit one other old old) (sym is) ([], (IsFilesDumped.nothing empty also bare, appends_none old))

-- no log
pub strange_printed : (limit : ℕ) (one other : List ℕ) (old new : Option (List ℕ)) (ended : Dumped) → IsNoLog one other → (ended ≡ record { status = 3; which = Which.One }) × Appends old new (fault_line 0) → IsFilesPrinted limit one other old new ended
strange_printed limit one other old new ended strange (is, printed) = subst (IsFilesPrinted limit one other old new) (sym is) (fault_line 0, (IsFilesDumped.strange strange, printed))

pub strange_begun : (limit : ℕ) (one other : List ℕ) (old new : Option (List ℕ)) → IsNoLog one other → Begins old new (fault_line 0) → IsFilesCut limit one other old new
strange_begun limit one other old new strange begun = (fault_line 0, (IsFilesBegun.whole (fault_line 0) (record { status = 3; which = Which.One }) (IsFilesDumped.strange strange), begun))

-- ---- two linked files
-- the newer one, behind the older
pub linked_whole : (known more_known : Option (List ℕ)) (first f g : SealedFile) (left old mid new : Option (List ℕ)) (ended : Dumped) → IfSome known (λ bytes. IsUnprinted first → IsTextsPrinted bytes f left old mid) → f.header ≡ first.header → f.last ≡ g.header.link
    → (ended.which ≡ g.which) × IfSome more_known (λ more. IsUnprinted g → IsSealedPrinted g.header more mid new ended.status) → IfSome known (λ bytes. IfSome more_known (λ more. IsUnprinted first → IsUnprinted g → ArePrinted first.header g.header bytes more first.which g.which old new ended))
linked_whole None more_known first f g left old mid new ended texts header link printed = tt
linked_whole (Some bytes) None first f g left old mid new ended texts header link printed = tt
linked_whole (Some bytes) (Some more) first f g left old mid new ended texts header link (place, printed) = λ fresh also.
    let all = texts fresh in
    let of = printed also in
    let named : AllPrinted first.header bytes all.len g.header.link all.out = subst (λ l. AllPrinted first.header bytes all.len l all.out) link (subst (λ x. AllPrinted x bytes all.len f.last all.out) header all.all) in
    subst (ArePrinted first.header g.header bytes more first.which g.which old new) (ap (λ p. record { status = ended.status; which = p }) (sym place))
    (all.out ++ of.0, (AreDumped.linked all.len ended.status all.out of.0 named of.1.0, appends_more old mid new all.out of.0 all.written of.1.1))

-- where it does not go on there
pub unlinked_whole : (known more_known : Option (List ℕ)) (first f g : SealedFile) (left old mid new : Option (List ℕ)) (ended : Dumped) → IfSome known (λ bytes. IsUnprinted first → IsTextsPrinted bytes f left old mid) → f.header ≡ first.header → f.which ≡ first.which → f.last ≢ g.header.link
    → (ended ≡ record { status = 3; which = f.which }) × Appends mid new (fault_line f.window.offset) → IfSome known (λ bytes. IfSome more_known (λ more. IsUnprinted first → IsUnprinted g → ArePrinted first.header g.header bytes more first.which g.which old new ended))
unlinked_whole None more_known first f g left old mid new ended texts header which link printed = tt
unlinked_whole (Some bytes) None first f g left old mid new ended texts header which link printed = tt
unlinked_whole (Some bytes) (Some more) first f g left old mid new ended texts header which link (is, printed) = λ fresh also.
    let all = texts fresh in
    let named : AllPrinted first.header bytes all.len f.last all.out = subst (λ x. AllPrinted x bytes all.len f.last all.out) header all.all in
    subst (ArePrinted first.header g.header bytes more first.which g.which old new) (ap (λ p. record { status = 3; which = p }) (sym which) ∙ sym is) (
      all.out ++ fault_line (HEADER_BYTES + all.len),
      (
        AreDumped.unlinked all.len f.last all.out named link,
        appends_more old mid new all.out (fault_line (HEADER_BYTES + all.len)) all.written (subst (λ n. Appends mid new (fault_line n)) all.place printed),
      ),
    )

-- beginnings
pub linked_first : (known more_known : Option (List ℕ)) (first g : SealedFile) (old new : Option (List ℕ)) → IfSome known (λ bytes. IsUnprinted first → IsTextsBegun first.header bytes old new) → IfSome known (λ bytes. IfSome more_known (λ more. IsUnprinted first → IsUnprinted g → AreBegun first.header g.header bytes more first.which g.which old new))
linked_first None more_known first g old new begun = tt
linked_first (Some bytes) None first g old new begun = tt
linked_first (Some bytes) (Some more) first g old new begun = λ fresh also. let of = begun fresh in AreBegun.front of.0 of.1.0 of.1.1.0 of.1.1.1.0 of.1.1.1.1

linked_behind : (first g : SealedFile) (bytes more lines : List ℕ) (len : ℕ) (old mid new : Option (List ℕ)) → AllPrinted first.header bytes len g.header.link lines → Appends old mid lines → IsSealedBegun g.header more mid new → AreBegun first.header g.header bytes more first.which g.which old new
linked_behind first g bytes more lines len old mid new all written (inl (count, (last, (out, (texts, begun))))) = AreBegun.behind len count last lines out all texts (begins_then old mid new lines out written begun)
linked_behind first g bytes more lines len old mid new all written (inr (out, (status, (whole, begun)))) =
    AreBegun.whole (lines ++ out) (record { status = status; which = g.which }) (AreDumped.linked len status lines out all whole) (begins_then old mid new lines out written begun)

pub linked_second : (known more_known : Option (List ℕ)) (first f g : SealedFile) (left old mid new : Option (List ℕ)) → IfSome known (λ bytes. IsUnprinted first → IsTextsPrinted bytes f left old mid) → f.header ≡ first.header → f.last ≡ g.header.link → IfSome more_known (λ more. IsUnprinted g → IsSealedBegun g.header more mid new)
    → IfSome known (λ bytes. IfSome more_known (λ more. IsUnprinted first → IsUnprinted g → AreBegun first.header g.header bytes more first.which g.which old new))
linked_second None more_known first f g left old mid new texts header link begun = tt
linked_second (Some bytes) None first f g left old mid new texts header link begun = tt
linked_second (Some bytes) (Some more) first f g left old mid new texts header link begun = λ fresh also.
    let all = texts fresh in
    let named : AllPrinted first.header bytes all.len g.header.link all.out = subst (λ l. AllPrinted first.header bytes all.len l all.out) link (subst (λ x. AllPrinted x bytes all.len f.last all.out) header all.all) in
    linked_behind first g bytes more all.out all.len old mid new named all.written (begun also)

pub unlinked_begun : (known more_known : Option (List ℕ)) (first f g : SealedFile) (left old mid new : Option (List ℕ)) → IfSome known (λ bytes. IsUnprinted first → IsTextsPrinted bytes f left old mid) → f.header ≡ first.header → f.last ≢ g.header.link → Begins mid new (fault_line f.window.offset)
    → IfSome known (λ bytes. IfSome more_known (λ more. IsUnprinted first → IsUnprinted g → AreBegun first.header g.header bytes more first.which g.which old new))
unlinked_begun None more_known first f g left old mid new texts header link begun = tt
unlinked_begun (Some bytes) None first f g left old mid new texts header link begun = tt
unlinked_begun (Some bytes) (Some more) first f g left old mid new texts header link begun = λ fresh also.
    let all = texts fresh in
    let named : AllPrinted first.header bytes all.len f.last all.out = subst (λ x. AllPrinted x bytes all.len f.last all.out) header all.all in
    AreBegun.whole (all.out ++ fault_line (HEADER_BYTES + all.len)) (record { status = 3; which = first.which }) (AreDumped.unlinked all.len f.last all.out named link)
    (begins_then old mid new all.out (fault_line (HEADER_BYTES + all.len)) all.written (subst (λ n. Begins mid new (fault_line n)) all.place begun))

-- why one was given up
pub either_first : (known more_known : Option (List ℕ)) (first g : SealedFile) (fault : DumpFault) → IfSome known (λ bytes. IsUnprinted first → IsFileWhy first.which first.window.limit (HEADER_BYTES + length bytes) fault)
    → IfSome known (λ bytes. IfSome more_known (λ more. IsUnprinted first → IsUnprinted g → IsWhyOfEither first.which first.window.limit (HEADER_BYTES + length bytes) g.which g.window.limit (HEADER_BYTES + length more) fault))
either_first None more_known first g fault why = tt
either_first (Some bytes) None first g fault why = tt
either_first (Some bytes) (Some more) first g fault why = λ fresh also. inl (why fresh)

pub either_second : (known more_known : Option (List ℕ)) (first g : SealedFile) (fault : DumpFault) → IfSome more_known (λ more. IsUnprinted g → IsFileWhy g.which g.window.limit (HEADER_BYTES + length more) fault)
    → IfSome known (λ bytes. IfSome more_known (λ more. IsUnprinted first → IsUnprinted g → IsWhyOfEither first.which first.window.limit (HEADER_BYTES + length bytes) g.which g.window.limit (HEADER_BYTES + length more) fault))
either_second None more_known first g fault why = tt
either_second (Some bytes) None first g fault why = tt
either_second (Some bytes) (Some more) first g fault why = λ fresh also. inr (why also)

-- ---- the whole
pub files_kept : (limit : ℕ) (known more_known : Option (List ℕ)) (old mid new : Option (List ℕ)) (ended : Dumped) → IfSome known (λ one. IfSome more_known (λ other. IsFilesPrinted limit one other old mid ended)) → Keeps mid new → IfSome known (λ one. IfSome more_known (λ other. IsFilesPrinted limit one other old new ended))
files_kept limit None more_known old mid new ended is kept = tt
files_kept limit (Some one) None old mid new ended is kept = tt
files_kept limit (Some one) (Some other) old mid new ended is kept = (is.0, (is.1.0, appends_kept old mid new is.0 is.1.1 kept))

pub files_last : (limit : ℕ) (known more_known : Option (List ℕ)) (old mid new : Option (List ℕ)) (ended : Dumped) → IfSome known (λ one. IfSome more_known (λ other. IsFilesPrinted limit one other old mid ended)) → Keeps mid new → IfSome known (λ one. IfSome more_known (λ other. IsFilesCut limit one other old new))
files_last limit None more_known old mid new ended is kept = tt
files_last limit (Some one) None old mid new ended is kept = tt
files_last limit (Some one) (Some other) old mid new ended is kept = (is.0, (IsFilesBegun.whole is.0 ended is.1.0, begins_all old new is.0 (appends_kept old mid new is.0 is.1.1 kept)))

pub files_none : (limit : ℕ) (known more_known : Option (List ℕ)) (old : Option (List ℕ)) → IfSome known (λ one. IfSome more_known (λ other. IsFilesCut limit one other old old))
files_none limit None more_known old = tt
files_none limit (Some one) None old = tt
files_none limit (Some one) (Some other) old = ([], (IsFilesBegun.bare 0 [] (Texts.none one), begins_same old []))

pub files_whole : (limit : ℕ) (known more_known : Option (List ℕ)) (old new err : Option (List ℕ)) (ended : Dumped) → IfSome known (λ one. IfSome more_known (λ other. IsFilesPrinted limit one other old new ended)) → IfSome known (λ one. IfSome more_known (λ other. IsFilesRun limit one other old new err err ended))
files_whole limit None more_known old new err ended is = tt
files_whole limit (Some one) None old new err ended is = tt
files_whole limit (Some one) (Some other) old new err ended is = inl (is, keeps_same err)

pub files_stopped : (limit : ℕ) (known more_known : Option (List ℕ)) (old new err_old err_new : Option (List ℕ)) (ended : Dumped) (fault : DumpFault) → IfSome known (λ one. IfSome more_known (λ other. IsFilesCut limit one other old new)) → IfSome known (λ one. IfSome more_known (λ other. IsFilesWhy limit (length one) (length other) fault))
    → IsTold fault err_old err_new → ended.status ≡ 1 → IfSome known (λ one. IfSome more_known (λ other. IsFilesRun limit one other old new err_old err_new ended))
files_stopped limit None more_known old new err_old err_new ended fault begun why told status = tt
files_stopped limit (Some one) None old new err_old err_new ended fault begun why told status = tt
files_stopped limit (Some one) (Some other) old new err_old err_new ended fault begun why told status = inr (fault, record { written = begun; why = why; told = told; ended = status })

-- a fault of no file
other_why : (limit one other : ℕ) (fault : DumpFault) → IsOther fault → IsFilesWhy limit one other fault
other_why limit one other (Log why) is = absurd is
other_why limit one other (Second why) is = absurd is
other_why limit one other (Output error) is = tt
other_why limit one other (Memory error) is = tt

pub files_error : (limit : ℕ) (one other : List ℕ) (fault : DumpFault) → IsOther fault → IsFilesWhy limit (length one) (length other) fault
files_error limit one other fault is = other_why limit (length one) (length other) fault is

pub files_other : (limit : ℕ) (known more_known : Option (List ℕ)) (fault : DumpFault) → IsOther fault → IfSome known (λ one. IfSome more_known (λ other. IsFilesWhy limit (length one) (length other) fault))
files_other limit None more_known fault is = tt
files_other limit (Some one) None fault is = tt
files_other limit (Some one) (Some other) fault is = other_why limit (length one) (length other) fault is

-- a file that was not opened
of_first : (limit one other : ℕ) (fault : DumpFault) → IsFileWhy Which.One limit one fault → IsFilesWhy limit one other fault
of_first limit one other (Log why) is = is
of_first limit one other (Second why) is = absurd is
of_first limit one other (Output error) is = tt
of_first limit one other (Memory error) is = tt

of_second : (limit one other : ℕ) (fault : DumpFault) → IsFileWhy Which.Other limit other fault → IsFilesWhy limit one other fault
of_second limit one other (Log why) is = absurd is
of_second limit one other (Second why) is = is
of_second limit one other (Output error) is = tt
of_second limit one other (Memory error) is = tt

pub unopened_first : (limit : ℕ) (known more_known : Option (List ℕ)) (fault : DumpFault) → IfSome known (λ one. IsFileWhy Which.One limit (length one) fault) → IfSome known (λ one. IfSome more_known (λ other. IsFilesWhy limit (length one) (length other) fault))
unopened_first limit None more_known fault is = tt
unopened_first limit (Some one) None fault is = tt
unopened_first limit (Some one) (Some other) fault is = of_first limit (length one) (length other) fault is

pub unopened_second : (limit : ℕ) (known more_known : Option (List ℕ)) (fault : DumpFault) → IfSome more_known (λ other. IsFileWhy Which.Other limit (length other) fault) → IfSome known (λ one. IfSome more_known (λ other. IsFilesWhy limit (length one) (length other) fault))
unopened_second limit None more_known fault is = tt
unopened_second limit (Some one) None fault is = tt
unopened_second limit (Some one) (Some other) fault is = of_second limit (length one) (length other) fault is

-- ---- of a result
pub ok_map : {T E : Type 0} (r : Result T E) (P Q : T → Type 0) → ((x : T) → P x → Q x) → IfOk r P → IfOk r Q
ok_map (Ok x) P Q f is = f x is
ok_map (Err e) P Q f is = tt

pub err_map : {T E : Type 0} (r : Result T E) (P Q : E → Type 0) → ((e : E) → P e → Q e) → IfErr r P → IfErr r Q
err_map (Ok x) P Q f is = tt
err_map (Err e) P Q f is = f e is

pub bad_map : {T E : Type 0} (r : Result T E) (P Q : Type 0) → (P → Q) → OnErr r P → OnErr r Q
bad_map (Ok x) P Q f is = tt
bad_map (Err e) P Q f is = f is

-- a fault of no file is not of either
pub either_other : (r : Result Dumped DumpFault) (known more_known : Option (List ℕ)) (first g : SealedFile) → IfErr r IsOther
    → IfErr r (λ fault. IfSome known (λ bytes. IfSome more_known (λ more. IsUnprinted first → IsUnprinted g → IsWhyOfEither first.which first.window.limit (HEADER_BYTES + length bytes) g.which g.window.limit (HEADER_BYTES + length more) fault)))
either_other (Ok ended) known more_known first g is = tt
either_other (Err fault) None more_known first g is = tt
either_other (Err fault) (Some bytes) None first g is = tt
either_other (Err fault) (Some bytes) (Some more) first g is = λ fresh also. inl (why_another first.which first.window.limit (HEADER_BYTES + length bytes) fault is)

-- two files that are opened, where their bytes are known
pub both_known : (known more_known : Option (List ℕ)) (A B : List ℕ → Type 0) (P : List ℕ → List ℕ → Type 0) → ((a b : List ℕ) → A a → B b → P a b) → IfSome known A → IfSome more_known B → IfSome known (λ one. IfSome more_known (λ other. P one other))
both_known None more_known A B P f first second = tt
both_known (Some one) None A B P f first second = tt
both_known (Some one) (Some other) A B P f first second = f one other first second
