-- A log that is opened, and printed by how it begins.
use Rattle.std.proofs.Common.{◌≡◌, ◌∙◌, ◌+◌, ◌++◌, ◌≤◌, ℕ, List, [], Option, Some, None, inl, inr, ap, arith, drop, length, refl, subst, sym}
use Rattle.std.proofs.lemmas.List.{length-append, length-drop}
use Rattle.std.specs.Prelude.{IfSome, if◌then◌else◌, ◌==◌}
use Rattle.xt_offline.specs.LogDump.{whole_log, IsBareBegun, IsBarePrinted, IsDumpWhy}
use Rattle.xt_offline.specs.SealedDump.{IsFileWhy, IsLogBegun, IsLogPrinted, IsOneBegun, IsOneDumped, IsSealedBegun, IsSealedPrinted, IsUnprinted}
use Rattle.xt_offline.specs.declared.fault.DumpFault.{DumpFault}
use Rattle.xt_offline.specs.declared.fault.DumpFault.TheVariants.{Log, Memory, Output, Second}
use Rattle.xt_offline.specs.declared.sealed.SealedFile.{SealedFile}
use Rattle.xt_seal.proofs.HeaderLemmas.{length_header}
use Rattle.xt_seal.specs.Headers.{header_bytes}
use Rattle.xt_seal.specs.Sums.{Sums}
use Rattle.xt_seal.specs.declared.header.Header.{Header}
use Rattle.xt_seal.specs.declared.header.TheConstants.{HEADER_BYTES}
use Rattle.xt_window.specs.Start.{BeginsHeader, IsStart}
use Rattle.xt_window.specs.Window.{ahead, unread, Held}
use Rattle.xt_window.specs.declared.start.Start.{Start}
use Rattle.xt_window.specs.declared.start.Unsealed.{Unsealed}
use Rattle.xt_window.specs.declared.way.Which.{Which}

-- what is known of a reader from its front
pub known_first : (limit : ℕ) (had : Option (List ℕ)) (P : List ℕ → Type 0) → IfSome (ahead (unread limit) had) P → IfSome had P
known_first limit None P is = tt
known_first limit (Some log) P is = is

-- what is ahead of a file that was made of a window
at_file : (P : List ℕ → Type 0) (file : SealedFile) (w : Held) (mid : Option (List ℕ)) (bytes : List ℕ) → file.window ≡ w → ahead w mid ≡ Some bytes → IfSome (ahead file.window mid) P → P bytes
at_file P file w mid bytes same is holds = subst (λ o. IfSome o P) (ap (λ x. ahead x mid) same ∙ is) holds

-- a file that a header begins has as many bytes
enough : (bytes : List ℕ) (h : Header) (more : List ℕ) → BeginsHeader bytes h more → HEADER_BYTES ≤ length bytes
enough bytes h more is = subst (λ b. HEADER_BYTES ≤ length b) (sym is.parts) (length_header h more is.fits)

pub joined : (bytes : List ℕ) (h : Header) (more : List ℕ) → BeginsHeader bytes h more → HEADER_BYTES + length (drop HEADER_BYTES bytes) ≡ length bytes
joined bytes h more is = omega (arith, enough bytes h more is, length-drop HEADER_BYTES bytes)

-- ---- a log in one file
-- with a header
pub one_printed : (limit : ℕ) (had : Option (List ℕ)) (h : Header) (sums : Sums) (w : Held) (mid old new : Option (List ℕ)) (file : SealedFile) (status : ℕ) → IfSome had (λ log. IsStart (unread limit) log (Start.Sealed h sums) w mid) → file.window ≡ w → file.header ≡ h → (w.offset ≡ HEADER_BYTES → IsUnprinted file)
    → IfSome (ahead file.window mid) (λ bytes. IsUnprinted file → IsSealedPrinted file.header bytes old new status) → IfSome had (λ log. IsLogPrinted limit log old new status)
one_printed limit None h sums w mid old new file status start same header fresh printed = tt
one_printed limit (Some log) h sums w mid old new file status start same header fresh printed =
    let of : IsSealedPrinted h (drop HEADER_BYTES log) old new status = subst (λ x. IsSealedPrinted x (drop HEADER_BYTES log) old new status) header
    (at_file (λ bytes. IsUnprinted file → IsSealedPrinted file.header bytes old new status) file w mid (drop HEADER_BYTES log) same start.ahead printed (fresh start.place)) in
    (of.0, (IsOneDumped.sealed h (drop HEADER_BYTES log) of.0 status start.is.0 of.1.0, of.1.1))

one_begins : (limit : ℕ) (log : List ℕ) (h : Header) (old new : Option (List ℕ)) → BeginsHeader log h (drop HEADER_BYTES log) → IsSealedBegun h (drop HEADER_BYTES log) old new → IsLogBegun limit log old new
one_begins limit log h old new is (inl (len, (last, (out, (texts, begun))))) = (out, (IsOneBegun.sealed h (drop HEADER_BYTES log) len last out is texts, begun))
one_begins limit log h old new is (inr (out, (status, (whole, begun)))) = (out, (IsOneBegun.whole out status (IsOneDumped.sealed h (drop HEADER_BYTES log) out status is whole), begun))

pub one_begun : (limit : ℕ) (had : Option (List ℕ)) (h : Header) (sums : Sums) (w : Held) (mid old new : Option (List ℕ)) (file : SealedFile) → IfSome had (λ log. IsStart (unread limit) log (Start.Sealed h sums) w mid) → file.window ≡ w → file.header ≡ h → (w.offset ≡ HEADER_BYTES → IsUnprinted file)
    → IfSome (ahead file.window mid) (λ bytes. IsUnprinted file → IsSealedBegun file.header bytes old new) → IfSome had (λ log. IsLogBegun limit log old new)
one_begun limit None h sums w mid old new file start same header fresh begun = tt
one_begun limit (Some log) h sums w mid old new file start same header fresh begun =
    one_begins limit log h old new start.is.0 (subst (λ x. IsSealedBegun x (drop HEADER_BYTES log) old new) header
    (at_file (λ bytes. IsUnprinted file → IsSealedBegun file.header bytes old new) file w mid (drop HEADER_BYTES log) same start.ahead begun (fresh start.place)))

-- why it was given up
pub of_one : (limit size : ℕ) (fault : DumpFault) → IsFileWhy Which.One limit size fault → IsDumpWhy limit size fault
of_one limit size (Log why) is = is
of_one limit size (Second why) is = tt
of_one limit size (Output error) is = tt
of_one limit size (Memory error) is = tt

pub one_why : (limit : ℕ) (had : Option (List ℕ)) (h : Header) (sums : Sums) (w : Held) (mid : Option (List ℕ)) (file : SealedFile) (fault : DumpFault) → IfSome had (λ log. IsStart (unread limit) log (Start.Sealed h sums) w mid) → file.window ≡ w → w.limit ≡ limit → file.which ≡ Which.One → (w.offset ≡ HEADER_BYTES → IsUnprinted file)
    → IfSome (ahead file.window mid) (λ bytes. IsUnprinted file → IsFileWhy file.which file.window.limit (HEADER_BYTES + length bytes) fault) → IfSome had (λ log. IsDumpWhy limit (length log) fault)
one_why limit None h sums w mid file fault start same bound which fresh why = tt
one_why limit (Some log) h sums w mid file fault start same bound which fresh why =
    let is = at_file (λ bytes. IsUnprinted file → IsFileWhy file.which file.window.limit (HEADER_BYTES + length bytes) fault) file w mid (drop HEADER_BYTES log) same start.ahead why (fresh start.place) in
    let here : IsFileWhy Which.One limit (length log) fault = subst (λ n. IsFileWhy Which.One limit n fault) (joined log h (drop HEADER_BYTES log) start.is.0)
    (subst (λ m. IsFileWhy Which.One m (HEADER_BYTES + length (drop HEADER_BYTES log)) fault) (ap (λ x. x.limit) same ∙ bound) (subst (λ p. IsFileWhy p file.window.limit (HEADER_BYTES + length (drop HEADER_BYTES log)) fault) which is)) in
    of_one limit (length log) fault here

-- without one
pub from_front : (w : Held) (mid : Option (List ℕ)) (log : List ℕ) → w.offset ≡ 0 → ahead w mid ≡ Some log → whole_log w mid ≡ Some log
from_front w mid log front is = ap (λ n. if n == 0 then ahead w mid else None) front ∙ is

pub bare_printed : (limit : ℕ) (had : Option (List ℕ)) (seen : Unsealed) (w : Held) (mid old new : Option (List ℕ)) (status : ℕ) → IfSome had (λ log. IsStart (unread limit) log (Start.Other seen) w mid) → w.limit ≡ limit → IfSome (whole_log w mid) (λ log. IsBarePrinted w.limit log old new status) → IfSome had (λ log. IsLogPrinted limit log old new status)
bare_printed limit None seen w mid old new status start bound printed = tt
bare_printed limit (Some log) seen w mid old new status start bound printed =
    let of = subst (λ m. IsBarePrinted m log old new status) bound (subst (λ o. IfSome o (λ l. IsBarePrinted w.limit l old new status)) (from_front w mid log start.place start.ahead) printed) in
    (of.0, (IsOneDumped.bare of.0 status start.is.none of.1.0, of.1.1))

bare_begins : (limit : ℕ) (log : List ℕ) (h : Unsealed) (old new : Option (List ℕ)) → ((head : Header) (more : List ℕ) → BeginsHeader log head more → ⊥) → IsBareBegun limit log old new → IsLogBegun limit log old new
bare_begins limit log h old new none (out, (inl (len, texts), begun)) = (out, (IsOneBegun.bare len out texts, begun))
bare_begins limit log h old new none (out, (inr (status, whole), begun)) = (out, (IsOneBegun.whole out status (IsOneDumped.bare out status none whole), begun))

pub bare_begun : (limit : ℕ) (had : Option (List ℕ)) (seen : Unsealed) (w : Held) (mid old new : Option (List ℕ)) → IfSome had (λ log. IsStart (unread limit) log (Start.Other seen) w mid) → w.limit ≡ limit → IfSome (whole_log w mid) (λ log. IsBareBegun w.limit log old new) → IfSome had (λ log. IsLogBegun limit log old new)
bare_begun limit None seen w mid old new start bound begun = tt
bare_begun limit (Some log) seen w mid old new start bound begun =
    bare_begins limit log seen old new start.is.none (subst (λ m. IsBareBegun m log old new) bound (subst (λ o. IfSome o (λ l. IsBareBegun w.limit l old new)) (from_front w mid log start.place start.ahead) begun))

pub bare_why : (limit : ℕ) (had : Option (List ℕ)) (seen : Unsealed) (w : Held) (mid : Option (List ℕ)) (fault : DumpFault) → IfSome had (λ log. IsStart (unread limit) log (Start.Other seen) w mid) → w.limit ≡ limit → IfSome (whole_log w mid) (λ log. IsFileWhy Which.One w.limit (length log) fault) → IfSome had (λ log. IsDumpWhy limit (length log) fault)
bare_why limit None seen w mid fault start bound why = tt
bare_why limit (Some log) seen w mid fault start bound why = of_one limit (length log) fault (subst (λ m. IsFileWhy Which.One m (length log) fault) bound (subst (λ o. IfSome o (λ l. IsFileWhy Which.One w.limit (length l) fault)) (from_front w mid log start.place start.ahead) why))
