-- Texts of a log: how long their items are, and what is printed of them.
use Rattle.std.proofs.Common.{Bool, ◌≡◌, ◌∙◌, ◌+◌, ◌≤◌, ◌∷◌, ◌++◌, ℕ, suc, List, [], Option, Some, None, inl, inr, ap, arith, drop, false, length, map, refl, rules, subst, sym, true, true≢false}
use Rattle.std.proofs.lemmas.List.{drop-drop, length-drop}
use Rattle.std.proofs.lemmas.List.Elements.{All-cons, All-nil}
use Rattle.std.proofs.lemmas.List.Sums.{count_by-le-length, length-filter}
use Rattle.std.specs.Int.{bit_at}
use Rattle.std.specs.Io.KnownBytes.{Appends, Keeps}
use Rattle.std.specs.Prelude.{All, IfSome, if◌then◌else◌, unwrap_or, ◌==◌}
use Rattle.xt_base.proofs.MapLemmas.{some_none}
use Rattle.xt_base.specs.Chunks.{below, chunks_where, places_of}
use Rattle.xt_ckpt.specs.Grammar.{AreItems, Entry, IsItem, entry}
use Rattle.xt_ckpt.specs.declared.item.Item.{Item}
use Rattle.xt_ckpt.specs.declared.reading.Checkpoint.{Checkpoint}
use Rattle.xt_offline.proofs.AppendLemmas.{appends_kept, appends_more, appends_none, begins_all, begins_same, begins_then, keeps_same}
use Rattle.xt_offline.specs.LogDump.{checkpoint_lines, fault_line, found_lines, rest_lines, status_after, whole_log, AreShort, IsBareBegun, IsBarePrinted, IsDumpWhy, IsDumped, IsLogStatus, IsTold, Texts}
use Rattle.xt_offline.specs.Printing.{Begins}
use Rattle.xt_offline.specs.SealedDump.{IsFileWhy, IsLogBegun, IsLogPrinted, IsLogRun, IsOneBegun}
use Rattle.xt_offline.specs.declared.fault.DumpFault.{DumpFault}
use Rattle.xt_offline.specs.declared.fault.DumpFault.TheVariants.{Log, Memory, Output, Second}
use Rattle.xt_window.proofs.WindowLemmas.{why_any}
use Rattle.xt_window.specs.Window.{ahead, is_too_long, Held, IsAhead, IsOfGrammar}
use Rattle.xt_window.specs.declared.way.Which.{Which}
use Rattle.xt_window.specs.declared.window.Found.{Found}

-- a block has 32 chunks
few_places : (bits : ℕ) → length (places_of bits) ≤ 32
unfolding chunks_where
few_places bits = omega (arith, length-filter (λ k. bit_at bits k == 1) (below 32), count_by-le-length (λ k. bit_at bits k == 1) (below 32))

-- an item has no more bytes than a block
item_short : (size : Option ℕ) (bytes : List ℕ) (e : Entry) → IsItem size bytes e → length e.content ≤ 4096
item_short size bytes e (inl cancel) = omega (arith, ap (λ xs. length xs) cancel.content)
item_short size bytes e (inr logged) = omega (arith, logged.content, ap (λ xs. length xs) logged.chunks, few_places logged.bits)

items_short : (size : Option ℕ) (least : ℕ) (bytes : List ℕ) (items : List Item) → AreItems size least bytes (map entry items) → All (λ (i : Item). length i.content.items ≤ 4096) items
items_short size least bytes [] are = All-nil (λ (i : Item). length i.content.items ≤ 4096)
items_short size least bytes (i ∷ is) are =
    All-cons (λ (i : Item). length i.content.items ≤ 4096) i is (item_short size are.0 (entry i) are.4) (items_short size (suc i.block) are.1 is are.5)

-- and so has each item of a text that was found
pub short_found : (found : Found) → IsOfGrammar found → AreShort found
short_found (Found.Text c) (text, is) = items_short c.size 0 is.body c.items.items is.each
short_found (Found.Rest count) is = tt
short_found (Found.Fault place) is = tt

-- ---- the dump of a log, as far as it has come
-- the texts in front of what is held are printed
pub record Stands (most : ℕ) (log : List ℕ) (h : Held) (left old new : Option (List ℕ)) : Type 0 where
  pub out : List ℕ
  pub texts : Texts log h.offset out
  pub within : h.offset ≤ length log
  pub limit : h.limit ≡ most
  pub same : ahead h left ≡ Some (drop h.offset log)
  pub written : Appends old new out

-- nothing is printed
stands_at : (front : Bool) (known : Option (List ℕ)) (h : Held) (left old : Option (List ℕ)) → (front ≡ true → h.offset ≡ 0) → known ≡ ahead h left → IfSome (if front then known else None) (λ log. Stands h.limit log h left old old)
stands_at false known h left old front is = tt
stands_at true None h left old front is = tt
stands_at true (Some log) h left old front is = record {
  out = [];
  texts = subst (λ n. Texts log n []) (sym (front refl)) (Texts.none log);
  within = omega (arith, front refl);
  limit = refl;
  same = sym is ∙ ap (λ n. Some (drop n log)) (sym (front refl));
  written = appends_none old;
}

pub stands_first : (h : Held) (left old : Option (List ℕ)) → IfSome (whole_log h left) (λ log. Stands h.limit log h left old old)
stands_first h left old = stands_at (h.offset == 0) (ahead h left) h left old (λ e. search (rules, e)) refl

-- what is ahead is the rest of the log
rest_of : (most : ℕ) (log : List ℕ) (h : Held) (left old new : Option (List ℕ)) (P : List ℕ → Type 0) → Stands most log h left old new → IfSome (ahead h left) P → P (drop h.offset log)
rest_of most log h left old new P s is = subst (λ o. IfSome o P) s.same is

-- one more text is printed
more_of : (most : ℕ) (log : List ℕ) (h now : Held) (left has old mid new : Option (List ℕ)) (c : Checkpoint) → Stands most log h left old mid → IsAhead h (drop h.offset log) (Found.Text c) now has → Appends mid new (checkpoint_lines c) → now.limit ≡ h.limit → Stands most log now has old new
more_of most log h now left has old mid new c s (size, (begins, (place, same))) printed kept = record {
  out = s.out ++ checkpoint_lines c;
  texts = subst (λ n. Texts log n (s.out ++ checkpoint_lines c)) (sym place) (Texts.more log s.out h.offset size c s.texts begins);
  within = omega (arith, begins.0, length-drop h.offset log, s.within, place);
  limit = kept ∙ s.limit;
  same = same ∙ ap Some (drop-drop size h.offset log ∙ ap (λ n. drop n log) (sym place));
  written = appends_more old mid new s.out (checkpoint_lines c) s.written printed;
}

pub stands_more : (most : ℕ) (had : Option (List ℕ)) (h now : Held) (left has old mid new : Option (List ℕ)) (found : Found) → IfSome had (λ log. Stands most log h left old mid) → IfSome (ahead h left) (λ log. IsAhead h log found now has) → Appends mid new (found_lines found) → status_after found ≡ None → now.limit ≡ h.limit → IfSome had (λ log. Stands most log now has old new)
stands_more most None h now left has old mid new found s is printed on kept = tt
stands_more most (Some log) h now left has old mid new (Found.Text c) s is printed on kept = more_of most log h now left has old mid new c s (rest_of most log h left old mid (λ t. IsAhead h t (Found.Text c) now has) s is) printed kept
stands_more most (Some log) h now left has old mid new (Found.Rest count) s is printed on kept = some_none 0 _ on
stands_more most (Some log) h now left has old mid new (Found.Fault place) s is printed on kept = some_none 3 _ on

-- ---- the end of a log
-- what is printed of a log whose end is no text yet
whole_rest : (most : ℕ) (log : List ℕ) (h now : Held) (left has old mid : Option (List ℕ)) (count : ℕ) (s : Stands most log h left old mid) → IsAhead h (drop h.offset log) (Found.Rest count) now has → IsDumped most log (s.out ++ rest_lines count) 0
whole_rest most log h now left has old mid count s (unfinished, (counted, short)) =
    subst (λ n. IsDumped most log (s.out ++ rest_lines n) 0) (sym counted) (IsDumped.rest log s.out h.offset s.texts unfinished (omega (arith, short, s.limit, length-drop h.offset log)))

-- what is printed of a log in which a field breaks its rule
whole_fault : (most : ℕ) (log : List ℕ) (h now : Held) (left has old mid : Option (List ℕ)) (place : ℕ) (s : Stands most log h left old mid) → IsAhead h (drop h.offset log) (Found.Fault place) now has → IsDumped most log (s.out ++ fault_line place) 3
whole_fault most log h now left has old mid place s (at, (is, (told, within))) =
    subst (λ n. IsDumped most log (s.out ++ fault_line n) 3) (sym told) (IsDumped.fault log s.out h.offset at s.texts is (omega (arith, told, within, s.limit)))

-- what is printed of a log, by what was found at its end
whole_found : (most : ℕ) (log : List ℕ) (h now : Held) (left has old mid : Option (List ℕ)) (found : Found) (status : ℕ) (s : Stands most log h left old mid) → IsAhead h (drop h.offset log) found now has → status_after found ≡ Some status → IsDumped most log (s.out ++ found_lines found) status
whole_found most log h now left has old mid (Found.Text c) status s is over = some_none status _ (sym over)
whole_found most log h now left has old mid (Found.Rest count) status s is over =
    subst (λ n. IsDumped most log (s.out ++ rest_lines count) n) (ap (λ o. unwrap_or o 0) over) (whole_rest most log h now left has old mid count s is)
whole_found most log h now left has old mid (Found.Fault place) status s is over =
    subst (λ n. IsDumped most log (s.out ++ fault_line place) n) (ap (λ o. unwrap_or o 0) over) (whole_fault most log h now left has old mid place s is)

pub printed_found : (most : ℕ) (had : Option (List ℕ)) (h now : Held) (left has old mid new : Option (List ℕ)) (found : Found) (status : ℕ) → IfSome had (λ log. Stands most log h left old mid) → IfSome (ahead h left) (λ log. IsAhead h log found now has) → Appends mid new (found_lines found) → status_after found ≡ Some status → IfSome had (λ log. IsBarePrinted most log old new status)
printed_found most None h now left has old mid new found status s is printed over = tt
printed_found most (Some log) h now left has old mid new found status s is printed over =
    (s.out ++ found_lines found, (whole_found most log h now left has old mid found status s (rest_of most log h left old mid (λ t. IsAhead h t found now has) s is) over, appends_more old mid new s.out (found_lines found) s.written printed))

-- its status is one of those that a dump has
pub status_found : (found : Found) (status : ℕ) → status_after found ≡ Some status → IsLogStatus status
status_found (Found.Text c) status over = some_none status _ (sym over)
status_found (Found.Rest count) status over = inl (ap (λ o. unwrap_or o 0) (sym over))
status_found (Found.Fault place) status over = inr (inr (ap (λ o. unwrap_or o 3) (sym over)))

-- ---- a dump that is given up
-- before anything is read
pub begun_none : (most : ℕ) (had : Option (List ℕ)) (old : Option (List ℕ)) → IfSome had (λ log. IsLogBegun most log old old)
begun_none most None old = tt
begun_none most (Some log) old = ([], (IsOneBegun.bare 0 [] (Texts.none log), begins_same old []))

-- behind some texts
pub begun_here : (most : ℕ) (had : Option (List ℕ)) (h : Held) (left old new : Option (List ℕ)) → IfSome had (λ log. Stands most log h left old new) → IfSome had (λ log. IsBareBegun most log old new)
begun_here most None h left old new s = tt
begun_here most (Some log) h left old new s = (s.out, (inl (h.offset, s.texts), begins_all old new s.out s.written))

-- in what was found there
begun_in : (most : ℕ) (log : List ℕ) (h now : Held) (left has old mid new : Option (List ℕ)) (found : Found) (s : Stands most log h left old mid) → IsAhead h (drop h.offset log) found now has → Begins mid new (found_lines found) → IsBareBegun most log old new
begun_in most log h now left has old mid new (Found.Text c) s is begun =
    (s.out ++ checkpoint_lines c, (inl (h.offset + is.0, Texts.more log s.out h.offset is.0 c s.texts is.1.0), begins_then old mid new s.out (checkpoint_lines c) s.written begun))
begun_in most log h now left has old mid new (Found.Rest count) s is begun =
    (s.out ++ rest_lines count, (inr (0, whole_rest most log h now left has old mid count s is), begins_then old mid new s.out (rest_lines count) s.written begun))
begun_in most log h now left has old mid new (Found.Fault place) s is begun =
    (s.out ++ fault_line place, (inr (3, whole_fault most log h now left has old mid place s is), begins_then old mid new s.out (fault_line place) s.written begun))

pub begun_found : (most : ℕ) (had : Option (List ℕ)) (h now : Held) (left has old mid new : Option (List ℕ)) (found : Found) → IfSome had (λ log. Stands most log h left old mid) → IfSome (ahead h left) (λ log. IsAhead h log found now has) → Begins mid new (found_lines found) → IfSome had (λ log. IsBareBegun most log old new)
begun_found most None h now left has old mid new found s is begun = tt
begun_found most (Some log) h now left has old mid new found s is begun = begun_in most log h now left has old mid new found s (rest_of most log h left old mid (λ t. IsAhead h t found now has) s is) begun

-- why a log was given up
pub why_whole : (most : ℕ) (had : Option (List ℕ)) (h : Held) (left old new : Option (List ℕ)) (fault : DumpFault) → IfSome had (λ log. Stands most log h left old new) → IfSome (ahead h left) (λ log. IsFileWhy Which.One h.limit (h.offset + length log) fault) → IfSome had (λ log. IsFileWhy Which.One most (length log) fault)
why_whole most None h left old new fault s why = tt
why_whole most (Some log) h left old new fault s why =
    let joined : h.offset + length (drop h.offset log) ≡ length log = omega (arith, length-drop h.offset log, s.within) in
    subst (λ n. IsFileWhy Which.One most n fault) joined (subst (λ m. IsFileWhy Which.One m (h.offset + length (drop h.offset log)) fault) s.limit (rest_of most log h left old new (λ t. IsFileWhy Which.One h.limit (h.offset + length t) fault) s why))

-- whether a fault says that a log has too many bytes
abbrev pub is_of_length : DumpFault → Bool
is_of_length (Log fault) = is_too_long fault
is_of_length other = false

why_other : (most size : ℕ) (fault : DumpFault) → is_of_length fault ≡ false → IsDumpWhy most size fault
why_other most size (Log fault) other = why_any most size fault other
why_other most size (Second fault) other = tt
why_other most size (Output error) other = tt
why_other most size (Memory error) other = tt

pub why_known : (most : ℕ) (had : Option (List ℕ)) (fault : DumpFault) → is_of_length fault ≡ false → IfSome had (λ log. IsDumpWhy most (length log) fault)
why_known most None fault other = tt
why_known most (Some log) fault other = why_other most (length log) fault other

-- the same of one that is read without seals
abbrev pub is_of_file : DumpFault → Bool
is_of_file (Log fault) = is_too_long fault
is_of_file (Second fault) = true
is_of_file other = false

bare_other : (most size : ℕ) (fault : DumpFault) → is_of_file fault ≡ false → IsFileWhy Which.One most size fault
bare_other most size (Log fault) other = why_any most size fault other
bare_other most size (Second fault) other = absurd (true≢false other)
bare_other most size (Output error) other = tt
bare_other most size (Memory error) other = tt

pub why_bare : (most : ℕ) (had : Option (List ℕ)) (fault : DumpFault) → is_of_file fault ≡ false → IfSome had (λ log. IsFileWhy Which.One most (length log) fault)
why_bare most None fault other = tt
why_bare most (Some log) fault other = bare_other most (length log) fault other

-- ---- all that was held back is written too
pub log_printed_kept : (most : ℕ) (had : Option (List ℕ)) (old mid new : Option (List ℕ)) (status : ℕ) → IfSome had (λ log. IsLogPrinted most log old mid status) → Keeps mid new → IfSome had (λ log. IsLogPrinted most log old new status)
log_printed_kept most None old mid new status is kept = tt
log_printed_kept most (Some log) old mid new status is kept = (is.0, (is.1.0, appends_kept old mid new is.0 is.1.1 kept))

pub begun_last : (most : ℕ) (had : Option (List ℕ)) (old mid new : Option (List ℕ)) (status : ℕ) → IfSome had (λ log. IsLogPrinted most log old mid status) → Keeps mid new → IfSome had (λ log. IsLogBegun most log old new)
begun_last most None old mid new status is kept = tt
begun_last most (Some log) old mid new status is kept = (is.0, (IsOneBegun.whole is.0 status is.1.0, begins_all old new is.0 (appends_kept old mid new is.0 is.1.1 kept)))

-- ---- the whole
-- a log was printed
pub dump_whole : (most : ℕ) (had : Option (List ℕ)) (old new err : Option (List ℕ)) (status : ℕ) → IfSome had (λ log. IsLogPrinted most log old new status) → IfSome had (λ log. IsLogRun most log old new err err status)
dump_whole most None old new err status is = tt
dump_whole most (Some log) old new err status is = inl (is, keeps_same err)

-- a log was given up
pub dump_stopped : (most : ℕ) (had : Option (List ℕ)) (old new err_old err_new : Option (List ℕ)) (status : ℕ) (fault : DumpFault) → IfSome had (λ log. IsLogBegun most log old new) → IfSome had (λ log. IsDumpWhy most (length log) fault) → IsTold fault err_old err_new → status ≡ 1 → IfSome had (λ log. IsLogRun most log old new err_old err_new status)
dump_stopped most None old new err_old err_new status fault begun why told ended = tt
dump_stopped most (Some log) old new err_old err_new status fault begun why told ended = inr (fault, record { written = begun; why = why; told = told; ended = ended })
