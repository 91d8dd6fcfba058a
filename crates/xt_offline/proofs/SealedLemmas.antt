-- Files of a sealed log, printed text by text.
use Rattle.std.proofs.Common.{◌≡◌, ◌∙◌, ◌+◌, ◌≤◌, ◌++◌, ℕ, List, [], Option, Some, None, inl, inr, ap, arith, drop, length, refl, subst, sym, take}
use Rattle.std.proofs.lemmas.List.{drop-drop, drop_at, length-append, length-drop, take_all}
use Rattle.std.specs.Io.KnownBytes.{Appends, Keeps}
use Rattle.std.specs.Prelude.{Err, IfErr, IfOk, IfSome, Ok, OnErr, OnOk, Result}
use Rattle.xt_ckpt.specs.declared.reading.Checkpoint.{Checkpoint}
use Rattle.xt_offline.proofs.AppendLemmas.{appends_kept, appends_more, appends_none, begins_all, begins_longer, begins_none, begins_same, begins_then, keeps_same}
use Rattle.xt_offline.proofs.DumpLemmas.{short_found}
use Rattle.xt_offline.specs.LogDump.{HasShortItems, IsDumpWhy, IsLogStatus, checkpoint_lines}
use Rattle.xt_offline.specs.Printing.{Begins}
use Rattle.xt_offline.specs.SealedDump.{AllPrinted, IsChained, IsEndBegun, IsEndPrinted, IsFileWhy, IsFurther, IsNextOf, IsOther, IsSealedBegun, IsSealedDumped, IsSealedPrinted, IsTextsBegun, IsTextsPrinted, IsUnprinted, BeginsWith, Printed, SealedTexts, end_lines, end_status}
use Rattle.xt_offline.specs.declared.fault.DumpFault.{DumpFault}
use Rattle.xt_offline.specs.declared.fault.DumpFault.TheVariants.{Log, Memory, Output, Second}
use Rattle.xt_offline.specs.declared.sealed.SealedFile.{SealedFile}
use Rattle.xt_seal.proofs.SealLemmas.{length_seal}
use Rattle.xt_seal.specs.Headers.{head_bytes, header_bytes}
use Rattle.xt_seal.specs.Seal.{BeginsNoSealed, Seals, seal_of, text_seal}
use Rattle.xt_seal.specs.Sums.{Sums}
use Rattle.xt_seal.specs.declared.header.Header.{Header}
use Rattle.xt_seal.specs.declared.header.TheConstants.{HEADER_BYTES}
use Rattle.xt_window.specs.Rest.{IsRest}
use Rattle.xt_window.specs.Window.{ahead, Held, IsAheadSealed, IsTakenSealed}
use Rattle.xt_window.specs.declared.rest.Rest.{Rest}
use Rattle.xt_window.specs.declared.way.Which.{Which}
use Rattle.xt_window.specs.declared.window.Found.{Found}
use Rattle.xt_window.specs.declared.window.SealedText.{SealedText}

-- ---- the next text
-- a text that was taken has no longer items than blocks have bytes
pub short_taken : (head before : List ℕ) (t : SealedText) (new : Sums) → IsTakenSealed head before t new → HasShortItems t.checkpoint
short_taken head before t new (text, (is, rest)) = short_found (Found.Text t.checkpoint) (text, is)

pub short_next : (found : Option SealedText) (t : SealedText) (head before : List ℕ) (old new : Sums) → found ≡ Some t → Seals old head before [] → IfSome found (λ text. (head before : List ℕ) → Seals old head before [] → IsTakenSealed head before text new) → HasShortItems t.checkpoint
short_next found t head before old new is seals taken = short_taken head before t new (subst (λ o. IfSome o (λ text. (head before : List ℕ) → Seals old head before [] → IsTakenSealed head before text new)) is taken head before seals)

-- what comes next of a file, where its bytes are known
pub next_text : (known : Option (List ℕ)) (old new : SealedFile) (t : SealedText) (has : Option (List ℕ)) → IfSome known (λ log. IsAheadSealed (head_bytes old.header) old.last old.window log (Some t) new.sealer new.window has) → new.last ≡ t.seal → IfSome known (λ bytes. IsNextOf old bytes (Some t) new has)
next_text None old new t has is last = tt
next_text (Some log) old new t has (len, (is, (place, same))) last = (len, ((is.found.room, is.found.begins), (last ∙ is.seal, (place, same))))

pub next_none : (known : Option (List ℕ)) (old new : SealedFile) (has : Option (List ℕ)) → IfSome known (λ log. IsAheadSealed (head_bytes old.header) old.last old.window log None new.sealer new.window has) → new.last ≡ old.last → IfSome known (λ bytes. IsNextOf old bytes None new has)
next_none None old new has is last = tt
next_none (Some log) old new has (none, (place, same)) last = (none, (last, (place, same)))

-- ---- as far as texts are printed
pub record Standing (h : Header) (bytes last : List ℕ) (w : Held) (left old new : Option (List ℕ)) : Type 0 where
  pub len : ℕ
  pub out : List ℕ
  pub texts : Printed h bytes len last out
  pub within : len ≤ length bytes
  pub place : w.offset ≡ HEADER_BYTES + len
  pub same : ahead w left ≡ Some (drop len bytes)
  pub written : Appends old new out

-- nothing is printed
pub standing_first : (known : Option (List ℕ)) (f : SealedFile) (left old : Option (List ℕ)) → known ≡ ahead f.window left → IfSome known (λ bytes. IsUnprinted f → Standing f.header bytes f.last f.window left old old)
standing_first None f left old is = tt
standing_first (Some bytes) f left old is = λ fresh. record {
  len = 0;
  out = [];
  texts = subst (λ last. Printed f.header bytes 0 last []) (sym fresh.0) SealedTexts.none;
  within = omega arith;
  place = fresh.1;
  same = sym is;
  written = appends_none old;
}

-- what is ahead is the rest
rest_of : (h : Header) (bytes : List ℕ) (f : SealedFile) (left old new : Option (List ℕ)) (P : List ℕ → Type 0) (s : Standing h bytes f.last f.window left old new) → IfSome (ahead f.window left) P → P (drop s.len bytes)
rest_of h bytes f left old new P s is = subst (λ o. IfSome o P) s.same is

-- one more text is printed
more_of : (bytes : List ℕ) (h : Header) (f g : SealedFile) (left has old mid new : Option (List ℕ)) (t : SealedText) (s : Standing h bytes f.last f.window left old mid) → f.header ≡ h → IsNextOf f (drop s.len bytes) (Some t) g has → Appends mid new (checkpoint_lines t.checkpoint) → Standing h bytes g.last g.window has old new
more_of bytes h f g left has old mid new t s header (size, (begins, (last, (place, same)))) printed =
    let starts = subst (λ x. BeginsWith (head_bytes x) f.last (drop s.len bytes) t.checkpoint size) header begins in
    let seal : text_seal (head_bytes h) f.last (take size (drop s.len bytes)) ≡ g.last = sym (last ∙ ap (λ x. text_seal (head_bytes x) f.last (take size (drop s.len bytes))) header) in
    record {
      len = s.len + (size + 8);
      out = s.out ++ checkpoint_lines t.checkpoint;
      texts = subst (λ l. Printed h bytes (s.len + (size + 8)) l (s.out ++ checkpoint_lines t.checkpoint)) seal (SealedTexts.more s.len size f.last s.out t.checkpoint s.texts starts);
      within = omega (arith, begins.0, length-drop s.len bytes, s.within);
      place = omega (arith, place, s.place);
      same = same ∙ ap Some (drop-drop (size + 8) s.len bytes);
      written = appends_more old mid new s.out (checkpoint_lines t.checkpoint) s.written printed;
    }

pub standing_more : (known : Option (List ℕ)) (first f g : SealedFile) (left has old mid new : Option (List ℕ)) (found : Option SealedText) (t : SealedText) → IfSome known (λ bytes. IsUnprinted first → Standing first.header bytes f.last f.window left old mid) → f.header ≡ first.header → found ≡ Some t → IfSome (ahead f.window left) (λ bytes. IsNextOf f bytes found g has) → Appends mid new (checkpoint_lines t.checkpoint)
    → IfSome known (λ bytes. IsUnprinted first → Standing first.header bytes g.last g.window has old new)
standing_more None first f g left has old mid new found t s header at is printed = tt
standing_more (Some bytes) first f g left has old mid new found t s header at is printed = λ fresh.
    let here = s fresh in
    more_of bytes first.header f g left has old mid new t here header (rest_of first.header bytes f left old mid (λ log. IsNextOf f log (Some t) g has) here (subst (λ o. IfSome (ahead f.window left) (λ log. IsNextOf f log o g has)) at is)) printed

-- all are
all_of : (bytes : List ℕ) (f g : SealedFile) (left has old new : Option (List ℕ)) (s : Standing g.header bytes f.last f.window left old new) → f.header ≡ g.header → IsNextOf f (drop s.len bytes) None g has → IsTextsPrinted bytes g has old new
all_of bytes f g left has old new s header (none, (last, (place, same))) = record {
  len = s.len;
  out = s.out;
  all = record {
    texts = subst (λ l. Printed g.header bytes s.len l s.out) (sym last) s.texts;
    none = subst (λ l. BeginsNoSealed (head_bytes g.header) l (drop s.len bytes)) (sym last) (subst (λ x. BeginsNoSealed (head_bytes x) f.last (drop s.len bytes)) header none);
  };
  within = s.within;
  place = place ∙ s.place;
  same = same;
  written = s.written;
}

pub all_printed : (known : Option (List ℕ)) (first f g : SealedFile) (left has old new : Option (List ℕ)) (found : Option SealedText) → IfSome known (λ bytes. IsUnprinted first → Standing first.header bytes f.last f.window left old new) → f.header ≡ first.header → g.header ≡ first.header → found ≡ None → IfSome (ahead f.window left) (λ bytes. IsNextOf f bytes found g has)
    → IfSome known (λ bytes. IsUnprinted first → IsTextsPrinted bytes g has old new)
all_printed None first f g left has old new found s header same at is = tt
all_printed (Some bytes) first f g left has old new found s header same at is = λ fresh.
    let here : Standing g.header bytes f.last f.window left old new = subst (λ x. Standing x bytes f.last f.window left old new) (sym same) (s fresh) in
    all_of bytes f g left has old new here (header ∙ sym same) (rest_of g.header bytes f left old new (λ log. IsNextOf f log None g has) here (subst (λ o. IfSome (ahead f.window left) (λ log. IsNextOf f log o g has)) at is))

-- a beginning of what is printed of them
pub begun_here : (known : Option (List ℕ)) (first f : SealedFile) (left old new : Option (List ℕ)) → IfSome known (λ bytes. IsUnprinted first → Standing first.header bytes f.last f.window left old new) → IfSome known (λ bytes. IsUnprinted first → IsTextsBegun first.header bytes old new)
begun_here None first f left old new s = tt
begun_here (Some bytes) first f left old new s = λ fresh. let here = s fresh in (here.len, (f.last, (here.out, (here.texts, begins_all old new here.out here.written))))

pub begun_more : (known : Option (List ℕ)) (first f g : SealedFile) (left has old mid new : Option (List ℕ)) (found : Option SealedText) (t : SealedText) → IfSome known (λ bytes. IsUnprinted first → Standing first.header bytes f.last f.window left old mid) → f.header ≡ first.header → found ≡ Some t → IfSome (ahead f.window left) (λ bytes. IsNextOf f bytes found g has) → Begins mid new (checkpoint_lines t.checkpoint)
    → IfSome known (λ bytes. IsUnprinted first → IsTextsBegun first.header bytes old new)
begun_more None first f g left has old mid new found t s header at is begun = tt
begun_more (Some bytes) first f g left has old mid new found t s header at is begun = λ fresh.
    let here = s fresh in
    let next = rest_of first.header bytes f left old mid (λ log. IsNextOf f log (Some t) g has) here (subst (λ o. IfSome (ahead f.window left) (λ log. IsNextOf f log o g has)) at is) in
    let starts = subst (λ x. BeginsWith (head_bytes x) f.last (drop here.len bytes) t.checkpoint next.0) header next.1.0 in (
      here.len + (next.0 + 8),
      (
        text_seal (head_bytes first.header) f.last (take next.0 (drop here.len bytes)),
        (
          here.out ++ checkpoint_lines t.checkpoint,
          (SealedTexts.more here.len next.0 f.last here.out t.checkpoint here.texts starts, begins_then old mid new here.out (checkpoint_lines t.checkpoint) here.written begun),
        ),
      ),
    )

-- why a file was given up
pub why_here : (known : Option (List ℕ)) (which : Which) (limit : ℕ) (first f : SealedFile) (left old new : Option (List ℕ)) (fault : DumpFault) → IfSome known (λ bytes. IsUnprinted first → Standing first.header bytes f.last f.window left old new) → IfSome (ahead f.window left) (λ bytes. IsFileWhy which limit (f.window.offset + length bytes) fault)
    → IfSome known (λ bytes. IsUnprinted first → IsFileWhy which limit (HEADER_BYTES + length bytes) fault)
why_here None which limit first f left old new fault s why = tt
why_here (Some bytes) which limit first f left old new fault s why = λ fresh.
    let here = s fresh in
    let joined : f.window.offset + length (drop here.len bytes) ≡ HEADER_BYTES + length bytes = omega (arith, length-drop here.len bytes, here.within, here.place) in
    subst (λ n. IsFileWhy which limit n fault) joined (rest_of first.header bytes f left old new (λ log. IsFileWhy which limit (f.window.offset + length log) fault) here why)

-- a fault of no file is not of this one either
pub why_another : (which : Which) (limit size : ℕ) (fault : DumpFault) → IsOther fault → IsFileWhy which limit size fault
why_another which limit size (Log why) is = absurd is
why_another which limit size (Second why) is = absurd is
why_another Which.One limit size (Output error) is = tt
why_another Which.Other limit size (Output error) is = tt
why_another Which.One limit size (Memory error) is = tt
why_another Which.Other limit size (Memory error) is = tt

-- ---- the end of a file
-- its status is one of those that a dump has
pub status_rest : (rest : Rest) (status : ℕ) → status ≡ end_status rest → IsLogStatus status
status_rest (Rest.Torn count) status is = inl is
status_rest Rest.TooLong status is = inr (inr is)
status_rest Rest.Later status is = inr (inr is)

-- a file was printed, with its end
pub whole_of : (known : Option (List ℕ)) (first f : SealedFile) (left old mid new : Option (List ℕ)) (status : ℕ) → IfSome known (λ bytes. IsUnprinted first → IsTextsPrinted bytes f left old mid) → f.header ≡ first.header → IfSome (ahead f.window left) (λ bytes. IsEndPrinted f.header f.window.offset bytes mid new status)
    → IfSome known (λ bytes. IsUnprinted first → IsSealedPrinted first.header bytes old new status)
whole_of None first f left old mid new status texts header end = tt
whole_of (Some bytes) first f left old mid new status texts header end = λ fresh.
    let all = texts fresh in
    let over : IsEndPrinted f.header f.window.offset (drop all.len bytes) mid new status = subst (λ o. IfSome o (λ log. IsEndPrinted f.header f.window.offset log mid new status)) all.same end in
    subst (λ x. IsSealedPrinted x bytes old new status) header (ended bytes f left old mid new status all over)
  where
    ended : (bytes : List ℕ) (f : SealedFile) (left old mid new : Option (List ℕ)) (status : ℕ) (all : IsTextsPrinted bytes f left old mid) → IsEndPrinted f.header f.window.offset (drop all.len bytes) mid new status → IsSealedPrinted f.header bytes old new status
    ended bytes f left old mid new status all (rest, (is, (over, printed))) = (
      all.out ++ end_lines f.window.offset rest,
      (
        record { len = all.len; last = f.last; lines = all.out; rest = rest; all = all.all; behind = is; parts = ap (λ n. all.out ++ end_lines n rest) all.place; ended = over },
        appends_more old mid new all.out (end_lines f.window.offset rest) all.written printed,
      ),
    )

-- a beginning of it was
pub begun_end : (known : Option (List ℕ)) (first f : SealedFile) (left old mid new : Option (List ℕ)) → IfSome known (λ bytes. IsUnprinted first → IsTextsPrinted bytes f left old mid) → f.header ≡ first.header → IfSome (ahead f.window left) (λ bytes. IsEndBegun f.header f.window.offset bytes mid new)
    → IfSome known (λ bytes. IsUnprinted first → IsSealedBegun first.header bytes old new)
begun_end None first f left old mid new texts header end = tt
begun_end (Some bytes) first f left old mid new texts header end = λ fresh.
    let all = texts fresh in
    let over : IsEndBegun f.header f.window.offset (drop all.len bytes) mid new = subst (λ o. IfSome o (λ log. IsEndBegun f.header f.window.offset log mid new)) all.same end in
    subst (λ x. IsSealedBegun x bytes old new) header (ended bytes f left old mid new all over)
  where
    ended : (bytes : List ℕ) (f : SealedFile) (left old mid new : Option (List ℕ)) (all : IsTextsPrinted bytes f left old mid) → IsEndBegun f.header f.window.offset (drop all.len bytes) mid new → IsSealedBegun f.header bytes old new
    ended bytes f left old mid new all (inl kept) = inl (all.len, (f.last, (all.out, (all.all.texts, begins_all old new all.out (appends_kept old mid new all.out all.written kept)))))
    ended bytes f left old mid new all (inr (rest, (is, begun))) =
        inr (
          all.out ++ end_lines f.window.offset rest,
          (
            end_status rest,
            (
              record { len = all.len; last = f.last; lines = all.out; rest = rest; all = all.all; behind = is; parts = ap (λ n. all.out ++ end_lines n rest) all.place; ended = refl },
              begins_then old mid new all.out (end_lines f.window.offset rest) all.written begun,
            ),
          ),
        )

pub begun_texts : (known : Option (List ℕ)) (first : SealedFile) (old new : Option (List ℕ)) → IfSome known (λ bytes. IsUnprinted first → IsTextsBegun first.header bytes old new) → IfSome known (λ bytes. IsUnprinted first → IsSealedBegun first.header bytes old new)
begun_texts None first old new begun = tt
begun_texts (Some bytes) first old new begun = λ fresh. inl (begun fresh)

-- why it was given up there
pub why_end : (known : Option (List ℕ)) (which : Which) (limit : ℕ) (first f : SealedFile) (left old mid : Option (List ℕ)) (fault : DumpFault) → IfSome known (λ bytes. IsUnprinted first → IsTextsPrinted bytes f left old mid) → IfSome (ahead f.window left) (λ bytes. IsFileWhy which limit (f.window.offset + length bytes) fault)
    → IfSome known (λ bytes. IsUnprinted first → IsFileWhy which limit (HEADER_BYTES + length bytes) fault)
why_end None which limit first f left old mid fault texts why = tt
why_end (Some bytes) which limit first f left old mid fault texts why = λ fresh.
    let all = texts fresh in
    let joined : f.window.offset + length (drop all.len bytes) ≡ HEADER_BYTES + length bytes = omega (arith, length-drop all.len bytes, all.within, all.place) in
    subst (λ n. IsFileWhy which limit n fault) joined (subst (λ o. IfSome o (λ log. IsFileWhy which limit (f.window.offset + length log) fault)) all.same why)

-- a seal behind a header is its last 8 bytes
pub seal_behind : (h : Header) (bytes last : List ℕ) → bytes ≡ header_bytes h → length bytes ≡ 64 → last ≡ take 8 (drop 56 bytes) → last ≡ seal_of (head_bytes h)
seal_behind h bytes last is len at =
    let front : length (head_bytes h) ≡ 56 = omega (arith, ap (λ b. length b) is, len, length-append (head_bytes h) (seal_of (head_bytes h)), length_seal (head_bytes h)) in
    at ∙ ap (λ b. take 8 (drop 56 b)) is ∙ ap (take 8) (drop_at (head_bytes h) (seal_of (head_bytes h)) 56 front) ∙ take_all 8 (seal_of (head_bytes h)) (omega (arith, length_seal (head_bytes h)))

-- ---- of a result
pub whole_ok : (r : Result ℕ DumpFault) (known : Option (List ℕ)) (first f : SealedFile) (left old mid new : Option (List ℕ)) → IfSome known (λ bytes. IsUnprinted first → IsTextsPrinted bytes f left old mid) → f.header ≡ first.header → IfOk r (λ status. IfSome (ahead f.window left) (λ bytes. IsEndPrinted f.header f.window.offset bytes mid new status))
    → IfOk r (λ status. IfSome known (λ bytes. IsUnprinted first → IsSealedPrinted first.header bytes old new status))
whole_ok (Ok status) known first f left old mid new texts header end = whole_of known first f left old mid new status texts header end
whole_ok (Err fault) known first f left old mid new texts header end = tt

pub begun_bad : (r : Result ℕ DumpFault) (known : Option (List ℕ)) (first f : SealedFile) (left old mid new : Option (List ℕ)) → IfSome known (λ bytes. IsUnprinted first → IsTextsPrinted bytes f left old mid) → f.header ≡ first.header → OnErr r (IfSome (ahead f.window left) (λ bytes. IsEndBegun f.header f.window.offset bytes mid new))
    → OnErr r (IfSome known (λ bytes. IsUnprinted first → IsSealedBegun first.header bytes old new))
begun_bad (Ok status) known first f left old mid new texts header end = tt
begun_bad (Err fault) known first f left old mid new texts header end = begun_end known first f left old mid new texts header end

pub why_bad : (r : Result ℕ DumpFault) (known : Option (List ℕ)) (first f : SealedFile) (left old mid : Option (List ℕ)) → IfSome known (λ bytes. IsUnprinted first → IsTextsPrinted bytes f left old mid) → IsFurther first f → IfErr r (λ fault. IfSome (ahead f.window left) (λ bytes. IsFileWhy f.which f.window.limit (f.window.offset + length bytes) fault))
    → IfErr r (λ fault. IfSome known (λ bytes. IsUnprinted first → IsFileWhy first.which first.window.limit (HEADER_BYTES + length bytes) fault))
why_bad (Ok status) known first f left old mid texts further why = tt
why_bad (Err fault) known first f left old mid texts further why =
    why_end known first.which first.window.limit first f left old mid fault texts
    (subst (λ m. IfSome (ahead f.window left) (λ bytes. IsFileWhy first.which m (f.window.offset + length bytes) fault)) further.1.1
    (subst (λ p. IfSome (ahead f.window left) (λ bytes. IsFileWhy p f.window.limit (f.window.offset + length bytes) fault)) further.1.0 why))

-- how a file ends
pub end_kept : (known : Option (List ℕ)) (h : Header) (place : ℕ) (old : Option (List ℕ)) → IfSome known (λ bytes. IsEndBegun h place bytes old old)
end_kept None h place old = tt
end_kept (Some bytes) h place old = inl (keeps_same old)

pub end_printed : (r : Result ℕ DumpFault) (known : Option (List ℕ)) (h : Header) (place : ℕ) (rest : Rest) (old new : Option (List ℕ)) → IfSome known (λ bytes. IsRest (head_bytes h) bytes rest) → OnOk r (Appends old new (end_lines place rest)) → IfOk r (λ status. status ≡ end_status rest) → IfOk r (λ status. IfSome known (λ bytes. IsEndPrinted h place bytes old new status))
end_printed (Ok status) None h place rest old new is printed over = tt
end_printed (Ok status) (Some bytes) h place rest old new is printed over = (rest, (is, (over, printed)))
end_printed (Err fault) known h place rest old new is printed over = tt

pub end_begun : (r : Result ℕ DumpFault) (known : Option (List ℕ)) (h : Header) (place : ℕ) (rest : Rest) (old new : Option (List ℕ)) → IfSome known (λ bytes. IsRest (head_bytes h) bytes rest) → Begins old new (end_lines place rest) → OnErr r (IfSome known (λ bytes. IsEndBegun h place bytes old new))
end_begun (Ok status) known h place rest old new is begun = tt
end_begun (Err fault) None h place rest old new is begun = tt
end_begun (Err fault) (Some bytes) h place rest old new is begun = inr (rest, (is, begun))

pub end_why : (r : Result ℕ DumpFault) (known : Option (List ℕ)) (which : Which) (limit place : ℕ) → IfErr r IsOther → IfErr r (λ fault. IfSome known (λ bytes. IsFileWhy which limit (place + length bytes) fault))
end_why (Ok status) known which limit place is = tt
end_why (Err fault) None which limit place is = tt
end_why (Err fault) (Some bytes) which limit place is = why_another which limit (place + length bytes) fault is

pub end_status_of : (r : Result ℕ DumpFault) (rest : Rest) → IfOk r (λ status. status ≡ end_status rest) → IfOk r IsLogStatus
end_status_of (Ok status) rest over = status_rest rest status over
end_status_of (Err fault) rest over = tt
