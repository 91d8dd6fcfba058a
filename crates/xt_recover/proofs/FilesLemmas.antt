-- A log in two files that is gathered.
use Rattle.std.proofs.Common.{append_assoc, ◌≡◌, ◌∙◌, ◌+◌, ◌∷◌, ◌++◌, ◌<◌, ◌≤◌, Bool, Err, List, None, Ok, Option, Result, Some, [], ap, append-nil, arith, drop, false, inl, inr, length, refl, subst, suc, sym, take, true, true≢false, zero, ℕ}
use Rattle.std.proofs.lemmas.Bool.{ne_eqb}
use Rattle.std.proofs.lemmas.List.{drop_at, length-append, length-drop, take_all}
use Rattle.xt_seal.proofs.SealLemmas.{length_seal}
use Rattle.std.proofs.lemmas.List.Elements.{All-from_recursion}
use Rattle.std.specs.Cmp.Lexicographic.{other_text, pointwise, same_text}
use Rattle.std.specs.Prelude.{IfErr, IfOk, IfSome, nat_eq, not, if◌then◌else◌, ◌⊎◌, ◌≢◌}
use Rattle.xt_ckpt.specs.Grammar.{Entry, entries}
use Rattle.xt_recover.proofs.GatherLemmas.{IsFoundText, forms_of, size_for, texts_more}
use Rattle.xt_ckpt.specs.Items.{HasForm}
use Rattle.xt_recover.proofs.LaidLemmas.{AreOfGrammar, items_size, read_of_grammar}
use Rattle.xt_recover.specs.FilesGathering.{EndsAt, IsBegun, IsGatheredAs, IsNewerRead, IsOlderRead, IsOtherSize, IsPast, IsReadSoFar, IsReadUp, IsRottenEnd, IsRottenNewer, IsUnlinked, IsWhyLinked, IsWhyNewer, IsWhyNotBehind, IsWhyNotTorn, IsWhyOlder, IsWhySealed}
use Rattle.xt_recover.specs.FilesRead.{AreLinked, AreSealed, EndsTorn, EndsWith, HasSealedTexts, IsAlone, IsRead, ReadsLog}
use Rattle.xt_recover.specs.Gathering.{IsItemWithin, SaysAlike, for_text, is_of_log}
use Rattle.xt_recover.specs.Overlaid.{Overlaid, nothing, with_items, with_texts}
use Rattle.xt_recover.specs.SealedFiles.{GoesOn, ReadsFile, ReadsOne}
use Rattle.xt_recover.specs.SealedPromise.{ReadsUpTo}
use Rattle.xt_recover.specs.declared.gather.LogCounts.{LogCounts}
use Rattle.xt_recover.specs.declared.gather.LogFault.{LogFault}
use Rattle.xt_recover.specs.declared.gather_files.Source.{Source}
use Rattle.xt_seal.specs.Headers.{head_bytes, header_bytes}
use Rattle.xt_seal.specs.Seal.{BeginsNoSealed, BeginsSealed, Seals, seal_of, text_seal}
use Rattle.xt_seal.specs.Sums.{Sums}
use Rattle.xt_seal.specs.declared.header.Header.{Header}
use Rattle.xt_window.proofs.StartLemmas.{header_room}
use Rattle.xt_window.proofs.WayLemmas.{bare_no_header}
use Rattle.xt_window.specs.Rest.{HasLater, IsRest}
use Rattle.xt_window.specs.Start.{BeginsHeader}
use Rattle.xt_window.specs.declared.rest.Rest.{Rest}
use Rattle.xt_window.specs.Ways.{HasBegun, IsBare, IsNextHeader}
use Rattle.xt_window.specs.Window.{Held, IsAheadSealed, IsTextSealed, IsTextTaken, ahead}
use Rattle.xt_window.specs.declared.way.Begun.{Begun}
use Rattle.xt_window.specs.declared.way.Which.{Which}
use Rattle.xt_window.specs.declared.window.SealedText.{SealedText}

-- ---- texts with their seals
-- one text more
are_sealed_more : (size : Option ℕ) (head before bytes last rest text more : List ℕ) (number : ℕ) (ts : List (List Entry)) (t : List Entry) → AreSealed size head before bytes ts last rest → BeginsSealed head last size rest text number t more
    → AreSealed size head before bytes (ts ++ t ∷ []) (text_seal head last text) more
are_sealed_more size head before bytes last rest text more number [] t all begins =
    (text, more, number, subst (λ xs. BeginsSealed head before size xs text number t more) all.1 (subst (λ xs. BeginsSealed head xs size rest text number t more) all.0 begins), (ap (λ xs. text_seal head xs text) all.0, refl))
are_sealed_more size head before bytes last rest text more number (x ∷ xs) t all begins =
    (all.0, all.1, all.2, all.3, are_sealed_more size head (text_seal head before all.0) all.1 last rest text more number xs t all.4 begins)

-- none say whatever is wanted
are_sealed_none : (f g : Option ℕ) (head before bytes last rest : List ℕ) (ts : List (List Entry)) → ts ≡ [] → AreSealed f head before bytes ts last rest → AreSealed g head before bytes ts last rest
are_sealed_none f g head before bytes last rest [] none all = all
are_sealed_none f g head before bytes last rest (x ∷ xs) none all = absurd (omega (arith, ap (λ (ys : List (List Entry)). length ys) none))

pub texts_none : (f g : Option ℕ) (bytes : List ℕ) (h : Header) (ts : List (List Entry)) (last rest : List ℕ) → ts ≡ [] → HasSealedTexts f bytes h ts last rest → HasSealedTexts g bytes h ts last rest
texts_none f g bytes h ts last rest none file =
    record { more = file.more; begins = file.begins; sealed = are_sealed_none f g (head_bytes h) (seal_of (head_bytes h)) file.more last rest ts none file.sealed }

-- they are of the grammar
sealed_of_grammar : (size : Option ℕ) (head before bytes last rest : List ℕ) (ts : List (List Entry)) → AreSealed size head before bytes ts last rest → AreOfGrammar size ts
sealed_of_grammar size head before bytes last rest [] all = tt
sealed_of_grammar size head before bytes last rest (t ∷ ts) all = (all.0, all.2, all.3.is, sealed_of_grammar size head (text_seal head before all.0) all.1 last rest ts all.4)

grammar_append : (size : Option ℕ) (xs ys : List (List Entry)) → AreOfGrammar size xs → AreOfGrammar size ys → AreOfGrammar size (xs ++ ys)
grammar_append size [] ys one two = two
grammar_append size (x ∷ xs) ys one two = (one.0, one.1, one.2, grammar_append size xs ys one.3 two)

-- they are read, where no other follows
sealed_read : (size : Option ℕ) (head before bytes last rest : List ℕ) (ts : List (List Entry)) → AreSealed size head before bytes ts last rest → BeginsNoSealed head last rest → ReadsUpTo size head before bytes ts last
sealed_read size head before bytes last rest [] all ends = (all.0, subst (BeginsNoSealed head before) all.1 (subst (λ xs. BeginsNoSealed head xs rest) all.0 ends))
sealed_read size head before bytes last rest (t ∷ ts) all ends = (all.0, all.1, all.2, all.3, sealed_read size head (text_seal head before all.0) all.1 last rest ts all.4 ends)

reads_file : (size : Option ℕ) (bytes : List ℕ) (h : Header) (ts : List (List Entry)) (last rest : List ℕ) → HasSealedTexts size bytes h ts last rest → BeginsNoSealed (head_bytes h) last rest → ReadsFile size bytes h ts last
reads_file size bytes h ts last rest file ends = record {
  fits = file.begins.fits;
  more = file.more;
  parts = file.begins.parts;
  read = sealed_read size (head_bytes h) (seal_of (head_bytes h)) file.more last rest ts file.sealed ends;
}

-- ---- what is read of two files
-- with a header no log is without seals
bare_none : (one other more : List ℕ) (h : Header) → (BeginsHeader one h more ⊎ BeginsHeader other h more) → IsBare one other → ⊥
bare_none one other more h (inl is) bare = bare_no_header one more h bare.word is
bare_none one other more h (inr is) bare = absurd (omega (arith, header_room other more h is, ap (λ xs. length xs) bare.none))

linked_goes : (size : Option ℕ) (older newer : List ℕ) (texts : List (List Entry)) (rest : ℕ) (l : AreLinked size older newer texts rest) → GoesOn size older newer texts
linked_goes size older newer texts rest l = record {
  header = l.header;
  next = l.next;
  front = l.front;
  behind = l.behind;
  link = l.next.link;
  last = l.second.last;
  first = reads_file size older l.header l.front l.next.link l.first.rest l.first.file l.first.ends;
  second = reads_file size newer l.next l.behind l.second.last l.second.rest l.second.file l.second.ends;
  generation = omega (arith, l.follows.generation);
  linked = refl;
  parts = l.parts;
}

alone_reads : (size : Option ℕ) (bare one : List ℕ) (texts : List (List Entry)) (rest : ℕ) → IsAlone size bare one texts rest → ReadsOne size one bare texts
alone_reads size bare one texts rest a =
    record { header = a.header; last = a.file.last; file = reads_file size one a.header texts a.file.last a.file.rest a.file.file a.file.ends; none = a.none.few }

pub read_log : (older : Which) (size : Option ℕ) (one other : List ℕ) (texts : List (List Entry)) (rest : ℕ) → IsRead older size one other texts rest → ReadsLog size one other texts
read_log Which.One size one other texts rest (inl l) = inr (bare_none one other l.first.file.more l.header (inl l.first.file.begins), inl (inl (linked_goes size one other texts rest l)))
read_log Which.One size one other texts rest (inr a) = inr (bare_none one other a.file.file.more a.header (inr a.file.file.begins), inr (inl (inr (alone_reads size one other texts rest a))))
read_log Which.Other size one other texts rest (inl (inl l)) = inr (bare_none one other l.first.file.more l.header (inr l.first.file.begins), inl (inr (linked_goes size other one texts rest l)))
read_log Which.Other size one other texts rest (inl (inr a)) = inr (bare_none one other a.file.file.more a.header (inl a.file.file.begins), inr (inl (inl (alone_reads size other one texts rest a))))
read_log Which.Other size one other texts rest (inr (inl u)) = inl (u.bare, u.read)
read_log Which.Other size one other texts rest (inr (inr n)) = inr (n.sealed, inr (inr (n.none.few, n.none_too.few, n.nothing)))

linked_grammar : (size : Option ℕ) (older newer : List ℕ) (texts : List (List Entry)) (rest : ℕ) → AreLinked size older newer texts rest → AreOfGrammar size texts
linked_grammar size older newer texts rest l =
    subst (AreOfGrammar size) (sym l.parts)
    (grammar_append size l.front l.behind (sealed_of_grammar size (head_bytes l.header) (seal_of (head_bytes l.header)) l.first.file.more l.next.link l.first.rest l.front l.first.file.sealed)
    (sealed_of_grammar size (head_bytes l.next) (seal_of (head_bytes l.next)) l.second.file.more l.second.last l.second.rest l.behind l.second.file.sealed))

alone_grammar : (size : Option ℕ) (bare one : List ℕ) (texts : List (List Entry)) (rest : ℕ) → IsAlone size bare one texts rest → AreOfGrammar size texts
alone_grammar size bare one texts rest a = sealed_of_grammar size (head_bytes a.header) (seal_of (head_bytes a.header)) a.file.file.more a.file.last a.file.rest texts a.file.file.sealed

pub read_grammar : (older : Which) (size : Option ℕ) (one other : List ℕ) (texts : List (List Entry)) (rest : ℕ) → IsRead older size one other texts rest → AreOfGrammar size texts
read_grammar Which.One size one other texts rest (inl l) = linked_grammar size one other texts rest l
read_grammar Which.One size one other texts rest (inr a) = alone_grammar size one other texts rest a
read_grammar Which.Other size one other texts rest (inl (inl l)) = linked_grammar size other one texts rest l
read_grammar Which.Other size one other texts rest (inl (inr a)) = alone_grammar size other one texts rest a
read_grammar Which.Other size one other texts rest (inr (inl u)) = read_of_grammar size one texts u.read
read_grammar Which.Other size one other texts rest (inr (inr n)) = subst (AreOfGrammar size) (sym n.nothing) tt

-- ---- a file that is read
-- its header is taken
pub begun_source : (bytes : List ℕ) (left : Option (List ℕ)) (which : Which) (w : Held) (b : Begun) (last : List ℕ) → HasBegun bytes b → IsPast 64 bytes w left → last ≡ seal_of (head_bytes b.header)
    → IsBegun bytes (record { which = which; window = w; header = b.header; sealer = b.sealer; last = last }) left
begun_source bytes left which w b last begun past is = record {
  more = drop 64 bytes;
  begins = begun.begins;
  last = is;
  same = past.same;
  place = omega (arith, past.place, length-drop 64 bytes, header_room bytes (drop 64 bytes) b.header begun.begins);
  seals = subst (λ xs. Seals b.sealer (head_bytes b.header) xs []) (sym is) begun.seals;
}

-- its seal is behind the bytes of a header
pub seal_behind_head : (bytes : List ℕ) (h : Header) (n : ℕ) → length bytes ≡ 64 → length (drop 56 bytes) ≤ n → bytes ≡ header_bytes h → take n (drop 56 bytes) ≡ seal_of (head_bytes h)
seal_behind_head bytes h n long all is =
    take_all n (drop 56 bytes) all ∙ ap (drop 56) is
    ∙ drop_at (head_bytes h) (seal_of (head_bytes h)) 56 (omega (arith, long, ap (λ xs. length xs) is, length-append (head_bytes h) (seal_of (head_bytes h)), length_seal (head_bytes h)))

pub so_far_begun : (bytes : List ℕ) (front : List (List Entry)) (s : Source) (left : Option (List ℕ)) (count : ℕ) (l : Overlaid) → IsBegun bytes s left → count ≡ length front → l ≡ with_texts front (nothing l.size)
    → IsReadSoFar bytes front s left count l
so_far_begun bytes front s left count l b counted laid = record {
  done = [];
  rest = b.more;
  file = record { more = b.more; begins = b.begins; sealed = (b.last, refl) };
  same = b.same;
  place = b.place;
  seals = b.seals;
  counted = counted ∙ ap (λ (xs : List (List Entry)). length xs) (sym (append-nil front));
  laid = laid ∙ ap (λ xs. with_texts xs (nothing l.size)) (sym (append-nil front));
}

-- texts that are none say whatever is wanted
pub so_far_as : (bytes : List ℕ) (front : List (List Entry)) (s : Source) (left : Option (List ℕ)) (count : ℕ) (size : Option ℕ) (l : Overlaid) → IsReadSoFar bytes front s left count l → IsReadSoFar bytes front s left count (for_text count size l)
so_far_as bytes front s left zero size l so = record {
  done = so.done;
  rest = so.rest;
  file = texts_none l.size size bytes s.header so.done s.last so.rest (none_behind front so.done (sym so.counted)) so.file;
  same = so.same;
  place = so.place;
  seals = so.seals;
  counted = so.counted;
  laid = ap (λ (xs : List (List Entry)). with_texts xs (nothing size)) (sym (none_of (front ++ so.done) (sym so.counted)));
}
  where
    none_of : (xs : List (List Entry)) → length xs ≡ 0 → xs ≡ []
    none_of [] h = refl
    none_of (x ∷ xs) h = absurd (omega (arith, h))

    none_behind : (xs ys : List (List Entry)) → length (xs ++ ys) ≡ 0 → ys ≡ []
    none_behind xs ys h = none_of ys (omega (arith, h, length-append xs ys))
so_far_as bytes front s left (suc n) size l so =
    subst (IsReadSoFar bytes front s left (suc n)) (sym (ap (λ (t : Bool). if t then nothing size else l) (ne_eqb (suc n) 0 (λ same. omega (arith, same))))) so

-- a text and its seal are taken, and the text is laid
pub so_far_text : (bytes : List ℕ) (front : List (List Entry)) (s : Source) (left has : Option (List ℕ)) (count len : ℕ) (l new : Overlaid) (t : SealedText) (sums : Sums) (w : Held) (so : IsReadSoFar bytes front s left count l)
    → IsTextSealed (head_bytes s.header) s.last so.rest t len sums → w.offset ≡ s.window.offset + (len + 8) → ahead w has ≡ Some (drop (len + 8) so.rest) → l.size ≡ t.checkpoint.size → new ≡ with_items (entries t.checkpoint.items.items) l
    → IsReadSoFar bytes front (record { which = s.which; window = w; header = s.header; sealer = sums; last = t.seal }) has (count + 1) new
so_far_text bytes front s left has count len l new t sums w so is place same size laid =
    let c = t.checkpoint in
    let items : List Entry = entries c.items.items in
    let head : List ℕ = head_bytes s.header in
    let text : List ℕ = take len so.rest in
    let more : List ℕ = drop (len + 8) so.rest in
    let begins : BeginsSealed head s.last l.size so.rest text c.no items more = subst (λ n. BeginsSealed head s.last n so.rest text c.no items more) (sym size) is.found.begins in
    let sealed : AreSealed l.size head (seal_of head) so.file.more (so.done ++ items ∷ []) t.seal more =
    subst (λ xs. AreSealed l.size head (seal_of head) so.file.more (so.done ++ items ∷ []) xs more) (sym is.seal)
    (are_sealed_more l.size head (seal_of head) so.file.more s.last so.rest text more c.no so.done items so.file.sealed begins) in
    let kept : new.size ≡ l.size = ap (λ (o : Overlaid). o.size) laid ∙ items_size items l in
    let all : front ++ (so.done ++ items ∷ []) ≡ (front ++ so.done) ++ items ∷ [] = sym (append_assoc front so.done (items ∷ [])) in
    record {
      done = so.done ++ items ∷ [];
      rest = more;
      file = record { more = so.file.more; begins = so.file.begins; sealed = subst (λ n. AreSealed n head (seal_of head) so.file.more (so.done ++ items ∷ []) t.seal more) (sym kept) sealed };
      same = same;
      place = omega (arith, place, so.place, is.found.room, length-drop (len + 8) so.rest);
      seals = subst (λ xs. Seals sums head xs []) (sym is.seal) is.found.next;
      counted = omega (arith, so.counted, ap (λ (xs : List (List Entry)). length xs) all, length-append (front ++ so.done) (items ∷ []));
      laid = laid ∙ ap (with_items items) so.laid ∙ sym (texts_more (front ++ so.done) items (nothing l.size)) ∙ ap (λ xs. with_texts xs (nothing l.size)) (sym all)
          ∙ ap (λ n. with_texts (front ++ (so.done ++ items ∷ [])) (nothing n)) (sym kept);
    }

-- ---- texts are laid on
-- so far those of a file were, from where it was read on
pub record IsLayingOn (was now : Source) (had left : Option (List ℕ)) (before count : ℕ) (old new : Overlaid) : Type 0 where
  pub so_far : (bytes : List ℕ) (front : List (List Entry)) → IsReadSoFar bytes front was had before old → IsReadSoFar bytes front now left count new
  pub which : now.which ≡ was.which
  pub header : now.header ≡ was.header
  pub kept : 1 ≤ before → new.size ≡ old.size
  pub more : before ≤ count

pub laying_first : (s : Source) (left : Option (List ℕ)) (before : ℕ) (l : Overlaid) → IsLayingOn s s left left before before l l
laying_first s left before l = record { so_far = λ bytes front so. so; which = refl; header = refl; kept = λ some. refl; more = omega arith }

-- what is ahead of a file that is read
ahead_of : (left : Option (List ℕ)) (w : Held) (rest : List ℕ) (P : List ℕ → Type 0) → ahead w left ≡ Some rest → IfSome (ahead w left) P → P rest
ahead_of left w rest P same is = subst (λ o. IfSome o P) same is

-- a text is taken and laid
pub laying_more : (was now : Source) (had left has : Option (List ℕ)) (before count : ℕ) (old l new : Overlaid) (t : SealedText) (sums : Sums) (w : Held) (found : Option SealedText) → found ≡ Some t → IsLayingOn was now had left before count old l
    → IfSome (ahead now.window left) (λ log. (head seal : List ℕ) → Seals now.sealer head seal [] → IsAheadSealed head seal now.window log found sums w has) → SaysAlike count t.checkpoint.size l
    → new ≡ with_items (entries t.checkpoint.items.items) (for_text count t.checkpoint.size l)
    → IsLayingOn was (record { which = now.which; window = w; header = now.header; sealer = sums; last = t.seal }) had has before (count + 1) old new
laying_more was now had left has before count old l new t sums w found is laying next alike laid = record {
  so_far = λ bytes front so.
      let size : Option ℕ = t.checkpoint.size in
      let mid : Overlaid = for_text count size l in
      let here = laying.so_far bytes front so in
      let at : IsReadSoFar bytes front now left count mid = so_far_as bytes front now left count size l here in
      let all = ahead_of left now.window at.rest (λ log. (head seal : List ℕ) → Seals now.sealer head seal [] → IsAheadSealed head seal now.window log found sums w has) at.same next in
      let one : IsAheadSealed (head_bytes now.header) now.last now.window at.rest (Some t) sums w has =
      subst (λ f. IsAheadSealed (head_bytes now.header) now.last now.window at.rest f sums w has) is (all (head_bytes now.header) now.last at.seals) in
      so_far_text bytes front now left has count one.0 mid new t sums w at one.1.0 one.1.1.0 one.1.1.1 (size_for count size l alike) laid;
  which = laying.which;
  header = laying.header;
  kept = λ some. ap (λ (o : Overlaid). o.size) laid ∙ items_size (entries t.checkpoint.items.items) (for_text count t.checkpoint.size l) ∙ size_kept count t.checkpoint.size l (omega (arith, some, laying.more)) ∙ laying.kept some;
  more = omega (arith, laying.more);
}
  where
    size_kept : (n : ℕ) (size : Option ℕ) (o : Overlaid) → 1 ≤ n → (for_text n size o).size ≡ o.size
    size_kept n size o some = ap (λ (b : Bool). (if b then nothing size else o).size) (ne_eqb n 0 (λ none. omega (arith, some, none)))

-- none is left
pub laying_end : (was now : Source) (had left has : Option (List ℕ)) (before count : ℕ) (old l : Overlaid) (sums : Sums) (w : Held) (found : Option SealedText) → found ≡ None → IsLayingOn was now had left before count old l
    → IfSome (ahead now.window left) (λ log. (head seal : List ℕ) → Seals now.sealer head seal [] → IsAheadSealed head seal now.window log found sums w has) → sums ≡ now.sealer
    → (bytes : List ℕ) (front : List (List Entry)) → IsReadSoFar bytes front was had before old → IsReadUp bytes front was (record { which = now.which; window = w; header = now.header; sealer = sums; last = now.last }) has before count old l
laying_end was now had left has before count old l sums w found is laying next same bytes front so =
    let here = laying.so_far bytes front so in
    let all = ahead_of left now.window here.rest (λ log. (head seal : List ℕ) → Seals now.sealer head seal [] → IsAheadSealed head seal now.window log found sums w has) here.same next in
    let none : IsAheadSealed (head_bytes now.header) now.last now.window here.rest None sums w has =
    subst (λ f. IsAheadSealed (head_bytes now.header) now.last now.window here.rest f sums w has) is (all (head_bytes now.header) now.last here.seals) in
    record {
      so_far = record {
        done = here.done;
        rest = here.rest;
        file = here.file;
        same = none.1.1;
        place = ap (λ n. n + length here.rest) none.1.0 ∙ here.place;
        seals = subst (λ x. Seals x (head_bytes now.header) now.last []) (sym same) here.seals;
        counted = here.counted;
        laid = here.laid;
      };
      ends = none.0;
      header = laying.header;
      kept = laying.kept;
    }

-- a text says something else
pub laying_other : (was now : Source) (had left has : Option (List ℕ)) (before count : ℕ) (old l : Overlaid) (t : SealedText) (sums : Sums) (w : Held) (found : Option SealedText) (fault : LogFault) → found ≡ Some t → IsLayingOn was now had left before count old l
    → IfSome (ahead now.window left) (λ log. (head seal : List ℕ) → Seals now.sealer head seal [] → IsAheadSealed head seal now.window log found sums w has)
    → IsWhyNotBehind count t.checkpoint.size l (LogFault.Rotten now.which now.window.offset) fault
    → (bytes : List ℕ) (front : List (List Entry)) → IsReadSoFar bytes front was had before old → IsWhySealed bytes front old.size was.which was.header fault
laying_other was now had left has before count old l t sums w found fault is laying next (inl memory) bytes front so = subst (IsWhySealed bytes front old.size was.which was.header) (sym memory) tt
laying_other was now had left has before count old l t sums w found fault is laying next (inr other) bytes front so =
    let here = laying.so_far bytes front so in
    let all = ahead_of left now.window here.rest (λ log. (head seal : List ℕ) → Seals now.sealer head seal [] → IsAheadSealed head seal now.window log found sums w has) here.same next in
    let one : IsAheadSealed (head_bytes now.header) now.last now.window here.rest (Some t) sums w has =
    subst (λ f. IsAheadSealed (head_bytes now.header) now.last now.window here.rest f sums w has) is (all (head_bytes now.header) now.last here.seals) in
    let differs : IsOtherSize l.size now.window.offset bytes front now.header = record {
      texts = here.done;
      last = now.last;
      rest = here.rest;
      file = here.file;
      place = here.place;
      some = omega (arith, here.counted, other.1.0);
      other = record {
        other = t.checkpoint.size;
        differs = other.1.1;
        text = take one.0 here.rest;
        more = drop (one.0 + 8) here.rest;
        number = t.checkpoint.no;
        items = entries t.checkpoint.items.items;
        begins = one.1.0.found.begins;
      };
    } in
    subst (IsWhySealed bytes front old.size was.which was.header) (sym other.0)
    (laying.which, l.size, subst (IsOtherSize l.size now.window.offset bytes front) laying.header differs, λ some. laying.kept (omega (arith, some, so.counted, length-append front so.done)))

-- a text that was taken is one of the grammar
pub text_taken : (found : Option SealedText) (t : SealedText) → found ≡ Some t → IsTextTaken found → IsFoundText t.checkpoint
text_taken found t is read =
    let one : IsTextTaken (Some t) = subst IsTextTaken is read in
    let text = one.1 in
    let c = t.checkpoint in
    let items = forms_of c.size 0 text.body c.items.items text.each in
    record { one_of = text.sized; form = All-from_recursion HasForm c.items.items items.0; within = All-from_recursion (IsItemWithin c.size) c.items.items items.1 }

-- ---- results
pub ok_then : {A E : Type 0} (r : Result A E) (Q P : A → Type 0) → IfOk r Q → ((x : A) → Q x → P x) → IfOk r P
ok_then (Ok x) Q P h f = f x h
ok_then (Err e) Q P h f = tt

pub fault_then : {A E : Type 0} (r : Result A E) (Q P : E → Type 0) → IfErr r Q → ((e : E) → Q e → P e) → IfErr r P
fault_then (Ok x) Q P h f = tt
fault_then (Err e) Q P h f = f e h

-- ---- bytes that are compared
not_same : (b : Bool) → true ≡ not b → false ≡ b
not_same true is = sym is
not_same false is = refl

not_other : (b : Bool) → false ≡ not b → true ≡ b
not_other true is = refl
not_other false is = sym is

pub other_bytes : (xs ys : List ℕ) → true ≡ not (pointwise nat_eq xs ys) → xs ≢ ys
other_bytes xs ys is = other_text xs ys (not_same (pointwise nat_eq xs ys) is)

pub same_bytes : (xs ys : List ℕ) → false ≡ not (pointwise nat_eq xs ys) → xs ≡ ys
same_bytes xs ys is = same_text xs ys (not_other (pointwise nat_eq xs ys) is)

-- ---- the older file
pub sealed_older : (bytes : List ℕ) (was : Option ℕ) (which : Which) (h : Header) (link : List ℕ) (fault : LogFault) → IsWhySealed bytes [] was which h fault → IsWhyOlder bytes which h link fault
sealed_older bytes was which h link (LogFault.Rotten file at) why = (why.0, inl (why.1, why.2))
sealed_older bytes was which h link (LogFault.Broken at) why = why
sealed_older bytes was which h link (LogFault.Mixed at) why = why
sealed_older bytes was which h link LogFault.Strange why = why
sealed_older bytes was which h link (LogFault.Foreign whose) why = why
sealed_older bytes was which h link LogFault.Memory why = tt
sealed_older bytes was which h link LogFault.Read why = tt

-- its texts end at the offset of what is ahead
up_ends : (bytes : List ℕ) (front : List (List Entry)) (old new : Source) (left : Option (List ℕ)) (before count : ℕ) (was l : Overlaid) (up : IsReadUp bytes front old new left before count was l)
    → EndsAt new.window.offset bytes old.header new.last up.so_far.rest
up_ends bytes front old new left before count was l up =
    subst (λ h. EndsAt new.window.offset bytes h new.last up.so_far.rest) up.header
    (record { size = l.size; texts = up.so_far.done; file = up.so_far.file; place = up.so_far.place; ends = up.ends })

pub older_unlinked : (bytes : List ℕ) (old new : Source) (left : Option (List ℕ)) (count : ℕ) (was l : Overlaid) (link : List ℕ) (fault : LogFault) → IsReadUp bytes [] old new left 0 count was l → new.which ≡ old.which
    → fault ≡ LogFault.Rotten new.which new.window.offset → new.last ≢ link → IsWhyOlder bytes old.which old.header link fault
older_unlinked bytes old new left count was l link fault up which is other =
    subst (IsWhyOlder bytes old.which old.header link) (sym is) (which, inr (new.last, up.so_far.rest, up_ends bytes [] old new left 0 count was l up, other))

pub older_read : (bytes : List ℕ) (old new : Source) (left : Option (List ℕ)) (count : ℕ) (was l : Overlaid) (link : List ℕ) → IsReadUp bytes [] old new left 0 count was l → new.last ≡ link → IsOlderRead bytes old.header link count l
older_read bytes old new left count was l link up same =
    subst (λ xs. IsOlderRead bytes old.header xs count l) same
    (subst (λ h. IsOlderRead bytes h new.last count l) up.header
    (record { front = up.so_far.done; first = record { rest = up.so_far.rest; file = up.so_far.file; ends = up.ends }; count = up.so_far.counted; laid = up.so_far.laid }))

-- ---- the newer file
pub sealed_newer : (bytes : List ℕ) (front : List (List Entry)) (was : Option ℕ) (which : Which) (h : Header) (fault : LogFault) → IsWhySealed bytes front was which h fault → IsWhyNewer bytes front was which h fault
sealed_newer bytes front was which h (LogFault.Rotten file at) why = (why.0, inl (why.1, why.2, why.3))
sealed_newer bytes front was which h (LogFault.Broken at) why = why
sealed_newer bytes front was which h (LogFault.Mixed at) why = why
sealed_newer bytes front was which h LogFault.Strange why = why
sealed_newer bytes front was which h (LogFault.Foreign whose) why = why
sealed_newer bytes front was which h LogFault.Memory why = tt
sealed_newer bytes front was which h LogFault.Read why = tt

pub newer_rotten : (bytes : List ℕ) (front : List (List Entry)) (old new : Source) (left : Option (List ℕ)) (before count : ℕ) (was l : Overlaid) (fault : LogFault) → IsReadUp bytes front old new left before count was l → new.which ≡ old.which
    → IfSome (ahead new.window left) (λ rest. IsWhyNotTorn (head_bytes new.header) rest (LogFault.Rotten new.which new.window.offset) fault) → IsWhyNewer bytes front was.size old.which old.header fault
newer_rotten bytes front old new left before count was l fault up which next =
    by_kind (ahead_of left new.window up.so_far.rest (λ rest. IsWhyNotTorn (head_bytes new.header) rest (LogFault.Rotten new.which new.window.offset) fault) up.so_far.same next)
  where
    other : (f : LogFault) → is_of_log f ≡ false → IsWhyNewer bytes front was.size old.which old.header f
    other (LogFault.Rotten file at) is = absurd (true≢false is)
    other (LogFault.Broken at) is = absurd (true≢false is)
    other (LogFault.Mixed at) is = absurd (true≢false is)
    other LogFault.Strange is = absurd (true≢false is)
    other (LogFault.Foreign whose) is = absurd (true≢false is)
    other LogFault.Memory is = tt
    other LogFault.Read is = tt

    by_kind : IsWhyNotTorn (head_bytes new.header) up.so_far.rest (LogFault.Rotten new.which new.window.offset) fault → IsWhyNewer bytes front was.size old.which old.header fault
    by_kind (inl is) = other fault is
    by_kind (inr is) =
        subst (IsWhyNewer bytes front was.size old.which old.header) (sym is.0)
        (which, inr (record { last = new.last; rest = up.so_far.rest; texts = up_ends bytes front old new left before count was l up; why = subst (λ h. (263212 < length up.so_far.rest) ⊎ HasLater (head_bytes h) up.so_far.rest) up.header is.1 }))

pub newer_read : (bytes : List ℕ) (front : List (List Entry)) (old new : Source) (left : Option (List ℕ)) (before texts rest : ℕ) (was l : Overlaid) → IsReadUp bytes front old new left before texts was l
    → IfSome (ahead new.window left) (λ xs. IsRest (head_bytes new.header) xs (Rest.Torn rest)) → IsNewerRead bytes front old.header before was (record { texts = texts; rest = rest }) l
newer_read bytes front old new left before texts rest was l up next =
    let torn : IsRest (head_bytes new.header) up.so_far.rest (Rest.Torn rest) = ahead_of left new.window up.so_far.rest (λ xs. IsRest (head_bytes new.header) xs (Rest.Torn rest)) up.so_far.same next in
    subst (λ h. IsNewerRead bytes front h before was (record { texts = texts; rest = rest }) l) up.header
    (record {
      behind = up.so_far.done;
      second = record { last = new.last; rest = up.so_far.rest; file = up.so_far.file; ends = up.ends; none = torn.2; few = torn.1; count = torn.0 };
      count = up.so_far.counted;
      laid = up.so_far.laid;
      kept = up.kept;
    })

-- ---- one file alone
pub nothing_yet : (l : Overlaid) → l ≡ nothing None → l ≡ nothing l.size
nothing_yet l is = is ∙ ap (λ s. nothing s) (sym (ap (λ (o : Overlaid). o.size) is))

pub alone_gathered : (bytes : List ℕ) (h : Header) (was l : Overlaid) (counts : LogCounts) → IsNewerRead bytes [] h 0 was counts l → IsGatheredAs (λ size texts rest. EndsTorn size bytes h texts rest) counts l
alone_gathered bytes h was l counts read = record { texts = read.behind; read = read.second; count = read.count; laid = read.laid }

-- ---- two files, one next to the other
ends_as : (f g : Option ℕ) (bytes : List ℕ) (h : Header) (front : List (List Entry)) (last : List ℕ) → (1 ≤ length front → g ≡ f) → EndsWith f bytes h front last → EndsWith g bytes h front last
ends_as f g bytes h [] last same ends = record { rest = ends.rest; file = texts_none f g bytes h [] last ends.rest refl ends.file; ends = ends.ends }
ends_as f g bytes h (x ∷ xs) last same ends = subst (λ n. EndsWith n bytes h (x ∷ xs) last) (sym (same (omega arith))) ends

pub linked_gathered : (a b : List ℕ) (h next : Header) (count : ℕ) (l new : Overlaid) (counts : LogCounts) (old : IsOlderRead a h next.link count l) → IsNextHeader h next → IsNewerRead b old.front next count l counts new
    → IsGatheredAs (λ size texts rest. AreLinked size a b texts rest) counts new
linked_gathered a b h next count l new counts old follows read = record {
  texts = old.front ++ read.behind;
  read = record {
    header = h;
    next = next;
    follows = follows;
    front = old.front;
    behind = read.behind;
    first = ends_as l.size new.size a h old.front next.link (λ some. read.kept (omega (arith, some, old.count))) old.first;
    second = read.second;
    parts = refl;
  };
  count = read.count;
  laid = read.laid;
}

pub older_linked : (a b : List ℕ) (which beside : Which) (h next : Header) (more : List ℕ) (fault : LogFault) → BeginsHeader b next more → IsNextHeader h next → IsWhyOlder a which h next.link fault → IsWhyLinked a b which beside fault
older_linked a b which beside h next more (LogFault.Rotten file at) begins follows why = inl (why.0, record { header = h; next = next; more = more; beside = begins; follows = follows; why = by_kind why.1 })
  where
    by_kind : (((size : Option ℕ) × IsOtherSize size at a [] h) ⊎ ((last rest : List ℕ) × EndsAt at a h last rest × (last ≢ next.link))) → ((size : Option ℕ) × IsOtherSize size at a [] h) ⊎ IsUnlinked at a h next
    by_kind (inl other) = inl other
    by_kind (inr end) = inr (record { last = end.0; rest = end.1; texts = end.2; other = end.3 })
older_linked a b which beside h next more (LogFault.Broken at) begins follows why = why
older_linked a b which beside h next more (LogFault.Mixed at) begins follows why = why
older_linked a b which beside h next more LogFault.Strange begins follows why = why
older_linked a b which beside h next more (LogFault.Foreign whose) begins follows why = why
older_linked a b which beside h next more LogFault.Memory begins follows why = tt
older_linked a b which beside h next more LogFault.Read begins follows why = tt

pub newer_linked : (a b : List ℕ) (which beside : Which) (h next : Header) (count : ℕ) (l : Overlaid) (fault : LogFault) (old : IsOlderRead a h next.link count l) → IsNextHeader h next → IsWhyNewer b old.front l.size beside next fault
    → IsWhyLinked a b which beside fault
newer_linked a b which beside h next count l (LogFault.Rotten file at) old follows why = inr (why.0, by_kind why.1)
  where
    by_kind : (((size : Option ℕ) × IsOtherSize size at b old.front next × (1 ≤ length old.front → size ≡ l.size)) ⊎ IsRottenEnd at b next) → IsRottenNewer at a b
    by_kind (inl other) = record {
      header = h;
      next = next;
      follows = follows;
      size = other.0;
      front = old.front;
      first = ends_as l.size other.0 a h old.front next.link other.2 old.first;
      why = inl other.1;
    }
    by_kind (inr end) = record { header = h; next = next; follows = follows; size = l.size; front = old.front; first = old.first; why = inr end }
newer_linked a b which beside h next count l (LogFault.Broken at) old follows why = why
newer_linked a b which beside h next count l (LogFault.Mixed at) old follows why = why
newer_linked a b which beside h next count l LogFault.Strange old follows why = why
newer_linked a b which beside h next count l (LogFault.Foreign whose) old follows why = why
newer_linked a b which beside h next count l LogFault.Memory old follows why = tt
newer_linked a b which beside h next count l LogFault.Read old follows why = tt

-- ---- a log without seals
pub bare_known : (bytes : List ℕ) (w : Held) (left : Option (List ℕ)) (P : List ℕ → Type 0) → IsPast 0 bytes w left → IfSome (ahead w left) P → P bytes
bare_known bytes w left P past is = ahead_of left w bytes P past.same is
