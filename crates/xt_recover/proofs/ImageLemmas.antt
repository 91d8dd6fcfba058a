-- What was written over a home device makes of its image what the texts say.
use Rattle.std.proofs.Common.{◌≡◌, ◌∙◌, ◌∷◌, ◌++◌, Bool, List, None, Option, Some, [], ap, append-nil, arith, false, inl, inr, length, refl, subst, suc, sym, true, zero, ℕ}
use Rattle.std.proofs.lemmas.Bool.{cases_eq, eq-eqb, ne_eqb}
use Rattle.std.specs.Prelude.{IfSome, if◌then◌else◌, reverse, take, unwrap_or, ◌==◌}
use Rattle.xt_base.proofs.MapLemmas.{at_first, at_later, some_none}
use Rattle.xt_base.proofs.RisingLemmas.{none_below}
use Rattle.xt_base.specs.Maps.{at, has}
use Rattle.xt_base.specs.Sound.{RisesFrom}
use Rattle.xt_base.specs.Text.{chunk, chunk_bytes, content_at, zeros}
use Rattle.xt_dev.specs.declared.call.HomeCall.{HomeCall}
use Rattle.xt_recover.proofs.LaidLemmas.{AreOfGrammar, IsGoodSet, IsWellLaid, chunk_laid, gathered_kept, gathered_says, good_of, read_of_grammar}
use Rattle.xt_recover.proofs.SaidLemmas.{chunk_found}
use Rattle.xt_recover.specs.Gathering.{IsGathered, IsWhyLog}
use Rattle.xt_ckpt.specs.Grammar.{Entry}
use Rattle.xt_recover.specs.Overlaid.{Overlaid, nothing, overlaid_chunk, with_texts}
use Rattle.xt_recover.specs.Reading.{ReadsAs}
use Rattle.xt_recover.specs.Recovering.{AreAnswered, CanBreakOff, HaveBytes, HaveNoSync, IsCounted, IsTorn, IsWhy, MayLeave, TellsBrokenOff, TellsBrokenOffBy, TellsRecovered, TellsRecoveredBy, with_block}
use Rattle.xt_recover.specs.declared.gather.LogCounts.{LogCounts}
use Rattle.xt_recover.specs.declared.gather.LogFault.{LogFault}
use Rattle.xt_recover.specs.declared.recovering.RecoverFault.{RecoverFault}
use Rattle.xt_recover.specs.declared.writing.WriteFault.{WriteFault}
use Rattle.xt_recover.specs.Writing.{AreWritten, GoOn, TellsStopped, TellsWritten, chunks_at}
use Rattle.xt_recover.specs.Chunks.{merged}
use Rattle.xt_recover.proofs.PlaceLemmas.{merged_is}
use Rattle.xt_recovery.proofs.LengthLemmas.{length_bytes}
use Rattle.xt_recovery.proofs.LogLemmas.{first_if, second_if}
use Rattle.xt_recover.proofs.AgainLemmas.{replayed_again}
use Rattle.xt_recover.proofs.WriteLemmas.{go_written}
use Rattle.xt_recover.specs.Replay.{chunk_in_texts}
use Rattle.xt_recover.specs.Sizes.{block_size}
use Rattle.xt_recovery.specs.DiskSteps.{Agree}
use Rattle.xt_recovery.specs.Log.{HasChunk, Image}

-- a chunk of a content with some of another's in the place of its own
by_found : (t : Bool) (v w : List ℕ) → unwrap_or (if t then Some v else None) w ≡ (if t then v else w)
by_found true v w = refl
by_found false v w = refl

pub chunk_merged : (size : ℕ) (set new old : List ℕ) (k : ℕ) → IsGoodSet size set → length new ≡ size → length old ≡ size → chunk (merged set new old) k ≡ (if has set k then chunk new k else chunk old k)
chunk_merged size set new old k good new_whole old_whole =
    ap (λ xs. chunk xs k) (merged_is size set new old new_whole good.within)
    ∙ (chunk_laid size set (chunk_bytes new set) old k good.once good.within (length_bytes size new set new_whole good.within) old_whole).0
    ∙ ap (λ o. unwrap_or o (chunk old k)) (chunk_found size new set k new_whole good.within) ∙ by_found (has set k) (chunk new k) (chunk old k)

-- what a chunk is to be after these contents were written
abbrev pub written_at : Overlaid → Option (List ℕ) → ℕ → ℕ → List ℕ → List ℕ
written_at l None b k old = old
written_at l (Some v) b k old = if has (chunks_at l b) k then chunk v k else old

-- the image after contents were written, block by block
image_written : (l : Overlaid) (n : ℕ) (es : List (ℕ × List ℕ)) (calls : List HomeCall) (old new : Image) (b k : ℕ) → IsWellLaid l → RisesFrom n es → ((c : ℕ) (v : List ℕ) → at c es ≡ Some v → length v ≡ block_size l.size) → AreWritten l es calls → AreAnswered (block_size l.size) calls old new → HasChunk (block_size l.size) k
    → new b k ≡ written_at l (at b es) b k (old b k)
image_written l n [] calls old new b k h rise whole written answered less = (subst (λ cs. AreAnswered (block_size l.size) cs old new) written answered) b k less
image_written l n (e ∷ es) calls old new b k h rise whole written answered less =
    let before : List ℕ = written.0 in
    let rest : List HomeCall = written.1 in
    let e_whole : length e.1 ≡ block_size l.size = whole e.0 e.1 (at_first e.0 e es refl) in
    let both = subst (λ cs. AreAnswered (block_size l.size) cs old new) written.4 answered in
    let next : Image = with_block e.0 (merged (chunks_at l e.0) e.1 before) old in
    let later : (c : ℕ) (v : List ℕ) → at c es ≡ Some v → length v ≡ block_size l.size = λ c v is. whole c v (at_later c e es (λ same. above c v same is) ∙ is) in
    let tail = image_written l (suc e.0) es rest next new b k h rise.1 later written.5 both.1 less in
    elim (cases_eq b e.0) [
      | inl same ↦
          let none : at b es ≡ None = none_below b (suc e.0) es (omega (arith, same)) rise.1 in
          tail ∙ ap (λ o. written_at l o b k (next b k)) none
          ∙ first_if (b == e.0) (chunk (merged (chunks_at l e.0) e.1 before) k) (old b k) (eq-eqb b e.0 same)
          ∙ chunk_merged (block_size l.size) (chunks_at l e.0) e.1 before k (good_of l e.0 (at e.0 l.chunks) refl h) e_whole written.2
          ∙ ap (λ (x : List ℕ). if has (chunks_at l e.0) k then chunk e.1 k else x) (both.0 k less)
          ∙ ap (λ (x : ℕ). if has (chunks_at l x) k then chunk e.1 k else old x k) (sym same)
          ∙ sym (ap (λ o. written_at l o b k (old b k)) (at_first b e es same))
      | inr other ↦
          tail ∙ ap (λ (x : List ℕ). written_at l (at b es) b k x) (second_if (b == e.0) (chunk (merged (chunks_at l e.0) e.1 before) k) (old b k) (ne_eqb b e.0 other))
          ∙ sym (ap (λ o. written_at l o b k (old b k)) (at_later b e es other))
    ]
  where
    above : (c : ℕ) (v : List ℕ) → c ≡ e.0 → at c es ≡ Some v → ⊥
    above c v same is = some_none v ⊥ (sym is ∙ none_below c (suc e.0) es (omega (arith, same)) rise.1)

-- what is gathered, over an image
says_at : (l : Overlaid) (b k : ℕ) (o : Option (List ℕ)) (old : List ℕ) → at b l.contents ≡ o → IsWellLaid l → written_at l o b k old ≡ unwrap_or (overlaid_chunk l b k) old
says_at l b k None old is h =
    sym (ap (λ x. unwrap_or (if has (unwrap_or x []) k then Some (chunk (content_at (block_size l.size) b l.contents) k) else None) old) (h.both b is))
says_at l b k (Some v) old is h =
    sym (by_found (has (chunks_at l b) k) (chunk v k) old) ∙ sym (ap (λ o. unwrap_or (if has (chunks_at l b) k then Some (chunk (unwrap_or o (zeros (block_size l.size))) k) else None) old) is)

-- a block with what was gathered of it has its bytes
merged_whole : (l : Overlaid) (b : ℕ) (new old : List ℕ) → IsWellLaid l → length new ≡ block_size l.size → length old ≡ block_size l.size → length (merged (chunks_at l b) new old) ≡ block_size l.size
merged_whole l b new old h new_whole old_whole =
    let set : List ℕ = chunks_at l b in
    let good : IsGoodSet (block_size l.size) set = good_of l b (at b l.chunks) refl h in
    ap length (merged_is (block_size l.size) set new old new_whole good.within)
    ∙ (chunk_laid (block_size l.size) set (chunk_bytes new set) old 0 good.once good.within (length_bytes (block_size l.size) new set new_whole good.within) old_whole).1

-- so each content of calls that go on has
have_bytes : (l : Overlaid) (calls : List HomeCall) → IsWellLaid l → GoOn l calls → HaveBytes (block_size l.size) calls
have_bytes l calls h GoOn.nothing = tt
have_bytes l calls h (GoOn.unread b) = tt
have_bytes l calls h (GoOn.read b old whole) = (whole, tt)
have_bytes l calls h (GoOn.block b content old ok rest own whole goes) = (whole, (merged_whole l b content old h own whole, have_bytes l rest h goes))
have_bytes l calls h (GoOn.sync ok) = tt

-- ---- recovery that is broken off
-- a beginning of calls that go on goes on
go_on_take : (l : Overlaid) (n : ℕ) (calls : List HomeCall) → GoOn l calls → GoOn l (take n calls)
go_on_take l zero calls goes = GoOn.nothing
go_on_take l (suc n) calls GoOn.nothing = GoOn.nothing
go_on_take l (suc zero) calls (GoOn.unread b) = GoOn.unread b
go_on_take l (suc (suc n)) calls (GoOn.unread b) = GoOn.unread b
go_on_take l (suc zero) calls (GoOn.read b old whole) = GoOn.read b old whole
go_on_take l (suc (suc n)) calls (GoOn.read b old whole) = GoOn.read b old whole
go_on_take l (suc zero) calls (GoOn.block b content old ok rest own whole goes) = GoOn.read b old whole
go_on_take l (suc (suc n)) calls (GoOn.block b content old ok rest own whole goes) = GoOn.block b content old ok (take n rest) own whole (go_on_take l n rest goes)
go_on_take l (suc zero) calls (GoOn.sync ok) = GoOn.sync ok
go_on_take l (suc (suc n)) calls (GoOn.sync ok) = GoOn.sync ok

-- an image has each chunk of which nothing was gathered as another has it
abbrev HasOthers : Overlaid → Image → Image → Type 0
HasOthers l old left = (b k : ℕ) → HasChunk (block_size l.size) k → overlaid_chunk l b k ≡ None → left b k ≡ old b k

-- a chunk of which nothing was gathered is not among those of its block
none_here : (t : Bool) (v : List ℕ) → (if t then Some v else None) ≡ None → t ≡ false
none_here true v is = some_none v (true ≡ false) is
none_here false v is = refl

torn_others : (l : Overlaid) (b : ℕ) (content read : List ℕ) (first old left : Image) → IsWellLaid l → length content ≡ block_size l.size → length read ≡ block_size l.size → ((k : ℕ) → HasChunk (block_size l.size) k → chunk read k ≡ old b k) → IsTorn (block_size l.size) b (merged (chunks_at l b) content read) old left → HasOthers l first old → HasOthers l first left
torn_others l b content read first old left h own whole same torn others q k less none =
    elim (torn q k less) [
      | inl as_was ↦ as_was ∙ others q k less none
      | inr written ↦
          let here : q ≡ b = written.0 in
          let as_written : left q k ≡ chunk (merged (chunks_at l b) content read) k = written.1 in
          let absent : has (chunks_at l b) k ≡ false =
          none_here (has (chunks_at l b) k) (chunk (content_at (block_size l.size) b l.contents) k) (ap (λ (x : ℕ). overlaid_chunk l x k) (sym here) ∙ none) in
          as_written ∙ chunk_merged (block_size l.size) (chunks_at l b) content read k (good_of l b (at b l.chunks) refl h) own whole
          ∙ second_if (has (chunks_at l b) k) (chunk content k) (chunk read k) absent
          ∙ same k less ∙ ap (λ (x : ℕ). old x k) (sym here) ∙ others q k less none
    ]

agrees_others : (l : Overlaid) (first old left : Image) → Agree (block_size l.size) left old → HasOthers l first old → HasOthers l first left
agrees_others l first old left same others b k less none = same b k less ∙ others b k less none

-- so calls that go on leave each of these
others_left : (l : Overlaid) (calls : List HomeCall) (first old left : Image) → IsWellLaid l → GoOn l calls → MayLeave (block_size l.size) calls old left → HasOthers l first old → HasOthers l first left
others_left l calls first old left h GoOn.nothing may others = agrees_others l first old left may others
others_left l calls first old left h (GoOn.unread b) may others = agrees_others l first old left may others
others_left l calls first old left h (GoOn.read b content whole) may others = agrees_others l first old left may.1 others
others_left l calls first old left h (GoOn.block b content read ok rest own whole goes) may others =
    others_left l rest first may.1.0 left h goes may.1.2 (torn_others l b content read first old may.1.0 h own whole may.0 may.1.1 others)
others_left l calls first old left h (GoOn.sync ok) may others = agrees_others l first old left may others

-- texts that are read so, and were laid one after another
pub record AreLaid (Reads : Option ℕ → List (List Entry) → Type 0) (l : Overlaid) : Type 0 where
  pub texts : List (List Entry)
  pub read : Reads l.size texts
  pub grammar : AreOfGrammar l.size texts
  pub laid : l ≡ with_texts texts (nothing l.size)

pub laid_as : (log : List ℕ) (counts : LogCounts) (l : Overlaid) → IsGathered log counts l → AreLaid (λ size texts. ReadsAs size log texts) l
laid_as log counts l gathered = record { texts = gathered.texts; read = gathered.read; grammar = read_of_grammar l.size log gathered.texts gathered.read; laid = gathered.laid }

-- what was laid says what the texts say
laid_chunk : (Reads : Option ℕ → List (List Entry) → Type 0) (l : Overlaid) (from : AreLaid Reads l) (b k : ℕ) → HasChunk (block_size l.size) k → overlaid_chunk l b k ≡ chunk_in_texts (reverse from.texts) b k
laid_chunk Reads l from b k less = ap (λ m. overlaid_chunk m b k) from.laid ∙ gathered_says l.size from.texts b k from.grammar less

well_laid : (Reads : Option ℕ → List (List Entry) → Type 0) (l : Overlaid) → AreLaid Reads l → IsWellLaid l
well_laid Reads l from = subst IsWellLaid (sym from.laid) (gathered_kept l.size from.texts from.grammar)

can_break_off : (Reads : Option ℕ → List (List Entry) → Type 0) (l : Overlaid) (calls : List HomeCall) (from : AreLaid Reads l) → GoOn l calls → CanBreakOff (block_size l.size) from.texts calls
can_break_off Reads l calls from goes n old left may b k less =
    let others : HasOthers l old left = others_left l (take n calls) old old left (well_laid Reads l from) (go_on_take l n calls goes) may (λ q j small none. refl) in
    replayed_again (reverse from.texts) old left b k (λ none. others b k less (laid_chunk Reads l from b k less ∙ none))

-- a call of the device failed
pub broken_off : (Reads : Option ℕ → List (List Entry) → Type 0) (l : Overlaid) (told tell : Bool) (before after : List HomeCall) → AreLaid Reads l → TellsStopped l told before tell after → TellsBrokenOffBy Reads told before tell after
broken_off Reads l told tell before after from stopped = record {
  size = l.size;
  texts = from.texts;
  read = from.read;
  calls = stopped.calls;
  bytes = have_bytes l stopped.calls (well_laid Reads l from) stopped.goes;
  tells = stopped.tells;
  again = can_break_off Reads l stopped.calls from stopped.goes;
}

-- no block that is written asks for a sync
no_sync : (l : Overlaid) (es : List (ℕ × List ℕ)) (calls : List HomeCall) → AreWritten l es calls → HaveNoSync calls
no_sync l [] calls written = subst HaveNoSync (sym written) tt
no_sync l (e ∷ es) calls written = subst HaveNoSync (sym written.4) (no_sync l es written.1 written.5)

-- what was laid, written over a device
pub recovered_tells : (Reads : Option ℕ → List (List Entry) → Type 0) (l : Overlaid) (told tell : Bool) (before after : List HomeCall) → AreLaid Reads l → TellsWritten l told before tell after → TellsRecoveredBy Reads told before tell after
recovered_tells Reads l told tell before after from written =
    let kept : IsWellLaid l = well_laid Reads l from in
    let goes : GoOn l (written.calls ++ []) = go_written l l.contents written.calls [] written.written GoOn.nothing in
    record {
      size = l.size;
      texts = from.texts;
      read = from.read;
      calls = written.calls;
      bytes = subst (HaveBytes (block_size l.size)) (append-nil written.calls) (have_bytes l (written.calls ++ []) kept goes);
      unsynced = no_sync l l.contents written.calls written.written;
      tells = written.tells;
      image = λ old new answered b k less.
          image_written l 0 l.contents written.calls old new b k kept kept.contents_rise kept.whole written.written answered less
          ∙ says_at l b k (at b l.contents) (old b k) refl kept
          ∙ ap (λ o. unwrap_or o (old b k)) (laid_chunk Reads l from b k less);
      again = subst (CanBreakOff (block_size l.size) from.texts) (append-nil written.calls) (can_break_off Reads l (written.calls ++ []) from goes);
    }

-- ---- a log that is known, or not
pub recovered_known : (had : Option (List ℕ)) (counts : LogCounts) (l : Overlaid) (told tell : Bool) (before after : List HomeCall) → IfSome had (λ log. IsGathered log counts l) → TellsWritten l told before tell after → IfSome had (λ log. TellsRecovered log told before tell after)
recovered_known None counts l told tell before after gathered written = tt
recovered_known (Some log) counts l told tell before after gathered written = recovered_tells (λ size texts. ReadsAs size log texts) l told tell before after (laid_as log counts l gathered) written

pub broken_known : (had : Option (List ℕ)) (counts : LogCounts) (l : Overlaid) (told tell : Bool) (before after : List HomeCall) → IfSome had (λ log. IsGathered log counts l) → TellsStopped l told before tell after → IfSome had (λ log. TellsBrokenOff log told before tell after)
broken_known None counts l told tell before after gathered stopped = tt
broken_known (Some log) counts l told tell before after gathered stopped = broken_off (λ size texts. ReadsAs size log texts) l told tell before after (laid_as log counts l gathered) stopped

-- how much that was
pub counted_known : (had : Option (List ℕ)) (counts : LogCounts) (l : Overlaid) (blocks : ℕ) → IfSome had (λ log. IsGathered log counts l) → blocks ≡ length l.contents → IfSome had (λ log. IsCounted log (record { texts = counts.texts; blocks = blocks; rest = counts.rest }))
counted_known None counts l blocks gathered count = tt
counted_known (Some log) counts l blocks gathered count = record {
  size = l.size;
  texts = gathered.texts;
  parts = gathered.parts;
  count = gathered.count;
  blocks = count ∙ ap (λ m. length m.contents) gathered.laid;
}

-- why it was not
pub why_known : (had : Option (List ℕ)) (fault : LogFault) → IfSome had (λ log. IsWhyLog log fault) → IfSome had (λ log. IsWhy log (RecoverFault.Log fault))
why_known None fault why = tt
why_known (Some log) fault why = why

pub why_home : (had : Option (List ℕ)) (fault : WriteFault) → IfSome had (λ log. IsWhy log (RecoverFault.Home fault))
why_home None fault = tt
why_home (Some log) fault = tt
