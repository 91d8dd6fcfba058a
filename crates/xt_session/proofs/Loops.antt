-- What the loops of a session keep, and what follows at their steps and ends.
use Rattle.std.proofs.Common.{Bool, List, Option, None, false, true, Some, [], ap, ap₂, append-nil, inl, inr, append_assoc, arith, length, length-append, not-suc-le-zero, refl, subst, sym, take, drop, take-append-drop, ℕ, ◌++◌, ◌+◌, ◌-◌, ◌<◌, ◌≡◌, ◌≤◌, ◌∙◌, ◌∷◌}
use Rattle.std.proofs.Math.Seq.{take-append_seam}
use Rattle.std.proofs.lemmas.Bool.{both_ways, cases_lt}
use Rattle.std.proofs.lemmas.List.{take_rest}
use Rattle.std.specs.Io.KnownBytes.{Consumes, IsAtEnd, Keeps}
use Rattle.std.specs.List.{AllByRecursion}
use Rattle.xt_base.specs.declared.steps.Reply.{Reply}
use Rattle.xt_base.specs.declared.steps.Step.{Step}
use Rattle.xt_session.proofs.ChainLemmas.{breaks_more, breaks_one, writes_more, writes_none, writes_one}
use Rattle.xt_session.proofs.CutLemmas.{counted, cut_append, last_bytes, plain_append, plain_rest, rest_plain, shorter}
use Rattle.xt_session.proofs.StreamLemmas.{consumes_end, consumes_kept, consumes_more, consumes_none}
use Rattle.xt_session.specs.Cut.{cut, last_line}
use Rattle.xt_session.specs.Intake.{Grows}
use Rattle.xt_session.specs.Session.{Breaks, Ran, Reads, Writes}
use Rattle.xt_session.specs.Turns.{HeldLines, IsFirst, IsPartial, IsWhole, Last, Turns}
use Rattle.xt_session.specs.declared.session_end.SessionEnd.{SessionEnd}
use Rattle.xt_session.specs.declared.session_end.SessionEnd.TheVariants.{End, ReadFault, TooLong, WriteFault}

-- the lines of a text have been answered up to a rest of it
pub record IsAnswering {C : Type 0} (answers : C → Step → Reply → C → Type 0) (text rest : List ℕ) (first now : C) (had has : Option (List ℕ)) : Type 0 where
  pub done : List (List ℕ)
  pub lines : (cut text).lines ≡ done ++ (cut rest).lines
  pub same : (cut text).rest ≡ (cut rest).rest
  pub writes : Writes answers done first now had has

-- a session so far: these bytes were read, their lines are answered, and what stands behind the last newline is pending
pub record IsSoFar {C : Type 0} (answers : C → Step → Reply → C → Type 0) (bound left : ℕ) (first now : C) (had has held holds : Option (List ℕ)) (pending : List ℕ) : Type 0 where
  pub bytes : List ℕ
  pub consumed : Consumes had has bytes
  pub counted : length bytes + left ≤ bound
  pub short : AllByRecursion (λ line. length line ≤ 8400) (cut bytes).lines
  pub rest : (cut bytes).rest ≡ pending
  pub few : length pending ≤ 8400
  pub writes : Writes answers (cut bytes).lines first now held holds

-- each of two lists
pub each_append : (P : List ℕ → Type 0) (xs ys : List (List ℕ)) → AllByRecursion P xs → AllByRecursion P ys → AllByRecursion P (xs ++ ys)
each_append P [] ys first second = second
each_append P (x ∷ xs) ys first second = (first.0, each_append P xs ys first.1 second)

-- lines shorter than a bound
pub each_short : (n : ℕ) (lines : List (List ℕ)) → n ≤ 8401 → AllByRecursion (λ line. length line < n) lines → AllByRecursion (λ line. length line ≤ 8400) lines
each_short n [] few are = tt
each_short n (line ∷ lines) few are = (omega (arith, are.0), each_short n lines few are.1)

-- a text that was read, with more of it, is cut where it was, and in what was pending and came
fetched_lines : (bytes more pending new : List ℕ) → (cut bytes).rest ≡ pending → new ≡ pending ++ more → (cut (bytes ++ more)).lines ≡ (cut bytes).lines ++ (cut new).lines
fetched_lines bytes more pending new rest grown = ap (λ c. c.lines) (cut_append bytes more) ∙ ap (λ t. (cut bytes).lines ++ (cut t).lines) (ap (λ p. p ++ more) rest ∙ sym grown)

-- the same of what stands behind the last newline
fetched_rest : (bytes more pending new : List ℕ) → (cut bytes).rest ≡ pending → new ≡ pending ++ more → (cut (bytes ++ more)).rest ≡ (cut new).rest
fetched_rest bytes more pending new rest grown = ap (λ c. c.rest) (cut_append bytes more) ∙ ap (λ t. (cut t).rest) (ap (λ p. p ++ more) rest ∙ sym grown)

-- no line of what was fetched is too long
fetched_short : (bytes more pending new : List ℕ) → (cut bytes).rest ≡ pending → new ≡ pending ++ more → length new ≤ 8401 → AllByRecursion (λ line. length line ≤ 8400) (cut bytes).lines → AllByRecursion (λ line. length line ≤ 8400) (cut (bytes ++ more)).lines
fetched_short bytes more pending new rest grown room short =
    subst (λ ls. AllByRecursion (λ line. length line ≤ 8400) ls) (sym (fetched_lines bytes more pending new rest grown))
    (each_append (λ line. length line ≤ 8400) (cut bytes).lines (cut new).lines short (each_short (length new) (cut new).lines room (shorter new)))

-- what is kept of some bytes, where as many are kept as stand behind the last newline
pub kept_last : (old new : List ℕ) (left : ℕ) → new ≡ drop (length old - left) old → left ≡ length (cut old).rest → new ≡ (cut old).rest
kept_last old new left kept is = kept ∙ (ap (λ n. drop (length old - n) old) is ∙ last_bytes old)

-- there is room left where it is not full
pub room_left : (full : Bool) (old new : List ℕ) → new ≡ (cut old).rest → length old ≤ 8401 → full ≡ false → (length new ≡ 8401 → full ≡ true) → length new ≤ 8400
room_left full old new same room roomy tells =
    let few : length new ≤ 8401 = omega (arith, ap length same, counted old, room) in
    elim (cases_lt (length new) 8401) [
      | inl less ↦ omega (arith, less)
      | inr more ↦ absurd (both_ways full roomy (tells (omega (arith, few, more))))
    ]

-- where no newline stands among the last bytes, and none among those before, none stands in all
none_all : (bytes : List ℕ) (fresh : ℕ) → fresh ≤ length bytes → (cut (take (length bytes - fresh) bytes)).lines ≡ [] → (cut (take (length bytes - (length bytes - fresh)) (drop (length bytes - fresh) bytes))).lines ≡ [] → (cut bytes).lines ≡ []
none_all bytes fresh fits seen none =
    ap (λ t. (cut t).lines) (sym (take-append-drop (length bytes - fresh) bytes))
    ∙ plain_append (take (length bytes - fresh) bytes) (drop (length bytes - fresh) bytes) seen (ap (λ t. (cut t).lines) (sym (take_rest bytes (length bytes - fresh))) ∙ none)

-- then all stand behind the last newline
pub none_left : (bytes : List ℕ) (fresh : ℕ) → fresh ≤ length bytes → (cut (take (length bytes - fresh) bytes)).lines ≡ [] → (cut (take (length bytes - (length bytes - fresh)) (drop (length bytes - fresh) bytes))).lines ≡ [] → length bytes ≡ length (cut bytes).rest
none_left bytes fresh fits seen none = ap length (sym (plain_rest bytes (none_all bytes fresh fits seen none)))

module _ {C : Type 0} (answers : C → Step → Reply → C → Type 0) where
  -- ---- the lines of some bytes
  -- none ends
  pub none_done : (bytes : List ℕ) (fresh : ℕ) (now : C) (had : Option (List ℕ)) → fresh ≤ length bytes → (cut (take (length bytes - fresh) bytes)).lines ≡ [] → (cut (take (length bytes - (length bytes - fresh)) (drop (length bytes - fresh) bytes))).lines ≡ [] → Writes answers (cut bytes).lines now now had had
  none_done bytes fresh now had fits seen none = subst (λ ls. Writes answers ls now now had had) (sym (none_all bytes fresh fits seen none)) (writes_none answers now had)

  -- no line yet
  pub answering_none : (text : List ℕ) (now : C) (had : Option (List ℕ)) → IsAnswering answers text text now now had had
  answering_none text now had = record { done = []; lines = refl; same = refl; writes = writes_none answers now had }

  -- one more line
  pub answering_more : (text rest line after : List ℕ) (first now last : C) (a b c : Option (List ℕ)) → IsAnswering answers text rest first now a b → IsFirst rest line after → IsWhole answers line now last b c → IsAnswering answers text after first last a c
  answering_more text rest line after first now last a b c so f whole = record {
    done = so.done ++ line ∷ [];
    lines = so.lines ∙ (ap (λ ls. so.done ++ ls) f.lines ∙ sym (append_assoc so.done (line ∷ []) (cut after).lines));
    same = so.same ∙ f.same;
    writes = writes_more answers first now last so.done (line ∷ []) a b c so.writes (writes_one answers now last line b c whole);
  }

  -- the last line
  pub answering_done : (text rest : List ℕ) (first now : C) (a b : Option (List ℕ)) → IsAnswering answers text rest first now a b → (cut rest).lines ≡ [] → Writes answers (cut text).lines first now a b
  answering_done text rest first now a b so none = subst (λ ls. Writes answers ls first now a b) (sym (so.lines ∙ (ap (λ ls. so.done ++ ls) none ∙ append-nil so.done))) so.writes

  -- what is left then
  pub answering_left : (text rest : List ℕ) (first now : C) (a b : Option (List ℕ)) → IsAnswering answers text rest first now a b → (cut rest).lines ≡ [] → length rest ≡ length (cut text).rest
  answering_left text rest first now a b so none = ap length (sym (so.same ∙ plain_rest rest none))

  -- a reply that was not written whole
  pub answering_broken : (text rest line after : List ℕ) (first now last : C) (a b c : Option (List ℕ)) → IsAnswering answers text rest first now a b → IsFirst rest line after → IsPartial answers line now last b c → Breaks answers (cut text).lines first last a c
  answering_broken text rest line after first now last a b c so f partial =
      subst (λ ls. Breaks answers ls first last a c) (sym (so.lines ∙ ap (λ ls. so.done ++ ls) f.lines))
      (breaks_more answers first now last so.done (line ∷ (cut after).lines) a b c so.writes (breaks_one answers now last line (cut after).lines b c partial))

  -- ---- a turn at the reader
  -- nothing was read
  pub so_far_none : (bound : ℕ) (now : C) (had held : Option (List ℕ)) (pending : List ℕ) → pending ≡ [] → IsSoFar answers bound bound now now had had held held pending
  so_far_none bound now had held pending none = record {
    bytes = [];
    consumed = consumes_none had;
    counted = omega arith;
    short = tt;
    rest = sym none;
    few = rw none (omega arith);
    writes = writes_none answers now held;
  }

  -- no newline stands in what was held before
  pub seen_before : (count : ℕ) (pending new : List ℕ) (bound limit : ℕ) (first now : C) (had has held holds now_has : Option (List ℕ)) → IsSoFar answers bound limit first now had has held holds pending → Grows count limit pending new has now_has → (cut (take (length new - count) new)).lines ≡ []
  seen_before count pending new bound limit first now had has held holds now_has so grows =
      let front : length new - count ≡ length pending = omega (arith, ap length grows.grown, length-append pending grows.more, grows.counted) in
      ap (λ t. (cut t).lines) (ap₂ take front grows.grown ∙ take-append_seam pending grows.more) ∙ (ap (λ t. (cut t).lines) (sym so.rest) ∙ rest_plain so.bytes)

  -- the session goes on
  pub went_on : (count left : ℕ) (pending new newer : List ℕ) (bound limit : ℕ) (first now next : C) (had has held holds now_has now_holds : Option (List ℕ)) → IsSoFar answers bound limit first now had has held holds pending → Grows count limit pending new has now_has → Turns answers None new newer now next holds now_holds → left ≡ limit - count → IsSoFar answers bound left first next had now_has held now_holds newer
  went_on count left pending new newer bound limit first now next had has held holds now_has now_holds so grows turn less = record {
    bytes = so.bytes ++ grows.more;
    consumed = consumes_more had has now_has so.bytes grows.more so.consumed grows.consumed;
    counted = omega (arith, so.counted, length-append so.bytes grows.more, grows.counted, grows.few, less);
    short = fetched_short so.bytes grows.more pending new so.rest grows.grown grows.room so.short;
    rest = fetched_rest so.bytes grows.more pending new so.rest grows.grown ∙ sym turn.0;
    few = turn.1;
    writes = subst (λ ls. Writes answers ls first next held now_holds) (sym (fetched_lines so.bytes grows.more pending new so.rest grows.grown)) (writes_more answers first now next (cut so.bytes).lines (cut new).lines held holds now_holds so.writes turn.2);
  }

  -- a turn that gave nothing
  pub went_again : (left : ℕ) (pending new : List ℕ) (bound limit : ℕ) (first now : C) (had has held holds now_has : Option (List ℕ)) → IsSoFar answers bound limit first now had has held holds pending → new ≡ pending → Keeps has now_has → left ≡ limit - 1 → IsSoFar answers bound left first now had now_has held holds new
  went_again left pending new bound limit first now had has held holds now_has so same kept less = record {
    bytes = so.bytes;
    consumed = consumes_kept had has now_has so.bytes so.consumed kept;
    counted = omega (arith, so.counted, less);
    short = so.short;
    rest = so.rest ∙ sym same;
    few = rw same so.few;
    writes = so.writes;
  }

  -- what was read, with what came last
  reads_all : (count : ℕ) (pending new : List ℕ) (bound limit : ℕ) (first now : C) (had has held holds now_has : Option (List ℕ)) → (so : IsSoFar answers bound limit first now had has held holds pending) → (grows : Grows count limit pending new has now_has) → Reads bound had now_has (so.bytes ++ grows.more)
  reads_all count pending new bound limit first now had has held holds now_has so grows = record {
    consumed = consumes_more had has now_has so.bytes grows.more so.consumed grows.consumed;
    bounded = omega (arith, so.counted, length-append so.bytes grows.more, grows.counted, grows.few);
    short = fetched_short so.bytes grows.more pending new so.rest grows.grown grows.room so.short;
  }

  -- the session ends after what came
  pub turned : (end : SessionEnd) (count : ℕ) (pending new newer : List ℕ) (bound limit : ℕ) (first now next : C) (had has held holds now_has now_holds : Option (List ℕ)) → IsSoFar answers bound limit first now had has held holds pending → Grows count limit pending new has now_has → Turns answers (Some end) new newer now next holds now_holds → Ran answers bound first next had now_has held now_holds end
  turned TooLong count pending new newer bound limit first now next had has held holds now_has now_holds so grows turn =
      let lines_are = fetched_lines so.bytes grows.more pending new so.rest grows.grown in
      let rest_is = fetched_rest so.bytes grows.more pending new so.rest grows.grown in
      record {
        bytes = so.bytes ++ grows.more;
        lines = (cut so.bytes).lines ++ ((cut new).lines ++ (cut new).rest ∷ []);
        reads = reads_all count pending new bound limit first now had has held holds now_has so grows;
        are = (ap length rest_is ∙ turn.0, sym (append_assoc (cut so.bytes).lines (cut new).lines ((cut new).rest ∷ [])) ∙ ap₂ (λ ls r. ls ++ r ∷ []) (sym lines_are) (sym rest_is));
        writes = writes_more answers first now next (cut so.bytes).lines ((cut new).lines ++ (cut new).rest ∷ []) held holds now_holds so.writes turn.1;
      }
  turned WriteFault count pending new newer bound limit first now next had has held holds now_has now_holds so grows turn =
      let lines_are = fetched_lines so.bytes grows.more pending new so.rest grows.grown in
      let rest_is = fetched_rest so.bytes grows.more pending new so.rest grows.grown in
      elim turn.1 [
        | inl whole ↦ record {
          bytes = so.bytes ++ grows.more;
          lines = (cut so.bytes).lines ++ turn.0;
          reading = ReadFault;
          reads = reads_all count pending new bound limit first now had has held holds now_has so grows;
          are = (rw rest_is whole.0, ap (λ ls. (cut so.bytes).lines ++ ls) whole.1 ∙ sym lines_are);
          breaks = breaks_more answers first now next (cut so.bytes).lines turn.0 held holds now_holds so.writes turn.2;
        }
        | inr long ↦ record {
          bytes = so.bytes ++ grows.more;
          lines = (cut so.bytes).lines ++ turn.0;
          reading = TooLong;
          reads = reads_all count pending new bound limit first now had has held holds now_has so grows;
          are = (ap length rest_is ∙ long.0, ap (λ ls. (cut so.bytes).lines ++ ls) long.1 ∙ (sym (append_assoc (cut so.bytes).lines (cut new).lines ((cut new).rest ∷ [])) ∙ ap₂ (λ ls r. ls ++ r ∷ []) (sym lines_are) (sym rest_is)));
          breaks = breaks_more answers first now next (cut so.bytes).lines turn.0 held holds now_holds so.writes turn.2;
        }
      ]
  turned other count pending new newer bound limit first now next had has held holds now_has now_holds so grows turn = absurd turn

  -- ---- the end of the reading
  -- what was read so far
  reads_so_far : (pending : List ℕ) (bound limit : ℕ) (first now : C) (had has held holds now_has : Option (List ℕ)) → (so : IsSoFar answers bound limit first now had has held holds pending) → Consumes had now_has so.bytes → Reads bound had now_has so.bytes
  reads_so_far pending bound limit first now had has held holds now_has so consumed = record { consumed = consumed; bounded = omega (arith, so.counted); short = so.short }

  -- the reader failed
  pub faulted : (pending : List ℕ) (bound limit : ℕ) (first now : C) (had has held holds now_has : Option (List ℕ)) → IsSoFar answers bound limit first now had has held holds pending → Keeps has now_has → Ran answers bound first now had now_has held holds ReadFault
  faulted pending bound limit first now had has held holds now_has so kept = record {
    bytes = so.bytes;
    lines = (cut so.bytes).lines;
    reads = reads_so_far pending bound limit first now had has held holds now_has so (consumes_kept had has now_has so.bytes so.consumed kept);
    are = (rw so.rest so.few, refl);
    writes = so.writes;
  }

  -- as much was read as may be
  pub read_enough : (pending : List ℕ) (bound limit : ℕ) (first now : C) (had has held holds : Option (List ℕ)) → IsSoFar answers bound limit first now had has held holds pending → Ran answers bound first now had has held holds ReadFault
  read_enough pending bound limit first now had has held holds so = record {
    bytes = so.bytes;
    lines = (cut so.bytes).lines;
    reads = reads_so_far pending bound limit first now had has held holds has so so.consumed;
    are = (rw so.rest so.few, refl);
    writes = so.writes;
  }

  -- the input ended
  pub ended_at : (end : SessionEnd) (pending new : List ℕ) (bound limit : ℕ) (first now next : C) (had has held holds now_has now_holds : Option (List ℕ)) → IsSoFar answers bound limit first now had has held holds pending → new ≡ pending → Consumes has now_has [] → IsAtEnd now_has → Last answers end new now next holds now_holds → Ran answers bound first next had now_has held now_holds end
  ended_at End pending new bound limit first now next had has held holds now_has now_holds so same none at_end last = record {
    bytes = so.bytes;
    lines = (cut so.bytes).lines ++ last_line new;
    reads = reads_so_far pending bound limit first now had has held holds now_has so (consumes_end had has now_has so.bytes so.consumed none);
    are = (at_end, rw so.rest so.few, ap (λ r. (cut so.bytes).lines ++ last_line r) (same ∙ sym so.rest));
    writes = writes_more answers first now next (cut so.bytes).lines (last_line new) held holds now_holds so.writes last;
  }
  ended_at WriteFault pending new bound limit first now next had has held holds now_has now_holds so same none at_end last = record {
    bytes = so.bytes;
    lines = (cut so.bytes).lines ++ last_line new;
    reading = End;
    reads = reads_so_far pending bound limit first now had has held holds now_has so (consumes_end had has now_has so.bytes so.consumed none);
    are = (at_end, rw so.rest so.few, ap (λ r. (cut so.bytes).lines ++ last_line r) (same ∙ sym so.rest));
    breaks = breaks_more answers first now next (cut so.bytes).lines (last_line new) held holds now_holds so.writes last;
  }
  ended_at other pending new bound limit first now next had has held holds now_has now_holds so same none at_end last = absurd last

  -- ---- the bytes of one turn
  -- where a line ends among them, fewer stand behind the last newline
  pub broken_held : (old : List ℕ) (first now : C) (had has : Option (List ℕ)) → length old ≤ 8401 → Breaks answers (cut old).lines first now had has → HeldLines (cut old) (cut old).lines
  broken_held old first now had has room breaks =
      inl (omega (arith, room, counted old, ap length breaks.place, length-append breaks.before (breaks.line ∷ breaks.more)), refl)

  -- a line that is too long was answered too
  pub long_answered : (old line : List ℕ) (first now next : C) (a b c : Option (List ℕ)) → Writes answers (cut old).lines first now a b → IsWhole answers line now next b c → line ≡ (cut old).rest → Writes answers ((cut old).lines ++ (cut old).rest ∷ []) first next a c
  long_answered old line first now next a b c writes whole is = subst (λ r. Writes answers ((cut old).lines ++ r ∷ []) first next a c) is (writes_more answers first now next (cut old).lines (line ∷ []) a b c writes (writes_one answers now next line b c whole))

  -- or not whole
  pub long_broken : (old line : List ℕ) (first now next : C) (a b c : Option (List ℕ)) → Writes answers (cut old).lines first now a b → IsPartial answers line now next b c → line ≡ (cut old).rest → Breaks answers ((cut old).lines ++ (cut old).rest ∷ []) first next a c
  long_broken old line first now next a b c writes partial is = subst (λ r. Breaks answers ((cut old).lines ++ r ∷ []) first next a c) is (breaks_more answers first now next (cut old).lines (line ∷ []) a b c writes (breaks_one answers now next line [] b c partial))

  -- a line behind the last newline
  pub last_answered : (line : List ℕ) (now next : C) (a b : Option (List ℕ)) → (length line ≡ 0 → ⊥) → IsWhole answers line now next a b → Writes answers (last_line line) now next a b
  last_answered [] now next a b some whole = absurd (some refl)
  last_answered (x ∷ line) now next a b some whole = writes_one answers now next (x ∷ line) a b whole

  -- the same, not whole
  pub last_broken : (line : List ℕ) (now next : C) (a b : Option (List ℕ)) → (length line ≡ 0 → ⊥) → IsPartial answers line now next a b → Breaks answers (last_line line) now next a b
  last_broken [] now next a b some partial = absurd (some refl)
  last_broken (x ∷ line) now next a b some partial = breaks_one answers now next (x ∷ line) [] a b partial

  -- nothing stands behind the last newline
  pub last_none : (line : List ℕ) (now : C) (a : Option (List ℕ)) → length line ≡ 0 → Writes answers (last_line line) now now a a
  last_none [] now a none = writes_none answers now a
  last_none (x ∷ line) now a none = let no_less : 1 ≤ 0 = omega (arith, none) in absurd (not-suc-le-zero no_less)
