-- What a leg shows after a step at one block: bytes written over its own, in the block's frame or in a content of its own, and a block invalidated.
use Rattle.std.proofs.Common.{◌≡◌, ◌≢◌, ◌∙◌, ◌<◌, ◌≤◌, ◌++◌, Bool, IfSome, List, None, Option, Some, [], ap, arith, drop, false, if◌then◌else◌, length, length-append, not, refl, subst, sym, take, true, unwrap_or, ℕ, ◌∷◌, ◌+◌}
use Rattle.std.proofs.lemmas.Bool.{false≢true}
use Rattle.std.proofs.lemmas.List.{length-replicate}
use Rattle.std.specs.Prelude.{is_some, option_map, ◌&&◌, ◌||◌}
use Rattle.xt_base.proofs.MapLemmas.{at_put_other, at_put_same}
use Rattle.xt_base.specs.Calls.{edited, invalidated, overwritten, seen}
use Rattle.xt_base.specs.Chunks.{marks, union}
use Rattle.xt_base.specs.Legs.{change_of, is_stale}
use Rattle.xt_base.specs.Maps.{at, has, is_in, put}
use Rattle.xt_base.specs.Sound.{IsRising}
use Rattle.xt_base.specs.State.{Change, Frames, Leg, Transaction}
use Rattle.xt_base.specs.Text.{content_at, zeros}
use Rattle.xt_frames.proofs.ContentLemmas.{at_committed, in_committed, logged_committed, undone_committed}
use Rattle.xt_frames.specs.Busy.{changed_at, changed_in, committed_of}
use Rattle.xt_frames.specs.Contents.{contents_of}
use Rattle.xt_frames.specs.Kept.{Framed, IsClean, logged, undone}
use Rattle.xt_journal.proofs.OverLemmas.{change_over, edited_over, invalidated_over, own_over, stale_over}
use Rattle.xt_journal.specs.Journals.{JournalState, with_frames}
use Rattle.xt_journal.specs.Over.{edit_over, frame_bytes, leg_over}
use Rattle.xt_mount.specs.Shown.{IsStep, IsStepAt, goes_in_place, has_in_place, shown_logged}
use Rattle.xt_vectors.specs.Edits.{is_in_place, own_edit}

-- ---- one block of a leg changed
-- whether a change, if there is one, was made in place
abbrev made_in_place : Change → Bool
made_in_place c = is_in_place c.edit

abbrev place_in : Option Change → Bool
place_in o = made_in_place (unwrap_or o (record { edit = None; marks = []; charged = [] }))

module _ (n f : List (ℕ × Framed)) (b : ℕ) (x : Change) (leg after : Leg) (is : after.changes ≡ put b x leg.changes) where
  in_place_now : has_in_place b after ≡ is_in_place x.edit
  in_place_now =
      ap (λ cs. place_in (at b cs)) is
      ∙ ap place_in (at_put_same b x leg.changes)

  in_place_other : (k : ℕ) → k ≢ b → has_in_place k after ≡ has_in_place k leg
  in_place_other k other =
      ap (λ cs. place_in (at k cs)) is
      ∙ ap place_in (at_put_other b k x leg.changes other)

  step_at : ((k : ℕ) → k ≢ b → at k n ≡ at k f) → (is_in b f ≡ true → is_in b n ≡ true) → (is_in_place x.edit ≡ true → is_in b n ≡ true) → (is_in_place x.edit ≡ false → IfSome (at b n) IsClean)
      → IsStepAt b n f after leg
  step_at others stays framed clean = record {
    others = others;
    stays = stays;
    rest = in_place_other;
    framed = λ here. framed (sym in_place_now ∙ here);
    clean = λ none. clean (sym in_place_now ∙ none);
  }

-- ---- what a leg sees of a block, over frames
-- of a block of which it has no bytes, fresh or not, stale or not
abbrev left_of : ℕ → ℕ → Bool → Frames → List ℕ
left_of size b hidden frames = if hidden then zeros size else content_at size b frames.committed

seen_is : (size b : ℕ) (f : List (ℕ × Framed)) (leg : Leg) (frames : Frames)
    → seen size b (leg_over f leg) frames ≡ unwrap_or (edit_over f b (change_of b leg).edit) (left_of size b (has frames.fresh b || is_stale b leg) frames)
seen_is size b f leg frames =
    ap (λ (c : Change). unwrap_or c.edit (left_of size b (has frames.fresh b || is_stale b (leg_over f leg)) frames)) (change_over f b leg)
    ∙ ap (λ h. unwrap_or (edit_over f b (change_of b leg).edit) (left_of size b (has frames.fresh b || h) frames)) (stale_over f b leg)

-- its own bytes
own_seen : (f : List (ℕ × Framed)) (b : ℕ) (e : Option (List ℕ)) (left : List ℕ) → is_some (own_edit e) ≡ true → unwrap_or (edit_over f b e) left ≡ unwrap_or e []
own_seen f b None left own = absurd (false≢true own)
own_seen f b (Some []) left own = absurd (false≢true own)
own_seen f b (Some (x ∷ xs)) left own = refl

not_true : (x : Bool) → not x ≡ true → x ≡ false
not_true true is = absurd (false≢true is)
not_true false is = refl

and_right : (x y : Bool) → (x && y) ≡ true → y ≡ true
and_right true y is = is
and_right false y is = absurd (false≢true is)

-- those of the frame
place_by : (size b : ℕ) (frame : Framed) (hidden : Bool) (committed : Option (List ℕ)) → (is_in_place None || not hidden) ≡ true → committed ≡ Some frame.committed → frame.edit ≡ frame.committed
    → (if hidden then zeros size else unwrap_or committed (zeros size)) ≡ frame.edit
place_by size b frame hidden committed goes is clean =
    ap (λ h. if h then zeros size else unwrap_or committed (zeros size)) (not_true hidden goes) ∙ ap (λ o. unwrap_or o (zeros size)) is ∙ sym clean

place_seen : (size b : ℕ) (f : List (ℕ × Framed)) (frame : Framed) (e : Option (List ℕ)) (hidden : Bool) (frames : Frames) → at b f ≡ Some frame → frames.committed ≡ committed_of f
    → is_some (own_edit e) ≡ false → (is_in_place e || not hidden) ≡ true → (is_in_place e ≡ false → IsClean frame) → unwrap_or (edit_over f b e) (left_of size b hidden frames) ≡ frame.edit
place_seen size b f frame None hidden frames there committed none goes clean =
    ap (λ cs. if hidden then zeros size else content_at size b cs) committed
    ∙ place_by size b frame hidden (at b (committed_of f)) goes (at_committed b f ∙ ap (option_map (λ (x : Framed). x.committed)) there) (clean refl)
place_seen size b f frame (Some []) hidden frames there committed none goes clean = ap frame_bytes there
place_seen size b f frame (Some (x ∷ xs)) hidden frames there committed none goes clean = absurd (false≢true (sym none))

-- zeros
zeros_by : (size : ℕ) (hidden : Bool) (committed : Option (List ℕ)) → (is_some committed && (false || not hidden)) ≡ false → (if hidden then zeros size else unwrap_or committed (zeros size)) ≡ zeros size
zeros_by size true committed goes = refl
zeros_by size false None goes = refl
zeros_by size false (Some content) goes = absurd (false≢true (sym goes))

true_and : (x y : Bool) → x ≡ true → (x && y) ≡ y
true_and true y is = refl
true_and false y is = absurd (false≢true is)

in_base : (b : ℕ) (f : List (ℕ × Framed)) → is_in b (committed_of f) ≡ is_in b f
in_base b f = in_committed b f

zeros_seen : (size b : ℕ) (f : List (ℕ × Framed)) (e : Option (List ℕ)) (hidden : Bool) (frames : Frames) → frames.committed ≡ committed_of f
    → is_some (own_edit e) ≡ false → (is_in b f && (is_in_place e || not hidden)) ≡ false → (is_in_place e ≡ true → is_in b f ≡ true) → unwrap_or (edit_over f b e) (left_of size b hidden frames) ≡ zeros size
zeros_seen size b f None hidden frames committed none goes framed =
    ap (λ cs. if hidden then zeros size else content_at size b cs) committed
    ∙ zeros_by size hidden (at b (committed_of f)) (ap (λ x. x && (false || not hidden)) (in_base b f) ∙ goes)
zeros_seen size b f (Some []) hidden frames committed none goes framed = absurd (false≢true (sym goes ∙ true_and (is_in b f) (true || not hidden) (framed refl)))
zeros_seen size b f (Some (x ∷ xs)) hidden frames committed none goes framed = absurd (false≢true (sym none))

-- bytes that are written somewhere leave some
some_left : (first : ℕ) (bytes old : List ℕ) → 0 < length bytes → 0 < length (overwritten first bytes old)
some_left first bytes old some =
    omega (
      arith,
      length-append (take first old) (bytes ++ drop (first + length bytes) old),
      length-append bytes (drop (first + length bytes) old),
      length-append (take first old ++ bytes) (drop (first + length bytes) old),
      length-append (take first old) bytes,
    )

not_place : (bytes : List ℕ) → 0 < length bytes → is_in_place (Some bytes) ≡ false
not_place [] some = absurd (omega arith)
not_place (x ∷ xs) some = refl

-- ---- a step of a leg
module _ (b first : ℕ) (bytes marked : List ℕ) (j : JournalState) (u : Transaction) (rises : IsRising u.leg.changes) (some : 0 < length bytes) (of : marked ≡ marks first (length bytes)) where
  abbrev frames_now : List (ℕ × Framed)
  frames_now = j.frames.frames

  abbrev edit_now : Option (List ℕ)
  edit_now = (change_of b u.leg).edit

  abbrev hidden_now : Bool
  hidden_now = has j.frames.fresh b || is_stale b u.leg

  abbrev with_edit_of : List ℕ → Transaction
  with_edit_of content = record u { leg = edited b content marked u.leg }

  abbrev more : List ℕ → Change
  more content = record { edit = Some content; marks = union (change_of b u.leg).marks marked; charged = union (change_of b u.leg).charged marked }

  -- a content of its own, over what it sees
  own_step : (content old : List ℕ) → content ≡ overwritten first bytes old → seen j.form.size b (leg_over frames_now u.leg) (contents_of j.frames) ≡ old → (has_in_place b u.leg ≡ false → IfSome (at b frames_now) IsClean)
      → has_in_place b u.leg ≡ false → IsStep b (shown_logged b first bytes j u.leg) j j (with_edit_of content) u
  own_step content old wrote sees clean none =
      let left : 0 < length content = subst (λ xs. 0 < length xs) (sym wrote) (some_left first bytes old some) in
      record {
        shown = edited_over frames_now frames_now b (λ k other. refl) content marked u.leg rises
            ∙ ap (λ xs. edited b xs marked (leg_over frames_now u.leg)) (own_over content (at b frames_now) left ∙ wrote ∙ ap (overwritten first bytes) (sym sees))
            ∙ ap (λ set. edited b (overwritten first bytes (seen j.form.size b (leg_over frames_now u.leg) (contents_of j.frames))) set (leg_over frames_now u.leg)) of;
        contents = refl;
        rest = refl;
        grant = refl;
        step = step_at frames_now frames_now b (more content) u.leg (edited b content marked u.leg) refl (λ k other. refl) (λ is. is)
            (λ here. absurd (false≢true (sym (not_place content left) ∙ here))) (λ away. clean none);
      }

  -- bytes were written over the leg's own
  own_place : (e : Option (List ℕ)) → is_some (own_edit e) ≡ true → is_in_place e ≡ false
  own_place None own = refl
  own_place (Some []) own = absurd (false≢true own)
  own_place (Some (x ∷ xs)) own = refl

  pub over_step : (v : Transaction) → is_some (own_edit edit_now) ≡ true → (has_in_place b u.leg ≡ false → IfSome (at b frames_now) IsClean) → v ≡ with_edit_of (overwritten first bytes (unwrap_or edit_now []))
      → IsStep b (shown_logged b first bytes j u.leg) j j v u
  over_step v own clean is =
      subst (λ (x : Transaction). IsStep b (shown_logged b first bytes j u.leg) j j x u) (sym is)
      (own_step (overwritten first bytes (unwrap_or edit_now [])) (unwrap_or edit_now []) refl
      (seen_is j.form.size b frames_now u.leg (contents_of j.frames) ∙ own_seen frames_now b edit_now (left_of j.form.size b hidden_now (contents_of j.frames)) own) clean (own_place edit_now own))

  -- they were written in a content of the leg's own
  no_place : (e : Option (List ℕ)) (x y : Bool) → (is_in_place e ≡ true → x ≡ true) → (x && (is_in_place e || y)) ≡ false → is_in_place e ≡ false
  no_place None x y framed goes = refl
  no_place (Some []) x y framed goes = absurd (false≢true (sym goes ∙ true_and x true (framed refl)))
  no_place (Some (z ∷ zs)) x y framed goes = refl

  pub zeros_step : (v : Transaction) (content : List ℕ) → is_some (own_edit edit_now) ≡ false → goes_in_place b u.leg j.frames ≡ false → (has_in_place b u.leg ≡ true → is_in b frames_now ≡ true)
      → (has_in_place b u.leg ≡ false → IfSome (at b frames_now) IsClean) → content ≡ overwritten first bytes (zeros j.form.size) → v ≡ with_edit_of content → IsStep b (shown_logged b first bytes j u.leg) j j v u
  zeros_step v content none goes framed clean wrote is =
      subst (λ (x : Transaction). IsStep b (shown_logged b first bytes j u.leg) j j x u) (sym is)
      (own_step content (zeros j.form.size) wrote
      (seen_is j.form.size b frames_now u.leg (contents_of j.frames) ∙ zeros_seen j.form.size b frames_now edit_now hidden_now (contents_of j.frames) refl none goes framed) clean
      (no_place edit_now (is_in b frames_now) (not hidden_now) framed goes))

  -- they were written in the block's frame
  module _ (frames_rise : IsRising j.frames.frames) (none : is_some (own_edit (change_of b u.leg).edit) ≡ false) (goes : goes_in_place b u.leg j.frames ≡ true)
      (clean : has_in_place b u.leg ≡ false → IfSome (at b j.frames.frames) IsClean) where
    and_left : (x y : Bool) → (x && y) ≡ true → x ≡ true
    and_left true y is = refl
    and_left false y is = absurd (false≢true is)

    place_at : (o : Option Framed) → at b frames_now ≡ o → is_some o ≡ true → IsStep b (shown_logged b first bytes j u.leg) (with_frames (changed_at (logged first bytes) b o frames_now) j) j (with_edit_of []) u
    place_at None there some_there = absurd (false≢true some_there)
    place_at (Some frame) there some_there =
        let after : List (ℕ × Framed) = put b (logged first bytes frame) frames_now in
        let others : (k : ℕ) → k ≢ b → at k after ≡ at k frames_now = λ k other. at_put_other b k (logged first bytes frame) frames_now other in
        let here : at b after ≡ Some (logged first bytes frame) = at_put_same b (logged first bytes frame) frames_now in
        let sees : seen j.form.size b (leg_over frames_now u.leg) (contents_of j.frames) ≡ frame.edit =
        seen_is j.form.size b frames_now u.leg (contents_of j.frames)
        ∙ place_seen j.form.size b frames_now frame edit_now hidden_now (contents_of j.frames) there refl none (and_right (is_in b frames_now) (is_in_place edit_now || not hidden_now) goes)
        (λ away. subst (λ o. IfSome o IsClean) there (clean away)) in
        record {
          shown = edited_over after frames_now b others [] marked u.leg rises
              ∙ ap (λ xs. edited b xs marked (leg_over frames_now u.leg)) (ap frame_bytes here ∙ ap (overwritten first bytes) (sym sees))
              ∙ ap (λ set. edited b (overwritten first bytes (seen j.form.size b (leg_over frames_now u.leg) (contents_of j.frames))) set (leg_over frames_now u.leg)) of;
          contents = ap (λ (cs : List (ℕ × List ℕ)). record { committed = cs; fresh = j.frames.fresh; idle = j.frames.idle })
              (ap (λ o. committed_of (changed_at (logged first bytes) b o frames_now)) (sym there) ∙ logged_committed b first bytes frames_now frames_rise);
          rest = refl;
          grant = refl;
          step = step_at after frames_now b (more []) u.leg (edited b [] marked u.leg) refl others (λ is. ap is_some here) (λ is. ap is_some here) (λ away. absurd (false≢true (sym away)));
        }

    pub place_step : (m : JournalState) (v : Transaction) → m ≡ with_frames (changed_in (logged first bytes) b frames_now) j → v ≡ with_edit_of [] → IsStep b (shown_logged b first bytes j u.leg) m j v u
    place_step m v moved is =
        subst (λ (x : Transaction). IsStep b (shown_logged b first bytes j u.leg) m j x u) (sym is)
        (subst (λ (x : JournalState). IsStep b (shown_logged b first bytes j u.leg) x j (with_edit_of []) u) (sym moved)
        (place_at (at b frames_now) refl (and_left (is_in b frames_now) (is_in_place edit_now || not hidden_now) goes)))

-- ---- a block was invalidated, and what was changed of it in place is as it was
module _ (b : ℕ) (j : JournalState) (u : Transaction) (rises : IsRising u.leg.changes) (frames_rise : IsRising j.frames.frames) where
  abbrev gone : Change
  gone = record { edit = None; marks = []; charged = (change_of b u.leg).charged }

  abbrev stale_now : Transaction
  stale_now = record u { leg = invalidated b u.leg }

  stale_at : (o : Option Framed) → at b j.frames.frames ≡ o → IsStep b (invalidated b (leg_over j.frames.frames u.leg)) (with_frames (changed_at undone b o j.frames.frames) j) j stale_now u
  stale_at None there = record {
    shown = invalidated_over j.frames.frames j.frames.frames b (λ k other. refl) u.leg rises;
    contents = refl;
    rest = refl;
    grant = refl;
    step = step_at j.frames.frames j.frames.frames b gone u.leg (invalidated b u.leg) refl (λ k other. refl) (λ is. is) (λ here. absurd (false≢true here)) (λ away. subst (λ o. IfSome o IsClean) (sym there) tt);
  }
  stale_at (Some frame) there =
      let after : List (ℕ × Framed) = put b (undone frame) j.frames.frames in
      let others : (k : ℕ) → k ≢ b → at k after ≡ at k j.frames.frames = λ k other. at_put_other b k (undone frame) j.frames.frames other in
      let here : at b after ≡ Some (undone frame) = at_put_same b (undone frame) j.frames.frames in
      record {
        shown = invalidated_over after j.frames.frames b others u.leg rises;
        contents = ap (λ (cs : List (ℕ × List ℕ)). record { committed = cs; fresh = j.frames.fresh; idle = j.frames.idle })
            (ap (λ o. committed_of (changed_at undone b o j.frames.frames)) (sym there) ∙ undone_committed b j.frames.frames frames_rise);
        rest = refl;
        grant = refl;
        step = step_at after j.frames.frames b gone u.leg (invalidated b u.leg) refl others (λ is. ap is_some here) (λ is. ap is_some here) (λ away. subst (λ o. IfSome o IsClean) (sym here) refl);
      }

  pub stale_step : (m : JournalState) (v : Transaction) → m ≡ with_frames (changed_in undone b j.frames.frames) j → v ≡ stale_now → IsStep b (invalidated b (leg_over j.frames.frames u.leg)) m j v u
  stale_step m v moved is =
      subst (λ (x : Transaction). IsStep b (invalidated b (leg_over j.frames.frames u.leg)) m j x u) (sym is)
      (subst (λ (x : JournalState). IsStep b (invalidated b (leg_over j.frames.frames u.leg)) x j stale_now u) (sym moved) (stale_at (at b j.frames.frames) refl))

-- ---- lengths: what ends within the bytes that a leg sees of a block
module _ (size b end : ℕ) (f : List (ℕ × Framed)) (leg : Leg) (frames : Frames) (room : end ≤ length (seen size b (leg_over f leg) frames)) where
  abbrev edit_of : Option (List ℕ)
  edit_of = (change_of b leg).edit

  abbrev is_hidden : Bool
  is_hidden = has frames.fresh b || is_stale b leg

  room_of : (bytes : List ℕ) → unwrap_or (edit_over f b edit_of) (left_of size b is_hidden frames) ≡ bytes → end ≤ length bytes
  room_of bytes is = subst (λ xs. end ≤ length xs) (seen_is size b f leg frames ∙ is) room

  -- ends within bytes of its own
  pub own_room : is_some (own_edit edit_of) ≡ true → end ≤ length (unwrap_or edit_of [])
  own_room own = room_of (unwrap_or edit_of []) (own_seen f b edit_of (left_of size b is_hidden frames) own)

  -- those of the frame
  module _ (committed : frames.committed ≡ committed_of f) (none : is_some (own_edit edit_of) ≡ false) where
    place_room_at : (o : Option Framed) → at b f ≡ o → (is_in_place edit_of || not is_hidden) ≡ true → (is_in_place edit_of ≡ false → IfSome (at b f) IsClean) → IfSome o (λ x. end ≤ length x.edit)
    place_room_at None there goes clean = tt
    place_room_at (Some frame) there goes clean =
        room_of frame.edit (place_seen size b f frame edit_of is_hidden frames there committed none goes (λ away. subst (λ o. IfSome o IsClean) there (clean away)))

    pub place_room : (is_in b f && (is_in_place edit_of || not is_hidden)) ≡ true → (is_in_place edit_of ≡ false → IfSome (at b f) IsClean) → IfSome (at b f) (λ x. end ≤ length x.edit)
    place_room goes clean = place_room_at (at b f) refl (and_right (is_in b f) (is_in_place edit_of || not is_hidden) goes) clean

  -- zeros
  pub zeros_room : frames.committed ≡ committed_of f → is_some (own_edit edit_of) ≡ false → (is_in b f && (is_in_place edit_of || not is_hidden)) ≡ false → (is_in_place edit_of ≡ true → is_in b f ≡ true) → end ≤ size
  zeros_room committed none goes framed = subst (λ n. end ≤ n) (length-replicate size 0) (room_of (zeros size) (zeros_seen size b f edit_of is_hidden frames committed none goes framed))

-- ---- a copy of what a leg sees
own_is : (f : List (ℕ × Framed)) (b : ℕ) (e : Option (List ℕ)) (left content : List ℕ) → Some content ≡ own_edit e → unwrap_or (edit_over f b e) left ≡ content
own_is f b None left content own = absurd (cc)
own_is f b (Some []) left content own = absurd (cc)
own_is f b (Some (x ∷ xs)) left content own = cc

place_is : (f : List (ℕ × Framed)) (b : ℕ) (e : Option (List ℕ)) (left : List ℕ) → is_in_place e ≡ true → unwrap_or (edit_over f b e) left ≡ frame_bytes (at b f)
place_is f b None left here = absurd (false≢true here)
place_is f b (Some []) left here = refl
place_is f b (Some (x ∷ xs)) left here = absurd (false≢true here)

none_made : (e : Option (List ℕ)) → None ≡ own_edit e → is_in_place e ≡ false → e ≡ None
none_made None own away = refl
none_made (Some []) own away = absurd (false≢true (sym away))
none_made (Some (x ∷ xs)) own away = absurd (cc)

module _ (size b : ℕ) (f : List (ℕ × Framed)) (leg : Leg) (frames : Frames) where
  abbrev hides : Bool
  hides = has frames.fresh b || is_stale b leg

  -- its own bytes
  pub own_shown : (content : List ℕ) → Some content ≡ own_edit (change_of b leg).edit → content ≡ seen size b (leg_over f leg) frames
  own_shown content own = sym (seen_is size b f leg frames ∙ own_is f b (change_of b leg).edit (left_of size b hides frames) content own)

  -- those of the frame
  pub place_shown : has_in_place b leg ≡ true → frame_bytes (at b f) ≡ seen size b (leg_over f leg) frames
  place_shown here = sym (seen_is size b f leg frames ∙ place_is f b (change_of b leg).edit (left_of size b hides frames) here)

  module _ (none : None ≡ own_edit (change_of b leg).edit) (away : has_in_place b leg ≡ false) where
    left_shown : seen size b (leg_over f leg) frames ≡ left_of size b hides frames
    left_shown = seen_is size b f leg frames ∙ ap (λ e. unwrap_or (edit_over f b e) (left_of size b hides frames)) (none_made (change_of b leg).edit none away)

    -- zeros
    pub zeros_shown : hides ≡ true → zeros size ≡ seen size b (leg_over f leg) frames
    zeros_shown hidden = sym (left_shown ∙ ap (λ h. left_of size b h frames) hidden)

    -- the committed content
    pub base_shown : hides ≡ false → content_at size b frames.committed ≡ seen size b (leg_over f leg) frames
    base_shown open_there = sym (left_shown ∙ ap (λ h. left_of size b h frames) open_there)
