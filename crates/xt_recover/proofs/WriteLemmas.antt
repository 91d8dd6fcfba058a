-- What was gathered is written over a home device, block by block.
use Rattle.std.proofs.Common.{append_assoc, ◌≡◌, ◌∙◌, ◌∷◌, ◌++◌, Bool, List, None, Some, [], ap, append-nil, false, length, refl, subst, sym, true, ℕ}
use Rattle.std.specs.Prelude.{Err, Ok, OnErr, Result}
use Rattle.xt_base.specs.declared.steps.HomeOffer.{HomeOffer}
use Rattle.xt_dev.specs.Devices.{Tells}
use Rattle.xt_dev.specs.declared.call.HomeCall.{HomeCall}
use Rattle.xt_recover.specs.Overlaid.{Overlaid}
use Rattle.xt_recover.specs.Sizes.{block_size}
use Rattle.xt_recover.specs.Writing.{AreWritten, GoOn, TellsBlock, TellsStopped, TellsWritten, block_calls, chunks_at}
use Rattle.xt_recover.specs.Chunks.{merged}

-- what was written so far, where these blocks are left
pub record SoWritten (l : Overlaid) (left : List (ℕ × List ℕ)) (told : Bool) (before : List HomeCall) (tell : Bool) (after : List HomeCall) : Type 0 where
  pub done : List (ℕ × List ℕ)
  pub parts : l.contents ≡ done ++ left
  pub calls : List HomeCall
  pub written : AreWritten l done calls
  pub tells : Tells told before calls tell after

pub so_none : (l : Overlaid) (left : List (ℕ × List ℕ)) (told : Bool) (before : List HomeCall) → left ≡ l.contents → SoWritten l left told before told before
so_none l left told before is = record { done = []; parts = sym is; calls = []; written = refl; tells = λ t. (t, sym (append-nil before)) }

written_more : (l : Overlaid) (done : List (ℕ × List ℕ)) (e : ℕ × List ℕ) (calls : List HomeCall) (old : List ℕ) → length old ≡ block_size l.size → length e.1 ≡ block_size l.size → AreWritten l done calls → AreWritten l (done ++ e ∷ []) (calls ++ block_calls l e old)
written_more l [] e calls old whole own w = (old, [], whole, own, ap (λ cs. cs ++ block_calls l e old) w, refl)
written_more l (d ∷ ds) e calls old whole own w =
    (w.0, w.1 ++ block_calls l e old, w.2, w.3, ap (λ cs. cs ++ block_calls l e old) w.4 ∙ append_assoc (block_calls l d w.0) w.1 (block_calls l e old), written_more l ds e w.1 old whole own w.5)

tells_on : (t b u : Bool) (before mid after xs ys : List HomeCall) → Tells t before xs u mid → Tells u mid ys b after → Tells t before (xs ++ ys) b after
tells_on t b u before mid after xs ys first second last =
    let now = second last in
    let was = first now.0 in
    (was.0, now.1 ∙ ap (λ cs. cs ++ ys) was.1 ∙ append_assoc before xs ys)

pub so_more : (l : Overlaid) (e : ℕ × List ℕ) (left : List (ℕ × List ℕ)) (t u v : Bool) (before mid after : List HomeCall) → SoWritten l (e ∷ left) t before u mid → TellsBlock l e u mid v after → SoWritten l left t before v after
so_more l e left t u v before mid after so one = record {
  done = so.done ++ e ∷ [];
  parts = so.parts ∙ sym (append_assoc so.done (e ∷ []) left);
  calls = so.calls ++ block_calls l e one.old;
  written = written_more l so.done e so.calls one.old one.whole one.own so.written;
  tells = tells_on t v u before mid after so.calls (block_calls l e one.old) so.tells one.tells;
}

pub so_end : (l : Overlaid) (left : List (ℕ × List ℕ)) (t u v : Bool) (before mid after : List HomeCall) → left ≡ [] → SoWritten l left t before u mid → Tells u mid (HomeCall.Offer (HomeOffer.Sync true) ∷ []) v after → TellsWritten l t before v after
so_end l left t u v before mid after none so last = record {
  calls = so.calls;
  written = subst (λ es. AreWritten l es so.calls) (sym (so.parts ∙ ap (λ xs. so.done ++ xs) none ∙ append-nil so.done)) so.written;
  tells = tells_on t v u before mid after so.calls (HomeCall.Offer (HomeOffer.Sync true) ∷ []) so.tells last;
}

pub so_next : (l : Overlaid) (it : List (ℕ × List ℕ)) (e : ℕ × List ℕ) (left : List (ℕ × List ℕ)) (t u v : Bool) (before mid after : List HomeCall) → it ≡ e ∷ left → SoWritten l it t before u mid → TellsBlock l e u mid v after → SoWritten l left t before v after
so_next l it e left t u v before mid after is so one = so_more l e left t u v before mid after (subst (λ es. SoWritten l es t before u mid) is so) one

-- ---- a call that failed
pub on_err : {A E : Type 0} (r : Result A E) (P : Type 0) → P → OnErr r P
on_err (Ok x) P h = tt
on_err (Err e) P h = h

-- blocks that were written go on
pub go_written : (l : Overlaid) (es : List (ℕ × List ℕ)) (calls rest : List HomeCall) → AreWritten l es calls → GoOn l rest → GoOn l (calls ++ rest)
go_written l [] calls rest none goes = subst (λ cs. GoOn l (cs ++ rest)) (sym none) goes
go_written l (e ∷ es) calls rest w goes =
    subst (λ cs. GoOn l (cs ++ rest)) (sym w.4) (GoOn.block e.0 e.1 w.0 true (w.1 ++ rest) w.3 w.2 (go_written l es w.1 rest w.5 goes))

-- a block was not read
pub stopped_read : (l : Overlaid) (b : ℕ) (t u : Bool) (before after : List HomeCall) → Tells t before (HomeCall.Read b None ∷ []) u after → TellsStopped l t before u after
stopped_read l b t u before after tells = record { calls = HomeCall.Read b None ∷ []; goes = GoOn.unread b; tells = tells }

-- a block was not written
pub stopped_write : (l : Overlaid) (b : ℕ) (content old new : List ℕ) (t u v : Bool) (before mid after : List HomeCall) → length content ≡ block_size l.size → length old ≡ block_size l.size → new ≡ merged (chunks_at l b) content old
    → Tells t before (HomeCall.Read b (Some old) ∷ []) u mid → Tells u mid (HomeCall.Offer (HomeOffer.Write b new false) ∷ []) v after → TellsStopped l t before v after
stopped_write l b content old new t u v before mid after own whole is first second = record {
  calls = HomeCall.Read b (Some old) ∷ HomeCall.Offer (HomeOffer.Write b (merged (chunks_at l b) content old) false) ∷ [];
  goes = GoOn.block b content old false [] own whole GoOn.nothing;
  tells = tells_on t v u before mid after (HomeCall.Read b (Some old) ∷ []) (HomeCall.Offer (HomeOffer.Write b (merged (chunks_at l b) content old) false) ∷ []) first
      (subst (λ c. Tells u mid (HomeCall.Offer (HomeOffer.Write b c false) ∷ []) v after) is second);
}

-- behind blocks that were written
pub stopped_behind : (l : Overlaid) (left : List (ℕ × List ℕ)) (t u v : Bool) (before mid after : List HomeCall) → SoWritten l left t before u mid → TellsStopped l u mid v after → TellsStopped l t before v after
stopped_behind l left t u v before mid after so last = record {
  calls = so.calls ++ last.calls;
  goes = go_written l so.done so.calls last.calls so.written last.goes;
  tells = tells_on t v u before mid after so.calls last.calls so.tells last.tells;
}

pub stopped_sync : (l : Overlaid) (left : List (ℕ × List ℕ)) (t u v : Bool) (before mid after : List HomeCall) → SoWritten l left t before u mid → Tells u mid (HomeCall.Offer (HomeOffer.Sync false) ∷ []) v after → TellsStopped l t before v after
stopped_sync l left t u v before mid after so last =
    stopped_behind l left t u v before mid after so (record { calls = HomeCall.Offer (HomeOffer.Sync false) ∷ []; goes = GoOn.sync false; tells = last })
