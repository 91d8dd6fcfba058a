-- A mount stays sound, of its size, and of its slot and life, and its pieces in flight stay such as a log device takes, whatever it serves.
use Rattle.std.proofs.Common.{◌≡◌, ◌∙◌, ◌+◌, ◌*◌, ◌<◌, ◌≤◌, ◌∷◌, ℕ, suc, zero, List, Bool, [], true, false, sym, ap, subst, refl, IfErr, IfOk, OnOk, OnErr, Option, None, Some, Result, Ok, Err, arith, drop, take, length, length-take, if◌then◌else◌}
use Rattle.std.proofs.lemmas.List.Elements.{All-cons, All-nil}
use Rattle.std.proofs.lemmas.List.{length-drop}
use Rattle.std.specs.Prelude.{All, is_some}
use Rattle.xt_base.proofs.DeviceLemmas.{planned_committed}
use Rattle.xt_base.proofs.SameLemmas.{IsSameLife, same_begin, same_call, same_end, same_flush, same_life}
use Rattle.xt_base.proofs.SizedSteps.{sized_begin, sized_call, sized_end, sized_flush}
use Rattle.xt_base.proofs.SoundCalls.{sound_call}
use Rattle.xt_base.proofs.SoundSteps.{sound_begin, sound_end}
use Rattle.xt_base.proofs.SoundJobs.{sound_flush}
use Rattle.xt_base.specs.Calls.{Outcome, alone_with, gives}
use Rattle.xt_base.specs.Jobs.{begin, end, end_of, flight_pieces, flush, flush_plan, is_ckpt, is_ok, is_waiting, next_pieces}
use Rattle.xt_base.specs.Maps.{is_in}
use Rattle.xt_base.specs.Order.{has_size}
use Rattle.xt_base.specs.Sized.{IsSized}
use Rattle.xt_base.specs.Sound.{Each, IsSound}
use Rattle.xt_base.specs.State.{Flight, State}
use Rattle.xt_base.specs.Text.{first_pieces, piece_count, pieces, text_of}
use Rattle.xt_base.specs.declared.names.JobName.{JobName}
use Rattle.xt_base.specs.declared.steps.Answer.{Answer}
use Rattle.xt_base.specs.declared.steps.HomeAnswers.{HomeAnswers}
use Rattle.xt_base.specs.declared.steps.LogAnswers.{LogAnswers}
use Rattle.xt_base.specs.declared.steps.Reply.{Reply}
use Rattle.xt_base.specs.declared.steps.Request.{Request}
use Rattle.xt_mount.specs.Machines.{IsSameMount}
use Rattle.xt_mount.specs.Texts.{ArePieces}
use Rattle.std.specs.declared.alloc.AllocError.{AllocError}

-- ---- the pieces of a text
some_pieces : (n : ℕ) (text : List ℕ) → 4096 * n < length text + 4096 → All (λ p. 1 ≤ length p) (first_pieces n text)
some_pieces zero text within = All-nil (λ p. 1 ≤ length p)
some_pieces (suc n) text within =
    let rest = length-drop 4096 text in
    All-cons (λ p. 1 ≤ length p) (take 4096 text) (first_pieces n (drop 4096 text)) (simp length-take (omega (arith, within))) (some_pieces n (drop 4096 text) (omega (arith, within, rest)))

short_pieces : (n : ℕ) (text : List ℕ) → All (λ p. length p ≤ 4096) (first_pieces n text)
short_pieces zero text = All-nil (λ p. length p ≤ 4096)
short_pieces (suc n) text = All-cons (λ p. length p ≤ 4096) (take 4096 text) (first_pieces n (drop 4096 text)) (simp length-take (omega arith)) (short_pieces n (drop 4096 text))

are_pieces : (text : List ℕ) → length (pieces text) ≤ 65 → ArePieces (pieces text)
are_pieces text few = record { few = few; some = some_pieces (piece_count text) text (omega arith); short = short_pieces (piece_count text) text }

pub no_pieces : ArePieces []
no_pieces = record { few = omega arith; some = All-nil (λ p. 1 ≤ length p); short = All-nil (λ p. length p ≤ 4096) }

-- ---- the blocks of a flush
all_of : (P : ℕ → Type 0) (xs : List ℕ) → Each P xs → All P xs
all_of P [] h = All-nil P
all_of P (x ∷ xs) h = All-cons P x xs h.0 (all_of P xs h.1)

-- each has a committed content
pub plan_committed : (s : State) → IsSound s → All (λ b. is_in b s.frames.committed ≡ true) (flush_plan s)
plan_committed s sound = all_of (λ b. is_in b s.frames.committed ≡ true) (flush_plan s) (planned_committed s sound)

-- ---- what holds of every mount
-- sound and of its size, with pieces in flight such as a log device takes
abbrev pub IsWhole : State → Type 0
IsWhole s = IsSound s × IsSized s × ArePieces (flight_pieces s.items.flight)

whole_flight : (s t : State) → IsSound t → IsSized t → t.items.flight ≡ s.items.flight → ArePieces (flight_pieces s.items.flight) → IsWhole t
whole_flight s t sound sized same ps = (sound, sized, subst (λ o. ArePieces (flight_pieces o)) (sym same) ps)

-- the state that an outcome leaves
left : (reply : Reply) (new : State) (o : Outcome) → gives reply new ≡ o → IsWhole o.state → IsWhole new
left reply new o is whole = subst IsWhole (sym (ap (λ (x : Outcome). x.state) is)) whole

pub served_whole : (old new : State) (request : Request) (answer : Answer) (r : Result Reply AllocError) → has_size answer (Some old) ≡ true → IsWhole old
    → IfOk r (λ reply. gives reply new ≡ alone_with [] request answer old) → OnErr r (new ≡ old) → IsWhole new
served_whole old new request answer (Ok reply) size whole ok err =
    left reply new (alone_with [] request answer old) ok
    (whole_flight old (alone_with [] request answer old).state (sound_call [] request answer old whole.0) (sized_call [] request answer old whole.0.form size whole.1) (same_call old [] request answer).flight whole.2)
served_whole old new request answer (Err e) size whole ok err = subst IsWhole (sym err) whole

-- a read that was tried: served with no answer, or nothing changed
pub tried_whole : (old new : State) (t b : ℕ) (r : Result Reply ℕ) → IsWhole old → IfOk r (λ reply. gives reply new ≡ alone_with [] (Request.Read t b) Answer.None old) → IfErr r (λ asked. new ≡ old) → IsWhole new
tried_whole old new t b (Ok reply) whole served kept = served_whole old new (Request.Read t b) Answer.None (Ok reply) refl whole served tt
tried_whole old new t b (Err asked) whole served kept = subst IsWhole (sym kept) whole

begun_whole : (s t : State) (b : Bool) (x y : Outcome) → IsSound t → IsSized t → t ≡ (if b then x else y).state → length (flight_pieces t.items.flight) ≤ 65 → flight_pieces x.state.items.flight ≡ flight_pieces s.items.flight
    → flight_pieces y.state.items.flight ≡ next_pieces s → ArePieces (flight_pieces s.items.flight) → IsWhole t
begun_whole s t true x y sound sized is few shut live ps = (sound, sized, subst ArePieces (sym (ap (λ (u : State). flight_pieces u.items.flight) is ∙ shut)) ps)
begun_whole s t false x y sound sized is few shut live ps =
    let now : flight_pieces t.items.flight ≡ next_pieces s = ap (λ (u : State). flight_pieces u.items.flight) is ∙ live in
    (sound, sized, subst ArePieces (sym now) (are_pieces (text_of s.form s.items.open_number s.items.cil s.frames.committed) (subst (λ ps. length ps ≤ 65) now few)))

pub begun_sound : (old new : State) (name : JobName) (r : Result Reply AllocError) → IsWhole old → is_waiting name old ≡ true → is_ckpt name.kind ≡ true
    → IfOk r (λ reply. gives reply new ≡ begin old) → OnOk r (length (flight_pieces new.items.flight) ≤ 65) → OnErr r (new ≡ old) → IsWhole new
begun_sound old new name (Ok reply) whole waiting kind ok few err =
    let is : new ≡ (begin old).state = ap (λ (x : Outcome). x.state) ok in
    begun_whole old new (is_some old.shut) _ _ (subst IsSound (sym is) (sound_begin old whole.0 name waiting kind)) (subst IsSized (sym is) (sized_begin old whole.1)) is few refl refl whole.2
begun_sound old new name (Err e) whole waiting kind ok few err = subst IsWhole (sym err) whole

ended_pieces : (s : State) (answers : LogAnswers) (o : Option Flight) → ArePieces (flight_pieces s.items.flight) → ArePieces (flight_pieces (end_of [] answers s o).state.items.flight)
ended_pieces s answers None ps = ps
ended_pieces s answers (Some f) ps = landed_pieces (is_ok answers.sync) _ _ no_pieces no_pieces
  where
    landed_pieces : (b : Bool) (x y : Outcome) → ArePieces (flight_pieces x.state.items.flight) → ArePieces (flight_pieces y.state.items.flight) → ArePieces (flight_pieces (if b then x else y).state.items.flight)
    landed_pieces true x y hx hy = hx
    landed_pieces false x y hx hy = hy

pub ended_whole : (reply : Reply) (old new : State) (answers : LogAnswers) → gives reply new ≡ end [] answers old → IsWhole old → IsWhole new
ended_whole reply old new answers is whole = left reply new (end [] answers old) is (sound_end old whole.0 [] answers, sized_end [] answers old whole.1, ended_pieces old answers old.items.flight whole.2)

pub flushed_whole : (reply : Reply) (old new : State) (answers : HomeAnswers) → gives reply new ≡ flush [] answers old → IsWhole old → IsWhole new
flushed_whole reply old new answers is whole =
    left reply new (flush [] answers old) is (whole_flight old (flush [] answers old).state (sound_flush [] answers old whole.0) (sized_flush [] answers old whole.1) (same_flush old [] answers).flight whole.2)

-- ---- still of its slot and of its life
same_mount : (new old : State) → IsSameLife old new → IsSameMount new old
same_mount new old e = record { slot = e.slot; life = e.life }

given_same : (reply : Reply) (new old : State) (o : Outcome) → gives reply new ≡ o → IsSameLife old o.state → IsSameMount new old
given_same reply new old o is e = subst (λ n. IsSameMount n old) (sym (ap (λ (x : Outcome). x.state) is)) (same_mount o.state old e)

kept_same : (new old : State) → new ≡ old → IsSameMount new old
kept_same new old is = record { slot = ap (λ (s : State). s.slot) is; life = ap (λ (s : State). s.life) is }

pub served_same : (new old : State) (request : Request) (answer : Answer) (r : Result Reply AllocError) → IfOk r (λ reply. gives reply new ≡ alone_with [] request answer old) → OnErr r (new ≡ old) → IsSameMount new old
served_same new old request answer (Ok reply) ok err =
    given_same reply new old (alone_with [] request answer old) ok (same_life old (alone_with [] request answer old).state (same_call old [] request answer))
served_same new old request answer (Err e) ok err = kept_same new old err

pub tried_same : (new old : State) (t b : ℕ) (r : Result Reply ℕ) → IfOk r (λ reply. gives reply new ≡ alone_with [] (Request.Read t b) Answer.None old) → IfErr r (λ asked. new ≡ old) → IsSameMount new old
tried_same new old t b (Ok reply) served kept = served_same new old (Request.Read t b) Answer.None (Ok reply) served tt
tried_same new old t b (Err asked) served kept = kept_same new old kept

pub begun_same : (new old : State) (r : Result Reply AllocError) → IfOk r (λ reply. gives reply new ≡ begin old) → OnErr r (new ≡ old) → IsSameMount new old
begun_same new old (Ok reply) ok err = given_same reply new old (begin old) ok (same_begin old)
begun_same new old (Err e) ok err = kept_same new old err

pub ended_same : (reply : Reply) (new old : State) (answers : LogAnswers) → gives reply new ≡ end [] answers old → IsSameMount new old
ended_same reply new old answers is = given_same reply new old (end [] answers old) is (same_end old [] answers)
