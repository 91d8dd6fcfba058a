-- Busy frames by their index: one more, one in the place of another, and one that goes.
use Rattle.std.proofs.Common.{Err, Ok, OnErr, OnOk, Result, append-nil, append_assoc, true, ◌≡◌, ◌≢◌, ◌∙◌, ◌+◌, ◌<◌, ◌≤◌, ◌++◌, ◌∷◌, List, None, Option, Some, [], add-one, ap, arith, cond, drop, get_or, inl, inr, length, refl, set, subst, suc, sym, take, zero, ℕ}
use Rattle.std.proofs.lemmas.Bool.{cases_eq, false≢true}
use Rattle.std.proofs.lemmas.Grind.{common_steps}
use Rattle.std.proofs.lemmas.List.{drop_all, set-get_or}
use Rattle.std.specs.List.{cons_option}
use Rattle.std.specs.Prelude.{count_by, false, is_some, option_map, slice_get, slice_index_or}
use Rattle.std.proofs.lemmas.List.Sums.{sum_by-cons}
use Rattle.slab.proofs.SlabLemmas.{ContainsKey-within, Updates-set, Updates-with_value}
use Rattle.slab.specs.Slab.{ContainsKey, Slab, Updates, get, slab_len, with_value}
use Rattle.xt_base.proofs.MapLemmas.{at_first, at_later, some_same, without_first, without_later}
use Rattle.xt_base.proofs.RisingLemmas.{each_at, each_map, each_other, each_put, length_put_new, rises_put, rises_without}
use Rattle.xt_base.proofs.ViewLemmas.{at_view, put_without, rises_view, view_put, view_put_same, view_without}
use Rattle.xt_base.specs.Maps.{at, is_in, put, without}
use Rattle.xt_base.specs.Sound.{Each, RisesFrom}
use Rattle.xt_base.specs.Views.{view, view_entry, viewed}
use Rattle.xt_frames.specs.Busy.{AreTied, base_in, block_in, busy_of, changed_at, changed_in, committed_of, frame_in}
use Rattle.xt_frames.specs.Kept.{Framed}

abbrev Frame : Type 0
Frame = ℕ × Framed

abbrev Index : Type 0
Index = List (ℕ × ℕ)

-- the entry of the index leads to the frame that names its block
abbrev IsNamed : Slab Frame → ℕ × ℕ → Type 0
IsNamed frames e = block_in frames e.1 ≡ Some e.0

-- ---- what an index leads to
-- frames that have the same show the same
same_view : (f g : ℕ → Option Framed) (es : Index) → Each (λ e. f e.1 ≡ g e.1) es → view f es ≡ view g es
same_view f g [] same = refl
same_view f g (e ∷ es) same = ap (λ o. cons_option (option_map (λ (w : Framed). (e.0, w)) o) (view f es)) same.0 ∙ ap (cons_option (view_entry g e)) (same_view f g es same.1)

-- a frame with a block has a content
frame_is : (b : ℕ) (o : Option Frame) → option_map (λ (e : Frame). e.0) o ≡ Some b → (c : Framed) × (option_map (λ (e : Frame). e.1) o ≡ Some c)
frame_is b None is = absurd (cc)
frame_is b (Some e) is = (e.1, refl)

pub content_there : (frames : Slab Frame) (key b : ℕ) → block_in frames key ≡ Some b → (c : Framed) × (frame_in frames key ≡ Some c)
content_there frames key b is = frame_is b (get frames key) is

-- a first entry that is there
shown : (frames : Slab Frame) (e : ℕ × ℕ) (es : Index) (c : Framed) → frame_in frames e.1 ≡ Some c → busy_of frames (e ∷ es) ≡ (e.0, c) ∷ busy_of frames es
shown frames e es c is = ap (λ o. cons_option (option_map (λ (w : Framed). (e.0, w)) o) (busy_of frames es)) is

pub length_busy : (frames : Slab Frame) (es : Index) → Each (IsNamed frames) es → length (busy_of frames es) ≡ length es
length_busy frames [] named = refl
length_busy frames (e ∷ es) named =
    let there = content_there frames e.1 e.0 named.0 in
    ap (λ (xs : List Frame). length xs) (shown frames e es there.0 there.1) ∙ ap suc (length_busy frames es named.1)

pub length_tied : (frames : Slab Frame) (es : Index) → AreTied frames es → length (busy_of frames es) ≡ length es
length_tied frames es tied = length_busy frames es tied.named

-- no block past the last place
past_none : (xs : List Frame) (i : ℕ) → length xs ≤ i → slice_get xs i ≡ None
past_none [] i le = refl
past_none (x ∷ xs) zero le = absurd (omega arith)
past_none (x ∷ xs) (suc i) le = past_none xs i (omega arith)

pub no_block : (xs : List Frame) (i : ℕ) → length xs ≤ i → None ≡ option_map (λ (e : Frame). e.0) (slice_get xs i)
no_block xs i le = sym (ap (option_map (λ (e : Frame). e.0)) (past_none xs i le))

-- the content of a block
pub found_at : (frames : Slab Frame) (es : Index) (b : ℕ) (o : Option ℕ) → AreTied frames es → o ≡ at b es → viewed (frame_in frames) o ≡ at b (busy_of frames es)
found_at frames es b o tied is = ap (viewed (frame_in frames)) is ∙ sym (at_view (frame_in frames) 0 b es tied.rising)

-- a map without a key that it has
length_without : (k v : ℕ) (xs : Index) → at k xs ≡ Some v → length (without k xs) + 1 ≡ length xs
length_without k v [] is = absurd (cc)
length_without k v (x ∷ xs) is =
    elim (cases_eq k x.0) [
      | inl same ↦ ap (λ (ys : Index). length ys + 1) (without_first k x xs same) ∙ add-one (length xs)
      | inr other ↦
          let fewer : length (without k xs) + 1 ≡ length xs = length_without k v xs (sym (at_later k x xs other) ∙ is) in
          let same : length (without k (x ∷ xs)) ≡ suc (length (without k xs)) = ap (λ (ys : Index). length ys) (without_later k x xs other) in
          omega (arith, fewer, same)
    ]

-- the frame of a block is there
frame_there : (b : ℕ) (o : Option Frame) → option_map (λ (e : Frame). e.0) o ≡ Some b → is_some o ≡ true
frame_there b None is = absurd (cc)
frame_there b (Some e) is = refl

pub key_there : (frames : Slab Frame) (es : Index) (b key : ℕ) → AreTied frames es → at b es ≡ Some key → is_some (get frames key) ≡ true
key_there frames es b key tied there = frame_there b (get frames key) (each_at (IsNamed frames) b key es there tied.named)

-- a block is in the index where it has a content
in_both : (frames : Slab Frame) (es : Index) (b : ℕ) (o : Option ℕ) → AreTied frames es → at b es ≡ o → is_some o ≡ is_some (viewed (frame_in frames) o)
in_both frames es b None tied is = refl
in_both frames es b (Some key) tied is = sym (ap is_some (content_there frames key b (each_at (IsNamed frames) b key es is tied.named)).1)

none_is : (o : Option ℕ) → is_some o ≡ false → None ≡ o
none_is None absent = refl
none_is (Some key) absent = absurd (cc)

-- a block that is not in the index has nothing there
pub none_at : (b : ℕ) (es : Index) → is_in b es ≡ false → None ≡ at b es
none_at b es absent = none_is (at b es) absent

pub in_busy : (frames : Slab Frame) (es : Index) (b : ℕ) → AreTied frames es → is_in b es ≡ is_in b (busy_of frames es)
in_busy frames es b tied = in_both frames es b (at b es) tied refl ∙ ap is_some (found_at frames es b (at b es) tied refl)

-- ---- one more
module _ (frames next : Slab Frame) (es : Index) (b key : ℕ) (content : Framed) (tied : AreTied frames es) (vacant : get frames key ≡ None) (brought : Updates frames next key (Some (b, content))) where
  unmoved : (e : ℕ × ℕ) → IsNamed frames e → get next e.1 ≡ get frames e.1
  unmoved e named = brought.others e.1 (λ same. let none : None ≡ Some e.0 = sym (ap (λ k. block_in frames k) same ∙ ap (option_map (λ (x : Frame). x.0)) vacant) ∙ named in cc)

  put_named : Each (IsNamed next) (put b key es)
  put_named =
      each_put (IsNamed next) b key es (ap (option_map (λ (x : Frame). x.0)) brought.changed)
      (each_map (IsNamed frames) (IsNamed next) es (λ e named. ap (option_map (λ (x : Frame). x.0)) (unmoved e named) ∙ named) tied.named)

  pub tied_put : (more : Index) → is_in b es ≡ false → more ≡ put b key es → slab_len next ≡ slab_len frames + 1 → next.capacity ≡ frames.capacity → AreTied next more
  tied_put more absent is count room =
      subst (AreTied next) (sym is) (record {
        rising = rises_put 0 b key es (omega arith) tied.rising;
        named = put_named;
        count = count ∙ ap (λ n. n + 1) tied.count ∙ sym (length_put_new b key es absent);
        room = subst (λ n. 128 ≤ n) (sym room) tied.room;
      })

  pub busy_put : (more : Index) → more ≡ put b key es → busy_of next more ≡ put b content (busy_of frames es)
  busy_put more is =
      ap (busy_of next) is ∙ view_put (frame_in next) 0 b key content es tied.rising (ap (option_map (λ (x : Frame). x.1)) brought.changed)
      ∙ ap (put b content) (same_view (frame_in next) (frame_in frames) es
      (each_map (IsNamed frames) (λ e. frame_in next e.1 ≡ frame_in frames e.1) es (λ e named. ap (option_map (λ (x : Frame). x.1)) (unmoved e named)) tied.named))

-- ---- one that goes
module _ (frames next : Slab Frame) (es : Index) (b key : ℕ) (tied : AreTied frames es) (there : at b es ≡ Some key) (gone : Updates frames next key None) where
  own : block_in frames key ≡ Some b
  own = each_at (IsNamed frames) b key es there tied.named

  apart : (e : ℕ × ℕ) → IsNamed frames e × (e.0 ≢ b) → e.1 ≢ key
  apart e both same = both.1 (some_same e.0 b (sym both.0 ∙ ap (λ k. block_in frames k) same ∙ own))

  others : Each (λ e. IsNamed frames e × (e.0 ≢ b)) (without b es)
  others = each_other (IsNamed frames) 0 b es tied.rising tied.named

  still_named : Each (IsNamed next) (without b es)
  still_named = each_map (λ e. IsNamed frames e × (e.0 ≢ b)) (IsNamed next) (without b es) (λ e both. ap (option_map (λ (x : Frame). x.0)) (gone.others e.1 (apart e both)) ∙ both.0) others

  left_view : busy_of next (without b es) ≡ without b (busy_of frames es)
  left_view =
      same_view (frame_in next) (frame_in frames) (without b es)
      (each_map (λ e. IsNamed frames e × (e.0 ≢ b)) (λ e. frame_in next e.1 ≡ frame_in frames e.1) (without b es) (λ e both. ap (option_map (λ (x : Frame). x.1)) (gone.others e.1 (apart e both))) others)
      ∙ view_without (frame_in frames) 0 b es tied.rising

  pub tied_without : (less : Index) → less ≡ without b es → slab_len next + 1 ≡ slab_len frames → next.capacity ≡ frames.capacity → AreTied next less
  tied_without less is count room =
      let fewer : length (without b es) + 1 ≡ length es = length_without b key es there in
      subst (AreTied next) (sym is) (record {
        rising = rises_without 0 b es tied.rising;
        named = still_named;
        count = omega (arith, count, fewer, tied.count);
        room = subst (λ n. 128 ≤ n) (sym room) tied.room;
      })

  pub busy_without : (less : Index) → less ≡ without b es → busy_of next less ≡ without b (busy_of frames es)
  busy_without less is = ap (busy_of next) is ∙ left_view

-- the key is told by another name
pub moved_key : (old new : Slab Frame) (k key : ℕ) (slot : Option Frame) → k ≡ key → Updates old new k slot → Updates old new key slot
moved_key old new k key slot same brought = subst (λ x. Updates old new x slot) same brought

-- ---- another in the same frame
module _ (frames cleared next : Slab Frame) (es : Index) (b key : ℕ) (content : Framed) (tied : AreTied frames es) (there : at b es ≡ Some key)
    (gone : Updates frames cleared key None) (brought : Updates cleared next key (Some (b, content))) where
  kept : (e : ℕ × ℕ) → e.1 ≢ key → get next e.1 ≡ get frames e.1
  kept e other = brought.others e.1 other ∙ gone.others e.1 other

  named_at : (e : ℕ × ℕ) → IsNamed frames e → IsNamed next e
  named_at e named =
      elim (cases_eq e.1 key) [
        | inl same ↦
            ap (λ k. block_in next k) same ∙ ap (option_map (λ (x : Frame). x.0)) brought.changed
            ∙ sym (sym named ∙ ap (λ k. block_in frames k) same ∙ own frames cleared es b key tied there gone)
        | inr other ↦ ap (option_map (λ (x : Frame). x.0)) (kept e other) ∙ named
      ]

  named_exchanged : Each (IsNamed next) es
  named_exchanged = each_map (IsNamed frames) (IsNamed next) es named_at tied.named

  pub tied_exchanged : slab_len cleared + 1 ≡ slab_len frames → slab_len next ≡ slab_len cleared + 1 → cleared.capacity ≡ frames.capacity → next.capacity ≡ cleared.capacity → AreTied next es
  tied_exchanged fewer count less room = record {
    rising = tied.rising;
    named = named_exchanged;
    count = count ∙ fewer ∙ tied.count;
    room = subst (λ n. 128 ≤ n) (sym (room ∙ less)) tied.room;
  }

  pub busy_exchanged : busy_of next es ≡ put b content (busy_of frames es)
  busy_exchanged =
      let others = each_other (IsNamed frames) 0 b es tied.rising tied.named in
      sym (view_put_same (frame_in next) 0 b key es tied.rising (ap (viewed (frame_in next)) there))
      ∙ ap (busy_of next) (sym (put_without 0 b key es tied.rising))
      ∙ view_put (frame_in next) 0 b key content (without b es) (rises_without 0 b es tied.rising) (ap (option_map (λ (x : Frame). x.1)) brought.changed)
      ∙ ap (put b content)
      (same_view (frame_in next) (frame_in frames) (without b es)
      (each_map (λ e. IsNamed frames e × (e.0 ≢ b)) (λ e. frame_in next e.1 ≡ frame_in frames e.1) (without b es)
      (λ e both. ap (option_map (λ (x : Frame). x.1)) (kept e (apart frames cleared es b key tied there gone e both))) others)
      ∙ view_without (frame_in frames) 0 b es tied.rising)
      ∙ put_without 0 b content (busy_of frames es) (rises_view (frame_in frames) 0 es tied.rising)

-- ---- by places
module _ {V : Type 0} where
  some_entry : (x e : ℕ × V) → Some x ≡ Some e → x ≡ e
  some_entry x e is = cc

  -- the key at a place is above those before it
  above : (n i : ℕ) (xs : List (ℕ × V)) (e : ℕ × V) → RisesFrom n xs → slice_get xs i ≡ Some e → n ≤ e.0
  above n i [] e r is = absurd (cc)
  above n zero (x ∷ xs) e r is = subst (λ (y : ℕ × V). n ≤ y.0) (some_entry x e is) r.0
  above n (suc i) (x ∷ xs) e r is = omega (arith, r.0, above (suc x.0) i xs e r.1 is)

  -- a rising map has at a key what stands at its place
  pub at_placed : (n i : ℕ) (xs : List (ℕ × V)) (e : ℕ × V) → RisesFrom n xs → slice_get xs i ≡ Some e → at e.0 xs ≡ Some e.1
  at_placed n i [] e r is = absurd (cc)
  at_placed n zero (x ∷ xs) e r is = let same = some_entry x e is in at_first e.0 x xs (sym (ap (λ (y : ℕ × V). y.0) same)) ∙ ap (λ (y : ℕ × V). Some y.1) same
  at_placed n (suc i) (x ∷ xs) e r is =
      let le : suc x.0 ≤ e.0 = above (suc x.0) i xs e r.1 is in
      at_later e.0 x xs (λ s. omega (arith, s, le)) ∙ at_placed (suc x.0) i xs e r.1 is

  -- without it, the others stand as they were
  pub cut_placed : (n i : ℕ) (xs : List (ℕ × V)) (e : ℕ × V) → RisesFrom n xs → slice_get xs i ≡ Some e → without e.0 xs ≡ take i xs ++ drop (suc i) xs
  cut_placed n i [] e r is = absurd (cc)
  cut_placed n zero (x ∷ xs) e r is = without_first e.0 x xs (sym (ap (λ (y : ℕ × V). y.0) (some_entry x e is)))
  cut_placed n (suc i) (x ∷ xs) e r is =
      let le : suc x.0 ≤ e.0 = above (suc x.0) i xs e r.1 is in
      without_later e.0 x xs (λ s. omega (arith, s, le)) ∙ ap (λ ys. x ∷ ys) (cut_placed (suc x.0) i xs e r.1 is)

placed_in : (frames : Slab Frame) (es : Index) (i b key : ℕ) → Each (IsNamed frames) es → slice_get es i ≡ Some (b, key) → (c : Framed) × (slice_get (busy_of frames es) i ≡ Some (b, c))
placed_in frames [] i b key named is = absurd (cc)
placed_in frames (e ∷ es) zero b key named is =
    let there = content_there frames e.1 e.0 named.0 in
    let first : e.0 ≡ b = cc in
    (there.0, ap (λ (xs : List Frame). slice_get xs zero) (shown frames e es there.0 there.1) ∙ ap (λ (x : ℕ). Some (x, there.0)) first)
placed_in frames (e ∷ es) (suc i) b key named is =
    let there = content_there frames e.1 e.0 named.0 in
    let later = placed_in frames es i b key named.1 is in
    (later.0, ap (λ (xs : List Frame). slice_get xs (suc i)) (shown frames e es there.0 there.1) ∙ later.1)

-- the content at a place of the index
pub placed : (frames : Slab Frame) (es : Index) (i b key : ℕ) → AreTied frames es → slice_get es i ≡ Some (b, key) → (c : Framed) × (slice_get (busy_of frames es) i ≡ Some (b, c))
placed frames es i b key tied is = placed_in frames es i b key tied.named is

-- the element at a place
there_at : (es : Index) (i : ℕ) → i < length es → slice_get es i ≡ Some (slice_index_or es i (0, 0))
there_at [] i lt = absurd (omega arith)
there_at (e ∷ es) zero lt = refl
there_at (e ∷ es) (suc i) lt = there_at es i (omega arith)

module _ (frames : Slab Frame) (es ns : Index) (now : List Frame) (i : ℕ) (tied : AreTied frames es) (same : ns ≡ es) (seen : busy_of frames es ≡ now) (lt : i < length ns) where
  abbrev pub block_here : ℕ
  block_here = (slice_index_or ns i (0, 0)).0

  pub content_here : (c : Framed) × (slice_get now i ≡ Some (block_here, c))
  content_here =
      let found = placed frames es i block_here (slice_index_or ns i (0, 0)).1 tied (ap (λ xs. slice_get xs i) (sym same) ∙ there_at ns i lt) in
      (found.0, ap (λ xs. slice_get xs i) (sym seen) ∙ found.1)

-- the frame whose entry stands at a place of the index goes
module _ (frames next : Slab Frame) (es less : Index) (now : List Frame) (i b key : ℕ) (tied : AreTied frames es) (seen : busy_of frames es ≡ now) (is : slice_get es i ≡ Some (b, key))
    (left : less ≡ take i es ++ drop (i + 1) es) where
  pub key_placed : at b es ≡ Some key
  key_placed = at_placed 0 i es (b, key) tied.rising is

  pub less_is : less ≡ without b es
  less_is = left ∙ ap (λ n. take i es ++ drop n es) (add-one i) ∙ sym (cut_placed 0 i es (b, key) tied.rising is)

  frame_here : (c : Framed) × (slice_get now i ≡ Some (b, c))
  frame_here = let found = placed frames es i b key tied is in (found.0, ap (λ xs. slice_get xs i) (sym seen) ∙ found.1)

  rising : RisesFrom 0 now
  rising = subst (RisesFrom 0) seen (rises_view (frame_in frames) 0 es tied.rising)

  pub frame_placed : (e : Frame) → get frames key ≡ Some e → slice_get now i ≡ Some (b, e.1)
  frame_placed e there =
      let shows : Some e.1 ≡ at b now = ap (option_map (λ (x : Frame). x.1)) (sym there) ∙ found_at frames es b (Some key) tied (sym key_placed) ∙ ap (at b) seen in
      frame_here.1 ∙ ap (λ x. Some (b, x)) (some_same frame_here.0 e.1 (sym (at_placed 0 i now (b, frame_here.0) rising frame_here.1) ∙ sym shows))

  pub rest_placed : Updates frames next key None → busy_of next less ≡ take i now ++ drop (i + 1) now
  rest_placed gone =
      busy_without frames next es b key tied key_placed gone less less_is ∙ ap (without b) seen ∙ cut_placed 0 i now (b, frame_here.0) rising frame_here.1 ∙ ap (λ n. take i now ++ drop n now) (sym (add-one i))

-- ---- copies one by one
cut_at : (es : Index) (i : ℕ) → i < length es → drop i es ≡ slice_index_or es i (0, 0) ∷ drop (i + 1) es
cut_at es i lt = grind (arith, common_steps)

-- a first frame, if it is there, shows its committed content
first_base : (k : ℕ) (o : Option Framed) (rest : List Frame)
    → committed_of (cons_option (option_map (λ (w : Framed). (k, w)) o) rest) ≡ cons_option (option_map (λ (w : List ℕ). (k, w)) (option_map (λ (f : Framed). f.committed) o)) (committed_of rest)
first_base k None rest = refl
first_base k (Some f) rest = refl

module _ (frames : Slab Frame) (es : Index) (i : ℕ) (copies new : List (ℕ × List ℕ)) (lt : i < length es) (so_far : copies ++ committed_of (busy_of frames (drop i es)) ≡ committed_of (busy_of frames es)) where
  abbrev this : ℕ × ℕ
  this = slice_index_or es i (0, 0)

  here : (o : Option (List ℕ)) → base_in frames this.1 ≡ o
      → committed_of (busy_of frames (drop i es)) ≡ cons_option (option_map (λ (w : List ℕ). (this.0, w)) o) (committed_of (busy_of frames (drop (i + 1) es)))
  here o there =
      ap (λ xs. committed_of (busy_of frames xs)) (cut_at es i lt) ∙ first_base this.0 (frame_in frames this.1) (busy_of frames (drop (i + 1) es))
      ∙ ap (λ x. cons_option (option_map (λ (w : List ℕ). (this.0, w)) x) (committed_of (busy_of frames (drop (i + 1) es)))) there

  pub copied : (c : List ℕ) → base_in frames this.1 ≡ Some c → new ≡ copies ++ (this.0, c) ∷ [] → new ++ committed_of (busy_of frames (drop (i + 1) es)) ≡ committed_of (busy_of frames es)
  copied c there is =
      let rest : List (ℕ × List ℕ) = committed_of (busy_of frames (drop (i + 1) es)) in
      ap (λ xs. xs ++ rest) is ∙ append_assoc copies ((this.0, c) ∷ []) rest ∙ ap (λ xs. copies ++ xs) (sym (here (Some c) there)) ∙ so_far

  pub skipped : base_in frames this.1 ≡ None → new ≡ copies → new ++ committed_of (busy_of frames (drop (i + 1) es)) ≡ committed_of (busy_of frames es)
  skipped none is =
      let rest : List (ℕ × List ℕ) = committed_of (busy_of frames (drop (i + 1) es)) in
      ap (λ xs. xs ++ rest) is ∙ ap (λ xs. copies ++ xs) (sym (here None none)) ∙ so_far

pub copied_all : (frames : Slab Frame) (es : Index) (i : ℕ) (copies : List (ℕ × List ℕ)) → length es ≤ i → copies ++ committed_of (busy_of frames (drop i es)) ≡ committed_of (busy_of frames es) → copies ≡ committed_of (busy_of frames es)
copied_all frames es i copies past so_far = sym (append-nil copies) ∙ ap (λ xs. copies ++ committed_of (busy_of frames xs)) (sym (drop_all i es past)) ∙ so_far

-- the frame under a block's key is the block's
pub was_at : (frames : Slab Frame) (es : Index) (now : List Frame) (b key : ℕ) (before : Frame) → AreTied frames es → busy_of frames es ≡ now → at b es ≡ Some key → get frames key ≡ Some before → at b now ≡ Some before.1
was_at frames es now b key before tied seen there was =
    sym (ap (at b) seen) ∙ sym (found_at frames es b (Some key) tied (sym there)) ∙ ap (option_map (λ (x : Frame). x.1)) was

-- ---- one that is changed where it stands
module _ (frames cleared next : Slab Frame) (es : Index) (now : List Frame) (b key : ℕ) (before : Frame) (frame : Framed) (tied : AreTied frames es) (seen : busy_of frames es ≡ now)
    (there : at b es ≡ Some key) (was : get frames key ≡ Some before) (gone : Updates frames cleared key None) (brought : Updates cleared next key (Some (b, frame))) where
  pub was_there : at b now ≡ Some before.1
  was_there = sym (ap (at b) seen) ∙ sym (found_at frames es b (Some key) tied (sym there)) ∙ ap (option_map (λ (x : Frame). x.1)) was

  pub changed : (new : Framed → Framed) → frame ≡ new before.1 → busy_of next es ≡ changed_in new b now
  changed new is =
      busy_exchanged frames cleared next es b key frame tied there gone brought ∙ ap (put b frame) seen ∙ ap (λ f. put b f now) is
      ∙ sym (ap (λ o. changed_at new b o now) was_there)

-- where there is none, nothing changes
pub unchanged_none : (frames : Slab Frame) (es : Index) (now : List Frame) (b : ℕ) (new : Framed → Framed) → AreTied frames es → busy_of frames es ≡ now → None ≡ at b es → now ≡ changed_in new b now
unchanged_none frames es now b new tied seen none = ap (λ o. changed_at new b o now) (found_at frames es b None tied none ∙ ap (at b) seen)

-- a block with a frame is in the index
pub missing : (frames : Slab Frame) (es : Index) (now : List Frame) (b : ℕ) → AreTied frames es → busy_of frames es ≡ now → is_in b now ≡ true → None ≡ at b es → ⊥
missing frames es now b tied seen there none =
    let out : false ≡ true = ap is_some none ∙ in_busy frames es b tied ∙ ap (is_in b) seen ∙ there in false≢true out

-- ---- none left
none_left : (slots : List (Option Frame)) → slots ≡ [] → count_by is_some slots ≡ 0
none_left slots is = ap (count_by is_some) is

pub tied_cleared : (old new : Slab Frame) (more : Index) → 128 ≤ old.capacity → new.slots ≡ [] → new.capacity ≡ old.capacity → more ≡ [] → AreTied new more
tied_cleared old new more room empty same is =
    subst (AreTied new) (sym is) (record { rising = tt; named = tt; count = none_left new.slots empty; room = subst (λ n. 128 ≤ n) (sym same) room })

pub busy_cleared : (frames : Slab Frame) (more : Index) → more ≡ [] → busy_of frames more ≡ []
busy_cleared frames more is = ap (busy_of frames) is

-- what follows from a fact of an Ok
pub if_ok : {T E P Q : Type 0} → (r : Result T E) → (P → Q) → OnOk r P → OnOk r Q
if_ok (Ok x) f p = f p
if_ok (Err e) f p = tt

-- ---- one that is changed in its slot
-- a value in the place of another leaves their count
count_replaced : (xs : List (Option Frame)) (key : ℕ) (before after : Frame) → get_or xs key None ≡ Some before → count_by is_some (set xs key (Some after)) ≡ count_by is_some xs
count_replaced [] key before after was = refl
count_replaced (x ∷ xs) zero before after was = sym (ap (λ (o : Option Frame). count_by is_some (o ∷ xs)) was)
count_replaced (x ∷ xs) (suc key) before after was =
    sum_by-cons (λ (o : Option Frame). cond (is_some o) 1 0) x (set xs key (Some after)) ∙ ap (λ n. cond (is_some x) 1 0 + n) (count_replaced xs key before after was)
    ∙ sym (sum_by-cons (λ (o : Option Frame). cond (is_some o) 1 0) x xs)

module _ (frames : Slab Frame) (es : Index) (b key : ℕ) (before : Frame) (content : Framed) (tied : AreTied frames es) (there : at b es ≡ Some key) (was : get frames key ≡ Some before) where
  abbrev cleared : Slab Frame
  cleared = record frames { slots = set frames.slots key None }

  is_there : ContainsKey frames key
  is_there = ap is_some was

  named_so : before.0 ≡ b
  named_so = some_same before.0 b (sym (ap (option_map (λ (x : Frame). x.0)) was) ∙ each_at (IsNamed frames) b key es there tied.named)

  replaced : Updates frames (with_value frames key (before.0, content)) key (Some (before.0, content))
  replaced = Updates-with_value frames key (before.0, content) is_there

  gone : Updates frames cleared key None
  gone = Updates-set frames cleared key None (ContainsKey-within frames key is_there) refl

  brought : Updates cleared (with_value frames key (before.0, content)) key (Some (b, content))
  brought = record { changed = replaced.changed ∙ ap (λ (n : ℕ). Some (n, content)) named_so; others = λ other apart. replaced.others other apart ∙ sym (gone.others other apart) }

  pub tied_in_slot : AreTied (with_value frames key (before.0, content)) es
  tied_in_slot = record {
    rising = tied.rising;
    named = named_exchanged frames cleared (with_value frames key (before.0, content)) es b key content tied there gone brought;
    count = count_replaced frames.slots key before (before.0, content) was ∙ tied.count;
    room = tied.room;
  }

  pub changed_in_slot : (now : List Frame) → busy_of frames es ≡ now → (new : Framed → Framed) → content ≡ new before.1 → busy_of (with_value frames key (before.0, content)) es ≡ changed_in new b now
  changed_in_slot now seen new is = changed frames cleared (with_value frames key (before.0, content)) es now b key before content tied seen there was gone brought new is

  -- where it stays, all do
  pub same_in_slot : content ≡ before.1 → busy_of (with_value frames key (before.0, content)) es ≡ busy_of frames es
  same_in_slot is =
      ap (λ c. busy_of (with_value frames key (before.0, c)) es) is ∙ ap (λ (o : Option Frame). busy_of (record frames { slots = set frames.slots key o }) es) (sym was)
      ∙ ap (λ (xs : List (Option Frame)). busy_of (record frames { slots = xs }) es) (set-get_or frames.slots key None)

pub if_err : {T E P Q : Type 0} → (r : Result T E) → (P → Q) → OnErr r P → OnErr r Q
if_err (Ok x) f h = tt
if_err (Err e) f h = f h

-- a key of the index has a frame
pub not_missing : (frames : Slab Frame) (es : Index) (b key : ℕ) → AreTied frames es → at b es ≡ Some key → get frames key ≡ None → ⊥
not_missing frames es b key tied there none = false≢true (sym (ap is_some none) ∙ key_there frames es b key tied there)
