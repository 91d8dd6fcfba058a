-- What the contents are after frames were changed.
use Rattle.std.proofs.Common.{◌≡◌, ◌∙◌, Bool, List, None, Option, Some, ap, filter, length, refl, ℕ}
use Rattle.std.specs.Prelude.{option_map}
use Rattle.xt_base.specs.Maps.{at, is_in, put, without}
use Rattle.xt_base.specs.Sound.{RisesFrom}
use Rattle.xt_frames.proofs.EntryLemmas.{at_changed, filter_changed, in_changed, length_changed, put_changed, put_standing, rises_changed, rises_unchanged, without_changed}
use Rattle.xt_frames.specs.Busy.{changed_at, changed_in, committed_of}
use Rattle.xt_frames.specs.Contents.{Bufs, brought_in, bufs_brought_in, contents_of}
use Rattle.xt_frames.specs.Kept.{Framed, clean_of, committed_now, logged, undone}
use Rattle.xt_frames.specs.Settling.{bufs_saved_by, bufs_settled_by, rest_of, saved_by, settled_by}

abbrev Frame : Type 0
Frame = ℕ × Framed

-- the committed content of the frame under a key
abbrev base_of : ℕ → Framed → List ℕ
base_of k frame = frame.committed

-- ---- committed contents, by their frames
pub length_committed : (es : List Frame) → length (committed_of es) ≡ length es
length_committed es = length_changed base_of es

pub at_committed : (k : ℕ) (es : List Frame) → at k (committed_of es) ≡ option_map (λ (f : Framed). f.committed) (at k es)
at_committed k es = at_changed base_of k es

pub in_committed : (k : ℕ) (es : List Frame) → is_in k (committed_of es) ≡ is_in k es
in_committed k es = in_changed base_of k es

pub put_committed : (k : ℕ) (f : Framed) (es : List Frame) → committed_of (put k f es) ≡ put k f.committed (committed_of es)
put_committed k f es = put_changed base_of k f es

pub without_committed : (k : ℕ) (es : List Frame) → committed_of (without k es) ≡ without k (committed_of es)
without_committed k es = without_changed base_of k es

pub filter_committed : (p : ℕ → Bool) (es : List Frame) → committed_of (filter (λ e. p e.0) es) ≡ filter (λ e. p e.0) (committed_of es)
filter_committed p es = filter_changed base_of p es

pub committed_rise : (n : ℕ) (es : List Frame) → RisesFrom n es → RisesFrom n (committed_of es)
committed_rise n es rises = rises_changed base_of n es rises

pub frames_rise : (n : ℕ) (es : List Frame) → RisesFrom n (committed_of es) → RisesFrom n es
frames_rise n es rises = rises_unchanged base_of n es rises

-- ---- a frame that is changed in place
-- a change that leaves the committed content leaves all of them
stays_at : (change : Framed → Framed) (k : ℕ) (es : List Frame) (o : Option Framed) → at k es ≡ o → ((f : Framed) → (change f).committed ≡ f.committed) → RisesFrom 0 es
    → committed_of (changed_at change k o es) ≡ committed_of es
stays_at change k es None is same rises = refl
stays_at change k es (Some f) is same rises =
    put_committed k (change f) es ∙ ap (λ c. put k c (committed_of es)) (same f)
    ∙ put_standing 0 k f.committed (committed_of es) (committed_rise 0 es rises) (at_committed k es ∙ ap (option_map (λ (x : Framed). x.committed)) is)

pub logged_committed : (k first : ℕ) (bytes : List ℕ) (es : List Frame) → RisesFrom 0 es → committed_of (changed_in (logged first bytes) k es) ≡ committed_of es
logged_committed k first bytes es rises = stays_at (logged first bytes) k es (at k es) refl (λ f. refl) rises

pub undone_committed : (k : ℕ) (es : List Frame) → RisesFrom 0 es → committed_of (changed_in undone k es) ≡ committed_of es
undone_committed k es rises = stays_at undone k es (at k es) refl (λ f. refl) rises

-- what was changed in place is committed
pub kept_committed : (k : ℕ) (f : Framed) (es : List Frame) → at k es ≡ Some f → committed_of (changed_in committed_now k es) ≡ put k f.edit (committed_of es)
kept_committed k f es is = ap (λ o. committed_of (changed_at committed_now k o es)) is ∙ put_committed k (committed_now f) es

-- ---- contents
pub brought_contents : (k : ℕ) (o : Option (List ℕ)) (b : Bufs) → contents_of (bufs_brought_in k o b) ≡ brought_in k o (contents_of b)
brought_contents k None b = refl
brought_contents k (Some content) b = ap (λ (c : List (ℕ × List ℕ)). record { committed = c; fresh = b.fresh; idle = without k b.idle }) (put_committed k (clean_of content) b.frames)

pub settled_contents : (busy : ℕ → Bool) (is_kept : Bool) (b : Bufs) → contents_of (bufs_settled_by busy is_kept b) ≡ settled_by busy is_kept (contents_of b)
settled_contents busy is_kept b =
    ap (λ (c : List (ℕ × List ℕ)). record { committed = c; fresh = filter busy b.fresh; idle = rest_of busy is_kept (committed_of b.frames) b.idle }) (filter_committed busy b.frames)

pub saved_contents : (saved : ℕ → Bool) (b : Bufs) → contents_of (bufs_saved_by saved b) ≡ saved_by saved (contents_of b)
saved_contents saved b = ap (λ (c : List (ℕ × List ℕ)). record { committed = c; fresh = b.fresh; idle = b.idle }) (filter_committed saved b.frames)
