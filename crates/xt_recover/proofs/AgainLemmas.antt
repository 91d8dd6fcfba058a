-- Recovery is done again.
use Rattle.std.proofs.Common.{◌≡◌, ◌∙◌, ◌∷◌, ◌++◌, Bool, List, None, Option, Some, [], ap, false, length, refl, sym, true, ℕ}
use Rattle.std.specs.Prelude.{if◌then◌else◌, unwrap_or, ◌==◌}
use Rattle.xt_base.proofs.MapLemmas.{some_none}
use Rattle.xt_ckpt.specs.Grammar.{Entry}
use Rattle.xt_recover.specs.Promise.{RecoversAgain, RecoversByNewer}
use Rattle.xt_recover.specs.Replay.{chunk_in, chunk_in_texts, chunk_over, entry_of, or_older}
use Rattle.xt_recovery.proofs.LogLemmas.{unwrap_by}

again_by : (o : Option (List ℕ)) (h m : List ℕ) → (o ≡ None → m ≡ h) → unwrap_or o m ≡ unwrap_or o h
again_by None h m same = same refl
again_by (Some v) h m same = refl

-- an image that was changed only where the texts give a chunk is recovered to the same
pub replayed_again : RecoversAgain
replayed_again texts home left b k same = again_by (chunk_in_texts texts b k) (home b k) (left b k) same

-- ---- by the newer texts alone
-- what a cancel or an item does not hide is said by older texts too, where these say what others said
older_by : (cancels : Bool) (own other old : Option (List ℕ)) (v : List ℕ) → (other ≡ Some v → old ≡ Some v) → (if cancels then None else or_older own other) ≡ Some v → (if cancels then None else or_older own old) ≡ Some v
older_by true own other old v more is = some_none v (None ≡ Some v) (sym is)
older_by false None other old v more is = more is
older_by false (Some w) other old v more is = is

over_by : (item : Option Entry) (k : ℕ) (other old : Option (List ℕ)) (v : List ℕ) → (other ≡ Some v → old ≡ Some v) → chunk_over item k other ≡ Some v → chunk_over item k old ≡ Some v
over_by None k other old v more is = more is
over_by (Some e) k other old v more is = older_by (length e.chunks == 0) (chunk_in e.chunks e.content k) other old v more is

-- what texts say of a chunk they say before older ones
said_newer : (newer older : List (List Entry)) (b k : ℕ) (v : List ℕ) → chunk_in_texts newer b k ≡ Some v → chunk_in_texts (newer ++ older) b k ≡ Some v
said_newer [] older b k v is = some_none v (chunk_in_texts older b k ≡ Some v) (sym is)
said_newer (t ∷ ts) older b k v is = over_by (entry_of b t) k (chunk_in_texts ts b k) (chunk_in_texts (ts ++ older) b k) v (said_newer ts older b k v) is

-- so over what all of them gave they give the same
pub replayed_newer : RecoversByNewer
replayed_newer newer older home left b k same =
    unwrap_by (chunk_in_texts newer b k) (left b k) (left b k) (λ v is. sym (same ∙ ap (λ o. unwrap_or o (home b k)) (said_newer newer older b k v is))) (λ none. refl)
